-- Ends whose events go by numbers: their ambiguous keys, and their counts.
use Rattle.std.proofs.Common.{◌≡◌, ℕ, zero, suc, List, [], ◌∷◌, length, map, Bool, true, false, ◌&&◌, not, cond, refl, sym, ap, ◌∙◌, arith}
use Rattle.std.specs.Prelude.{filter, is_some}
use Rattle.std.specs.List.Sorted.{IsPermutation}
use Rattle.std.proofs.lemmas.List.{length-map}
use Rattle.std.proofs.lemmas.List.Sorted.{IsPermutation-map}
use Rattle.traces.specs.declared.event.Side.{Side}
use Rattle.traces.specs.declared.event.Side.TheVariants.{Send, Receive}
use Rattle.traces.specs.Seen.{EventKey, is_same_side}
use Rattle.msg_match.specs.declared.change.Tallies.{Tallies}
use Rattle.msg_match.specs.Groups.{SeenItem, are_ambiguous, events_with, group_of, has_mark, is_ambiguous, is_matched, is_unmatched, only_couple}
use Rattle.msg_match.specs.Messages.{has_ambiguous_key, is_unmatched_event, sends_message, tallies}
use Rattle.traces.specs.declared.event_id.EventId.{EventId}
use Rattle.msg_match.specs.Ends.{End}
use Rattle.msg_match.specs.Ambiguous.{tallies_of, unnumbered}
use Rattle.msg_match.proofs.Lists.{alike_filter}
use Rattle.msg_match.proofs.Names.{end_by}

-- ---- counts
-- what is counted goes by how many events of each key there are
abbrev pub is_one : ℕ → Bool
is_one zero = false
is_one (suc zero) = true
is_one (suc (suc n)) = false

-- a send and a receive alone, told by how many there are
pub told_alone : (sends receives : List ℕ) → is_some (only_couple sends receives) ≡ (is_one (length sends) && is_one (length receives))
told_alone [] receives = refl
told_alone (s ∷ t ∷ sends) receives = refl
told_alone (s ∷ []) [] = refl
told_alone (s ∷ []) (r ∷ []) = refl
told_alone (s ∷ []) (r ∷ q ∷ receives) = refl

-- two lists have as many events of each key
abbrev AreAsMany : List SeenItem → List SeenItem → Type 0
AreAsMany xs ys = (key : EventKey) (side : Side) → length (events_with xs key side) ≡ length (events_with ys key side)

filter_same : {X : Type 0} (p q : X → Bool) → ((x : X) → p x ≡ q x) → (xs : List X) → filter p xs ≡ filter q xs
filter_same p q same [] = refl
filter_same p q same (x ∷ xs) = ap (λ (b : Bool). cond b (x ∷ filter p xs) (filter p xs)) (same x) ∙ ap (λ l. cond (q x) (x ∷ l) l) (filter_same p q same xs)

abbrev made_tallies : ℕ → ℕ → ℕ → Tallies
made_tallies m u a = record { messages = m; unmatched = u; ambiguous = a }

same_tallies : (m m' u u' a a' : ℕ) → m ≡ m' → u ≡ u' → a ≡ a' → made_tallies m u a ≡ made_tallies m' u' a'
same_tallies m m' u u' a a' messages unmatched ambiguous =
    ap (λ (n : ℕ). made_tallies n u a) messages ∙ ap (λ (n : ℕ). made_tallies m' n a) unmatched ∙ ap (λ (n : ℕ). made_tallies m' u' n) ambiguous

module _ (xs ys : List SeenItem) (many : AreAsMany xs ys) where
  matched_same : (key : EventKey) → is_matched (group_of xs key) ≡ is_matched (group_of ys key)
  matched_same key =
      told_alone (events_with xs key Send) (events_with xs key Receive)
      ∙ ap (λ (n : ℕ). is_one n && is_one (length (events_with xs key Receive))) (many key Send)
      ∙ ap (λ (n : ℕ). is_one (length (events_with ys key Send)) && is_one n) (many key Receive)
      ∙ sym (told_alone (events_with ys key Send) (events_with ys key Receive))

  ambiguous_same : (key : EventKey) → is_ambiguous (group_of xs key) ≡ is_ambiguous (group_of ys key)
  ambiguous_same key = ap (λ (n : ℕ). are_ambiguous n (length (events_with xs key Receive))) (many key Send) ∙ ap (λ (n : ℕ). are_ambiguous (length (events_with ys key Send)) n) (many key Receive)

  unmatched_same : (key : EventKey) → is_unmatched (group_of xs key) ≡ is_unmatched (group_of ys key)
  unmatched_same key = ap (λ (b : Bool). not b && not (is_ambiguous (group_of xs key))) (matched_same key) ∙ ap (λ (b : Bool). not (is_matched (group_of ys key)) && not b) (ambiguous_same key)

  -- so two lists are counted alike where, of each test, as many pass
  counted_same : ((p : SeenItem → Bool) → ((n m : ℕ) (side : Side) (key : EventKey) → p (record { event = n; side = side; key = key }) ≡ p (record { event = m; side = side; key = key })) → length (filter p xs) ≡ length (filter p ys)) → tallies xs ≡ tallies ys
  counted_same alike =
      same_tallies _ _ _ _ _ _
      (ap length (filter_same (sends_message xs) (sends_message ys) (λ x. ap (λ (b : Bool). is_same_side x.side Send && b) (matched_same x.key)) xs) ∙ alike (sends_message ys) (λ n m side key. refl))
      (ap length (filter_same (is_unmatched_event xs) (is_unmatched_event ys) (λ x. unmatched_same x.key) xs) ∙ alike (is_unmatched_event ys) (λ n m side key. refl))
      (ap length (filter_same (has_ambiguous_key xs) (has_ambiguous_key ys) (λ x. ambiguous_same x.key) xs) ∙ alike (has_ambiguous_key ys) (λ n m side key. refl))

-- events in another order are counted alike
pub tallies_moved : (xs ys : List SeenItem) → IsPermutation xs ys → tallies xs ≡ tallies ys
tallies_moved xs ys moved =
    counted_same xs ys
    (λ key side. length-map (filter (has_mark key side) xs) (λ (x : SeenItem). x.event) ∙ (alike_filter (has_mark key side) xs ys moved).0 ∙ sym (length-map (filter (has_mark key side) ys) (λ (x : SeenItem). x.event)))
    (λ p looks. (alike_filter p xs ys moved).0)

-- and by other numbers
abbrev unnumbered_item : SeenItem → SeenItem
unnumbered_item x = record { event = 0; side = x.side; key = x.key }

passed_by : (p : SeenItem → Bool) → ((n m : ℕ) (side : Side) (key : EventKey) → p (record { event = n; side = side; key = key }) ≡ p (record { event = m; side = side; key = key })) → (items : List SeenItem) → length (filter p (map unnumbered_item items)) ≡ length (filter p items)
passed_by p looks [] = refl
passed_by p looks (x ∷ items) =
    ap (λ (b : Bool). length (cond b (unnumbered_item x ∷ filter p (map unnumbered_item items)) (filter p (map unnumbered_item items)))) (looks 0 x.event x.side x.key)
    ∙ counted_first (p x) (unnumbered_item x) x (filter p (map unnumbered_item items)) (filter p items) (passed_by p looks items)
  where
    counted_first : (b : Bool) (x y : SeenItem) (us vs : List SeenItem) → length us ≡ length vs → length (cond b (x ∷ us) us) ≡ length (cond b (y ∷ vs) vs)
    counted_first true x y us vs same = omega (arith, same)
    counted_first false x y us vs same = same

pub tallies_unnumbered : (items : List SeenItem) → tallies (map unnumbered_item items) ≡ tallies items
tallies_unnumbered items =
    counted_same (map unnumbered_item items) items
    (λ key side.
    length-map (filter (has_mark key side) (map unnumbered_item items)) (λ (x : SeenItem). x.event)
    ∙ passed_by (has_mark key side) (λ n m s k. refl) items
    ∙ sym (length-map (filter (has_mark key side) items) (λ (x : SeenItem). x.event)))
    (λ p looks. passed_by p looks items)

unnumbered_by : (f : ℕ → EventId) (items : List SeenItem) → map unnumbered (map (end_by f) items) ≡ map unnumbered_item items
unnumbered_by f [] = refl
unnumbered_by f (x ∷ items) = ap (λ (l : List SeenItem). unnumbered_item x ∷ l) (unnumbered_by f items)

-- so ends are counted as the events that they are
pub tallies_by : (f : ℕ → EventId) (items : List SeenItem) → tallies_of (map (end_by f) items) ≡ tallies items
tallies_by f items = ap (λ (l : List SeenItem). tallies l) (unnumbered_by f items) ∙ tallies_unnumbered items

-- in whatever order
pub tallies_of_moved : (xs ys : List End) → IsPermutation xs ys → tallies_of xs ≡ tallies_of ys
tallies_of_moved xs ys moved = tallies_moved (map unnumbered xs) (map unnumbered ys) (IsPermutation-map unnumbered xs ys moved)
