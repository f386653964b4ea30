-- How events that are added change the messages.
use Rattle.std.proofs.Common.{◌≡◌, ℕ, suc, ◌<◌, ◌+◌, List, [], ◌∷◌, ◌++◌, length, map, get_or, true, false, Some, inl, inr, refl, sym, ap, ◌∙◌, subst, arith, length-append}
use Rattle.std.specs.Prelude.{Contains, filter}
use Rattle.std.specs.List.{list_any}
use Rattle.std.proofs.lemmas.Bool.{and_parts, cases_Bool, cases_order, or_cases, false≢true}
use Rattle.std.proofs.lemmas.List.{append-nil, get_or_default, map-append}
use Rattle.std.proofs.lemmas.List.Elements.{All-contains, All-contains_itself, All-filter, Contains-append_left, filter-append, filter_passes}
use Rattle.std.proofs.lemmas.Option.{none-some, same_Some}
use Rattle.traces.specs.declared.event.Side.{Side}
use Rattle.traces.specs.declared.event.Side.TheVariants.{Send, Receive}
use Rattle.traces.specs.Seen.{EventKey, is_same_key, is_same_side}
use Rattle.msg_match.specs.declared.change.Couple.{Couple}
use Rattle.msg_match.specs.Groups.{SeenItem, couple_of, events_with, group_of, has_mark, only_couple}
use Rattle.msg_match.specs.Messages.{IsMessage}
use Rattle.msg_match.specs.Changes.{AreCouplesAnew, HaveOwnNumbers}
use Rattle.msg_match.specs.Parts.{AreCouplesOf, IsCoupleOf}
use Rattle.msg_match.proofs.Grouping.{exact_keys, none_with, some_with}
use Rattle.msg_match.proofs.Keeping.{key_in, key_known}

-- ---- the message of a key
pub two_parts : (ss rs : List ℕ) (m : Couple) → only_couple ss rs ≡ Some m → (ss ≡ m.send ∷ []) × (rs ≡ m.receive ∷ [])
two_parts [] rs m is = absurd (none-some m is)
two_parts (s ∷ t ∷ more) rs m is = absurd (none-some m is)
two_parts (s ∷ []) [] m is = absurd (none-some m is)
two_parts (s ∷ []) (r ∷ t ∷ more) m is = absurd (none-some m is)
two_parts (s ∷ []) (r ∷ []) m is =
    let same = same_Some (record { send = s; receive = r }) m is in
    (ap (λ (c : Couple). c.send ∷ []) same, ap (λ (c : Couple). c.receive ∷ []) same)

pub two_made : (ss rs : List ℕ) (m : Couple) → ss ≡ m.send ∷ [] → rs ≡ m.receive ∷ [] → only_couple ss rs ≡ Some m
two_made ss rs m sent received = ap (λ (l : List ℕ). only_couple l rs) sent ∙ ap (λ (l : List ℕ). only_couple (m.send ∷ []) l) received

-- ---- events by their numbers
first_of : (xs : List SeenItem) (n : ℕ) (more : List ℕ) → map (λ (x : SeenItem). x.event) xs ≡ n ∷ more → (a : SeenItem) × Contains xs a × (a.event ≡ n)
first_of [] n more is = absurd cc
first_of (x ∷ xs) n more is = let same : x.event ≡ n = cc in (x, (0, omega arith, refl), same)

-- the only event of a key and a side is among all, with this key
pub holder : (items : List SeenItem) (key : EventKey) (side : Side) (n : ℕ) → events_with items key side ≡ n ∷ [] → (a : SeenItem) × Contains items a × (a.event ≡ n) × (a.key ≡ key)
holder items key side n is =
    let test = has_mark key side in
    let (a, left, number) = first_of (filter test items) n [] is in
    let passed : has_mark key side a ≡ true = All-contains (λ (x : SeenItem). test x ≡ true) (filter test items) a (filter_passes test items) left in
    let among : Contains items a = All-contains (Contains items) (filter test items) a (All-filter test (Contains items) items (All-contains_itself items)) left in
    (a, among, number, exact_keys.one a.key key (and_parts (is_same_key a.key key) (is_same_side a.side side) passed).0)

-- where numbers differ, a number is that of one event
pub event_one : (items : List SeenItem) (a b : SeenItem) → HaveOwnNumbers items → Contains items a → Contains items b → a.event ≡ b.event → a ≡ b
event_one items a b differ (i, in', is) (j, in'', is') same =
    let is_a : get_or items j a ≡ b = get_or_default items j a b in'' ∙ is' in
    elim (cases_order i j) [
      | inl one' ↦ sym is ∙ ap (λ (k : ℕ). get_or items k a) one' ∙ is_a
      | inr apart ↦ elim apart [
        | inl before ↦ absurd (differ i j a before in'' (ap (λ (x : SeenItem). x.event) is ∙ same ∙ ap (λ (x : SeenItem). x.event) (sym is_a)))
        | inr behind ↦ absurd (differ j i a behind in' (ap (λ (x : SeenItem). x.event) is_a ∙ sym same ∙ ap (λ (x : SeenItem). x.event) (sym is)))
      ]
    ]

-- ---- events before and added
split : (xs ys : List SeenItem) (key : EventKey) (side : Side) → events_with (xs ++ ys) key side ≡ events_with xs key side ++ events_with ys key side
split xs ys key side =
    let event : SeenItem → ℕ = λ x. x.event in
    ap (map (λ (x : SeenItem). x.event)) (filter-append (has_mark key side) xs ys) ∙ map-append (λ (x : SeenItem). x.event) (filter (has_mark key side) xs) (filter (has_mark key side) ys)

-- a key that none of the events added has is as it was
untouched : (xs ys : List SeenItem) (key : EventKey) (side : Side) → list_any (is_same_key key) (map key_in ys) ≡ false → events_with (xs ++ ys) key side ≡ events_with xs key side
untouched xs ys key side none = split xs ys key side ∙ ap (λ (l : List ℕ). events_with xs key side ++ l) (none_with ys key side none) ∙ append-nil (events_with xs key side)

-- a key that some have
toucher : (ys : List SeenItem) (key : EventKey) → list_any (is_same_key key) (map key_in ys) ≡ true → (y : SeenItem) × Contains ys y × (y.key ≡ key)
toucher [] key known = absurd (false≢true known)
toucher (x ∷ ys) key known = elim (or_cases (is_same_key key x.key) (list_any (is_same_key key) (map key_in ys)) known) [
  | inl same ↦ (x, (0, omega arith, refl), sym (exact_keys.one key x.key same))
  | inr more ↦ (let (y, (k, inside, is), has) = toucher ys key more in (y, (suc k, omega (arith, inside), is), has))
]

pub known_by : (ys : List SeenItem) (y : SeenItem) → Contains ys y → list_any (is_same_key y.key) (map key_in ys) ≡ true
known_by ys y (k, inside, is) = subst (λ (x : SeenItem). list_any (is_same_key x.key) (map key_in ys) ≡ true) is (key_known ys k y inside)

module _ (xs ys : List SeenItem) (differ : HaveOwnNumbers (xs ++ ys)) where
  -- a send before and after has one key
  one_key : (key key' : EventKey) (s : ℕ) → events_with xs key Send ≡ s ∷ [] → events_with (xs ++ ys) key' Send ≡ s ∷ [] → key ≡ key'
  one_key key key' s before after =
      let (a, among, number, has) = holder xs key Send s before in
      let (b, among', number', has') = holder (xs ++ ys) key' Send s after in
      let same : a ≡ b = event_one (xs ++ ys) a b differ (Contains-append_left xs ys a among) among' (number ∙ sym number') in
      sym has ∙ ap key_in same ∙ has'

  -- a key with one send and one receive has more of them behind an event that is added
  not_both : (key : EventKey) (s r s' r' : ℕ) → list_any (is_same_key key) (map key_in ys) ≡ true
      → events_with xs key Send ≡ s ∷ [] → events_with xs key Receive ≡ r ∷ [] → events_with (xs ++ ys) key Send ≡ s' ∷ [] → events_with (xs ++ ys) key Receive ≡ r' ∷ [] → ⊥
  not_both key s r s' r' known sent received sent' received' =
      let more : 0 < length (events_with ys key Send) + length (events_with ys key Receive) = some_with ys key known in
      let sends : 1 ≡ 1 + length (events_with ys key Send) = sym (ap length sent') ∙ ap length (split xs ys key Send) ∙ length-append (events_with xs key Send) (events_with ys key Send) ∙ ap (λ (n : ℕ). n + length (events_with ys key Send)) (ap length sent) in
      let receives : 1 ≡ 1 + length (events_with ys key Receive) = sym (ap length received') ∙ ap length (split xs ys key Receive) ∙ length-append (events_with xs key Receive) (events_with ys key Receive) ∙ ap (λ (n : ℕ). n + length (events_with ys key Receive)) (ap length received) in
      omega (arith, more, sends, receives)

  -- a message of a key that is touched is not one before and after
  changes : (m : Couple) → (before : IsMessage xs m) → (after : IsMessage (xs ++ ys) m) → list_any (is_same_key before.key) (map key_in ys) ≡ true → ⊥
  changes m before after known =
      let same : after.key ≡ before.key = sym (one_key before.key after.key m.send before.sent after.sent) in
      not_both before.key m.send m.receive m.send m.receive known before.sent before.received
      (subst (λ (k : EventKey). events_with (xs ++ ys) k Send ≡ m.send ∷ []) same after.sent)
      (subst (λ (k : EventKey). events_with (xs ++ ys) k Receive ≡ m.receive ∷ []) same after.received)

  couple_is : (items : List SeenItem) (m : Couple) (key : EventKey) (y : SeenItem) → Contains ys y → y.key ≡ key → events_with items key Send ≡ m.send ∷ [] → events_with items key Receive ≡ m.receive ∷ [] → IsCoupleOf items ys m
  couple_is items m key y among has sent received =
      (y, among, ap (λ (k : EventKey). couple_of (group_of items k)) has ∙ two_made (events_with items key Send) (events_with items key Receive) m sent received)

  abbrev message_is : (items : List SeenItem) (m : Couple) (c : IsCoupleOf items ys m) → IsMessage items m
  message_is items m c =
      let parts = two_parts (events_with items c.0.key Send) (events_with items c.0.key Receive) m c.2 in
      record { key = c.0.key; sent = parts.0; received = parts.1 }

  -- the messages of keys of events that were added, after them, are just those that are new
  pub added_anew : (found : List Couple) → AreCouplesOf (xs ++ ys) ys found → AreCouplesAnew xs (xs ++ ys) found
  added_anew found couples = record {
    only = λ m held.
        let c = couples.only m held in
        let after = message_is (xs ++ ys) m c in (
          after,
          λ before.
              let same : c.0.key ≡ before.key = sym (one_key before.key after.key m.send before.sent after.sent) in
              changes m before after (subst (λ (k : EventKey). list_any (is_same_key k) (map key_in ys) ≡ true) same (known_by ys c.0 c.1)),
        );
    all = λ m new. elim (cases_Bool (list_any (is_same_key new.0.key) (map key_in ys))) [
      | inl known ↦ (let (y, among, has) = toucher ys new.0.key known in couples.all m (couple_is (xs ++ ys) m new.0.key y among has new.0.sent new.0.received))
      | inr none ↦ absurd (new.1 (record {
        key = new.0.key;
        sent = sym (untouched xs ys new.0.key Send none) ∙ new.0.sent;
        received = sym (untouched xs ys new.0.key Receive none) ∙ new.0.received;
      }))
    ];
    once = couples.once;
  }

  -- and those before them are just those that are none any more
  pub withdrawn_anew : (found : List Couple) → AreCouplesOf xs ys found → AreCouplesAnew (xs ++ ys) xs found
  withdrawn_anew found couples = record {
    only = λ m held. let c = couples.only m held in (message_is xs m c, λ after. changes m (message_is xs m c) after (known_by ys c.0 c.1));
    all = λ m old. elim (cases_Bool (list_any (is_same_key old.0.key) (map key_in ys))) [
      | inl known ↦ (let (y, among, has) = toucher ys old.0.key known in couples.all m (couple_is xs m old.0.key y among has old.0.sent old.0.received))
      | inr none ↦ absurd (old.1 (record {
        key = old.0.key;
        sent = untouched xs ys old.0.key Send none ∙ old.0.sent;
        received = untouched xs ys old.0.key Receive none ∙ old.0.received;
      }))
    ];
    once = couples.once;
  }
