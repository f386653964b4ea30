-- Each event is counted once.
use Rattle.std.proofs.Common.{◌≡◌, ℕ, ◌+◌, ◌*◌, List, [], ◌∷◌, ◌++◌, length, map, Bool, true, false, not, ◌&&◌, cond, inl, inr, refl, sym, ap, ◌∙◌, arith, length-append}
use Rattle.std.specs.Prelude.{filter, sum_by}
use Rattle.std.proofs.lemmas.Bool.{cases_Bool, false≢true}
use Rattle.std.proofs.lemmas.List.{length-map}
use Rattle.std.proofs.lemmas.List.Sums.{sum_by-cons}
use Rattle.decl.specs.Declaration.{Declaration}
use Rattle.traces.specs.declared.event.NoKey.{NoKey}
use Rattle.traces.specs.declared.event.NoKey.TheVariants as without
use Rattle.traces.specs.declared.event.Side.{Side}
use Rattle.traces.specs.declared.event.Side.TheVariants.{Send, Receive}
use Rattle.traces.specs.Seen.{EventKey, Seen, SeenMark, Keyed, Unkeyed, is_same_key, is_same_side}
use Rattle.traces.specs.declared.event_id.EventId.{EventId}
use Rattle.traces.specs.Traces.{Missed, Placed, events_of, name_of}
use Rattle.traces.specs.Windows.{by_group, group_mark, grouped, keys_among}
use Rattle.msg_match.specs.declared.change.Tallies.{Tallies}
use Rattle.msg_match.specs.Groups.{SeenGroup, SeenItem, are_ambiguous, each_once, events_with, group_of, groups_of, is_ambiguous, is_matched, is_unmatched, group_size}
use Rattle.msg_match.specs.Parts.{total_of}
use Rattle.msg_match.proofs.Counting.{sums_are, totals_are}
use Rattle.msg_match.specs.Ends.{End, end_by_mark, ends_among}
use Rattle.msg_match.specs.Ambiguous.{ambiguous_ends, end_group, is_ambiguous_key, names_with, tallies_of, unnumbered}
use Rattle.report.specs.Reports.{count_without, has_no_key_for, named_key, nokeys_of, report_of}
use Rattle.report.specs.Counts.{AddUp, all_without, listed_with_key}
use Rattle.report.proofs.Matched.{items_in, messages_many}

-- ---- events with and without keys
abbrev lacks : NoKey → SeenMark → ℕ
lacks reason m = cond (has_no_key_for reason m) 1 0

abbrev lacks_any : SeenMark → ℕ
lacks_any m =
    lacks without.Link m + lacks without.Other m + lacks without.Short m + lacks without.Header m
    + lacks without.Fragment m + lacks without.Length m + lacks without.Side m + lacks without.Local m
    + lacks without.Interface m

one_mark : (keys : List EventKey) (id : EventId) (m : SeenMark) → 1 ≡ length (end_by_mark id (group_mark keys m)) + lacks_any m
one_mark keys id (Keyed key side) = refl
one_mark keys id (Unkeyed without.Link) = refl
one_mark keys id (Unkeyed without.Other) = refl
one_mark keys id (Unkeyed without.Short) = refl
one_mark keys id (Unkeyed without.Header) = refl
one_mark keys id (Unkeyed without.Fragment) = refl
one_mark keys id (Unkeyed without.Length) = refl
one_mark keys id (Unkeyed without.Side) = refl
one_mark keys id (Unkeyed without.Local) = refl
one_mark keys id (Unkeyed without.Interface) = refl

counted_cons : (reason : NoKey) (e : Placed) (more : List Placed) → count_without (e ∷ more) reason ≡ lacks reason e.seen.mark + count_without more reason
counted_cons reason e more = sum_by-cons (λ (x : Placed). lacks reason x.seen.mark) e more

-- in whatever groups they are
keyed_or_not : (keys : List EventKey) (events : List Placed) → length events ≡ length (ends_among (map (by_group keys) events)) + all_without (nokeys_of events)
keyed_or_not keys [] = refl
keyed_or_not keys (e ∷ more) =
    let own : List End = end_by_mark e.id (group_mark keys e.seen.mark) in
    let rest : List End = ends_among (map (by_group keys) more) in
    let first : length (own ++ rest) ≡ length own + length rest = length-append own rest in
    omega (
      arith,
      first,
      one_mark keys e.id e.seen.mark,
      counted_cons without.Link e more,
      counted_cons without.Other e more,
      counted_cons without.Short e more,
      counted_cons without.Header e more,
      counted_cons without.Fragment e more,
      counted_cons without.Length e more,
      counted_cons without.Side e more,
      counted_cons without.Local e more,
      counted_cons without.Interface e more,
      keyed_or_not keys more,
    )

-- ---- the events of one key
abbrev made : EventKey → List ℕ → List ℕ → SeenGroup
made key sends receives = record { key = key; sends = sends; receives = receives }

matched_alone : (key : EventKey) (sends receives : List ℕ) → is_matched (made key sends receives) ≡ true → (group_size (made key sends receives) ≡ 2) × (is_ambiguous (made key sends receives) ≡ false)
matched_alone key [] receives is = absurd (false≢true is)
matched_alone key (s ∷ t ∷ more) receives is = absurd (false≢true is)
matched_alone key (s ∷ []) [] is = absurd (false≢true is)
matched_alone key (s ∷ []) (r ∷ t ∷ more) is = absurd (false≢true is)
matched_alone key (s ∷ []) (r ∷ []) is = (refl, refl)

parts : (m a : Bool) (size : ℕ) → (m ≡ true → (size ≡ 2) × (a ≡ false)) → size ≡ 2 * cond m 1 0 + cond (not m && not a) size 0 + cond a size 0
parts true true size alone = absurd (false≢true (sym (alone refl).1))
parts true false size alone = omega (arith, (alone refl).0)
parts false true size alone = omega arith
parts false false size alone = omega arith

-- ---- the events of all keys
abbrev matched_in : SeenGroup → ℕ
matched_in g = cond (is_matched g) 1 0

abbrev unmatched_in : SeenGroup → ℕ
unmatched_in g = cond (is_unmatched g) (group_size g) 0

abbrev ambiguous_in : SeenGroup → ℕ
ambiguous_in g = cond (is_ambiguous g) (group_size g) 0

summed : (gs : List SeenGroup) → total_of gs ≡ 2 * sum_by matched_in gs + sum_by unmatched_in gs + sum_by ambiguous_in gs
summed [] = refl
summed (g ∷ gs) =
    let here : group_size g ≡ 2 * matched_in g + unmatched_in g + ambiguous_in g = parts (is_matched g) (is_ambiguous g) (group_size g) (matched_alone g.key g.sends g.receives) in
    omega (arith, sum_by-cons group_size g gs, sum_by-cons matched_in g gs, sum_by-cons unmatched_in g gs, sum_by-cons ambiguous_in g gs, here, summed gs)

told : (ends : List End) → length ends ≡ 2 * (tallies_of ends).messages + (tallies_of ends).unmatched + (tallies_of ends).ambiguous
told ends =
    let items : List SeenItem = items_in ends in
    let gs : List SeenGroup = groups_of items in
    omega (
      arith,
      length-map ends unnumbered,
      totals_are items,
      summed gs,
      ap (λ (t : Tallies). t.messages) (sums_are items),
      ap (λ (t : Tallies). t.unmatched) (sums_are items),
      ap (λ (t : Tallies). t.ambiguous) (sums_are items),
    )

-- ---- the events listed
-- a key has as many events by name as are counted
many : (ends : List End) (key : EventKey) (side : Side) → length (names_with ends key side) ≡ length (events_with (items_in ends) key side)
many [] key side = refl
many (e ∷ ends) key side = elim (cases_Bool (is_same_key e.key key && is_same_side e.side side)) [
  | inl yes' ↦ rw yes' (omega (arith, many ends key side))
  | inr no' ↦ rw no' (many ends key side)
]

test_same : (ends : List End) (key : EventKey) → is_ambiguous_key ends key ≡ is_ambiguous (group_of (items_in ends) key)
test_same ends key =
    ap (λ (n : ℕ). are_ambiguous n (length (names_with ends key Receive))) (many ends key Send) ∙ ap (λ (n : ℕ). are_ambiguous (length (events_with (items_in ends) key Send)) n) (many ends key Receive)

keys_same : (ends : List End) → map (λ (e : End). e.key) ends ≡ map (λ (x : SeenItem). x.key) (items_in ends)
keys_same [] = refl
keys_same (e ∷ ends) = ap (λ (l : List EventKey). e.key ∷ l) (keys_same ends)

listed_key : (d : Declaration) (ends : List End) (key : EventKey) → listed_with_key (named_key d (end_group ends key)) ≡ group_size (group_of (items_in ends) key)
listed_key d ends key =
    omega (arith, length-map (names_with ends key Send) (name_of d), length-map (names_with ends key Receive) (name_of d), many ends key Send, many ends key Receive)

listed_all : (d : Declaration) (ends : List End) (keys : List EventKey)
    → sum_by listed_with_key (map (named_key d) (map (end_group ends) (filter (is_ambiguous_key ends) keys))) ≡ sum_by ambiguous_in (map (group_of (items_in ends)) keys)
listed_all d ends [] = refl
listed_all d ends (key ∷ keys) =
    let rest : List EventKey = filter (is_ambiguous_key ends) keys in
    let group : SeenGroup = group_of (items_in ends) key in
    let groups : List SeenGroup = map (group_of (items_in ends)) keys in
    elim (cases_Bool (is_ambiguous_key ends key)) [
      | inl yes' ↦ (
          let kept : filter (is_ambiguous_key ends) (key ∷ keys) ≡ key ∷ rest = ap (λ (b : Bool). cond b (key ∷ rest) rest) yes' in
          let here : ambiguous_in group ≡ group_size group = ap (λ (b : Bool). cond b (group_size group) 0) (sym (test_same ends key) ∙ yes') in
          ap (λ (l : List EventKey). sum_by listed_with_key (map (named_key d) (map (end_group ends) l))) kept
          ∙ omega (arith, sum_by-cons listed_with_key (named_key d (end_group ends key)) (map (named_key d) (map (end_group ends) rest)), listed_key d ends key, sum_by-cons ambiguous_in group groups, here, listed_all d ends keys)
          )
      | inr no' ↦ (
          let left : filter (is_ambiguous_key ends) (key ∷ keys) ≡ rest = ap (λ (b : Bool). cond b (key ∷ rest) rest) no' in
          let here : ambiguous_in group ≡ 0 = ap (λ (b : Bool). cond b (group_size group) 0) (sym (test_same ends key) ∙ no') in
          ap (λ (l : List EventKey). sum_by listed_with_key (map (named_key d) (map (end_group ends) l))) left
          ∙ omega (arith, sum_by-cons ambiguous_in group groups, here, listed_all d ends keys)
          )
    ]

listed_in : (d : Declaration) (ends : List End) → sum_by listed_with_key (map (named_key d) (ambiguous_ends ends)) ≡ (tallies_of ends).ambiguous
listed_in d ends =
    listed_all d ends (each_once is_same_key (map (λ (e : End). e.key) ends))
    ∙ ap (λ (keys : List EventKey). sum_by ambiguous_in (map (group_of (items_in ends)) (each_once is_same_key keys))) (keys_same ends)
    ∙ ap (λ (t : Tallies). t.ambiguous) (sums_are (items_in ends))

-- the counts of each report make up its events
pub added_up : (d : Declaration) (seen : List (List Seen)) (missed : List Missed) (consistent : Bool) → AddUp (report_of d seen missed consistent)
added_up d seen missed consistent =
    let events : List Placed = events_of seen in
    let ends : List End = ends_among (grouped events) in
    omega (arith, keyed_or_not (keys_among events) events, told ends, messages_many (grouped events), listed_in d ends)
