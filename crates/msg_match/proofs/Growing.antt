-- The ends of messages while events are added.
use Rattle.std.proofs.Common.{◌≡◌, ◌≤◌, ◌+◌, ℕ, zero, suc, List, [], ◌∷◌, ◌++◌, length, Some, refl, sym, ap, ◌∙◌, subst, arith, length-append}
use Rattle.std.specs.Prelude.{All, slice_get, slice_set}
use Rattle.std.specs.List.Sorted.{IsPermutation}
use Rattle.std.proofs.lemmas.Grind.{flat_map-append}
use Rattle.std.proofs.lemmas.List.{append_assoc}
use Rattle.std.proofs.lemmas.List.Elements.{All-head, All-tail}
use Rattle.std.proofs.lemmas.List.Sorted.{IsPermutation-append_comm, IsPermutation-append_left, IsPermutation-append_right, IsPermutation-refl, IsPermutation-sym, IsPermutation-trans, length_permutation}
use Rattle.std.proofs.lemmas.Option.{none-some, same_Some}
use Rattle.traces.specs.Seen.{Seen, SeenMark, Keyed, Unkeyed}
use Rattle.traces.specs.declared.event_id.EventId.{EventId}
use Rattle.traces.specs.Traces.{Placed, event_count, events_from, events_of, numbered}
use Rattle.traces.proofs.Ids.{length_events}
use Rattle.msg_match.specs.Ends.{AreMatchedEnds, End, end_by_mark, ends_among}

-- ends of events in a row
pub ends_joined : (xs ys : List Placed) → ends_among (xs ++ ys) ≡ ends_among xs ++ ends_among ys
ends_joined xs ys = flat_map-append (λ (e : Placed). end_by_mark e.id e.seen.mark) xs ys

-- events in a row go on in number
pub numbered_joined : (label n : ℕ) (xs ys : List Seen) → numbered label n (xs ++ ys) ≡ numbered label n xs ++ numbered label (length xs + n) ys
numbered_joined label n [] ys = let same : n ≡ 0 + n = omega arith in ap (λ (k : ℕ). numbered label k ys) same
numbered_joined label n (s ∷ xs) ys =
    let same : length xs + (n + 1) ≡ length (s ∷ xs) + n = omega arith in
    let rest : numbered label (n + 1) (xs ++ ys) ≡ numbered label (n + 1) xs ++ numbered label (length (s ∷ xs) + n) ys =
    numbered_joined label (n + 1) xs ys ∙ ap (λ (k : ℕ). numbered label (n + 1) xs ++ numbered label k ys) same in
    ap (λ (l : List Placed). (record { id = record { label = label; number = n }; seen = s }) ∷ l) rest

-- ---- none
none_from : (label : ℕ) (seen : List (List Seen)) → All (λ (events : List Seen). events ≡ []) seen → events_from label seen ≡ []
none_from label [] empty = refl
none_from label (s ∷ seen) empty =
    let P = λ (events : List Seen). events ≡ [] in
    ap (λ (l : List Seen). numbered label 1 l ++ events_from (label + 1) seen) (All-head P s seen empty) ∙ none_from (label + 1) seen (All-tail P s seen empty)

pub no_ends : (seen : List (List Seen)) → All (λ (events : List Seen). events ≡ []) seen → AreMatchedEnds [] seen
no_ends seen empty = subst (λ (l : List Placed). IsPermutation (ends_among l) []) (sym (none_from 0 seen empty)) (IsPermutation-refl [])

-- ---- more
-- what stands between two lists may stand behind them
behind : (xs ys zs : List End) → IsPermutation ((xs ++ ys) ++ zs) ((xs ++ zs) ++ ys)
behind xs ys zs =
    subst (λ (l : List End). IsPermutation l ((xs ++ zs) ++ ys)) (sym (append_assoc xs ys zs))
    (subst (λ (l : List End). IsPermutation (xs ++ (ys ++ zs)) l) (sym (append_assoc xs zs ys))
    (IsPermutation-append_right xs (ys ++ zs) (zs ++ ys) (IsPermutation-append_comm ys zs)))

grow_first : (k : ℕ) (old more : List Seen) (seen : List (List Seen)) → IsPermutation (ends_among (events_from k (old ∷ seen)) ++ ends_among (numbered k (length old + 1) more)) (ends_among (events_from k ((old ++ more) ∷ seen)))
grow_first k old more seen =
    let first = numbered k 1 old in
    let added = numbered k (length old + 1) more in
    let rest = events_from (k + 1) seen in
    let before : ends_among (first ++ rest) ≡ ends_among first ++ ends_among rest = ends_joined first rest in
    let after : ends_among (numbered k 1 (old ++ more) ++ rest) ≡ (ends_among first ++ ends_among added) ++ ends_among rest =
    ap (λ (l : List Placed). ends_among (l ++ rest)) (numbered_joined k 1 old more)
    ∙ ends_joined (first ++ added) rest
    ∙ ap (λ (l : List End). l ++ ends_among rest) (ends_joined first added) in
    subst (λ (l : List End). IsPermutation (l ++ ends_among added) (ends_among (numbered k 1 (old ++ more) ++ rest))) (sym before)
    (subst (λ (l : List End). IsPermutation ((ends_among first ++ ends_among rest) ++ ends_among added) l) (sym after) (behind (ends_among first) (ends_among rest) (ends_among added)))

grow_from : (k i : ℕ) (old more : List Seen) (seen : List (List Seen)) → slice_get seen i ≡ Some old
    → IsPermutation (ends_among (events_from k seen) ++ ends_among (numbered (i + k) (length old + 1) more)) (ends_among (events_from k (slice_set seen i (old ++ more))))
grow_from k i old more [] at = absurd (none-some old at)
grow_from k zero old more (s ∷ seen) at =
    let same : k ≡ zero + k = omega arith in
    subst (λ (n : ℕ). IsPermutation (ends_among (events_from k (s ∷ seen)) ++ ends_among (numbered n (length old + 1) more)) (ends_among (events_from k ((old ++ more) ∷ seen)))) same
    (subst (λ (l : List Seen). IsPermutation (ends_among (events_from k (l ∷ seen)) ++ ends_among (numbered k (length old + 1) more)) (ends_among (events_from k ((old ++ more) ∷ seen)))) (sym (same_Some s old at))
    (grow_first k old more seen))
grow_from k (suc i) old more (s ∷ seen) at =
    let same : i + (k + 1) ≡ suc i + k = omega arith in
    let first = numbered k 1 s in
    let rest = events_from (k + 1) seen in
    let rest' = events_from (k + 1) (slice_set seen i (old ++ more)) in
    let added = ends_among (numbered (suc i + k) (length old + 1) more) in
    let more_behind : IsPermutation (ends_among rest ++ added) (ends_among rest') =
    subst (λ (n : ℕ). IsPermutation (ends_among rest ++ ends_among (numbered n (length old + 1) more)) (ends_among rest')) same (grow_from (k + 1) i old more seen at) in
    subst (λ (l : List End). IsPermutation (l ++ added) (ends_among (first ++ rest'))) (sym (ends_joined first rest))
    (subst (λ (l : List End). IsPermutation ((ends_among first ++ ends_among rest) ++ added) l) (sym (ends_joined first rest'))
    (subst (λ (l : List End). IsPermutation l (ends_among first ++ ends_among rest')) (sym (append_assoc (ends_among first) (ends_among rest) added))
    (IsPermutation-append_right (ends_among first) (ends_among rest ++ added) (ends_among rest') more_behind)))

pub more_ends : (seen : List (List Seen)) (label : ℕ) (old more : List Seen) (ends : List End) → slice_get seen label ≡ Some old → AreMatchedEnds ends seen
    → AreMatchedEnds (ends ++ ends_among (numbered label (length old + 1) more)) (slice_set seen label (old ++ more))
more_ends seen label old more ends at are =
    let added = ends_among (numbered label (length old + 1) more) in
    let same : label + 0 ≡ label = omega arith in
    let grown : IsPermutation (ends_among (events_of seen) ++ added) (ends_among (events_of (slice_set seen label (old ++ more)))) =
    subst (λ (n : ℕ). IsPermutation (ends_among (events_of seen) ++ ends_among (numbered n (length old + 1) more)) (ends_among (events_of (slice_set seen label (old ++ more))))) same (grow_from 0 label old more seen at) in
    IsPermutation-trans (ends_among (events_of (slice_set seen label (old ++ more)))) (ends_among (events_of seen) ++ added) (ends ++ added)
    (IsPermutation-sym (ends_among (events_of seen) ++ added) (ends_among (events_of (slice_set seen label (old ++ more)))) grown)
    (IsPermutation-append_left added (ends_among (events_of seen)) ends are)

-- ---- how many
few_of : (id : EventId) (mark : SeenMark) → length (end_by_mark id mark) ≤ 1
few_of id (Unkeyed reason) = omega arith
few_of id (Keyed key side) = omega arith

few_ends : (events : List Placed) → length (ends_among events) ≤ length events
few_ends [] = omega arith
few_ends (e ∷ events) = omega (arith, length-append (end_by_mark e.id e.seen.mark) (ends_among events), few_of e.id e.seen.mark, few_ends events)

pub length_numbered : (label n : ℕ) (seen : List Seen) → length (numbered label n seen) ≡ length seen
length_numbered label n [] = refl
length_numbered label n (s ∷ seen) = omega (arith, length_numbered label (n + 1) seen)

-- no more of one label than events
pub label_few : (label n : ℕ) (seen : List Seen) → length (ends_among (numbered label n seen)) ≤ length seen
label_few label n seen = omega (arith, few_ends (numbered label n seen), length_numbered label n seen)

pub ends_few : (seen : List (List Seen)) (ends : List End) → AreMatchedEnds ends seen → length ends ≤ event_count seen
ends_few seen ends are = omega (arith, length_permutation (ends_among (events_of seen)) ends are, few_ends (events_of seen), length_events seen)
