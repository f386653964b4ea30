-- What a roster holds, before and after events come.
use Rattle.std.proofs.Common.{◌≡◌, ℕ, ◌+◌, zero, suc, List, [], ◌∷◌, ◌++◌, length, map, set, slice_get, Some, None, refl, sym, ◌∙◌, ap, subst, arith, append_assoc, length-append}
use Rattle.std.specs.List.{range_with_len}
use Rattle.std.proofs.lemmas.List.{map-append, map-set}
use Rattle.std.proofs.lemmas.Option.{none-some, same_Some, get_or_from_slice_get}
use Rattle.decl.specs.declared.items.Label.{Label}
use Rattle.traces.specs.Seen.{Seen}
use Rattle.roster.specs.declared.came.Came.{Came}
use Rattle.roster.specs.Groups.{total, sizes_of, group_at}
use Rattle.roster.specs.Roster.{RosterLists, no_event, event_at, came_from, IsRoster, IsGrown, HoldsEvents}
use Rattle.roster.proofs.Pushing.{get_left, get_right}

abbrev stamp_at : List Came → ℕ → ℕ
stamp_at came v = (event_at came v).stamp

abbrev stamp_seen : Seen → ℕ
stamp_seen s = s.stamp

abbrev stamps_seen : List Seen → List ℕ
stamps_seen events = map stamp_seen events

-- ---- nothing
none_in : (vs : List ℕ) → length vs ≡ 0 → vs ≡ []
none_in [] e = refl
none_in (v ∷ vs) e = absurd (omega (arith, e))

empty_groups : (came : List Came) (under : List (List ℕ)) (labels : List Label) → length under ≡ length labels → total (sizes_of under) ≡ 0 →
    map (λ (vs : List ℕ). map (stamp_at came) vs) under ≡ map stamps_seen (map (λ (l : Label). []) labels)
empty_groups came [] [] long none = refl
empty_groups came [] (l ∷ labels) long none = absurd (omega (arith, long))
empty_groups came (vs ∷ under) [] long none = absurd (omega (arith, long))
empty_groups came (vs ∷ under) (l ∷ labels) long none =
    let empty : vs ≡ [] = none_in vs (omega (arith, none)) in
    let rest = empty_groups came under labels (omega (arith, long)) (omega (arith, none)) in
    ap (λ (x : List ℕ). map (stamp_at came) x ∷ map (λ (vs : List ℕ). map (stamp_at came) vs) under) empty ∙ ap (λ (x : List (List ℕ)). [] ∷ x) rest

pub holds_none : (r : RosterLists) → IsRoster r → r.came ≡ [] → HoldsEvents r (map (λ (l : Label). []) r.declaration.labels)
holds_none r is none =
    let count = is.count in
    empty_groups r.came r.under r.declaration.labels is.labels (omega (arith, count, ap length none))

-- ---- more
kept_stamp : (came more : List Came) (v : ℕ) (e : Came) → slice_get came v ≡ Some e → stamp_at (came ++ more) v ≡ stamp_at came v
kept_stamp came more v e at =
    ap (λ (x : Came). x.stamp) (get_or_from_slice_get (came ++ more) v e no_event (get_left came more v e at) ∙ sym (get_or_from_slice_get came v e no_event at))

kept_stamps : (came more : List Came) (vs : List ℕ) → ((k v : ℕ) → slice_get vs k ≡ Some v → (e : Came) × (slice_get came v ≡ Some e)) → map (stamp_at (came ++ more)) vs ≡ map (stamp_at came) vs
kept_stamps came more [] there = refl
kept_stamps came more (v ∷ vs) there =
    let e = there 0 v refl in
    let first : stamp_at (came ++ more) v ≡ stamp_at came v = kept_stamp came more v e.0 e.1 in
    ap (λ (s : ℕ). s ∷ map (stamp_at (came ++ more)) vs) first ∙ ap (λ (ss : List ℕ). stamp_at came v ∷ ss) (kept_stamps came more vs (λ k w at. there (suc k) w at))

kept_groups : (came more : List Came) (under : List (List ℕ)) → ((h k v : ℕ) → slice_get (group_at under h) k ≡ Some v → (e : Came) × (slice_get came v ≡ Some e)) →
    map (λ (vs : List ℕ). map (stamp_at (came ++ more)) vs) under ≡ map (λ (vs : List ℕ). map (stamp_at came) vs) under
kept_groups came more [] there = refl
kept_groups came more (vs ∷ under) there =
    ap (λ (x : List ℕ). x ∷ map (λ (vs : List ℕ). map (stamp_at (came ++ more)) vs) under) (kept_stamps came more vs (there 0))
    ∙ ap (λ (x : List (List ℕ)). map (stamp_at came) vs ∷ x) (kept_groups came more under (λ h. there (suc h)))

new_stamps : (before : List Came) (label n : ℕ) (stamps : List ℕ) (a : ℕ) → a ≡ length before → map (stamp_at (before ++ came_from label n stamps)) (range_with_len a (length stamps)) ≡ stamps
new_stamps before label n [] a is = refl
new_stamps before label n (s ∷ stamps) a is =
    let e : Came = record { stamp = s; label = label; number = n; node = 0; partner = None } in
    let at : slice_get (before ++ e ∷ came_from label (n + 1) stamps) a ≡ Some e = get_right before (e ∷ came_from label (n + 1) stamps) a 0 (omega (arith, is)) in
    let first : stamp_at (before ++ e ∷ came_from label (n + 1) stamps) a ≡ s = ap (λ (x : Came). x.stamp) (get_or_from_slice_get (before ++ e ∷ came_from label (n + 1) stamps) a e no_event at) in
    let whole : (before ++ e ∷ []) ++ came_from label (n + 1) stamps ≡ before ++ e ∷ came_from label (n + 1) stamps = append_assoc before (e ∷ []) (came_from label (n + 1) stamps) in
    let more : map (stamp_at ((before ++ e ∷ []) ++ came_from label (n + 1) stamps)) (range_with_len (a + 1) (length stamps)) ≡ stamps =
    new_stamps (before ++ e ∷ []) label (n + 1) stamps (a + 1) (omega (arith, is, length-append before (e ∷ []))) in
    let rest : map (stamp_at (before ++ e ∷ came_from label (n + 1) stamps)) (range_with_len (a + 1) (length stamps)) ≡ stamps =
    subst (λ (c : List Came). map (stamp_at c) (range_with_len (a + 1) (length stamps)) ≡ stamps) whole more in
    ap (λ (x : ℕ). x ∷ map (stamp_at (before ++ e ∷ came_from label (n + 1) stamps)) (range_with_len (a + 1) (length stamps))) first ∙ ap (λ (xs : List ℕ). s ∷ xs) rest

-- the stamps of one label
stamps_of_label : (came : List Came) (under : List (List ℕ)) (seen : List (List Seen)) (label : ℕ) (own : List Seen) → map (λ (vs : List ℕ). map (stamp_at came) vs) under ≡ map stamps_seen seen → slice_get seen label ≡ Some own →
    map (stamp_at came) (group_at under label) ≡ stamps_seen own
stamps_of_label came under [] label own e at = absurd (none-some own at)
stamps_of_label came [] (ss ∷ seen) label own e at = absurd (cc)
stamps_of_label came (vs ∷ under) (ss ∷ seen) zero own e at =
    let head : map (stamp_at came) vs ≡ stamps_seen ss = cc in
    head ∙ ap stamps_seen (same_Some ss own at)
stamps_of_label came (vs ∷ under) (ss ∷ seen) (suc label) own e at =
    let rest : map (λ (vs : List ℕ). map (stamp_at came) vs) under ≡ map stamps_seen seen = cc in
    stamps_of_label came under seen label own rest at

pub holds_more : (old new : RosterLists) (label : ℕ) (seen : List (List Seen)) (own more : List Seen) → IsRoster old → IsGrown old new label (map (λ (s : Seen). s.stamp) more) → HoldsEvents old seen → slice_get seen label ≡ Some own →
    HoldsEvents new (set seen label (own ++ more))
holds_more old new label seen own more is grown holds at =
    let fresh : List Came = came_from label (length (group_at old.under label) + 1) (stamps_seen more) in
    let group : List ℕ = group_at old.under label ++ range_with_len (length old.came) (length (stamps_seen more)) in
    let by : List Came → List (List ℕ) → List (List ℕ) = λ came under. map (λ (vs : List ℕ). map (stamp_at came) vs) under in
    let there : (h k v : ℕ) → slice_get (group_at old.under h) k ≡ Some v → (e : Came) × (slice_get old.came v ≡ Some e) = λ h k v a. let e = is.numbered h k v a in (e.0, e.1) in
    let front : map (stamp_at (old.came ++ fresh)) (group_at old.under label) ≡ stamps_seen own =
    kept_stamps old.came fresh (group_at old.under label) (there label) ∙ stamps_of_label old.came old.under seen label own holds at in
    let back : map (stamp_at (old.came ++ fresh)) (range_with_len (length old.came) (length (stamps_seen more))) ≡ stamps_seen more =
    new_stamps old.came label (length (group_at old.under label) + 1) (stamps_seen more) (length old.came) refl in
    let here' : map (stamp_at (old.came ++ fresh)) group ≡ stamps_seen (own ++ more) =
    map-append (stamp_at (old.came ++ fresh)) (group_at old.under label) (range_with_len (length old.came) (length (stamps_seen more)))
    ∙ ap (λ (x : List ℕ). x ++ map (stamp_at (old.came ++ fresh)) (range_with_len (length old.came) (length (stamps_seen more)))) front
    ∙ ap (λ (x : List ℕ). stamps_seen own ++ x) back ∙ sym (map-append stamp_seen own more) in
    ap (λ (x : List Came). by x new.under) grown.came ∙ ap (λ (x : List (List ℕ)). by (old.came ++ fresh) x) grown.under
    ∙ map-set (λ (vs : List ℕ). map (stamp_at (old.came ++ fresh)) vs) old.under label group
    ∙ ap (λ (x : List (List ℕ)). set x label (map (stamp_at (old.came ++ fresh)) group)) (kept_groups old.came fresh old.under there ∙ holds)
    ∙ ap (λ (x : List ℕ). set (map stamps_seen seen) label x) here'
    ∙ sym (map-set stamps_seen seen label (own ++ more))
