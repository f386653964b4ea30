-- A roster to which events were pushed, as its lists come about.
use Rattle.std.proofs.Common.{◌≡◌, ◌≤◌, ◌+◌, ◌++◌, ℕ, List, [], length, take, set, slice_get, Some, sym, ◌∙◌, ap, subst, arith}
use Rattle.std.specs.List.{range_with_len}
use Rattle.std.proofs.lemmas.Option.{slice_get_within, get_or_from_slice_get}
use Rattle.problem_model.specs.Limits.{most_events}
use Rattle.decl.specs.declared.items.Label.{Label}
use Rattle.roster.specs.declared.came.Came.{Came}
use Rattle.roster.specs.Groups.{total, sizes_of, group_at, with_tail}
use Rattle.roster.specs.Readings.{Stamped, JoinsStamps}
use Rattle.roster.specs.Roster.{RosterLists, IsRoster, IsGrown, came_from}
use Rattle.roster.proofs.EventNames.{part_of_total}
use Rattle.roster.proofs.Pushing.{on_clock_of, pushed_so_is, pushed_so_grown}

module _ (r : RosterLists) (is : IsRoster r) where
  -- no group is larger than there are events
  pub label_few : (label : ℕ) (group : List ℕ) → slice_get r.under label ≡ Some group → length group ≤ length r.came
  label_few label group there =
      let part = part_of_total r.under label in
      let own = ap length (get_or_from_slice_get r.under label group [] there) in
      let count = is.count in
      omega (arith, part, own, count)

  pub clock_few : (clock : ℕ) (group : List Stamped) → slice_get r.readings clock ≡ Some group → total (sizes_of r.readings) + length group ≤ length r.came + length r.came
  clock_few clock group there =
      let part = part_of_total r.readings clock in
      let own = ap length (get_or_from_slice_get r.readings clock group [] there) in
      let few = is.on_clocks.few in
      omega (arith, part, own, few)

  module _ (label from : ℕ) (l : Label) (stamps before numbers : List ℕ) (group tail : List Stamped) (came kept : List Came) (under : List (List ℕ)) (readings : List (List Stamped))
      (declared : slice_get r.declaration.labels label ≡ Some l) (under_at : slice_get r.under label ≡ Some before) (group_there : slice_get r.readings l.clock ≡ Some group)
      (numbers_are : numbers ≡ range_with_len (length r.came) (length stamps)) (joins : JoinsStamps group stamps (take from group ++ tail)) (few : length r.came + length stamps ≤ most_events)
      (kept_is : kept ≡ r.came) (came_is : came ≡ kept ++ came_from label (length before + 1) stamps) (under_is : under ≡ set r.under label (group_at r.under label ++ numbers)) (readings_are : readings ≡ with_tail r.readings l.clock from tail) where
    abbrev now : List Stamped
    now = take from (group_at r.readings l.clock) ++ tail

    group_is : group_at r.readings l.clock ≡ group
    group_is = get_or_from_slice_get r.readings l.clock group [] group_there

    before_is : group_at r.under label ≡ before
    before_is = get_or_from_slice_get r.under label before [] under_at

    joined : JoinsStamps (group_at r.readings l.clock) stamps now
    joined = subst (λ (g : List Stamped). JoinsStamps g stamps (take from g ++ tail)) (sym group_is) joins

    came_so : came ≡ r.came ++ came_from label (length (group_at r.under label) + 1) stamps
    came_so = came_is ∙ ap (λ (c : List Came). c ++ came_from label (length before + 1) stamps) kept_is ∙ ap (λ (g : List ℕ). r.came ++ came_from label (length g + 1) stamps) (sym before_is)

    under_so : under ≡ set r.under label (group_at r.under label ++ range_with_len (length r.came) (length stamps))
    under_so = under_is ∙ ap (λ (ns : List ℕ). set r.under label (group_at r.under label ++ ns)) numbers_are

    pub push_is : IsRoster (record { declaration = r.declaration; came = came; under = under; readings = readings })
    push_is =
        pushed_so_is r is label l.clock stamps now (slice_get_within r.under label before under_at) (slice_get_within r.readings l.clock group group_there) (on_clock_of r.declaration l label declared) joined few came under readings
        came_so under_so readings_are

    pub push_grown : IsGrown r (record { declaration = r.declaration; came = came; under = under; readings = readings }) label stamps
    push_grown =
        pushed_so_grown r is label l.clock stamps now (slice_get_within r.under label before under_at) (slice_get_within r.readings l.clock group group_there) (on_clock_of r.declaration l label declared) joined few came under readings
        came_so under_so readings_are
