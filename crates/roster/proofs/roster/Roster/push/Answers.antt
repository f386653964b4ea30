use Rattle.std.proofs.Common.{◌≡◌, ◌<◌, ◌≤◌, ◌+◌, ℕ, [], length, refl, sym, ◌∙◌, ap, subst, arith, rules}
use Rattle.std.specs.List.{range_with_len}
use Rattle.std.proofs.lemmas.List.{length-map}
use Rattle.std.proofs.lemmas.List.FromFn.{length-range_with_len}
use Rattle.std.proofs.lemmas.Option.{slice_get_within, slice_get_read, get_or_from_slice_get}
use Rattle.problem_model.specs.Limits.{most_events}
use Rattle.decl.specs.Declaration.{declaration_of}
use Rattle.traces.specs.declared.event.Event.{Event}
use Rattle.roster.specs.Groups.{total, sizes_of}
use Rattle.roster.specs.Readings.{Rise, stamps_of}
use Rattle.roster.specs.Roster.{RosterLists, IsGrown}
use Rattle.roster.proofs.Pushing.{clock_inside}
use Rattle.roster.proofs.Pushed.{label_few, clock_few, push_is, push_grown}
use Rattle.roster.proofs.roster.Roster.push.Goals as goal

pub group-requires : goal.group-requires
group-requires c =
    let d = declaration_of c.self.inside.decl in
    let asked = subst (λ (r : RosterLists). c.args.label < length r.declaration.labels) (sym c.self.view_is) c.requires.label in
    let l = slice_get_read d.labels (length d.labels) c.args.label c.index.result.now refl asked c.index.ensures in
    let inside : c.index.result.now.clock < length d.clocks = clock_inside d c.index.result.now c.args.label c.self.invariant.declared l in
    let many = c.self.invariant.clocks in
    omega (arith, inside, many)

pub change_of-requires : goal.change_of-requires
change_of-requires c = subst Rise (get_or_from_slice_get c.self.inside.readings c.index.result.now.clock c.group.result.now [] c.group.ensures) (c.self.invariant.on_clocks.rise c.index.result.now.clock)

pub put_both-requires-clause-clock : goal.put_both-requires-clause-clock
put_both-requires-clause-clock c = slice_get_within c.self.inside.readings c.index.result.now.clock c.group.result.now c.group.ensures

pub put_both-requires-clause-few_under : goal.put_both-requires-clause-few_under
put_both-requires-clause-few_under c =
    let few : length c.self.inside.came.items + length c.args.events.now ≤ most_events = subst (λ (r : RosterLists). length r.came + length c.args.events.now ≤ most_events) (sym c.self.view_is) c.requires.few in
    let numbers : c.deref.result.now ≡ range_with_len c.len-first.result (length c.args.events.now) = c.deref.ensures.value ∙ c.in_ok-numbers.ensures in
    let long : length c.deref.result.now ≡ length c.args.events.now = ap length numbers ∙ length-range_with_len c.len-first.result (length c.args.events.now) in
    let count : total (sizes_of c.self.inside.under) ≡ length c.self.inside.came.items = c.self.invariant.count in
    omega (arith, few, long, count)

pub put_both-requires-clause-few_readings : goal.put_both-requires-clause-few_readings
put_both-requires-clause-few_readings c =
    let few : length c.self.inside.came.items + length c.args.events.now ≤ most_events = subst (λ (r : RosterLists). length r.came + length c.args.events.now ≤ most_events) (sym c.self.view_is) c.requires.few in
    let part : total (sizes_of c.self.inside.readings) + length c.group.result.now ≤ length c.self.inside.came.items + length c.self.inside.came.items =
    clock_few _ c.self.invariant c.index.result.now.clock c.group.result.now c.group.ensures in
    let tail : length c.in_ok-change.change.tail.items ≤ length c.group.result.now + length c.args.events.now = c.in_ok-change.ensures.few in
    omega (arith, few, part, tail)

pub overflow_cast-before : goal.overflow_cast-before
overflow_cast-before c =
    let part : length c.group-before.result.now ≤ length c.self.inside.came.items = label_few _ c.self.invariant c.args.label c.group-before.result.now c.group-before.ensures in
    let few : length c.self.inside.came.items ≤ most_events = c.self.invariant.few in
    let small : length c.group-before.result.now < 4294967296 = omega (arith, part, few) in
    search rules

pub overflow_add-before : goal.overflow_add-before
overflow_add-before c =
    let part : length c.group-before.result.now ≤ length c.self.inside.came.items = label_few _ c.self.invariant c.args.label c.group-before.result.now c.group-before.ensures in
    let few : length c.self.inside.came.items ≤ most_events = c.self.invariant.few in
    let small : length c.group-before.result.now + 1 < 4294967296 = omega (arith, part, few) in
    search rules

pub append_came-requires-clause-few : goal.append_came-requires-clause-few
append_came-requires-clause-few c =
    let part : length c.group-before.result.now ≤ length c.self.inside.came.items = label_few _ c.self.invariant c.args.label c.group-before.result.now c.group-before.ensures in
    let few : length c.self.inside.came.items + length c.args.events.now ≤ most_events = subst (λ (r : RosterLists). length r.came + length c.args.events.now ≤ most_events) (sym c.self.view_is) c.requires.few in
    omega (arith, part, few)

pub invariant_of-self-2 : goal.invariant_of-self-2
invariant_of-self-2 c =
    let d = declaration_of c.self.inside.decl in
    let asked = subst (λ (r : RosterLists). c.args.label < length r.declaration.labels) (sym c.self.view_is) c.requires.label in
    let l = slice_get_read d.labels (length d.labels) c.args.label c.index.result.now refl asked c.index.ensures in
    let few : length c.self.inside.came.items + length c.args.events.now ≤ most_events = subst (λ (r : RosterLists). length r.came + length c.args.events.now ≤ most_events) (sym c.self.view_is) c.requires.few in
    let many : length (stamps_of c.args.events.now) ≡ length c.args.events.now = length-map c.args.events.now (λ (e : Event). e.stamp) in
    let first : c.len-first.result ≡ length c.self.inside.came.items = search rules in
    let numbers : c.deref.result.now ≡ range_with_len (length c.self.inside.came.items) (length (stamps_of c.args.events.now)) =
    c.deref.ensures.value ∙ c.in_ok-numbers.ensures ∙ ap (λ (n : ℕ). range_with_len n (length c.args.events.now)) first ∙ ap (range_with_len (length c.self.inside.came.items)) (sym many) in
    push_is _ c.self.invariant c.args.label c.in_ok-change.change.from c.index.result.now (stamps_of c.args.events.now) c.group-before.result.now c.deref.result.now c.group.result.now c.in_ok-change.change.tail.items
    c.append_came.new.came.items c.reserve.new.self.items c.put_both.new.under c.put_both.new.readings l c.group-before.ensures c.group.ensures numbers c.in_ok-change.ensures.joins (omega (arith, few, many))
    c.in_ok-reserve.ensures.items c.append_came.ensures c.in_ok-put_both.ensures.under_ok c.in_ok-put_both.ensures.readings_ok

pub returns-clause-grown : goal.returns-clause-grown
returns-clause-grown c =
    let r : RosterLists = record { declaration = declaration_of c.self.inside.decl; came = c.self.inside.came.items; under = c.self.inside.under; readings = c.self.inside.readings } in
    let after : RosterLists = record { declaration = declaration_of c.self.inside.decl; came = c.append_came.new.came.items; under = c.put_both.new.under; readings = c.put_both.new.readings } in
    let d = declaration_of c.self.inside.decl in
    let asked = subst (λ (r : RosterLists). c.args.label < length r.declaration.labels) (sym c.self.view_is) c.requires.label in
    let l = slice_get_read d.labels (length d.labels) c.args.label c.index.result.now refl asked c.index.ensures in
    let few : length c.self.inside.came.items + length c.args.events.now ≤ most_events = subst (λ (r : RosterLists). length r.came + length c.args.events.now ≤ most_events) (sym c.self.view_is) c.requires.few in
    let many : length (stamps_of c.args.events.now) ≡ length c.args.events.now = length-map c.args.events.now (λ (e : Event). e.stamp) in
    let first : c.len-first.result ≡ length c.self.inside.came.items = search rules in
    let numbers : c.deref.result.now ≡ range_with_len (length c.self.inside.came.items) (length (stamps_of c.args.events.now)) =
    c.deref.ensures.value ∙ c.in_ok-numbers.ensures ∙ ap (λ (n : ℕ). range_with_len n (length c.args.events.now)) first ∙ ap (range_with_len (length c.self.inside.came.items)) (sym many) in
    subst (λ (x : RosterLists). IsGrown x after c.args.label (stamps_of c.args.events.now)) c.self.view_is
    (push_grown r c.self.invariant c.args.label c.in_ok-change.change.from c.index.result.now (stamps_of c.args.events.now) c.group-before.result.now c.deref.result.now c.group.result.now c.in_ok-change.change.tail.items
    c.append_came.new.came.items c.reserve.new.self.items c.put_both.new.under c.put_both.new.readings l c.group-before.ensures c.group.ensures numbers c.in_ok-change.ensures.joins (omega (arith, few, many))
    c.in_ok-reserve.ensures.items c.append_came.ensures c.in_ok-put_both.ensures.under_ok c.in_ok-put_both.ensures.readings_ok)
