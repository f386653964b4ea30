use Rattle.std.proofs.Common.{◌≡◌, ◌<◌, List, length, get_or, slice_get, Some, ◌∙◌, sym, ap, subst, arith}
use Rattle.std.proofs.lemmas.List.{length-map}
use Rattle.problem_model.specs.declared.items.Clock.{Clock}
use Rattle.decl.specs.declared.items.Label.{Label}
use Rattle.decl.specs.Declaration.{Declaration, has_own_bounds, own_bounds}
use Rattle.roster.proofs.ListedPlaces.{own_label}
use Rattle.roster.proofs.Pushing.{clock_inside}
use Rattle.problem_text.proofs.LineTexts.{came_text}
use Rattle.problem_text.proofs.roster_lines.came_line.Goals as goal

pub clock_name-clock-requires : goal.clock_name-clock-requires
clock_name-clock-requires c =
    let r = c.args.roster.now in
    let e = c.event-came.result in
    let l : Label = c.index-label.result.now in
    let same = ap (λ (d : Declaration). d.labels) c.decl-decl.ensures.same in
    let own : slice_get r.declaration.labels e.label ≡ Some l = own_label r c.decl-decl.ensures.lawful c.args.v e c.event-came.ensures l (subst (λ (xs : List Label). l ≡ get_or xs e.label l) same c.index-label.ensures) in
    let inside : l.clock < length r.declaration.clocks = clock_inside r.declaration l e.label c.decl-decl.ensures.lawful.declared own in
    omega (arith, inside, length-map r.declaration.clocks (λ (x : Clock). x.name))

pub returns : goal.returns
returns c =
    let r = c.args.roster.now in
    let e = c.event-came.result in
    let l : Label = c.index-label.result.now in
    let same = ap (λ (d : Declaration). d.labels) c.decl-decl.ensures.same in
    let own : slice_get r.declaration.labels e.label ≡ Some l = own_label r c.decl-decl.ensures.lawful c.args.v e c.event-came.ensures l (subst (λ (xs : List Label). l ≡ get_or xs e.label l) same c.index-label.ensures) in
    c.event_line.ensures ∙ came_text r c.decl-decl.ensures.lawful c.args.v e l c.event_name-name.result c.clock_name-clock.result c.own_bounds_if-bounds.result c.event-came.ensures own (c.own_bounds_if-bounds.ensures ∙ ap (λ (d : Declaration). own_bounds d l) c.decl-decl.ensures.same) c.event_name-name.ensures c.clock_name-clock.ensures

pub own_bounds_if-bounds-requires : goal.own_bounds_if-bounds-requires
own_bounds_if-bounds-requires c = c.requires.own ∙ sym (ap has_own_bounds c.decl-decl.ensures.same)
