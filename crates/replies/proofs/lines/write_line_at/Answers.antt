use Rattle.std.proofs.Common.{◌≡◌, ◌<◌, ℤ, length, slice_get, Some, sym, ◌∙◌, ap, to_z, of_z}
use Rattle.std.proofs.lemmas.Int.{to_z-of_z}
use mir.Syntax.{w128}
use Rattle.problem_model.specs.declared.items.Node.TheVariants as nodes
use Rattle.problem_model.specs.Bounds.{Times}
use Rattle.ports.proofs.Writing.{writes_as}
use Rattle.decl.specs.Declaration.{Declaration, declaration_of}
use Rattle.traces.specs.Traces.{Placed, name_of}
use Rattle.traces.specs.Held.{placed_in, placed_of}
use Rattle.traces.proofs.Places.{placed_at}
use Rattle.traces.proofs.Lists.{all_at}
use Rattle.report.specs.Merging.{merge_line}
use Rattle.replies.specs.Merged.{line_if}
use Rattle.replies.specs.Writing.{times_by}
use Rattle.replies.proofs.lines.write_line_at.Goals as goal

pub write_event-requires-clause-label : goal.write_event-requires-clause-label
write_event-requires-clause-label g c =
    let d : Declaration = declaration_of c.args.decl.now in
    let at = placed_at c.args.events.now c.args.place c.index-events-place.result c.requires.inside c.index-events-place.is in
    all_at (λ (e : Placed). e.id.label < length d.labels) (placed_in c.args.events.now) c.args.place (placed_of c.index-events-place.result) c.requires.events.labels at

pub returns : goal.returns
returns g c =
    let d : Declaration = declaration_of c.args.decl.now in
    let x : Times = times_by (g.N.Listing.listed c.args.names.now) c.args.e.now.values in
    let at : slice_get (placed_in c.args.events.now) c.args.place ≡ Some (placed_of c.index-events-place.result) = placed_at c.args.events.now c.args.place c.index-events-place.result c.requires.inside c.index-events-place.is in
    let value : to_z w128 (of_z w128 c.value_at-value.result) ≡ x (nodes.Event c.args.place) = to_z-of_z w128 c.value_at-value.result (record { sfits = c.value_at-value.type_inv }) ∙ c.value_at-value.ensures in
    writes_as (ap (λ (v : ℤ). merge_line v (name_of d c.index-events-place.result.id) (placed_of c.index-events-place.result).seen.text) value ∙ ap (line_if d x c.args.place) (sym at)) c.write_event.ensures
