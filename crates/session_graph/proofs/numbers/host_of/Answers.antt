use Rattle.std.proofs.Common.{◌≡◌, ◌<◌, length, refl, sym, ap, ◌∙◌, subst, arith}
use Rattle.std.proofs.lemmas.Option.{slice_get_read, get_or_from_slice_get}
use Rattle.decl.specs.Declaration.{Declaration, declaration_of}
use Rattle.traces.specs.Traces.{host_of, host_by}
use Rattle.roster.specs.declared.came.Came.{Came}
use Rattle.roster.specs.Roster.{id_of, no_event, event_at}
use Rattle.session_graph.proofs.Naming.{label_inside}
use Rattle.session_graph.proofs.numbers.host_of.Goals as goal

pub index-requires : goal.index-requires
index-requires c =
    let labels = c.decl.result.now.labels in
    let inside : c.event-came.result.label < length labels.items =
    subst (λ (d : Declaration). c.event-came.result.label < length d.labels) (sym c.decl.ensures.same) (label_inside c.args.roster.now c.decl.ensures.lawful c.args.v c.event-came.result c.event-came.ensures) in
    let size = labels.ok.0 in
    omega (arith, size, inside)

pub returns : goal.returns
returns c =
    let e : Came = c.event-came.result in
    let r = c.args.roster.now in
    let d : Declaration = declaration_of c.decl.result.now in
    let same = c.decl.ensures.same in
    let event : event_at r.came c.args.v ≡ e = get_or_from_slice_get r.came c.args.v e no_event c.event-came.ensures in
    let asked : e.label < length d.labels = subst (λ (x : Declaration). e.label < length x.labels) (sym same) (label_inside r c.decl.ensures.lawful c.args.v e c.event-came.ensures) in
    let at = slice_get_read d.labels (length d.labels) e.label c.index.result.now refl asked c.index.ensures in
    sym (ap (λ (x : Declaration). host_of x (id_of (event_at r.came c.args.v))) (sym same) ∙ ap (λ (x : Came). host_of d (id_of x)) event ∙ ap host_by at)
