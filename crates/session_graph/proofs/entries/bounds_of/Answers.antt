use Rattle.std.proofs.Common.{◌≡◌, ◌<◌, length, slice_get, Some, refl, sym, ◌∙◌, ap, subst}
use Rattle.std.specs.Prelude.{option_and_then}
use Rattle.std.proofs.lemmas.Option.{slice_get_read}
use Rattle.decl.specs.declared.items.Label.{Label}
use Rattle.decl.specs.Declaration.{Declaration, declaration_of, has_own_bounds, own_bounds}
use Rattle.traces.specs.Messages.{bounds_of}
use Rattle.session_graph.proofs.entries.bounds_of.Goals as goal

pub own_bounds_if-requires : goal.own_bounds_if-requires
own_bounds_if-requires c = c.requires.given ∙ sym (ap has_own_bounds c.decl-decl.ensures.same)

pub returns : goal.returns
returns c = λ number.
    let d = declaration_of c.decl-decl.result.now in
    let l : Label = c.index.result.now in
    let same = c.decl-decl.ensures.same in
    let asked : c.args.label < length d.labels = subst (λ (x : Declaration). c.args.label < length x.labels) (sym same) c.requires.label in
    let at : slice_get d.labels c.args.label ≡ Some l = slice_get_read d.labels (length d.labels) c.args.label l refl asked c.index.ensures in
    ap (λ (x : Declaration). bounds_of x (record { label = c.args.label; number = number })) (sym same) ∙ ap (option_and_then (own_bounds d)) at ∙ sym c.own_bounds_if.ensures
