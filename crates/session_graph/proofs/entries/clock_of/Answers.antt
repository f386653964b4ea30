use Rattle.std.proofs.Common.{◌<◌, length, refl, sym, subst}
use Rattle.std.proofs.lemmas.Option.{slice_get_read}
use Rattle.decl.specs.Declaration.{Declaration, IsDeclaration, declaration_of}
use Rattle.roster.proofs.Pushing.{clock_inside}
use Rattle.session_graph.proofs.entries.clock_of.Goals as goal

pub returns-clause-inside : goal.returns-clause-inside
returns-clause-inside c =
    let d = declaration_of c.decl.result.now in
    let same = c.decl.ensures.same in
    let asked : c.args.label < length d.labels = subst (λ (x : Declaration). c.args.label < length x.labels) (sym same) c.requires in
    let at = slice_get_read d.labels (length d.labels) c.args.label c.index.result.now refl asked c.index.ensures in
    let inside : c.index.result.now.clock < length d.clocks = clock_inside d c.index.result.now c.args.label (subst IsDeclaration (sym same) c.decl.ensures.lawful.declared) at in
    subst (λ (x : Declaration). c.index.result.now.clock < length x.clocks) same inside
