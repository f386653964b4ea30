use Rattle.std.proofs.Common.{◌≡◌, List, ap, sym, subst, ◌∙◌}
use Rattle.decl.specs.Declaration.{Declaration}
use Rattle.session.specs.Stands.{Under}
use Rattle.merge_script.specs.Notes.{IsToldNote, notes_held}
use Rattle.merge_script.proofs.dated.merge_noted.Goals as goal

pub returns-in-Ok-clause-noted : goal.returns-in-Ok-clause-noted
returns-in-Ok-clause-noted g c =
    let before = g.N.Sink.told c.args.notes.now in
    let after = g.N.Sink.told c.tell_notes.new.notes in
    let h = c.merge_dated.new.session in
    subst (λ (d : Declaration). IsToldNote (notes_held d.labels c.args.session.now.under) before after) c.merge_dated.ensures.declared
    (subst (λ (under : List Under). IsToldNote (notes_held h.declaration.labels under) before after) c.merge_dated.ensures.held c.tell_notes.ensures)
