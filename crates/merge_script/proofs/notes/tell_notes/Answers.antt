use Rattle.std.proofs.Common.{◌≡◌, ◌∙◌, List, ap, map}
use Rattle.ports.proofs.Writing.{writes_as}
use Rattle.decl.specs.declared.items.Label.{Label}
use Rattle.decl.specs.Declaration.{Declaration}
use Rattle.session.specs.Stands.{Under, under_of}
use Rattle.merge_script.specs.Notes.{notes_held}
use Rattle.merge_script.proofs.Noted.{told_so}
use Rattle.merge_script.proofs.notes.tell_notes.Goals as goal

pub returns : goal.returns
returns g c =
    let h = c.args.session.now in
    let labels : c.deref.result.now ≡ h.declaration.labels = c.deref.ensures.value ∙ ap (λ (d : Declaration). d.labels) c.decl.ensures in
    let same : notes_held c.deref.result.now (map under_of c.under.result.now) ≡ notes_held h.declaration.labels h.under =
    ap (λ (ls : List Label). notes_held ls (map under_of c.under.result.now)) labels ∙ ap (λ (us : List Under). notes_held h.declaration.labels us) c.under.ensures.held in
    told_so c.write_all.result (notes_held h.declaration.labels h.under) (g.N.Sink.told c.args.notes.now) (g.N.Sink.told c.write_all.new.notes) (writes_as same c.write_all.ensures)
