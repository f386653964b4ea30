use Rattle.std.proofs.Common.{◌≡◌, ◌∙◌, ℕ, List}
use Rattle.std.specs.Prelude.{option_map}
use Rattle.std.specs.Borrow.{Bor}
use Rattle.mergecap.specs.Packets.{all_timed}
use Rattle.session.specs.Script.{Devices}
use Rattle.merge_script.specs.Notes.{AreNoted, IsToldNote, notes_held}
use Rattle.merge_script.specs.Turns.{reads}
use Rattle.merge_script.proofs.Counted.{so_on_ok}
use Rattle.merge_script.proofs.Noted.{noted_all, on_ok}
use Rattle.merge_script.proofs.DatedMerges.{dated_by, dates_not, ready_by}
use Rattle.merge_script.proofs.dated.date_script.Goals as goal

pub returns-clause-ok : goal.returns-clause-ok
returns-clause-ok g c =
    let d = c.args.session.now.declaration in
    let old : Devices = reads (g.F.Files.told c.args.files.now) (g.I.Source.told c.args.input.now) in
    let new : Devices = reads (g.F.Files.told c.gather.new.files) (g.I.Source.told c.gather.new.input) in
    dated_by d old new c.gather.new.session (all_timed c.gather.new.kept.packets.items) c.in_ok-gather.ensures.ok (option_map (λ (event : Bor (List ℕ)). event.now) c.args.name) c.merge_noted.result c.merge_noted.ensures.ok

pub returns-clause-able : goal.returns-clause-able
returns-clause-able g c =
    let d = c.args.session.now.declaration in
    let old : Devices = reads (g.F.Files.told c.args.files.now) (g.I.Source.told c.args.input.now) in
    let new : Devices = reads (g.F.Files.told c.gather.new.files) (g.I.Source.told c.gather.new.input) in
    ready_by d old new c.gather.new.session (all_timed c.gather.new.kept.packets.items) c.in_ok-gather.ensures.ok c.merge_noted.result c.merge_noted.ensures.able

pub returns-clause-noted : goal.returns-clause-noted
returns-clause-noted g c =
    let d = c.args.session.now.declaration in
    let h = c.gather.new.session in
    let old : Devices = reads (g.F.Files.told c.args.files.now) (g.I.Source.told c.args.input.now) in
    let new : Devices = reads (g.F.Files.told c.gather.new.files) (g.I.Source.told c.gather.new.input) in
    let before = g.N.Sink.told c.args.notes.now in
    let after = g.N.Sink.told c.merge_noted.new.notes in
    on_ok c.merge_noted.result (IsToldNote (notes_held h.declaration.labels h.under) before after) (AreNoted d old new before after)
    (noted_all d old new h (all_timed c.gather.new.kept.packets.items) before after c.in_ok-gather.ensures.ok) c.merge_noted.ensures.noted

pub returns-clause-err : goal.returns-clause-err
returns-clause-err g c =
    let d = c.args.session.now.declaration in
    let old : Devices = reads (g.F.Files.told c.args.files.now) (g.I.Source.told c.args.input.now) in
    let new : Devices = reads (g.F.Files.told c.gather.new.files) (g.I.Source.told c.gather.new.input) in
    dates_not d old new c.gather.new.session (all_timed c.gather.new.kept.packets.items) c.in_ok-gather.ensures.ok (option_map (λ (event : Bor (List ℕ)). event.now) c.args.name) c.merge_noted.result c.merge_noted.ensures.err

pub returns-clause-declared : goal.returns-clause-declared
returns-clause-declared g c =
    so_on_ok c.merge_noted.result (c.merge_noted.new.session.declaration ≡ c.args.session.now.declaration) (c.merge_noted.ensures.declared ∙ c.in_ok-gather.ensures.ok.declared)
