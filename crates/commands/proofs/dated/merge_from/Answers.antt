use Rattle.std.proofs.Common.{◌≡◌, ◌⊎◌, ℕ, List, refl, subst}
use Rattle.std.specs.Prelude.{option_map}
use Rattle.std.specs.Borrow.{Bor}
use Rattle.decl.specs.Declaration.{Declaration, declaration_of}
use Rattle.merge_script.specs.Turns.{reads}
use Rattle.merge_script.specs.Notes.{AreNoted}
use Rattle.problem_commands.specs.Printing.{Prints}
use Rattle.problem_commands.specs.declared.status.Status.TheVariants as statuses
use Rattle.commands.specs.DatedCapture.{DatedOver}
use Rattle.commands.proofs.DatedScripts.{dated_noted, dated_printed, undeclared_dated}
use Rattle.commands.proofs.MergedScripts.{quiet_at, undeclared_other}
use Rattle.commands.proofs.dated.merge_from.Goals as goal

pub returns-in-Err-clause-dated : goal.returns-in-Err-clause-dated
returns-in-Err-clause-dated g c =
    undeclared_dated c.args.file.now.path.now (option_map (λ (event : Bor (List ℕ)). event.now) c.args.since) (g.F.Files.told c.args.files.now) (g.F.Files.told c.decl_in.new.files) (g.I.Source.told c.args.input.now) (g.O.Sink.told c.args.out.now) (g.O.Sink.told c.refuse.new.out)
    c.refuse.result c.in-Err.undeclared c.in-Err.ensures.err c.refuse.ensures

pub returns-in-Err-clause-noted : goal.returns-in-Err-clause-noted
returns-in-Err-clause-noted g c =
    let input = g.I.Source.told c.args.input.now in
    let notes = g.N.Sink.told c.args.notes.now in
    quiet_at c.args.file.now.path.now (reads (g.F.Files.told c.args.files.now) input) (reads (g.F.Files.told c.decl_in.new.files) input) notes notes c.refuse.result
    (undeclared_other c.in-Err.undeclared (g.O.Sink.told c.args.out.now) (g.O.Sink.told c.refuse.new.out) c.refuse.result c.refuse.ensures) refl

pub returns-in-Ok-new-clause-dated : goal.returns-in-Ok-new-clause-dated
returns-in-Ok-new-clause-dated g c =
    let input = g.I.Source.told c.args.input.now in
    let input' = g.I.Source.told c.date_in.new.input in
    let out = g.O.Sink.told c.args.out.now in
    let out' = g.O.Sink.told c.date_in.new.out in
    let begun = g.F.Files.told c.decl_in.new.files in
    let after = g.F.Files.told c.date_in.new.files in
    dated_printed (declaration_of c.in-Ok.decl) (g.F.Files.told c.args.files.now) begun after input input' c.in-Ok.ensures.keeps c.args.file.now.path.now c.in-Ok.ensures.ok
    (option_map (λ (event : Bor (List ℕ)). event.now) c.args.since) out out' c.date_in.result
    (subst (λ (d : Declaration). Prints (DatedOver d (option_map (λ (event : Bor (List ℕ)). event.now) c.args.since) (reads begun input) (reads after input')) out out' c.date_in.result) c.in-Ok-new.ensures.stands.declaration c.date_in.ensures.dated)

pub returns-in-Ok-new-clause-noted : goal.returns-in-Ok-new-clause-noted
returns-in-Ok-new-clause-noted g c =
    let input = g.I.Source.told c.args.input.now in
    let input' = g.I.Source.told c.date_in.new.input in
    let notes = g.N.Sink.told c.args.notes.now in
    let notes' = g.N.Sink.told c.date_in.new.notes in
    let begun = g.F.Files.told c.decl_in.new.files in
    let after = g.F.Files.told c.date_in.new.files in
    dated_noted (declaration_of c.in-Ok.decl) (g.F.Files.told c.args.files.now) begun after input input' c.in-Ok.ensures.keeps c.args.file.now.path.now c.in-Ok.ensures.ok notes notes' c.date_in.result
    (subst (λ (d : Declaration). (((c.date_in.result ≡ statuses.Done) ⊎ (c.date_in.result ≡ statuses.WriteFault)) × AreNoted d (reads begun input) (reads after input') notes notes') ⊎ ((c.date_in.result ≡ statuses.Done → ⊥) × (notes' ≡ notes)))
    c.in-Ok-new.ensures.stands.declaration c.date_in.ensures.noted)
