use Rattle.std.proofs.Common.{List, refl, subst}
use Rattle.mergecap.specs.declared.stored.Stored.{Stored}
use Rattle.mergecap.specs.MergedCapture.{merged_capture}
use Rattle.problem_commands.specs.Printing.{IsOnlyText, Prints}
use Rattle.problem_commands.specs.declared.status.Status.TheVariants as statuses
use Rattle.decl.specs.Declaration.{declaration_of}
use Rattle.merge_script.specs.Turns.{reads}
use Rattle.mergecap.specs.Packets.{all_timed}
use Rattle.mergecap.specs.Reading.{IsReadBack}
use Rattle.commands.proofs.MergedScripts.{merged_printed, unmerged_printed, undeclared_printed, noted_at, noted_since, quiet_at, unmerged_other, undeclared_other}
use Rattle.commands.proofs.merged.mergecap.Goals as goal

pub returns-in-Err-clause-merged : goal.returns-in-Err-clause-merged
returns-in-Err-clause-merged g c =
    undeclared_printed c.args.file.now.path.now (g.F.Files.told c.args.files.now) (g.F.Files.told c.decl_in.new.files) (g.I.Source.told c.args.input.now) (g.O.Sink.told c.args.out.now) (g.O.Sink.told c.refuse.new.out)
    c.refuse.result c.in-Err.undeclared c.in-Err.ensures.err c.refuse.ensures

pub returns-in-Ok-merge_script-clause-merged : goal.returns-in-Ok-merge_script-clause-merged
returns-in-Ok-merge_script-clause-merged g c =
    merged_printed (declaration_of c.in-Ok.decl) (g.F.Files.told c.args.files.now) (g.F.Files.told c.decl_in.new.files) (g.F.Files.told c.merge_script.new.files)
    (g.I.Source.told c.args.input.now) (g.I.Source.told c.merge_script.new.input) c.in-Ok.ensures.keeps c.args.file.now.path.now c.in-Ok.ensures.ok (g.O.Sink.told c.args.out.now) (g.O.Sink.told c.print.new.out)
    c.print.result (all_timed c.in-Ok-merge_script.ordered.items) c.in-Ok-merge_script.ensures.ok c.in-Ok-merge_script.ensures.writable c.in-Ok-merge_script.ensures.short
    (subst (λ (xs : List Stored). IsReadBack (all_timed xs)) c.deref.ensures.value c.print.ensures.read_back)
    (subst (λ (xs : List Stored). Prints (IsOnlyText (merged_capture (all_timed xs)) statuses.Done) (g.O.Sink.told c.args.out.now) (g.O.Sink.told c.print.new.out) c.print.result) c.deref.ensures.value c.print.ensures.prints)

pub returns-in-Err-merge_script-clause-merged : goal.returns-in-Err-merge_script-clause-merged
returns-in-Err-merge_script-clause-merged g c =
    unmerged_printed (declaration_of c.in-Ok.decl) (g.F.Files.told c.args.files.now) (g.F.Files.told c.decl_in.new.files) (g.F.Files.told c.merge_script.new.files)
    (g.I.Source.told c.args.input.now) (g.I.Source.told c.merge_script.new.input) c.in-Ok.ensures.keeps c.args.file.now.path.now c.in-Ok.ensures.ok (g.O.Sink.told c.args.out.now) (g.O.Sink.told c.tell.new.out)
    c.tell.result c.in-Err-merge_script.why c.in-Err-merge_script.ensures.err c.tell.ensures

pub returns-in-Err-clause-noted : goal.returns-in-Err-clause-noted
returns-in-Err-clause-noted g c =
    let input = g.I.Source.told c.args.input.now in
    let notes = g.N.Sink.told c.args.notes.now in
    quiet_at c.args.file.now.path.now (reads (g.F.Files.told c.args.files.now) input) (reads (g.F.Files.told c.decl_in.new.files) input) notes notes c.refuse.result
    (undeclared_other c.in-Err.undeclared (g.O.Sink.told c.args.out.now) (g.O.Sink.told c.refuse.new.out) c.refuse.result c.refuse.ensures) refl

pub returns-in-Ok-merge_script-clause-noted : goal.returns-in-Ok-merge_script-clause-noted
returns-in-Ok-merge_script-clause-noted g c =
    let d = declaration_of c.in-Ok.decl in
    let files = g.F.Files.told c.args.files.now in
    let begun = g.F.Files.told c.decl_in.new.files in
    let after = g.F.Files.told c.merge_script.new.files in
    let input = g.I.Source.told c.args.input.now in
    let input' = g.I.Source.told c.merge_script.new.input in
    let notes = g.N.Sink.told c.args.notes.now in
    let notes' = g.N.Sink.told c.merge_script.new.notes in
    noted_at c.args.file.now.path.now (reads files input) (reads after input') notes notes' c.print.result c.print.ensures.only
    (d, c.in-Ok.ensures.ok, noted_since d files begun after input input' c.in-Ok.ensures.keeps notes notes' c.in-Ok-merge_script.ensures.noted)

pub returns-in-Err-merge_script-clause-noted : goal.returns-in-Err-merge_script-clause-noted
returns-in-Err-merge_script-clause-noted g c =
    quiet_at c.args.file.now.path.now (reads (g.F.Files.told c.args.files.now) (g.I.Source.told c.args.input.now)) (reads (g.F.Files.told c.merge_script.new.files) (g.I.Source.told c.merge_script.new.input))
    (g.N.Sink.told c.args.notes.now) (g.N.Sink.told c.merge_script.new.notes) c.tell.result
    (unmerged_other c.in-Err-merge_script.why (g.O.Sink.told c.args.out.now) (g.O.Sink.told c.tell.new.out) c.tell.result c.tell.ensures) c.in-Err-merge_script.ensures.quiet
