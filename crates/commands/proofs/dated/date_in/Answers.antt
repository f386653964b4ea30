use Rattle.std.proofs.Common.{ℕ, List, inl, inr, refl, subst, sym}
use Rattle.std.specs.Prelude.{option_map}
use Rattle.std.specs.Borrow.{Bor}
use Rattle.decl.specs.Declaration.{Declaration, IsDeclaration}
use Rattle.pcapng_blocks.specs.File.{IsWritten, file_bytes}
use Rattle.merged_blocks.specs.Ready.{AreReady, IsFileReadBack, file_of}
use Rattle.merge_script.specs.Turns.{reads}
use Rattle.problem_commands.specs.Printing.{IsOnlyText, Prints}
use Rattle.problem_commands.specs.declared.status.Status.TheVariants.{Done}
use Rattle.commands.proofs.DatedScripts.{file_printed, none_printed}
use Rattle.commands.proofs.MergedScripts.{unmerged_other}
use Rattle.commands.proofs.dated.date_in.Goals as goal

pub print-requires-clause-declared : goal.print-requires-clause-declared
print-requires-clause-declared g c = subst IsDeclaration (sym c.in-Ok.ensures.declared) c.requires.declared

pub print-requires-clause-ready : goal.print-requires-clause-ready
print-requires-clause-ready g c = subst (λ (d : Declaration). AreReady d c.in-Ok.merged) (sym c.in-Ok.ensures.declared) c.in-Ok.ensures.able

pub returns-in-Ok-clause-dated : goal.returns-in-Ok-clause-dated
returns-in-Ok-clause-dated g c =
    let x = c.in-Ok.merged in
    let same = c.in-Ok.ensures.declared in
    file_printed c.args.session.now.declaration (option_map (λ (event : Bor (List ℕ)). event.now) c.args.since) (reads (g.F.Files.told c.args.files.now) (g.I.Source.told c.args.input.now))
    (reads (g.F.Files.told c.date_script.new.files) (g.I.Source.told c.date_script.new.input)) (g.O.Sink.told c.args.out.now) (g.O.Sink.told c.print.new.out) c.print.result x c.in-Ok.ensures.ok c.in-Ok.ensures.able
    (subst (λ (d : Declaration). IsWritten (file_of d x)) same c.print.ensures.written) (subst (λ (d : Declaration). IsFileReadBack d x) same c.print.ensures.read_back)
    (subst (λ (d : Declaration). Prints (IsOnlyText (file_bytes (file_of d x)) Done) (g.O.Sink.told c.args.out.now) (g.O.Sink.told c.print.new.out) c.print.result) same c.print.ensures.prints)

pub returns-in-Err-clause-dated : goal.returns-in-Err-clause-dated
returns-in-Err-clause-dated g c =
    none_printed c.args.session.now.declaration (option_map (λ (event : Bor (List ℕ)). event.now) c.args.since) (reads (g.F.Files.told c.args.files.now) (g.I.Source.told c.args.input.now))
    (reads (g.F.Files.told c.date_script.new.files) (g.I.Source.told c.date_script.new.input)) (g.O.Sink.told c.args.out.now) (g.O.Sink.told c.tell.new.out) c.tell.result c.in-Err.why c.in-Err.ensures.err c.tell.ensures

pub returns-in-Ok-clause-noted : goal.returns-in-Ok-clause-noted
returns-in-Ok-clause-noted g c = inl (c.print.ensures.only, c.in-Ok.ensures.noted)

pub returns-in-Err-clause-noted : goal.returns-in-Err-clause-noted
returns-in-Err-clause-noted g c = inr (unmerged_other c.in-Err.why (g.O.Sink.told c.args.out.now) (g.O.Sink.told c.tell.new.out) c.tell.result c.tell.ensures, c.in-Err.ensures.quiet)
