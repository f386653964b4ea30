use Rattle.std.proofs.Common.{List, ℕ, inl, inr, refl, sym, ap, subst}
use Rattle.ports.proofs.Writing.{writes_as}
use Rattle.decl.specs.Declaration.{Declaration, IsDeclaration}
use Rattle.pcapng_blocks.specs.File.{IsWritten, file_bytes}
use Rattle.merged_blocks.specs.Ready.{AreReady, IsFileReadBack, file_of}
use Rattle.problem_commands.specs.Printing.{IsOnlyText}
use Rattle.problem_commands.specs.declared.status.Status.TheVariants.{Done}
use Rattle.problem_commands.proofs.Printing.{written_prints, failed_prints}
use Rattle.commands.proofs.dated.print.Goals as goal

pub write_merged-requires-clause-declared : goal.write_merged-requires-clause-declared
write_merged-requires-clause-declared g c = subst IsDeclaration (sym c.decl.ensures) c.requires.declared

pub write_merged-requires-clause-ready : goal.write_merged-requires-clause-ready
write_merged-requires-clause-ready g c = subst (λ (d : Declaration). AreReady d c.args.merged.now) (sym c.decl.ensures) c.requires.ready

pub returns-in-Ok-clause-prints : goal.returns-in-Ok-clause-prints
returns-in-Ok-clause-prints g c =
    let x = c.args.merged.now in
    let text = file_bytes (file_of c.args.session.now.declaration x) in
    written_prints (IsOnlyText text Done) text Done _ _ (refl, refl)
    (writes_as (ap (λ (d : Declaration). file_bytes (file_of d x)) c.decl.ensures) c.in-Ok.ensures.writes)

pub returns-in-Err-clause-prints : goal.returns-in-Err-clause-prints
returns-in-Err-clause-prints g c =
    let x = c.args.merged.now in
    let text = file_bytes (file_of c.args.session.now.declaration x) in
    failed_prints (IsOnlyText text Done) text Done _ _ (refl, refl)
    (writes_as (ap (λ (d : Declaration). file_bytes (file_of d x)) c.decl.ensures) c.in-Err.ensures.writes)

pub returns-in-Ok-clause-only : goal.returns-in-Ok-clause-only
returns-in-Ok-clause-only g c = inl refl

pub returns-in-Err-clause-only : goal.returns-in-Err-clause-only
returns-in-Err-clause-only g c = inr refl

pub returns-in-Ok-clause-written : goal.returns-in-Ok-clause-written
returns-in-Ok-clause-written g c =
    let x = c.args.merged.now in
    subst (λ (d : Declaration). IsWritten (file_of d x)) c.decl.ensures c.in-Ok.ensures.written

pub returns-in-Err-clause-written : goal.returns-in-Err-clause-written
returns-in-Err-clause-written g c =
    let x = c.args.merged.now in
    subst (λ (d : Declaration). IsWritten (file_of d x)) c.decl.ensures c.in-Err.ensures.written

pub returns-in-Ok-clause-read_back : goal.returns-in-Ok-clause-read_back
returns-in-Ok-clause-read_back g c =
    let x = c.args.merged.now in
    subst (λ (d : Declaration). IsFileReadBack d x) c.decl.ensures c.in-Ok.ensures.read_back

pub returns-in-Err-clause-read_back : goal.returns-in-Err-clause-read_back
returns-in-Err-clause-read_back g c =
    let x = c.args.merged.now in
    subst (λ (d : Declaration). IsFileReadBack d x) c.decl.ensures c.in-Err.ensures.read_back
