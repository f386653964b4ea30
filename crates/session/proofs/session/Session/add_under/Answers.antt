use Rattle.std.proofs.Common.{refl}
use Rattle.captures.specs.Feeding.{seen_packets}
use Rattle.replies.specs.declared.refusal.Refusal.TheVariants.{UnreadFile}
use Rattle.replies.specs.declared.outcome.Outcome.TheVariants.{Refused}
use Rattle.replies.specs.Outcomes.{IsOutcomeLine}
use Rattle.session.specs.TakingInside.{KeepsFound}
use Rattle.session.proofs.AddedThere.{file_answered}
use Rattle.session.proofs.Additions.{adds_nothing}
use Rattle.session.proofs.Finding.{under_failed, under_absent}
use Rattle.session.proofs.session.Session.add_under.Goals as goal

pub returns-in-Ok-clause-answers : goal.returns-in-Ok-clause-answers
returns-in-Ok-clause-answers g c =
    file_answered c.add_piece.result c.args.self.now c.add_piece.new.self (g.F.Files.told c.args.files.now) (g.F.Files.told c.read_file.new.files) c.args.path.now _ _ c.args.k c.args.completed.now.keeps
    (seen_packets c.add_piece.new.completed.packets.items) c.in-Ok.ensures.keeps (rw c.deref.ensures.value c.in-Ok.ensures.read) c.add_piece.ensures.answers c.add_piece.ensures.packets

pub returns-in-Err-Absent-clause-answers : goal.returns-in-Err-Absent-clause-answers
returns-in-Err-Absent-clause-answers g c =
    let cause = rw c.in-Err-Absent.field-0-is at c.in-Err-Absent.ensures.cause in
    under_absent c.args.self.now (g.F.Files.told c.args.files.now) (g.F.Files.told c.read_file.new.files) c.args.path.now c.args.k
    (KeepsFound c.args.completed.now.keeps c.args.self.now c.args.k (seen_packets c.args.completed.now.packets.items) (Refused UnreadFile)) (IsOutcomeLine (Refused UnreadFile)) cause.0 c.in-Err-Absent.ensures.keeps cause.1 (λ is. tt) refl

pub returns-in-Err-Read-clause-answers : goal.returns-in-Err-Read-clause-answers
returns-in-Err-Read-clause-answers g c =
    let cause = rw c.in-Err-Read.field-0-is at c.in-Err-Read.ensures.cause in
    under_failed c.args.self.now (g.F.Files.told c.args.files.now) (g.F.Files.told c.read_file.new.files) c.args.path.now c.args.k
    (KeepsFound c.args.completed.now.keeps c.args.self.now c.args.k (seen_packets c.args.completed.now.packets.items) (Refused UnreadFile)) (IsOutcomeLine (Refused UnreadFile)) cause c.in-Err-Read.ensures.keeps (λ is. tt) refl

pub returns-in-Err-Absent-clause-addition : goal.returns-in-Err-Absent-clause-addition
returns-in-Err-Absent-clause-addition g c = adds_nothing _ c.args.self.now c.args.steps.now c.self.view_is c.self.invariant.0

pub returns-in-Err-Read-clause-addition : goal.returns-in-Err-Read-clause-addition
returns-in-Err-Read-clause-addition g c = adds_nothing _ c.args.self.now c.args.steps.now c.self.view_is c.self.invariant.0

pub returns-in-Err-Memory-clause-addition : goal.returns-in-Err-Memory-clause-addition
returns-in-Err-Memory-clause-addition g c = adds_nothing _ c.args.self.now c.args.steps.now c.self.view_is c.self.invariant.0
