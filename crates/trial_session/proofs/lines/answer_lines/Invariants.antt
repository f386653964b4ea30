use Rattle.std.proofs.Common.{length}
use Rattle.ports.specs.Files.{FilesTold, Keeps}
use Rattle.decl.specs.Declaration.{Declaration}
use Rattle.replies.specs.Reply.{State}
use Rattle.session.specs.Stands.{StandsFor, IsReady}
use Rattle.trial_session.proofs.Going.{IsOver}
use Rattle.trial_session.proofs.lines.answer_lines.Given as goal

abbrev pub invariant-loop-rest : goal.invariant-loop-rest
invariant-loop-rest g l =
    let old : FilesTold = g.F.Files.told l.fn.files in
    let now : FilesTold = g.F.Files.told l.files in
    record {
      over : (d : Declaration) (s : State) → StandsFor l.fn.session d s → IsOver d s l.fn.lines l.rest l.session old now (g.O.Sink.told l.fn.replies).written (g.O.Sink.told l.replies).written;
      ready : IsReady l.session;
      keeps : Keeps old now;
    }

abbrev pub decreases-loop-rest : goal.decreases-loop-rest
decreases-loop-rest g l = length l.rest
