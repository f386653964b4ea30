use Rattle.std.proofs.Common.{◌≡◌, ℕ, List, [], Option, Some, ap, subst}
use Rattle.ports.specs.Memory.{SinkState}
use Rattle.ports.specs.Lines.{lines_of}
use Rattle.trial_session.specs.Logs.{logs_told}
use Rattle.trial_session.specs.Answering.{AnswersLines}
use Rattle.trial_session.proofs.outcome.replies_to.Goals as goal

pub returns : goal.returns
returns g c =
    let empty : Some c.in_ok-replies.replies.held ≡ Some [] = ap (λ (s : SinkState). Some s.held) c.in_ok-replies.ensures in
    let answered = c.in_ok-answer_lines.ensures in
    record {
      answers = λ d s stands. subst (λ (before : Option (List ℕ)). AnswersLines d s (lines_of c.args.lines.now) c.answer_lines.new.session (logs_told c.args.files.now) (logs_told c.answer_lines.new.files) before (Some c.answer_lines.new.replies.held))
          empty (answered.answers d s stands);
      ready = answered.ready;
    }
