use Rattle.std.proofs.Common.{◌≡◌, inl, refl, subst, ◌∙◌, arith}
use Rattle.ports.specs.Content.{SinkTold}
use Rattle.ports.specs.Gathered.{with_held}
use Rattle.session.specs.Script.{devices}
use Rattle.commands.specs.Runs.{RunsSo}
use Rattle.commands.proofs.Wholes.{whole_same, passes_on}
use Rattle.commands.proofs.whole.run_to_end.Goals as goal

pub returns-then-is_session : goal.returns-then-is_session
returns-then-is_session g c = record {
  printed = g.O.Sink.told c.run-status.new.out;
  status = c.run-status.result;
  runs = record {
    answers = c.run-status.ensures.answers;
    notes = c.run-status.ensures.notes;
    files = c.run-status.ensures.files;
    unread = c.run-status.ensures.unread;
    input = c.run-status.ensures.input;
    complete = c.run-status.ensures.complete;
  };
  ends = record { ends = inl (refl, whole_same (g.O.Sink.told c.run-status.new.out).written); no_fall = omega arith };
}

pub returns : goal.returns
returns g c =
    let before = g.F.Files.told c.args.files.now in
    let after = g.F.Files.told c.run-status-2.new.files in
    let gathered = with_held (g.O.Sink.told c.new-gathering.result.below) c.new-gathering.result.held in
    let printed = with_held (g.O.Sink.told c.run-status-2.new.out.below) c.run-status-2.new.out.held in
    let new = devices after (g.I.Source.told c.run-status-2.new.input) printed in
    let noted = g.N.Sink.told c.args.notes.now in
    let noted' = g.N.Sink.told c.run-status-2.new.notes in
    let all : RunsSo c.args.words.now (devices before (g.I.Source.told c.args.input.now) gathered) new noted noted' c.run-status-2.result = record {
      answers = c.run-status-2.ensures.answers;
      notes = c.run-status-2.ensures.notes;
      files = c.run-status-2.ensures.files;
      unread = c.run-status-2.ensures.unread;
      input = c.run-status-2.ensures.input;
      complete = c.run-status-2.ensures.complete;
    } in
    record {
      printed = printed;
      status = c.run-status-2.result;
      runs = subst (λ (t : SinkTold). RunsSo c.args.words.now (devices before (g.I.Source.told c.args.input.now) t) new noted noted' c.run-status-2.result) c.new-gathering.ensures.told all;
      ends = passes_on (g.O.Sink.told c.run-status-2.new.out.below) (g.O.Sink.told c.finish-below.result.0) c.run-status-2.new.out.held c.finish-below.result.1
          c.run-status-2.result c.ended.result c.finish-below.ensures
          (λ passed. c.ended.ensures.passed (c.is_ok.ensures.value ∙ passed)) (λ lost. c.ended.ensures.lost (c.is_ok.ensures.value ∙ lost));
    }
