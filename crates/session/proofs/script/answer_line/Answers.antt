use Rattle.std.proofs.Common.{◌≡◌, ℕ, List, Err, ap, sym, subst, rules}
use Rattle.std.specs.Prelude.{IfErr}
use Rattle.ports.specs.Content.{Appends, AppendsPrefix, SinkTold}
use Rattle.ports.specs.Files.{FilesTold}
use Rattle.ports.specs.Lines.{most_taken}
use Rattle.queries.specs.declared.stop.Stop.{Stop}
use Rattle.session.specs.Stands.{Held, Stepped}
use Rattle.session.specs.declared.ended.Ended.{Ended}
use Rattle.session.specs.Script.{Devices, devices}
use Rattle.session.specs.Stopping.{ended_of}
use Rattle.session.specs.Turns.{TakesOff, HasNoReply}
use Rattle.session.proofs.Replies.{long_stepped}
use Rattle.session.proofs.Places.{within_most}
use Rattle.session.proofs.Endings.{stopped, other_stop, handed_on}
use Rattle.session.proofs.script.answer_line.Goals as goal

pub returns-in_ok-step-in-Ok-Text-clause-ok : goal.returns-in_ok-step-in-Ok-Text-clause-ok
returns-in_ok-step-in-Ok-Text-clause-ok g c =
    let next = rw c.in-Ok-Text.field-0-is at c.in-Ok-Text.ensures.next in
    record {
      off = record {
        bytes = next.bytes;
        line = c.as_slice.result.now;
        counts = record { came = next.came; counted = next.counted; within = within_most most_taken _ c.in-Ok-Text.ensures.limit (λ over. absurd cc) };
        gives = rw c.as_slice.ensures.value next.next.1;
      };
      stepped = c.in_ok-step-in-Ok-Text.ensures.writes.reply;
    }

pub returns-in_err-step-in-Ok-Text-clause-err : goal.returns-in_err-step-in-Ok-Text-clause-err
returns-in_err-step-in-Ok-Text-clause-err g c =
    let next = rw c.in-Ok-Text.field-0-is at c.in-Ok-Text.ensures.next in
    let stop : Stop = c.in_err-step-in-Ok-Text.field-0.0 in
    let writes = c.in_err-step-in-Ok-Text.ensures.writes in
    let old : Devices = devices (g.F.Files.told c.args.files.now) (g.I.Source.told c.args.input.now) (g.O.Sink.told c.args.out.now) in
    let new : Devices = devices (g.F.Files.told c.step.new.files) (g.I.Source.told c.next_line.new.source) (g.O.Sink.told c.step.new.out) in
    let ended : IfErr c.from_residual.result (λ (e : Ended). e ≡ ended_of stop) = search rules in
    let off : TakesOff c.args.reader.now c.next_line.new.self old new = record {
      bytes = next.bytes;
      line = c.as_slice.result.now;
      counts = record { came = next.came; counted = next.counted; within = within_most most_taken _ c.in-Ok-Text.ensures.limit (λ over. absurd cc) };
      gives = rw c.as_slice.ensures.value next.next.1;
    } in
    handed_on c.from_residual.result stop (HasNoReply c.args.session.now c.step.new.self c.args.reader.now c.next_line.new.self old new) ended
    (stopped c.args.session.now c.step.new.self c.args.reader.now c.next_line.new.self old new stop
    (λ is. (writes.cause (ap Err is), record { off = off; stepped = writes.front (ap Err is) }))
    (λ is. record {
      off = off;
      asks = c.in_err-step-in-Ok-Text.ensures.memory (ap Err is);
      silent = ap (λ (t : SinkTold). t.written) (c.in_err-step-in-Ok-Text.ensures.untouched (ap Err is));
    }))

pub returns-in_ok-too_long-in-Ok-TooLong-clause-ok : goal.returns-in_ok-too_long-in-Ok-TooLong-clause-ok
returns-in_ok-too_long-in-Ok-TooLong-clause-ok g c =
    let next = rw c.in-Ok-TooLong.field-0-is at c.in-Ok-TooLong.ensures.next in
    let writes = c.in_ok-too_long-in-Ok-TooLong.ensures.writes in
    let files : FilesTold = g.F.Files.told c.args.files.now in
    let Whole : List ℕ → Type 0 = Appends (g.O.Sink.told c.args.out.now).written (g.O.Sink.told c.too_long.new.out).written in
    let stepped : Stepped next.next.0 files files c.args.session.now c.too_long.new.self Whole =
    subst (λ (h : Held). Stepped next.next.0 files files c.args.session.now h Whole) (sym c.in_ok-too_long-in-Ok-TooLong.ensures.unchanged)
    (long_stepped files c.args.session.now next.next.0 Whole next.next.1 writes.ok) in
    record {
      off = record {
        bytes = next.bytes;
        line = next.next.0;
        counts = record { came = next.came; counted = next.counted; within = within_most most_taken _ c.in-Ok-TooLong.ensures.limit (λ over. absurd cc) };
        gives = next.next.2;
      };
      stepped = stepped;
    }

pub returns-in_err-too_long-in-Ok-TooLong-clause-err : goal.returns-in_err-too_long-in-Ok-TooLong-clause-err
returns-in_err-too_long-in-Ok-TooLong-clause-err g c =
    let next = rw c.in-Ok-TooLong.field-0-is at c.in-Ok-TooLong.ensures.next in
    let stop : Stop = c.in_err-too_long-in-Ok-TooLong.field-0.0 in
    let writes = c.in_err-too_long-in-Ok-TooLong.ensures.writes in
    let files : FilesTold = g.F.Files.told c.args.files.now in
    let old : Devices = devices files (g.I.Source.told c.args.input.now) (g.O.Sink.told c.args.out.now) in
    let new : Devices = devices files (g.I.Source.told c.next_line.new.source) (g.O.Sink.told c.too_long.new.out) in
    let Front : List ℕ → Type 0 = AppendsPrefix (g.O.Sink.told c.args.out.now).written (g.O.Sink.told c.too_long.new.out).written in
    let stepped : Stepped next.next.0 files files c.args.session.now c.too_long.new.self Front =
    subst (λ (h : Held). Stepped next.next.0 files files c.args.session.now h Front) (sym c.in_err-too_long-in-Ok-TooLong.ensures.unchanged)
    (long_stepped files c.args.session.now next.next.0 Front next.next.1 writes.err) in
    let ended : IfErr c.from_residual-in_err-too_long-in-Ok-TooLong.result (λ (e : Ended). e ≡ ended_of stop) = search rules in
    let off : TakesOff c.args.reader.now c.next_line.new.self old new = record {
      bytes = next.bytes;
      line = next.next.0;
      counts = record { came = next.came; counted = next.counted; within = within_most most_taken _ c.in-Ok-TooLong.ensures.limit (λ over. absurd cc) };
      gives = next.next.2;
    } in
    handed_on c.from_residual-in_err-too_long-in-Ok-TooLong.result stop (HasNoReply c.args.session.now c.too_long.new.self c.args.reader.now c.next_line.new.self old new) ended
    (stopped c.args.session.now c.too_long.new.self c.args.reader.now c.next_line.new.self old new stop
    (λ is. (writes.cause, record { off = off; stepped = stepped }))
    (λ is. absurd (other_stop stop is c.in_err-too_long-in-Ok-TooLong.ensures.only)))
