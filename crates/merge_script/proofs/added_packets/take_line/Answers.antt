use Rattle.std.proofs.Common.{◌≡◌, refl, sym, rules}
use Rattle.std.specs.Prelude.{IfErr}
use Rattle.ports.specs.Lines.{most_taken}
use Rattle.mergecap.specs.Packets.{all_timed}
use Rattle.replies.specs.declared.refusal.Refusal.TheVariants.{NoCommand}
use Rattle.session.specs.Script.{Devices}
use Rattle.session.specs.Turns.{TakesOff}
use Rattle.session.proofs.Places.{within_most}
use Rattle.merge_script.specs.declared.unmerged.Unmerged.{Unmerged}
use Rattle.merge_script.specs.declared.unmerged.Unmerged.TheVariants as ends
use Rattle.merge_script.specs.Turns.{EndsRunSo, reads}
use Rattle.merge_script.proofs.Adding.{ends_turn, ends_long}
use Rattle.merge_script.proofs.Merges.{err_is}
use Rattle.merge_script.proofs.added_packets.take_line.Goals as goal

pub returns-in_ok-add_line-in-Ok-Text-clause-ok : goal.returns-in_ok-add_line-in-Ok-Text-clause-ok
returns-in_ok-add_line-in-Ok-Text-clause-ok g c =
    let next = rw c.in-Ok-Text.field-0-is at c.in-Ok-Text.ensures.next in
    let old : Devices = reads (g.F.Files.told c.args.files.now) (g.I.Source.told c.args.input.now) in
    let new : Devices = reads (g.F.Files.told c.add_line.new.files) (g.I.Source.told c.next_line.new.source) in
    let off : TakesOff c.args.reader.now c.next_line.new.self old new = record {
      bytes = next.bytes;
      line = c.as_slice.result.now;
      counts = record { came = next.came; counted = next.counted; within = within_most most_taken _ c.in-Ok-Text.ensures.limit (λ over. absurd cc) };
      gives = rw c.as_slice.ensures.value next.next.1;
    } in
    record { off = off; adds = c.in_ok-add_line-in-Ok-Text.ensures.ok }

pub returns-in_err-add_line-in-Ok-Text-clause-err : goal.returns-in_err-add_line-in-Ok-Text-clause-err
returns-in_err-add_line-in-Ok-Text-clause-err g c =
    let next = rw c.in-Ok-Text.field-0-is at c.in-Ok-Text.ensures.next in
    let old : Devices = reads (g.F.Files.told c.args.files.now) (g.I.Source.told c.args.input.now) in
    let new : Devices = reads (g.F.Files.told c.add_line.new.files) (g.I.Source.told c.next_line.new.source) in
    let off : TakesOff c.args.reader.now c.next_line.new.self old new = record {
      bytes = next.bytes;
      line = c.as_slice.result.now;
      counts = record { came = next.came; counted = next.counted; within = within_most most_taken _ c.in-Ok-Text.ensures.limit (λ over. absurd cc) };
      gives = rw c.as_slice.ensures.value next.next.1;
    } in
    let why : Unmerged = c.in_err-add_line-in-Ok-Text.field-0.0 in
    let is : IfErr c.from_residual.result (λ (e : Unmerged). e ≡ why) = search rules in
    err_is c.from_residual.result why (EndsRunSo c.args.session.now c.args.reader.now c.next_line.new.self old new (all_timed c.args.kept.now.packets.items)) is
    (ends_turn c.args.session.now c.args.reader.now c.next_line.new.self old new (all_timed c.args.kept.now.packets.items) why off c.requires.some c.in_err-add_line-in-Ok-Text.ensures.err)

pub returns-in-Ok-TooLong-clause-err : goal.returns-in-Ok-TooLong-clause-err
returns-in-Ok-TooLong-clause-err g c =
    let next = rw c.in-Ok-TooLong.field-0-is at c.in-Ok-TooLong.ensures.next in
    record {
      off = record {
        bytes = next.bytes;
        line = next.next.0;
        counts = record { came = next.came; counted = next.counted; within = within_most most_taken _ c.in-Ok-TooLong.ensures.limit (λ over. absurd cc) };
        gives = next.next.2;
      };
      ends = λ x. ends_long next.next.0 (g.F.Files.told c.args.files.now) c.args.session.now x.state (ends.Refused c.too_long_text.result) next.next.1 ((NoCommand, refl), sym c.too_long_text.ensures);
    }
