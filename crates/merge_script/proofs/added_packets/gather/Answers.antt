use Rattle.std.proofs.Common.{◌≤◌, ◌∙◌, ℕ, List, arith, ap, sym, subst}
use Rattle.ports.specs.Reader.{Reader}
use Rattle.mergecap.specs.declared.stored.Stored.{Stored}
use Rattle.mergecap.specs.Packets.{all_timed}
use Rattle.session.specs.Script.{Devices}
use Rattle.ports.proofs.Keeping.{keeps_none, keeps_then}
use Rattle.merge_script.specs.Gathered.{bytes_in, most_bytes}
use Rattle.merge_script.specs.Turns.{reads}
use Rattle.merge_script.proofs.Adding.{so_far_first, so_far_more, gathers_all, gathers_none}
use Rattle.merge_script.proofs.added_packets.gather.Goals as goal

pub loop-why-init : goal.loop-why-init
loop-why-init g c =
    let t : Devices = reads (g.F.Files.told c.args.files.now) (g.I.Source.told c.args.input.now) in
    record {
      at = so_far_first t c.args.reader.now c.args.session.now (all_timed c.args.kept.now.packets.items) c.requires.fresh c.requires.begins (ap all_timed c.requires.none.0);
      bytes = (c.requires.none.1 ∙ sym (ap (λ (xs : List Stored). bytes_in (all_timed xs)) c.requires.none.0), (let few : 0 ≤ most_bytes = omega arith in subst (λ (n : ℕ). n ≤ most_bytes) (sym c.requires.none.1) few));
      going = ap (λ (r : Reader). r.over) c.requires.fresh;
      ready = c.requires.ready;
      keeps = keeps_none (g.F.Files.told c.args.files.now);
      r_le = omega arith;
    }

pub loop-why-preserved : goal.loop-why-preserved
loop-why-preserved g c =
    let before = c.loop-why.invariant in
    let turn = c.in-Ok-true.ensures in
    let true_is = c.in-Ok-true.field-0-test in
    let old : Devices = reads (g.F.Files.told c.args.files.now) (g.I.Source.told c.args.input.now) in
    let now : Devices = reads (g.F.Files.told c.loop-why.files) (g.I.Source.told c.loop-why.input) in
    let after : Devices = reads (g.F.Files.told c.take_line.new.files) (g.I.Source.told c.take_line.new.input) in
    let no_fall = turn.no_fall in
    let bytes = turn.bytes true_is in
    record {
      at = so_far_more c.args.session.now.declaration old now after c.loop-why.reader c.take_line.new.reader c.loop-why.session c.take_line.new.session (all_timed c.loop-why.kept.packets.items) (all_timed c.take_line.new.kept.packets.items) before.at turn.keeps before.keeps.same
          (rw true_is at turn.ok) (subst (λ (n : ℕ). n ≤ most_bytes) bytes.0 bytes.1);
      bytes = bytes;
      going = turn.going true_is;
      ready = turn.ready;
      keeps = keeps_then old.files now.files after.files before.keeps turn.keeps;
      r_le = omega (arith, before.r_le, no_fall);
    }

pub returns-in-Ok-false-clause-ok : goal.returns-in-Ok-false-clause-ok
returns-in-Ok-false-clause-ok g c =
    let before = c.loop-why.invariant in
    let turn = c.in-Ok-false.ensures in
    let false_is = c.in-Ok-false.field-0-test in
    let old : Devices = reads (g.F.Files.told c.args.files.now) (g.I.Source.told c.args.input.now) in
    let now : Devices = reads (g.F.Files.told c.loop-why.files) (g.I.Source.told c.loop-why.input) in
    let after : Devices = reads (g.F.Files.told c.take_line.new.files) (g.I.Source.told c.take_line.new.input) in
    let same = turn.same false_is in
    gathers_all c.args.session.now.declaration old now after c.loop-why.reader c.take_line.new.reader c.loop-why.session c.take_line.new.session (all_timed c.loop-why.kept.packets.items) (all_timed c.take_line.new.kept.packets.items) before.at turn.keeps
    (rw false_is at turn.ok) same.0 (ap all_timed same.1)

pub returns-in-Err-clause-err : goal.returns-in-Err-clause-err
returns-in-Err-clause-err g c =
    let before = c.loop-why.invariant in
    let turn = c.in-Err.ensures in
    let old : Devices = reads (g.F.Files.told c.args.files.now) (g.I.Source.told c.args.input.now) in
    let now : Devices = reads (g.F.Files.told c.loop-why.files) (g.I.Source.told c.loop-why.input) in
    let after : Devices = reads (g.F.Files.told c.take_line.new.files) (g.I.Source.told c.take_line.new.input) in
    gathers_none c.args.session.now.declaration old now after c.loop-why.reader c.take_line.new.reader c.loop-why.session c.take_line.new.session (all_timed c.loop-why.kept.packets.items) (all_timed c.take_line.new.kept.packets.items) before.at turn.keeps
    before.keeps.same before.r_le c.in-Err.why turn.err
