use Rattle.std.proofs.Common.{arith, ap}
use Rattle.ports.specs.Reader.{Reader}
use Rattle.session.specs.Script.{Devices, devices}
use Rattle.ports.proofs.Keeping.{keeps_none, keeps_then}
use Rattle.session.proofs.Places.{at_start, at_more, of_script, of_told}
use Rattle.session.proofs.Endings.{ends_so}
use Rattle.session.proofs.script.answer_lines.Goals as goal

pub loop-ended-init : goal.loop-ended-init
loop-ended-init g c = record {
  at = λ d stands. of_told _ _ (λ script told. at_start d _ _ _ script c.requires.fresh stands told);
  going = ap (λ (r : Reader). r.over) c.requires.fresh;
  ready = c.requires.ready;
  keeps = keeps_none _;
  r_le = omega arith;
  w_le = omega arith;
}

pub loop-ended-preserved : goal.loop-ended-preserved
loop-ended-preserved g c =
    let before = c.loop-ended.invariant in
    let turn = c.in_default.ensures in
    let old : Devices = devices (g.F.Files.told c.args.files.now) (g.I.Source.told c.args.input.now) (g.O.Sink.told c.args.out.now) in
    let now : Devices = devices (g.F.Files.told c.loop-ended.files) (g.I.Source.told c.loop-ended.input) (g.O.Sink.told c.loop-ended.out) in
    let after : Devices = devices (g.F.Files.told c.answer_line.new.files) (g.I.Source.told c.answer_line.new.input) (g.O.Sink.told c.answer_line.new.out) in
    let no_fall = turn.no_fall in
    record {
      at = λ d stands. of_script _ _ _ (λ script here. at_more d old now after _ _ _ _ script here before.keeps.same turn.keeps turn.ok) (before.at d stands);
      going = turn.going;
      ready = turn.ready;
      keeps = keeps_then old.files now.files after.files before.keeps turn.keeps;
      r_le = omega (arith, before.r_le, no_fall.0);
      w_le = omega (arith, before.w_le, no_fall.1);
    }

pub returns-in-Err-clause-ended : goal.returns-in-Err-clause-ended
returns-in-Err-clause-ended g c = λ d stands.
    let before = c.loop-ended.invariant in
    let turn = c.in-Err.ensures in
    let old : Devices = devices (g.F.Files.told c.args.files.now) (g.I.Source.told c.args.input.now) (g.O.Sink.told c.args.out.now) in
    let now : Devices = devices (g.F.Files.told c.loop-ended.files) (g.I.Source.told c.loop-ended.input) (g.O.Sink.told c.loop-ended.out) in
    let after : Devices = devices (g.F.Files.told c.answer_line.new.files) (g.I.Source.told c.answer_line.new.input) (g.O.Sink.told c.answer_line.new.out) in
    ends_so d old now after _ _ _ _ c.in-Err.ended (before.at d stands) turn.err before.keeps.same turn.keeps before.r_le before.w_le

pub returns-in-Err-clause-keeps : goal.returns-in-Err-clause-keeps
returns-in-Err-clause-keeps g c = keeps_then _ _ _ c.loop-ended.invariant.keeps c.in-Err.ensures.keeps
