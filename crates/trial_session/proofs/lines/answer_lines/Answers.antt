use Rattle.std.proofs.Common.{◌≡◌, [], arith}
use Rattle.std.proofs.lemmas.List.{nil_from_length}
use Rattle.ports.specs.Files.{FilesTold}
use Rattle.ports.proofs.Keeping.{keeps_none, keeps_then}
use Rattle.trial_session.proofs.Going.{over_none, over_more, over_all}
use Rattle.trial_session.proofs.lines.answer_lines.Goals as goal

pub loop-rest-init : goal.loop-rest-init
loop-rest-init g c = record {
  over = λ d s stands. over_none d s c.args.lines.now c.args.session.now (g.F.Files.told c.args.files.now) (g.O.Sink.told c.args.replies.now).written stands;
  ready = c.requires;
  keeps = keeps_none _;
}

pub loop-rest-preserved : goal.loop-rest-preserved
loop-rest-preserved g c =
    let before = c.loop-rest.invariant in
    let first = c.first_line.ensures.first in
    let turn = c.in_ok-answer_line.ensures in
    let old : FilesTold = g.F.Files.told c.args.files.now in
    let mid : FilesTold = g.F.Files.told c.loop-rest.files in
    let new : FilesTold = g.F.Files.told c.answer_line.new.files in
    record {
      over = λ d s stands. over_more d s c.args.lines.now c.loop-rest.rest.now c.first_line.result.0.now c.first_line.result.1.now c.loop-rest.session c.answer_line.new.session old mid new
          (g.O.Sink.told c.args.replies.now).written (g.O.Sink.told c.loop-rest.replies).written (g.O.Sink.told c.answer_line.new.replies).written
          (before.over d s stands) first before.keeps turn.keeps turn.reply;
      ready = turn.ready;
      keeps = keeps_then old mid new before.keeps turn.keeps;
    }

pub answer_line-requires : goal.answer_line-requires
answer_line-requires g c = c.loop-rest.invariant.ready

pub loop-rest-smaller : goal.loop-rest-smaller
loop-rest-smaller g c = c.first_line.ensures.shorter

pub returns-in_err-answer_line-clause-keeps : goal.returns-in_err-answer_line-clause-keeps
returns-in_err-answer_line-clause-keeps g c = keeps_then (g.F.Files.told c.args.files.now) (g.F.Files.told c.loop-rest.files) (g.F.Files.told c.answer_line.new.files) c.loop-rest.invariant.keeps c.in_err-answer_line.ensures.keeps

pub returns-clause-answers : goal.returns-clause-answers
returns-clause-answers g c = λ d s stands.
    let none : c.loop-rest.rest.now ≡ [] = nil_from_length c.loop-rest.rest.now (grind (arith, c.is_empty.ensures, c.loop-rest-test.false)) in
    over_all d s c.args.lines.now c.loop-rest.rest.now c.loop-rest.session (g.F.Files.told c.args.files.now) (g.F.Files.told c.loop-rest.files)
    (g.O.Sink.told c.args.replies.now).written (g.O.Sink.told c.loop-rest.replies).written (c.loop-rest.invariant.over d s stands) none

pub returns-clause-ready : goal.returns-clause-ready
returns-clause-ready g c = c.loop-rest.invariant.ready

pub returns-clause-keeps : goal.returns-clause-keeps
returns-clause-keeps g c = c.loop-rest.invariant.keeps
