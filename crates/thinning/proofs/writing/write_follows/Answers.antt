use Rattle.std.proofs.Common.{◌≡◌, List, length, slice_get, Some, refl, sym, ap, subst, arith}
use Rattle.std.proofs.lemmas.Option.{get_or_from_slice_get, slice_get_read, slice_get_within}
use Rattle.problem_model.specs.declared.items.Follow.{Follow}
use Rattle.problem_model.specs.ProblemText.{follow_line}
use Rattle.problem_text.proofs.ListedLines.{line_written, line_cut, lines_written}
use Rattle.thinning.proofs.writing.write_follows.Goals as goal

pub returns-in_err-write_one_follow : goal.returns-in_err-write_one_follow
returns-in_err-write_one_follow g c =
    let p = c.args.p.now in
    let k = c.loop-follow.follow-index in
    let x : Follow = c.follow-item.result in
    let at : slice_get p.follows k ≡ Some x = subst (λ (xs : List Follow). slice_get xs k ≡ Some x) c.follows-follow-items.ensures.value (slice_get_read _ _ k x refl c.loop-follow-test.true c.follow-item.is) in
    line_cut (follow_line p.clocks) p.follows k x (slice_get_within p.follows k x at) (sym (get_or_from_slice_get p.follows k x x at)) c.loop-follow.invariant c.from_residual.ensures.0 c.in_err-write_one_follow.ensures

pub loop-follow-preserved : goal.loop-follow-preserved
loop-follow-preserved g c =
    let p = c.args.p.now in
    let k = c.loop-follow.follow-index in
    let x : Follow = c.follow-item.result in
    let at : slice_get p.follows k ≡ Some x = subst (λ (xs : List Follow). slice_get xs k ≡ Some x) c.follows-follow-items.ensures.value (slice_get_read _ _ k x refl c.loop-follow-test.true c.follow-item.is) in
    line_written (follow_line p.clocks) p.follows k x (slice_get_within p.follows k x at) (sym (get_or_from_slice_get p.follows k x x at)) c.loop-follow.invariant c.in_ok-write_one_follow.ensures

pub returns : goal.returns
returns g c =
    let p = c.args.p.now in
    lines_written (follow_line p.clocks) p.follows c.loop-follow.follow-index (omega (arith, c.loop-follow-test.false, ap length c.follows-follow-items.ensures.value)) c.loop-follow.invariant
