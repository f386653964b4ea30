use Rattle.std.proofs.Common.{◌≡◌, List, length, slice_get, Some, refl, sym, ap, subst, arith}
use Rattle.std.proofs.lemmas.Option.{get_or_from_slice_get, slice_get_read, slice_get_within}
use Rattle.problem_model.specs.declared.items.Clock.{Clock}
use Rattle.problem_model.specs.ProblemText.{clock_line}
use Rattle.problem_text.proofs.ListedLines.{line_written, line_cut, lines_written}
use Rattle.thinning.proofs.writing.write_clocks.Goals as goal

pub returns-in_err-write_clock : goal.returns-in_err-write_clock
returns-in_err-write_clock g c =
    let clocks = c.args.p.now.clocks in
    let k = c.loop-clock.clock-index in
    let x : Clock = c.clock-item.result in
    let at : slice_get clocks k ≡ Some x = subst (λ (xs : List Clock). slice_get xs k ≡ Some x) c.clocks-clock-items.ensures.value (slice_get_read _ _ k x refl c.loop-clock-test.true c.clock-item.is) in
    line_cut clock_line clocks k x (slice_get_within clocks k x at) (sym (get_or_from_slice_get clocks k x x at)) c.loop-clock.invariant c.from_residual.ensures.0 c.in_err-write_clock.ensures

pub loop-clock-preserved : goal.loop-clock-preserved
loop-clock-preserved g c =
    let clocks = c.args.p.now.clocks in
    let k = c.loop-clock.clock-index in
    let x : Clock = c.clock-item.result in
    let at : slice_get clocks k ≡ Some x = subst (λ (xs : List Clock). slice_get xs k ≡ Some x) c.clocks-clock-items.ensures.value (slice_get_read _ _ k x refl c.loop-clock-test.true c.clock-item.is) in
    line_written clock_line clocks k x (slice_get_within clocks k x at) (sym (get_or_from_slice_get clocks k x x at)) c.loop-clock.invariant c.in_ok-write_clock.ensures

pub returns : goal.returns
returns g c = lines_written clock_line c.args.p.now.clocks c.loop-clock.clock-index (omega (arith, c.loop-clock-test.false, ap length c.clocks-clock-items.ensures.value)) c.loop-clock.invariant
