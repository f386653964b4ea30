use Rattle.std.proofs.Common.{◌≡◌, ◌+◌, List, length, drop, slice_get, Some, refl, sym, ap, subst, arith}
use Rattle.std.proofs.lemmas.Option.{slice_get_read}
use Rattle.problem_model.specs.Nodes.{Reading}
use Rattle.problem_model.specs.ShortList.{span_bounds, neighbour_bounds}
use Rattle.problem_model.proofs.OneList.{readings_one}
use Rattle.cert_check.specs.declared.verdict.Verdict.TheVariants as verdicts
use Rattle.cert_check.specs.Verdict.{Judges, AreTimes}
use Rattle.cert_check.specs.Widened.{widened}
use Rattle.problem_model.proofs.Walking.{spans_more, spans_all, reading_there, clock_there}
use Rattle.cert_check.proofs.Loops.{on, out, done}
use Rattle.cert_check.proofs.Widening.{formed, reading_on}
use Rattle.cert_check.proofs.verdict.judge_spans.Goals as goal

pub reading_time-from-requires-clause-within : goal.reading_time-from-requires-clause-within
reading_time-from-requires-clause-within c = λ readings are.
    let same = ap length (readings_one c.args.p.now c.readings-readings.result.now readings c.readings-readings.ensures are) in
    omega (arith, same, c.loop-place-test.true, c.saturating_sub-last.ensures)

pub reading_time-to-requires-clause-within : goal.reading_time-to-requires-clause-within
reading_time-to-requires-clause-within c = λ readings are.
    let same = ap length (readings_one c.args.p.now c.readings-readings.result.now readings c.readings-readings.ensures are) in
    omega (arith, same, c.loop-place-test.true, c.saturating_sub-last.ensures)

pub clock_in-clock-requires : goal.clock_in-clock-requires
clock_in-clock-requires c =
    let r = c.index-readings-place.result in
    let there = reading_there c.args.p.now c.readings-readings.result.now c.loop-place.place r c.readings-readings.ensures (omega (arith, c.loop-place-test.true, c.saturating_sub-last.ensures)) c.index-readings-place.is in
    clock_there c.args.p.now r.0 r.1 c.clocks.ensures.lawful.formed there

pub returns-in_default-clause-verdict : goal.returns-in_default-clause-verdict
returns-in_default-clause-verdict c = λ x readings times.
    let p = c.args.p.now in
    let w = c.args.what in
    let extra = c.args.extra in
    let q = widened w p extra in
    let rs = c.readings-readings.result.now in
    let k = c.loop-place.place in
    let a = c.index-readings-place.result in
    let b = c.index-readings-place-in-loop-place.result in
    let same : rs ≡ readings = readings_one p rs readings c.readings-readings.ensures times.are_readings in
    let times' : AreTimes p x rs c.args.e.now = subst (λ (l : List Reading). AreTimes p x l c.args.e.now) (sym same) times in
    let at : slice_get {X = Reading} rs k ≡ Some a = slice_get_read rs (length rs) k a refl (omega (arith, c.loop-place-test.true, c.saturating_sub-last.ensures)) c.index-readings-place.is in
    let at' : slice_get {X = Reading} rs (k + 1) ≡ Some b = slice_get_read rs (length rs) (k + 1) b refl (omega (arith, c.loop-place-test.true, c.saturating_sub-last.ensures)) c.index-readings-place-in-loop-place.is in
    let there = reading_there p rs k a c.readings-readings.ensures (omega (arith, c.loop-place-test.true, c.saturating_sub-last.ensures)) c.index-readings-place.is in
    let there' = reading_there p rs (k + 1) b c.readings-readings.ensures (omega (arith, c.loop-place-test.true, c.saturating_sub-last.ensures)) c.index-readings-place-in-loop-place.is in
    let judged = c.judge_neighbours.ensures.verdict q x (formed w p extra c.clocks.ensures.lawful.formed) c.clock_in-clock.ensures (reading_on w p extra a.0 a.1 there) (reading_on w p extra b.0 b.1 there') (c.reading_time-from.ensures x rs a times' at) (c.reading_time-to.ensures x rs b times' at') in
    let all : Judges q x (span_bounds rs) c.judge_neighbours.result = out q x (span_bounds rs) (span_bounds (drop k rs)) (c.loop-place.invariant x times') (neighbour_bounds a b) (span_bounds (drop (k + 1) rs)) (spans_more rs k a b at at') c.judge_neighbours.result c.in_default.not-Obeys judged in
    subst (λ (l : List Reading). Judges q x (span_bounds l) c.judge_neighbours.result) same all

pub loop-place-preserved : goal.loop-place-preserved
loop-place-preserved c = λ x times'.
    let p = c.args.p.now in
    let w = c.args.what in
    let extra = c.args.extra in
    let q = widened w p extra in
    let rs = c.readings-readings.result.now in
    let k = c.loop-place.place in
    let a = c.index-readings-place.result in
    let b = c.index-readings-place-in-loop-place.result in
    let at : slice_get {X = Reading} rs k ≡ Some a = slice_get_read rs (length rs) k a refl (omega (arith, c.loop-place-test.true, c.saturating_sub-last.ensures)) c.index-readings-place.is in
    let at' : slice_get {X = Reading} rs (k + 1) ≡ Some b = slice_get_read rs (length rs) (k + 1) b refl (omega (arith, c.loop-place-test.true, c.saturating_sub-last.ensures)) c.index-readings-place-in-loop-place.is in
    let there = reading_there p rs k a c.readings-readings.ensures (omega (arith, c.loop-place-test.true, c.saturating_sub-last.ensures)) c.index-readings-place.is in
    let there' = reading_there p rs (k + 1) b c.readings-readings.ensures (omega (arith, c.loop-place-test.true, c.saturating_sub-last.ensures)) c.index-readings-place-in-loop-place.is in
    let judged = c.judge_neighbours.ensures.verdict q x (formed w p extra c.clocks.ensures.lawful.formed) c.clock_in-clock.ensures (reading_on w p extra a.0 a.1 there) (reading_on w p extra b.0 b.1 there') (c.reading_time-from.ensures x rs a times' at) (c.reading_time-to.ensures x rs b times' at') in
    on q x (span_bounds rs) (span_bounds (drop k rs)) (c.loop-place.invariant x times') (neighbour_bounds a b) (span_bounds (drop (k + 1) rs)) (spans_more rs k a b at at') (rw c.in-Obeys.is at judged)

pub returns-clause-verdict : goal.returns-clause-verdict
returns-clause-verdict c = λ x readings times.
    let p = c.args.p.now in
    let w = c.args.what in
    let extra = c.args.extra in
    let q = widened w p extra in
    let rs = c.readings-readings.result.now in
    let k = c.loop-place.place in
    let same : rs ≡ readings = readings_one p rs readings c.readings-readings.ensures times.are_readings in
    let times' : AreTimes p x rs c.args.e.now = subst (λ (l : List Reading). AreTimes p x l c.args.e.now) (sym same) times in
    subst (λ (l : List Reading). Judges q x (span_bounds l) verdicts.Obeys) same
    (done q x (span_bounds rs) (span_bounds (drop k rs)) (c.loop-place.invariant x times') (spans_all rs k (omega (arith, c.loop-place-test.false, c.saturating_sub-last.ensures))))
