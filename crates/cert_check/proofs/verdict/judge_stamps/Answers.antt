use Rattle.std.proofs.Common.{◌≡◌, ◌+◌, ◌∷◌, [], List, length, drop, slice_get, Some, refl, sym, ap, subst, arith}
use Rattle.std.specs.Prelude.{Contains}
use Rattle.std.proofs.lemmas.Option.{slice_get_read, slice_get_within}
use Rattle.problem_model.specs.declared.items.Event.{Event}
use Rattle.problem_model.specs.declared.items.Bound.TheVariants.{Late, Early}
use Rattle.problem_model.specs.Nodes.{Reading}
use Rattle.problem_model.specs.ShortList.{event_bounds}
use Rattle.problem_model.proofs.Walking.{stamps_more, stamps_all}
use Rattle.cert_check.specs.Widened.{widened}
use Rattle.cert_check.proofs.Loops.{on, out, done}
use Rattle.cert_check.proofs.Widening.{formed, event_at}
use Rattle.cert_check.proofs.verdict.judge_stamps.Goals as goal

pub place_of-requires : goal.place_of-requires
place_of-requires c =
    let p = c.args.p.now in
    let e = c.event-item.result in
    let is : c.events-event-items.result.now ≡ p.events = c.events-event-items.ensures.value in
    let held : Contains p.events e = subst (λ (es : List Event). Contains es e) is (c.loop-place.place, c.loop-place-test.true, sym c.event-item.is) in
    (e, held, refl, refl)

pub reading_time-reading-requires-clause-within : goal.reading_time-reading-requires-clause-within
reading_time-reading-requires-clause-within c = λ readings are. slice_get_within {A = Reading} readings c.place_of.result (c.event-item.result.clock, c.event-item.result.stamp) (c.place_of.ensures readings are)

pub returns-in_default-clause-verdict : goal.returns-in_default-clause-verdict
returns-in_default-clause-verdict c = λ x readings times.
    let p = c.args.p.now in
    let w = c.args.what in
    let extra = c.args.extra in
    let q = widened w p extra in
    let k = c.loop-place.place in
    let e = c.event-item.result in
    let is : c.events-event-items.result.now ≡ p.events = c.events-event-items.ensures.value in
    let there : slice_get p.events k ≡ Some e = subst (λ (es : List Event). slice_get es k ≡ Some e) is (slice_get_read c.events-event-items.result.now (length c.events-event-items.result.now) k e refl c.loop-place-test.true c.event-item.is) in
    let wide = c.widened_event-wide.ensures in
    out q x (event_bounds 0 p.events) (event_bounds k (drop k p.events)) (c.loop-place.invariant x readings times)
    (Late k ∷ Early k ∷ []) (event_bounds (k + 1) (drop (k + 1) p.events)) (stamps_more p.events k e there) c.judge_stamp.result c.in_default.not-Obeys
    (c.judge_stamp.ensures.verdict q x (formed w p extra c.clocks.ensures.lawful.formed) (rw wide (event_at w extra p.events k e there)) (rw wide c.clock_in-clock.ensures) (rw wide (c.reading_time-reading.ensures x readings (e.clock, e.stamp) times (c.place_of.ensures readings times.are_readings))) (c.event_time-time.ensures x readings times))

pub loop-place-preserved : goal.loop-place-preserved
loop-place-preserved c = λ x readings times.
    let p = c.args.p.now in
    let w = c.args.what in
    let extra = c.args.extra in
    let q = widened w p extra in
    let k = c.loop-place.place in
    let e = c.event-item.result in
    let is : c.events-event-items.result.now ≡ p.events = c.events-event-items.ensures.value in
    let there : slice_get p.events k ≡ Some e = subst (λ (es : List Event). slice_get es k ≡ Some e) is (slice_get_read c.events-event-items.result.now (length c.events-event-items.result.now) k e refl c.loop-place-test.true c.event-item.is) in
    let wide = c.widened_event-wide.ensures in
    on q x (event_bounds 0 p.events) (event_bounds k (drop k p.events)) (c.loop-place.invariant x readings times)
    (Late k ∷ Early k ∷ []) (event_bounds (k + 1) (drop (k + 1) p.events)) (stamps_more p.events k e there)
    (rw c.in-Obeys.is at (c.judge_stamp.ensures.verdict q x (formed w p extra c.clocks.ensures.lawful.formed) (rw wide (event_at w extra p.events k e there)) (rw wide c.clock_in-clock.ensures) (rw wide (c.reading_time-reading.ensures x readings (e.clock, e.stamp) times (c.place_of.ensures readings times.are_readings))) (c.event_time-time.ensures x readings times)))

pub returns-clause-verdict : goal.returns-clause-verdict
returns-clause-verdict c = λ x readings times.
    let p = c.args.p.now in
    let w = c.args.what in
    let extra = c.args.extra in
    let q = widened w p extra in
    let k = c.loop-place.place in
    done q x (event_bounds 0 p.events) (event_bounds k (drop k p.events)) (c.loop-place.invariant x readings times)
    (stamps_all p.events k (let len = ap length c.events-event-items.ensures.value in omega (arith, len, c.loop-place-test.false)))
