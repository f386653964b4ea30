use Rattle.std.proofs.Common.{◌≡◌, ◌+◌, ℕ, List, length, drop, slice_get, Some, refl, sym, ap, subst, arith}
use Rattle.std.specs.Prelude.{Contains}
use Rattle.std.specs.List.{flat_map}
use Rattle.std.proofs.lemmas.Option.{slice_get_read}
use Rattle.problem_model.specs.declared.items.Message.{Message}
use Rattle.problem_model.specs.ShortList.{message_bounds}
use Rattle.problem_model.proofs.Walking.{delays_more, delays_all}
use Rattle.cert_check.specs.Widened.{least_left, with_delays, widened_message, widened}
use Rattle.cert_check.proofs.Loops.{on, out, done}
use Rattle.cert_check.proofs.Widening.{contained, formed}
use Rattle.cert_check.proofs.verdict.judge_messages.Goals as goal

pub returns-in_default-clause-verdict : goal.returns-in_default-clause-verdict
returns-in_default-clause-verdict c = λ x readings times.
    let p = c.args.p.now in
    let w = c.args.what in
    let q = widened w p c.args.extra in
    let k = c.loop-message.message-index in
    let m = c.message-item.result in
    let is : c.messages-message-items.result.now ≡ p.messages = c.messages-message-items.ensures.value in
    let there : slice_get p.messages k ≡ Some m = subst (λ (ms : List Message). slice_get ms k ≡ Some m) is (slice_get_read c.messages-message-items.result.now (length c.messages-message-items.result.now) k m refl c.loop-message-test.true c.message-item.is) in
    let held' : Contains p.messages m = subst (λ (ms : List Message). Contains ms m) is (k, c.loop-message-test.true, sym c.message-item.is) in
    let held : Contains q.messages (with_delays c.least_left-least.result c.added_to-added.result m) =
    subst (λ (least : ℕ). Contains q.messages (with_delays least c.added_to-added.result m)) (sym c.least_left-least.ensures)
    (subst (λ (added : ℕ). Contains q.messages (with_delays (least_left w p.events c.args.extra m) added m)) (sym c.added_to-added.ensures) (contained (widened_message w p.events c.args.extra) p.messages m held')) in
    out q x (flat_map message_bounds p.messages) (flat_map message_bounds (drop k p.messages)) (c.loop-message.invariant x readings times)
    (message_bounds m) (flat_map message_bounds (drop (k + 1) p.messages)) (delays_more p.messages k m there) c.judge_message.result c.in_default.not-Obeys
    (c.judge_message.ensures.verdict q x (formed w p c.args.extra c.messages-message-items.ensures.lawful.formed) held (c.event_time-send.ensures x readings times) (c.event_time-receive.ensures x readings times))

pub loop-message-preserved : goal.loop-message-preserved
loop-message-preserved c = λ x readings times.
    let p = c.args.p.now in
    let w = c.args.what in
    let q = widened w p c.args.extra in
    let k = c.loop-message.message-index in
    let m = c.message-item.result in
    let is : c.messages-message-items.result.now ≡ p.messages = c.messages-message-items.ensures.value in
    let there : slice_get p.messages k ≡ Some m = subst (λ (ms : List Message). slice_get ms k ≡ Some m) is (slice_get_read c.messages-message-items.result.now (length c.messages-message-items.result.now) k m refl c.loop-message-test.true c.message-item.is) in
    let held' : Contains p.messages m = subst (λ (ms : List Message). Contains ms m) is (k, c.loop-message-test.true, sym c.message-item.is) in
    let held : Contains q.messages (with_delays c.least_left-least.result c.added_to-added.result m) =
    subst (λ (least : ℕ). Contains q.messages (with_delays least c.added_to-added.result m)) (sym c.least_left-least.ensures)
    (subst (λ (added : ℕ). Contains q.messages (with_delays (least_left w p.events c.args.extra m) added m)) (sym c.added_to-added.ensures) (contained (widened_message w p.events c.args.extra) p.messages m held')) in
    on q x (flat_map message_bounds p.messages) (flat_map message_bounds (drop k p.messages)) (c.loop-message.invariant x readings times)
    (message_bounds m) (flat_map message_bounds (drop (k + 1) p.messages)) (delays_more p.messages k m there)
    (rw c.in-Obeys.is at (c.judge_message.ensures.verdict q x (formed w p c.args.extra c.messages-message-items.ensures.lawful.formed) held (c.event_time-send.ensures x readings times) (c.event_time-receive.ensures x readings times)))

pub returns-clause-verdict : goal.returns-clause-verdict
returns-clause-verdict c = λ x readings times.
    let p = c.args.p.now in
    let w = c.args.what in
    let q = widened w p c.args.extra in
    let k = c.loop-message.message-index in
    done q x (flat_map message_bounds p.messages) (flat_map message_bounds (drop k p.messages)) (c.loop-message.invariant x readings times)
    (delays_all p.messages k (let same = ap length c.messages-message-items.ensures.value in omega (arith, same, c.loop-message-test.false)))
