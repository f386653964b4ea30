use Rattle.std.proofs.Common.{◌≡◌, ◌+◌, List, length, drop, slice_get, Some, refl, sym, ap, subst, arith}
use Rattle.std.specs.Prelude.{Contains}
use Rattle.std.specs.List.{flat_map}
use Rattle.std.proofs.lemmas.Option.{slice_get_read}
use Rattle.problem_model.specs.declared.items.Message.{Message}
use Rattle.problem_model.specs.ShortList.{message_bounds}
use Rattle.problem_model.proofs.Walking.{delays_more, delays_all}
use Rattle.cert_check.proofs.Cutting.{past, stop, none_left}
use Rattle.cert_check.proofs.cut.first_delay_leaving.Goals as goal

pub returns-in_default : goal.returns-in_default
returns-in_default c =
    let p = c.args.p.now in
    let k = c.loop-message.message-index in
    let m = c.message-item.result in
    let is : c.messages-message-items.result.now ≡ p.messages = c.messages-message-items.ensures.value in
    let there : slice_get p.messages k ≡ Some m = subst (λ (ms : List Message). slice_get ms k ≡ Some m) is (slice_get_read c.messages-message-items.result.now (length c.messages-message-items.result.now) k m refl c.loop-message-test.true c.message-item.is) in
    let held : Contains p.messages m = subst (λ (ms : List Message). Contains ms m) is (k, c.loop-message-test.true, sym c.message-item.is) in
    stop p c.args.inside.now (flat_map message_bounds p.messages) (flat_map message_bounds (drop k p.messages)) c.loop-message.invariant
    (message_bounds m) (flat_map message_bounds (drop (k + 1) p.messages)) (delays_more p.messages k m there) c.leaving_bound.result c.in_default.not-None
    (c.leaving_bound.ensures p c.args.inside.now c.messages-message-items.ensures.lawful.formed held c.is_inside-send.ensures c.is_inside-receive.ensures)

pub loop-message-preserved : goal.loop-message-preserved
loop-message-preserved c =
    let p = c.args.p.now in
    let k = c.loop-message.message-index in
    let m = c.message-item.result in
    let is : c.messages-message-items.result.now ≡ p.messages = c.messages-message-items.ensures.value in
    let there : slice_get p.messages k ≡ Some m = subst (λ (ms : List Message). slice_get ms k ≡ Some m) is (slice_get_read c.messages-message-items.result.now (length c.messages-message-items.result.now) k m refl c.loop-message-test.true c.message-item.is) in
    let held : Contains p.messages m = subst (λ (ms : List Message). Contains ms m) is (k, c.loop-message-test.true, sym c.message-item.is) in
    past p c.args.inside.now (flat_map message_bounds p.messages) (flat_map message_bounds (drop k p.messages)) c.loop-message.invariant
    (message_bounds m) (flat_map message_bounds (drop (k + 1) p.messages)) (delays_more p.messages k m there)
    (rw c.in-None.is at (c.leaving_bound.ensures p c.args.inside.now c.messages-message-items.ensures.lawful.formed held c.is_inside-send.ensures c.is_inside-receive.ensures))

pub returns : goal.returns
returns c =
    let p = c.args.p.now in
    let k = c.loop-message.message-index in
    none_left p c.args.inside.now (flat_map message_bounds p.messages) (flat_map message_bounds (drop k p.messages)) c.loop-message.invariant
    (delays_all p.messages k (let same = ap length c.messages-message-items.ensures.value in omega (arith, same, c.loop-message-test.false)))
