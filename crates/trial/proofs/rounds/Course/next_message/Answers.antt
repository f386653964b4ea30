use Rattle.std.proofs.Common.{◌≡◌, ◌+◌, ◌*◌, ◌%◌, ◌≤◌, ◌<◌, slice_index_or, refl, sym, ap, ◌∙◌, subst, arith}
use Rattle.trial.specs.Draws.{drawn, state_after}
use Rattle.trial.specs.Rounds.{Course, offset, time_of, round_draw, sender, receiver, delay, message}
use Rattle.trial.proofs.Drawing.{time_more, time_small, offset_small, at_first, at_second, at_third, at_fourth, at_end, message_by}
use Rattle.trial.proofs.rounds.Course.next_message.Goals as goal

pub overflow_add-self-3 : goal.overflow_add-self-3
overflow_add-self-3 c =
    let s = c.self.inside in
    let time : s.time ≡ time_of s.seed s.rounds = c.self.invariant.1 in
    let few : s.rounds < 2000 = subst (λ (v : Course). v.rounds < 2000) (sym c.self.view_is) c.requires in
    let small : time_of s.seed s.rounds ≤ 1000000000 + 100000 * s.rounds = time_small s.seed s.rounds in
    let drew : c.below.result < 100000 = c.below.ensures.below in
    omega arith

pub overflow_add-result : goal.overflow_add-result
overflow_add-result c =
    let s = c.self.inside in
    let time : s.time ≡ time_of s.seed s.rounds = c.self.invariant.1 in
    let few : s.rounds < 2000 = subst (λ (v : Course). v.rounds < 2000) (sym c.self.view_is) c.requires in
    let small : time_of s.seed s.rounds ≤ 1000000000 + 100000 * s.rounds = time_small s.seed s.rounds in
    let drew : c.below.result < 100000 = c.below.ensures.below in
    let ahead : slice_index_or s.offsets c.below-sender.result 0 ≡ offset s.seed c.below-sender.result = c.self.invariant.2 c.below-sender.result (c.below-sender.ensures.below) in
    omega (arith, offset_small s.seed c.below-sender.result)

pub overflow_add-result-2 : goal.overflow_add-result-2
overflow_add-result-2 c =
    let s = c.self.inside in
    let time : s.time ≡ time_of s.seed s.rounds = c.self.invariant.1 in
    let few : s.rounds < 2000 = subst (λ (v : Course). v.rounds < 2000) (sym c.self.view_is) c.requires in
    let small : time_of s.seed s.rounds ≤ 1000000000 + 100000 * s.rounds = time_small s.seed s.rounds in
    let drew : c.below.result < 100000 = c.below.ensures.below in
    let ahead : slice_index_or s.offsets ((c.below-sender.result + 1 + c.below-2.result) % 8) 0 ≡ offset s.seed ((c.below-sender.result + 1 + c.below-2.result) % 8) = c.self.invariant.2 ((c.below-sender.result + 1 + c.below-2.result) % 8) (omega arith) in
    omega (arith, offset_small s.seed ((c.below-sender.result + 1 + c.below-2.result) % 8))

pub overflow_add-result-3 : goal.overflow_add-result-3
overflow_add-result-3 c =
    let s = c.self.inside in
    let time : s.time ≡ time_of s.seed s.rounds = c.self.invariant.1 in
    let few : s.rounds < 2000 = subst (λ (v : Course). v.rounds < 2000) (sym c.self.view_is) c.requires in
    let small : time_of s.seed s.rounds ≤ 1000000000 + 100000 * s.rounds = time_small s.seed s.rounds in
    let drew : c.below.result < 100000 = c.below.ensures.below in
    let short : c.below-delay.result < 99001 = c.below-delay.ensures.below in
    let ahead : slice_index_or s.offsets ((c.below-sender.result + 1 + c.below-2.result) % 8) 0 ≡ offset s.seed ((c.below-sender.result + 1 + c.below-2.result) % 8) = c.self.invariant.2 ((c.below-sender.result + 1 + c.below-2.result) % 8) (omega arith) in
    omega (arith, offset_small s.seed ((c.below-sender.result + 1 + c.below-2.result) % 8))

pub invariant_of-self : goal.invariant_of-self
invariant_of-self c =
    let s = c.self.inside in
    let before = s.draws.state in
    let first = c.below.new.self.state in
    let second = c.below-sender.new.self.state in
    let third = c.below-2.new.self.state in
    let fourth = c.below-delay.new.self.state in
    let one : first ≡ state_after s.seed (4 * (s.rounds + 1) + 4 + 0 + 1) = at_first s.seed s.rounds before first second third fourth c.self.invariant.0 c.below.ensures.state c.below-sender.ensures.state c.below-2.ensures.state c.below-delay.ensures.state in
    let drew : c.below.result ≡ round_draw s.seed (s.rounds + 1) 0 100000 = c.below.ensures.number ∙ ap (λ x. drawn x 100000) one in (
      at_end s.seed s.rounds before first second third fourth c.self.invariant.0 c.below.ensures.state c.below-sender.ensures.state c.below-2.ensures.state c.below-delay.ensures.state,
      ap (λ t. t + (1 + c.below.result)) c.self.invariant.1 ∙ ap (λ d. time_of s.seed s.rounds + (1 + d)) drew ∙ sym (time_more s.seed s.rounds),
      c.self.invariant.2,
    )

pub returns-clause-message : goal.returns-clause-message
returns-clause-message c =
    let s = c.self.inside in
    let r = s.rounds + 1 in
    let before = s.draws.state in
    let first = c.below.new.self.state in
    let second = c.below-sender.new.self.state in
    let third = c.below-2.new.self.state in
    let fourth = c.below-delay.new.self.state in
    let one : first ≡ state_after s.seed (4 * (s.rounds + 1) + 4 + 0 + 1) = at_first s.seed s.rounds before first second third fourth c.self.invariant.0 c.below.ensures.state c.below-sender.ensures.state c.below-2.ensures.state c.below-delay.ensures.state in
    let two : second ≡ state_after s.seed (4 * (s.rounds + 1) + 4 + 1 + 1) = at_second s.seed s.rounds before first second third fourth c.self.invariant.0 c.below.ensures.state c.below-sender.ensures.state c.below-2.ensures.state c.below-delay.ensures.state in
    let three : third ≡ state_after s.seed (4 * (s.rounds + 1) + 4 + 2 + 1) = at_third s.seed s.rounds before first second third fourth c.self.invariant.0 c.below.ensures.state c.below-sender.ensures.state c.below-2.ensures.state c.below-delay.ensures.state in
    let four : fourth ≡ state_after s.seed (4 * (s.rounds + 1) + 4 + 3 + 1) = at_fourth s.seed s.rounds before first second third fourth c.self.invariant.0 c.below.ensures.state c.below-sender.ensures.state c.below-2.ensures.state c.below-delay.ensures.state in
    let stepped : c.below.result ≡ round_draw s.seed (s.rounds + 1) 0 100000 = c.below.ensures.number ∙ ap (λ x. drawn x 100000) one in
    let from : c.below-sender.result ≡ sender s.seed (s.rounds + 1) = c.below-sender.ensures.number ∙ ap (λ x. drawn x 8) two in
    let other : c.below-2.result ≡ round_draw s.seed (s.rounds + 1) 2 7 = c.below-2.ensures.number ∙ ap (λ x. drawn x 7) three in
    let took : 1000 + c.below-delay.result ≡ delay s.seed (s.rounds + 1) = ap (λ d. 1000 + d) (c.below-delay.ensures.number ∙ ap (λ x. drawn x 99001) four) in
    let to : (c.below-sender.result + 1 + c.below-2.result) % 8 ≡ receiver s.seed (s.rounds + 1) = ap (λ i. (i + 1 + c.below-2.result) % 8) from ∙ ap (λ j. (sender s.seed (s.rounds + 1) + 1 + j) % 8) other in
    let time : s.time + (1 + c.below.result) ≡ time_of s.seed (s.rounds + 1) = ap (λ t. t + (1 + c.below.result)) c.self.invariant.1 ∙ ap (λ d. time_of s.seed s.rounds + (1 + d)) stepped ∙ sym (time_more s.seed s.rounds) in
    let ahead : slice_index_or s.offsets c.below-sender.result 0 ≡ offset s.seed (sender s.seed (s.rounds + 1)) = c.self.invariant.2 c.below-sender.result c.below-sender.ensures.below ∙ ap (offset s.seed) from in
    let behind : slice_index_or s.offsets ((c.below-sender.result + 1 + c.below-2.result) % 8) 0 ≡ offset s.seed (receiver s.seed (s.rounds + 1)) = c.self.invariant.2 ((c.below-sender.result + 1 + c.below-2.result) % 8) (omega arith) ∙ ap (offset s.seed) to in
    message_by (s.rounds + 1) c.below-sender.result (slice_index_or s.offsets c.below-sender.result 0 + (s.time + (1 + c.below.result))) ((c.below-sender.result + 1 + c.below-2.result) % 8) (slice_index_or s.offsets ((c.below-sender.result + 1 + c.below-2.result) % 8) 0 + (s.time + (1 + c.below.result)) + (1000 + c.below-delay.result))
    (s.rounds + 1) (sender s.seed (s.rounds + 1)) (offset s.seed (sender s.seed (s.rounds + 1)) + time_of s.seed (s.rounds + 1)) (receiver s.seed (s.rounds + 1)) (offset s.seed (receiver s.seed (s.rounds + 1)) + time_of s.seed (s.rounds + 1) + delay s.seed (s.rounds + 1))
    refl from
    (ap (λ o. o + (s.time + (1 + c.below.result))) ahead ∙ ap (λ t. offset s.seed (sender s.seed (s.rounds + 1)) + t) time)
    to
    (ap (λ o. o + (s.time + (1 + c.below.result)) + (1000 + c.below-delay.result)) behind ∙ ap (λ t. offset s.seed (receiver s.seed (s.rounds + 1)) + t + (1000 + c.below-delay.result)) time ∙ ap (λ d. offset s.seed (receiver s.seed (s.rounds + 1)) + time_of s.seed (s.rounds + 1) + d) took)
    ∙ ap (λ (v : Course). message v.seed (v.rounds + 1)) c.self.view_is
