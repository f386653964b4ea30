use Rattle.std.proofs.Common.{◌≡◌, ◌+◌, [], ◌∷◌, ◌++◌, map, sym, ap, ◌∙◌, arith}
use Rattle.std.specs.List.{range_with_len}
use Rattle.std.proofs.lemmas.List.FromFn.{map-range_with_len_more}
use Rattle.trial.specs.Rounds.{Course, message}
use Rattle.trial.proofs.workload.next_batch.Goals as goal

pub loop-preserved : goal.loop-preserved
loop-preserved c =
    let seed = c.args.course.now.seed in
    let rounds = c.args.course.now.rounds in
    let k = c.loop.counter in
    let next : c.next_message.result ≡ message c.args.course.now.seed (c.args.course.now.rounds + c.loop.counter + 1) = c.next_message.ensures.message ∙ ap (λ (v : Course). message v.seed (v.rounds + 1)) c.loop.invariant.course in
    record {
      within = omega arith;
      course = c.next_message.ensures.course
          ∙ ap (λ (v : Course). record { seed = v.seed; rounds = v.rounds + 1 }) c.loop.invariant.course
          ∙ ap (λ n. record { seed = c.args.course.now.seed; rounds = n }) (omega arith);
      messages = c.in_ok-push.ensures.items
          ∙ ap (λ ms. ms ++ c.next_message.result ∷ []) c.loop.invariant.messages
          ∙ ap (λ m. map (message seed) (range_with_len (rounds + 1) k) ++ m ∷ []) next
          ∙ sym (map-range_with_len_more (message seed) (rounds + 1) k (rounds + k + 1) (omega arith));
    }

pub returns-clause-messages : goal.returns-clause-messages
returns-clause-messages c =
    let e : c.loop.counter ≡ 100 = omega (arith, c.loop.invariant.within) in
    c.loop.invariant.messages ∙ ap (λ n. map (message c.args.course.now.seed) (range_with_len (c.args.course.now.rounds + 1) n)) e
