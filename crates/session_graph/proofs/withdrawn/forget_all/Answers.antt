use Rattle.std.proofs.Common.{◌<◌, length, sym, subst, arith}
use Rattle.problem_model.specs.declared.items.Message.{Message}
use Rattle.session_graph.proofs.withdrawn.forget_all.Goals as goal

pub forget-requires : goal.forget-requires
forget-requires c =
    let m : Message = c.message-item.result in
    let inside : m.send < length c.args.roster.now.came =
    subst (λ (x : Message). x.send < length c.args.roster.now.came) (sym c.message-item.is) (c.requires c.loop-message.message-index m (omega (arith, c.loop-message-test.true))) in
    let many = c.loop-message.invariant.many in
    omega (arith, inside, many)
