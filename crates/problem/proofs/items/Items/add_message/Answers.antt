use Rattle.std.proofs.Common.{◌++◌, ◌∷◌, [], ◌∙◌, ap}
use Rattle.problem_model.specs.Problem.{MessageFits}
use Rattle.problem.proofs.Growing.{still_new_pair, items_message}
use Rattle.problem.proofs.items.Items.add_message.Goals as goal

pub push-requires : goal.push-requires
push-requires c = still_new_pair _ _ _ _ _ _ _ c.self.invariant (rw (← c.self.view_is) at c.requires.new)

pub invariant_of-self-2 : goal.invariant_of-self-2
invariant_of-self-2 c =
    let fits : MessageFits c.args.m.now = c.delays_fit.ensures in
    let grown = c.push_reserved.ensures.items ∙ ap (λ xs. xs ++ c.args.m.now ∷ []) c.reserve.ensures.items in
    items_message _ _ _ _ _ _ _ c.args.m.now c.self.invariant fits (rw (← c.self.view_is) at c.requires.new) (rw (← c.self.view_is) at c.requires.room) grown c.in_ok-push.ensures.ok
