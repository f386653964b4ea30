use Rattle.std.proofs.Common.{◌++◌, ◌∷◌, [], ◌∙◌, ap, rules}
use Rattle.problem_model.specs.Name.{IsEventName}
use Rattle.problem_model.specs.Problem.{EventFits}
use Rattle.problem.proofs.Growing.{still_new_event, items_event}
use Rattle.problem.proofs.items.Items.add_event.Goals as goal

pub push-requires : goal.push-requires
push-requires c = still_new_event _ _ _ _ _ _ c.self.invariant (rw (← c.self.view_is) at c.requires.new)

pub invariant_of-self-2 : goal.invariant_of-self-2
invariant_of-self-2 c =
    let named : IsEventName c.args.e.name = search rules in
    let fits : EventFits c.args.e = c.event_fits.ensures in
    let grown = c.push_reserved.ensures.items ∙ ap (λ xs. xs ++ c.args.e ∷ []) c.reserve.ensures.items in
    items_event _ _ _ _ _ _ _ c.args.e c.self.invariant named fits (rw (← c.self.view_is) at c.requires.new) (rw (← c.self.view_is) at c.requires.room) grown c.in_ok-push.ensures.ok
