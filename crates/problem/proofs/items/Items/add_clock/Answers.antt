use Rattle.std.proofs.Common.{◌≡◌, ◌++◌, ◌∷◌, [], ℕ, ◌∙◌, ap, length, rules}
use Rattle.problem_model.specs.Problem.{ClockFits}
use Rattle.problem.proofs.OneLink.{lone}
use Rattle.problem.proofs.Growing.{still_new_clock, items_clock}
use Rattle.problem.proofs.items.Items.add_clock.Goals as goal

pub push-requires : goal.push-requires
push-requires c = still_new_clock _ _ _ _ _ _ c.self.invariant (rw (← c.self.view_is) at c.requires.new)

pub invariant_of-self-2 : goal.invariant_of-self-2
invariant_of-self-2 c =
    let fits : ClockFits c.args.c = (search rules, search rules, search rules, search rules) in
    let grown = c.push_reserved-2.ensures.items ∙ ap (λ xs. xs ++ c.args.c ∷ []) c.reserve.ensures.items in
    let count : c.len-number.result ≡ length c.self.inside.clocks.items = search rules in
    let linked = c.push_reserved.ensures.items ∙ ap (λ xs. xs ++ lone c.len-number.result ∷ []) c.reserve-2.ensures.items ∙ ap (λ (n : ℕ). c.self.inside.links.items ++ lone n ∷ []) count in
    items_clock _ _ _ _ _ _ _ _ c.args.c c.self.invariant fits (rw (← c.self.view_is) at c.requires.new) (rw (← c.self.view_is) at c.requires.room) grown c.in_ok-push.ensures.ok linked
