use Rattle.std.proofs.Common.{◌≡◌, ◌<◌, ℕ, zero, suc, Bool, true, List, [], ◌∷◌, slice_get, Some, All, refl, sym, subst, arith}
use Rattle.std.proofs.lemmas.List.Elements.{All-push}
use Rattle.problem_model.specs.declared.items.Node.{Node}
use Rattle.problem_model.specs.declared.items.Node.TheVariants.{Event}
use Rattle.solver_tests.proofs.engines.push.Goals as goal

three : (k : ℕ) → k < 3 → slice_get (Event 0 ∷ Event 1 ∷ Event 2 ∷ []) k ≡ Some (Event k)
three zero below = refl
three (suc zero) below = refl
three (suc (suc zero)) below = refl
three (suc (suc (suc k))) below = absurd (omega arith)

pub add-requires-clause-from : goal.add-requires-clause-from
add-requires-clause-from g c = subst (λ (nodes : List Node). slice_get nodes c.args.link.now.0 ≡ Some (Event c.args.link.now.0)) (sym c.requires.nodes) (three c.args.link.now.0 (omega arith))

pub add-requires-clause-to : goal.add-requires-clause-to
add-requires-clause-to g c = subst (λ (nodes : List Node). slice_get nodes c.args.link.now.1 ≡ Some (Event c.args.link.now.1)) (sym c.requires.nodes) (three c.args.link.now.1 (omega arith))

pub returns-clause-flags : goal.returns-clause-flags
returns-clause-flags g c =
    subst (All (λ (flag : Bool). flag ≡ true)) (sym c.in_ok-add.ensures.flags) (All-push (λ (flag : Bool). flag ≡ true) c.args.s.now.graph.in_force true c.requires.flags refl)
