use Rattle.std.proofs.Common.{◌≡◌, ℕ, zero, suc, List, [], ◌∷◌, get_or, sym, subst, rules, ℤ}
use Rattle.std.specs.Prelude.{◌≤ℤ◌, Option, Some, None}
use mir.Syntax.{w128}
use Rattle.std.proofs.lemmas.Int.{to_z-of_z}
use Rattle.frontier.specs.Keys.{Waits}
use Rattle.graph_tests.proofs.waiting_nodes.lower.Goals as goal

-- a node whose key is read waits with it
read_waits : (keys : List (Option ℤ)) (node : ℕ) (key : ℤ) → get_or keys node None ≡ Some key → Waits keys node key
read_waits [] node key e = cc
read_waits (x ∷ keys) zero key e = cc
read_waits (x ∷ keys) (suc node) key e = read_waits keys node key e

pub lower-requires : goal.lower-requires
lower-requires c =
    let e = c.in-Some.ensures in
    let l : c.args.key ≤ℤ c.in-Some.before = search rules in
    (c.in-Some.before, read_waits c.args.tried.now.front c.args.node c.in-Some.before (sym e), subst (λ k. k ≤ℤ c.in-Some.before) (sym (to_z-of_z w128 c.args.key c.ranges.key)) l)
