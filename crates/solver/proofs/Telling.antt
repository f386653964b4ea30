-- What two searches tell of two nodes are their greatest differences.
use Rattle.std.proofs.Common.{◌≡◌, ℕ, ◌<◌, length, sym, subst, arith}
use Rattle.sync_graph.specs.Graph.{GraphLists}
use Rattle.row_pool.specs.declared.cell.Reach.{Reach}
use Rattle.row_pool.specs.declared.cell.Pair.{Pair}
use Rattle.distances.specs.declared.side.Side.{Side}
use Rattle.distances.specs.declared.side.Side.TheVariants.{From}
use Rattle.distances.specs.Facing.{opposite}
use Rattle.distances.specs.Searched.{Searched}
use Rattle.distances.specs.Reaches.{IsReachIn, IsReachBy}
use Rattle.repair.specs.Pairs.{IsPairIn}

pub pair_told : (g : GraphLists) (p q : ℕ) (up down : Reach) → q < length g.nodes → IsReachIn g p q up → IsReachIn g q p down → IsPairIn g p q (record { up = up; down = down })
pair_told g p q up down below is_up is_down = record {
  up = λ _. is_up;
  down = λ _. is_down;
  past = λ beyond. absurd (omega arith);
}

-- the same differences, of the nodes the other way round
pub pair_turned : (g : GraphLists) (p q : ℕ) (pair turned : Pair) → p < length g.nodes → q < length g.nodes → IsPairIn g q p pair → turned.up ≡ pair.down → turned.down ≡ pair.up → IsPairIn g p q turned
pair_turned g p q pair turned below_p below_q is up down = record {
  up = λ _. subst (IsReachIn g p q) (sym up) (is.down below_p);
  down = λ _. subst (IsReachIn g q p) (sym down) (is.up below_p);
  past = λ beyond. absurd (omega arith);
}

-- ---- by a search from nodes, and by the same the other way round
module _ (s : Searched) (outward : s.side ≡ From) where
  pub reach_up : (p q : ℕ) (reach : Reach) → IsReachBy s.side s.graph p q reach → IsReachIn s.graph p q reach
  reach_up p q reach is = subst (λ (d : Side). IsReachBy d s.graph p q reach) outward is

  pub reach_down : (t : Searched) → t ≡ record { graph = s.graph; values = s.values; side = opposite s.side } → (p q : ℕ) (reach : Reach) → IsReachBy t.side t.graph p q reach → IsReachIn s.graph q p reach
  reach_down t is p q reach told =
      subst (λ (d : Side). IsReachBy (opposite d) s.graph p q reach) outward (subst (λ (r : Searched). IsReachBy r.side r.graph p q reach) is told)
