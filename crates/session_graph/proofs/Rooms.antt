-- How much room is made.
use Rattle.std.proofs.Common.{ℕ, Bool, true, false, ◌≡◌, ◌≤◌, ◌<◌, ◌+◌, ◌/◌, ◌^◌, refl, arith, pow_mono}
use Rattle.std.specs.Prelude.{max, nat_le}
use Rattle.std.specs.Int.{IsPowerOfTwo}
use Rattle.problem_model.specs.Limits.{most_nodes, node_bits}

few_by : (k n result : ℕ) (b : Bool) → nat_le k node_bits ≡ b → result ≡ 2 ^ k → n ≤ most_nodes → result / 2 < max 1 n → result ≤ most_nodes
few_by k n result true small is few near = let most : 2 ^ k ≤ most_nodes = pow_mono {i = k} {j = node_bits} (grind (arith, small)) in omega (arith, is, most)
few_by k n result false large is few near = let least : 2 ^ (node_bits + 1) ≤ 2 ^ k = pow_mono {i = node_bits + 1} {j = k} (grind (arith, large)) in omega (arith, is, least, few, near)

-- the least power of two that is no less than a number of at most 2^25 is at most 2^25 itself
pub few_nodes : (n result : ℕ) → n ≤ most_nodes → IsPowerOfTwo result → result / 2 < max 1 n → result ≤ most_nodes
few_nodes n result few power near = few_by power.0 n result (nat_le power.0 node_bits) refl power.1 few near
