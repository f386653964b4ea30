-- Weights of arcs, counted one arc after another.
use Rattle.std.proofs.Common.{◌≡◌, ◌<◌, ◌≤◌, ◌+◌, ◌*◌, ◌^◌, ℕ, zero, suc, List, [], ◌∷◌, length, drop, get_or, refl, sym, ◌∙◌, ap, subst, arith, to_z, of_z}
use Rattle.std.specs.Prelude.{ℤ, pos, neg_ℤ, ◌+ℤ◌, ◌<ℤ◌, unsigned_abs}
use mir.Syntax.{w128}
use mir.Val.{SFits}
use Rattle.std.proofs.lemmas.Int.{ints, to_z-of_z}
use Rattle.problem_model.specs.Numbers.{IsUpTo}
use Rattle.problem_model.specs.Solutions.{weight_of}
use Rattle.problem_model.specs.Limits.{most_nodes, path_bits}
use Rattle.sync_graph.specs.declared.arc.Arc.{Arc}
use Rattle.widen.specs.Weighed.{weighed_arcs}

drop_suc : (arcs : List Arc) (k : ℕ) (d : Arc) → k < length arcs → drop k arcs ≡ get_or arcs k d ∷ drop (suc k) arcs
drop_suc [] k d inside = absurd (omega (arith, inside))
drop_suc (a ∷ arcs) zero d inside = refl
drop_suc (a ∷ arcs) (suc k) d inside = drop_suc arcs k d (omega (arith, inside))

drop_next : (arcs : List Arc) (k : ℕ) (a : Arc) → k < length arcs → a ≡ get_or arcs k a → drop k arcs ≡ a ∷ drop (k + 1) arcs
drop_next arcs k a inside is =
    let next : suc k ≡ k + 1 = omega arith in
    drop_suc arcs k a inside ∙ ap (λ (n : ℕ). get_or arcs k a ∷ drop n arcs) next ∙ ap (λ (b : Arc). b ∷ drop (k + 1) arcs) (sym is)

drop_end : (arcs : List Arc) (k : ℕ) → length arcs ≤ k → drop k arcs ≡ []
drop_end [] zero past = refl
drop_end [] (suc k) past = refl
drop_end (a ∷ arcs) zero past = absurd (omega (arith, past))
drop_end (a ∷ arcs) (suc k) past = drop_end arcs k (omega (arith, past))

module _ (arcs : List Arc) where
  pub sum_next : (k : ℕ) (sum sum' : ℤ) (a : Arc) → k < length arcs → a ≡ get_or arcs k a → sum' ≡ sum +ℤ a.weight → sum +ℤ weight_of (weighed_arcs (drop k arcs)) ≡ weight_of (weighed_arcs arcs)
      → sum' +ℤ weight_of (weighed_arcs (drop (k + 1) arcs)) ≡ weight_of (weighed_arcs arcs)
  sum_next k sum sum' a inside is more so_far =
      let here : weight_of (weighed_arcs (drop k arcs)) ≡ a.weight +ℤ weight_of (weighed_arcs (drop (k + 1) arcs)) = ap (λ (rest : List Arc). weight_of (weighed_arcs rest)) (drop_next arcs k a inside is) in
      omega (arith, ints, here, so_far, more)

  pub sum_all : (k : ℕ) (sum : ℤ) → length arcs ≤ k → sum +ℤ weight_of (weighed_arcs (drop k arcs)) ≡ weight_of (weighed_arcs arcs) → sum ≡ weight_of (weighed_arcs arcs)
  sum_all k sum past so_far =
      let none : weight_of (weighed_arcs (drop k arcs)) ≡ pos 0 = ap (λ (rest : List Arc). weight_of (weighed_arcs rest)) (drop_end arcs k past) in
      omega (arith, ints, none, so_far)

-- ---- as the code has them
pub up_from : (w : ℤ) → (neg_ℤ (pos (2 ^ 93)) <ℤ w) × (w <ℤ pos (2 ^ 93)) → IsUpTo 93 w
up_from w (low, high) = (omega (arith, ints, low), omega (arith, ints, high))

value_fits : (z : ℤ) → IsUpTo (path_bits + 2) z → SFits w128 z
value_fits z (low, high) = omega (arith, ints, low, high)

pub value_is : (z : ℤ) → IsUpTo (path_bits + 2) z → to_z w128 (of_z w128 z) ≡ z
value_is z up = to_z-of_z w128 z (value_fits z up)

weight_fits : (w : ℤ) → IsUpTo 93 w → SFits w128 w
weight_fits w (low, high) = omega (arith, ints, low, high)

pub units_fit : (z : ℤ) → IsUpTo (path_bits + 2) z → unsigned_abs (to_z w128 (of_z w128 z)) ≤ 2 ^ 120
units_fit z up = subst (λ (v : ℤ). unsigned_abs v ≤ 2 ^ 120) (sym (value_is z up)) (let low = up.0 in let high = up.1 in omega (arith, ints, low, high))

module _ (k count : ℕ) (sum w : ℤ) (inside : k < count) (few : count ≤ most_nodes) (so_far : unsigned_abs sum ≤ k * 2 ^ 93) (up : IsUpTo 93 w) where
  worth : to_z w128 (of_z w128 w) ≡ w
  worth = to_z-of_z w128 w (weight_fits w up)

  sums_fit : SFits w128 (sum +ℤ w)
  sums_fit = let low = up.0 in let high = up.1 in omega (arith, ints, inside, few, so_far, low, high)

  pub sum_fits : SFits w128 (sum +ℤ to_z w128 (of_z w128 w))
  sum_fits = subst (λ (v : ℤ). SFits w128 (sum +ℤ v)) (sym worth) sums_fit

  pub sum_is : to_z w128 (of_z w128 (sum +ℤ to_z w128 (of_z w128 w))) ≡ sum +ℤ w
  sum_is = to_z-of_z w128 (sum +ℤ to_z w128 (of_z w128 w)) sum_fits ∙ ap (λ (v : ℤ). sum +ℤ v) worth

pub sum_grows : (k : ℕ) (sum w : ℤ) → unsigned_abs sum ≤ k * 2 ^ 93 → IsUpTo 93 w → unsigned_abs (sum +ℤ w) ≤ (k + 1) * 2 ^ 93
sum_grows k sum w so_far (low, high) = omega (arith, ints, so_far, low, high)
