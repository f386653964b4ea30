-- The places of a list of nodes that stay as they were.
use Rattle.std.proofs.Common.{◌≡◌, ◌≢◌, ℕ, zero, suc, ◌+◌, ◌≤◌, Bool, true, false, List, [], ◌∷◌, set, slice_get, refl, ap, ◌∙◌, arith, inl, inr}
use Rattle.std.proofs.lemmas.Bool.{cases_Bool}
use Rattle.problem_model.specs.Sums.{sum_to}
use Rattle.withdrawals.specs.Withdrawals.{flagged_sum, flagged_count, LeavesFrom}
use Rattle.withdrawals.proofs.Sums.{flagged_below, sum_ones}

set_elsewhere : (xs : List ℕ) (k i x : ℕ) → i ≢ k → slice_get (set xs k x) i ≡ slice_get xs i
set_elsewhere [] zero i x other = refl
set_elsewhere [] (suc k) i x other = refl
set_elsewhere (a ∷ xs) zero zero x other = absurd (other refl)
set_elsewhere (a ∷ xs) zero (suc i) x other = refl
set_elsewhere (a ∷ xs) (suc k) zero x other = refl
set_elsewhere (a ∷ xs) (suc k) (suc i) x other = set_elsewhere xs k i x (λ same. other (ap suc same))

-- the place behind those that are written is written next
pub leaves_behind : (found found' : List ℕ) (count node result : ℕ) → found' ≡ set found count node → result ≡ count + 1 → LeavesFrom result found found'
leaves_behind found found' count node result is more i l = ap (λ (xs : List ℕ). slice_get xs i) is ∙ set_elsewhere found count i node (λ same. omega (arith, l, more, same))

-- nothing is written
pub leaves_all : (found found' : List ℕ) (first : ℕ) → found' ≡ found → LeavesFrom first found found'
leaves_all found found' first is i l = ap (λ (xs : List ℕ). slice_get xs i) is

-- one after the other
pub leaves_then : (old mid new : List ℕ) (first then : ℕ) → first ≤ then → LeavesFrom first old mid → LeavesFrom then mid new → LeavesFrom then old new
leaves_then old mid new first then up a b i l = b i l ∙ a i (omega (arith, up, l))

-- where those found are the marked nodes, and these are flagged, no more are found than are flagged
pub leaves_flagged : (nodes : ℕ) (marked flag : ℕ → Bool) (old new : List ℕ) (count : ℕ) → flagged_sum nodes (λ _. 1) marked ≡ sum_to count (λ _. 1) → ((k : ℕ) → marked k ≡ true → flag k ≡ true)
    → LeavesFrom count old new → LeavesFrom (flagged_count nodes flag) old new
leaves_flagged nodes marked flag old new count counted cover leaves i l =
    let ones : sum_to count (λ _. 1) ≡ count = sum_ones count in
    let few : flagged_sum nodes (λ _. 1) marked ≤ flagged_count nodes flag = flagged_below nodes (λ _. 1) (λ _. 1) marked flag (λ k b. cover k) (λ k b. omega arith) in
    leaves i (omega (arith, counted, ones, few, l))

-- what is not flagged is not marked
pub unflagged : (marked flag : ℕ → Bool) → ((k : ℕ) → marked k ≡ true → flag k ≡ true) → (k : ℕ) → flag k ≡ false → marked k ≡ false
unflagged marked flag cover k free = elim (cases_Bool (marked k)) [
  | inl m ↦ absurd (let t : flag k ≡ true = cover k m in let z : ⊥ = cc in z)
  | inr m ↦ m
]
