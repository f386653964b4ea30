-- Sums over the nodes, where one term or none changes.
use Rattle.std.proofs.Common.{◌≡◌, ℕ, zero, suc, ◌+◌, ◌<◌, ◌≤◌, true, false, refl, ap, sym, ◌∙◌, subst, arith, inl, inr}
use Rattle.std.specs.Prelude.{ℤ, ◌≤ℤ◌, ◌<ℤ◌, ◌≢◌, if◌then◌else◌, int_lt}
use Rattle.std.proofs.lemmas.Int.{ints}
use Rattle.std.proofs.lemmas.Bool.{cases_eq, cases_Bool, cond-false}
use Rattle.problem_model.specs.Sums.{sum_to, risen_sum}

pub sum-same : (n : ℕ) (f g : ℕ → ℕ) → ((k : ℕ) → k < n → g k ≡ f k) → sum_to n g ≡ sum_to n f
sum-same zero f g h = refl
sum-same (suc n) f g h = let r : sum_to n g ≡ sum_to n f = sum-same n f g (λ k l. h k (omega arith)) in let e : g n ≡ f n = h n (omega arith) in omega arith

pub sum-more : (n node v : ℕ) (f g : ℕ → ℕ) → node < n → g node ≡ f node + v → ((k : ℕ) → k ≢ node → g k ≡ f k) → sum_to n g ≡ sum_to n f + v
sum-more zero node v f g l e h = absurd (omega arith)
sum-more (suc n) node v f g l e h = elim (cases_eq node n) [
  | inl q ↦
      let r : sum_to n g ≡ sum_to n f = sum-same n f g (λ k lk. h k (λ x. (let y : k ≡ n = x ∙ q in omega arith))) in
      let e2 : g n ≡ f n + v = subst (λ m. g m ≡ f m + v) q e in
      omega arith
  | inr w ↦
      let r : sum_to n g ≡ sum_to n f + v = sum-more n node v f g (omega arith) e h in
      let e2 : g n ≡ f n = h n (λ x. w (sym x)) in
      omega arith
]

pub sum_zero : (n : ℕ) (f : ℕ → ℕ) → ((k : ℕ) → f k ≡ 0) → sum_to n f ≡ 0
sum_zero zero f h = refl
sum_zero (suc n) f h = let r : sum_to n f ≡ 0 = sum_zero n f h in let e : f n ≡ 0 = h n in omega arith

pub sum_few : (n : ℕ) (f : ℕ → ℕ) → ((k : ℕ) → f k ≤ 1) → sum_to n f ≤ n
sum_few zero f h = omega arith
sum_few (suc n) f h = let r : sum_to n f ≤ n = sum_few n f h in let e : f n ≤ 1 = h n in omega arith

sum_fewer : (n node : ℕ) (f : ℕ → ℕ) → ((k : ℕ) → f k ≤ 1) → node < n → f node ≡ 0 → sum_to n f < n
sum_fewer zero node f h l z = absurd (omega arith)
sum_fewer (suc n) node f h l z = elim (cases_eq node n) [
  | inl q ↦ (let r : sum_to n f ≤ n = sum_few n f h in let e : f n ≡ 0 = subst (λ m. f m ≡ 0) q z in omega arith)
  | inr w ↦ (let r : sum_to n f < n = sum_fewer n node f h (omega arith) z in let e : f n ≤ 1 = h n in omega arith)
]

pub lt_true : (a b : ℤ) → a <ℤ b → int_lt a b ≡ true
lt_true a b h = grind (arith, ints)

pub lt_false : (a b : ℤ) → b ≤ℤ a → int_lt a b ≡ false
lt_false a b h = grind (arith, ints)

-- one more node has risen
pub risen-more : (nodes : ℕ) (each : ℕ → ℕ) (old value value' : ℕ → ℤ) (node : ℕ)
    → node < nodes → value node ≤ℤ old node → old node <ℤ value' node → ((k : ℕ) → k ≢ node → value' k ≡ value k)
    → risen_sum nodes each old value' ≡ risen_sum nodes each old value + each node
risen-more nodes each old value value' node l before after others =
    sum-more nodes node (each node) (λ k. if int_lt (old k) (value k) then each k else 0) (λ k. if int_lt (old k) (value' k) then each k else 0) l
    (rw (lt_true (old node) (value' node) after, lt_false (old node) (value node) before) (omega arith))
    (λ k n. ap (λ v. if int_lt (old k) v then each k else 0) (others k n))

one_at_most : (a b : ℤ) → (if int_lt a b then 1 else 0) ≤ 1
one_at_most a b = elim (cases_Bool (int_lt a b)) [ inl t ↦ rw t (omega arith) | inr f ↦ rw f (omega arith) ]

-- a node that has not risen is not counted
pub risen_fewer : (nodes : ℕ) (old value : ℕ → ℤ) (node : ℕ) → node < nodes → value node ≤ℤ old node → risen_sum nodes (λ _. 1) old value < nodes
risen_fewer nodes old value node l low =
    sum_fewer nodes node (λ k. if int_lt (old k) (value k) then 1 else 0) (λ k. one_at_most (old k) (value k)) l (cond-false (int_lt (old node) (value node)) 1 0 (lt_false (old node) (value node) low))
