-- Sums over the nodes, as counts of nodes and of the steps that they cost.
use Rattle.std.specs.Prelude.{ℕ, zero, suc, ◌+◌, Bool, ◌||◌, ◌&&◌, not, ℤ, if◌then◌else◌, int_lt}
use Rattle.problem_model.specs.Parents.{Cells}

-- f 0 + .. + f (n - 1)
abbrev pub sum_to : ℕ → (ℕ → ℕ) → ℕ
sum_to zero f = 0
sum_to (suc n) f = sum_to n f + f n

-- so much for each node that has risen
abbrev pub risen_sum : ℕ → (ℕ → ℕ) → (ℕ → ℤ) → (ℕ → ℤ) → ℕ
risen_sum nodes each old value = sum_to nodes (λ k. if int_lt (old k) (value k) then each k else 0)

-- the cells of k differ in whether it is known, or in value
abbrev pub is_changed : Cells → Cells → ℕ → Bool
is_changed old c k = (int_lt (c.value k) (old.value k) || int_lt (old.value k) (c.value k)) || (if c.known k then not (old.known k) else old.known k)

-- so much for each changed node
abbrev pub changed_sum : ℕ → (ℕ → ℕ) → Cells → Cells → ℕ
changed_sum nodes each old c = sum_to nodes (λ k. if is_changed old c k then each k else 0)

-- so much for each changed node that waits no more
abbrev pub done_sum : ℕ → (ℕ → ℕ) → Cells → Cells → (ℕ → Bool) → ℕ
done_sum nodes each old c waits = sum_to nodes (λ k. if is_changed old c k && not (waits k) then each k else 0)
