-- Values by their numbers.
use Rattle.std.specs.Prelude.{◌≡◌, if◌then◌else◌, ℕ, Bool, true, List, [], ◌∷◌, ◌++◌, length, Option, Some, None, nat_eq, nat_lt, filter_map, count_by}
use Rattle.std.specs.List.{range_with_len}
use Rattle.std.specs.Map.{values_of}

-- the value whose number is k, where one has it
abbrev pub value_at : {T : Type 0} → List (T × ℕ) → ℕ → Option T
value_at [] k = None
value_at (e ∷ es) k = if nat_eq k e.1 then Some e.0 else value_at es k

-- the values in the order of their numbers, in which they came: 30, 10, 20 where 10 has 1, 20 has 2 and 30 has 0
abbrev pub by_number : {T : Type 0} → List (T × ℕ) → List T
by_number es = filter_map (value_at es) (range_with_len 0 (length es))

-- the numbers are those below their count, each once
abbrev pub HaveNumbers : {T : Type 0} → List (T × ℕ) → Type 0
HaveNumbers es = (k : ℕ) → count_by (nat_eq k) (values_of es) ≡ (if nat_lt k (length es) then 1 else 0)

-- the last value passes the test
abbrev pub IsLast : {T : Type 0} → (T → Bool) → List T → Type 0
IsLast {T} test xs = (ys : List T) × (y : T) × (xs ≡ ys ++ y ∷ []) × (test y ≡ true)
