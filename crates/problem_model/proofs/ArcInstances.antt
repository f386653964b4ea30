-- The arcs of the three nodes by number: relations on arcs and values, each of one thing that has it and one that lacks it.
use Rattle.std.proofs.Common.{ℕ, zero, suc, Bool, true, false, List, [], ◌∷◌, ◌≡◌, refl, sym, arith}
use Rattle.std.specs.Prelude.{pos, neg_ℤ, ◌-ℤ◌, ◌≤ℤ◌, ◌<ℤ◌, slice_index_or}
use Rattle.std.proofs.lemmas.Int.{ints}
use Rattle.std.proofs.lemmas.List.Elements.{All-contains}
use Rattle.problem_model.specs.Executions.{at, Obeys}
use Rattle.problem_model.specs.Paths.{Joins}
use Rattle.problem_model.specs.Differences.{IsAfter}
use Rattle.problem_model.specs.Tables.{ArcTable, ObeysAll}
use Rattle.problem_model.specs.Numbers.{IsUpTo}
use Rattle.problem_model.proofs.Instances.{most_five, least_two, least_one, most_two, three, four, low, low-execution, has_one, less_not_equal}

pub false_not_true : false ≡ true → ⊥
false_not_true e = cc

-- the numbers whose place in the list is marked
abbrev pub marked : List Bool → ℕ → Bool
marked marks k = slice_index_or marks k false

-- the arcs A, B, C and D by number, with A, B and C in force
abbrev pub three_numbered : ArcTable
three_numbered = record { arc = λ j. slice_index_or four j most_two; in_force = marked (true ∷ true ∷ true ∷ []) }

-- with all four in force
abbrev pub four_numbered : ArcTable
four_numbered = record { arc = λ j. slice_index_or four j most_two; in_force = marked (true ∷ true ∷ true ∷ true ∷ []) }

-- node 1 at most 5 after node 0
five_obeys : Obeys (at (pos 0 ∷ pos 5 ∷ [])) most_five
five_obeys = omega (arith, ints)

six_not_obeys : Obeys (at (pos 0 ∷ pos 6 ∷ [])) most_five → ⊥
six_not_obeys o = let l : (pos 6 -ℤ pos 0) ≤ℤ pos 5 = o in omega (arith, ints)

-- 0, 2 and 3 obey A, B and C, and not D
pub low-obeys_all : ObeysAll three_numbered (at low)
low-obeys_all zero f = omega (arith, ints)
low-obeys_all (suc zero) f = omega (arith, ints)
low-obeys_all (suc (suc zero)) f = omega (arith, ints)
low-obeys_all (suc (suc (suc j))) f = absurd (false_not_true f)

not_obeys_all : ObeysAll four_numbered (at low) → ⊥
not_obeys_all o = let l : (pos 3 -ℤ pos 0) ≤ℤ pos 2 = o 3 refl in omega (arith, ints)

-- C and then B; B ends at node 0, where C does not begin
joins : Joins 2 (least_one ∷ least_two ∷ []) 0
joins = (refl, (refl, refl))

not_joins : Joins 1 (least_two ∷ least_one ∷ []) 1 → ⊥
not_joins j = let rest : Joins 0 (least_one ∷ []) 1 = j.1 in less_not_equal 0 2 (omega arith) (sym rest.0)

-- node 2 comes after node 1, by C, and node 0 does not
later : IsAfter 3 three 2 1
later xs x = let o : Obeys (at xs) least_one = All-contains (Obeys (at xs)) three least_one x.obeys has_one in omega (arith, ints)

not_later : IsAfter 3 three 0 1 → ⊥
not_later a = let l : pos 2 <ℤ pos 0 = a low low-execution in omega (arith, ints)

-- 8 is 2 ^ 3
eight-up_to : IsUpTo 3 (pos 8)
eight-up_to = (omega (arith, ints), omega (arith, ints))

nine_not_up_to : IsUpTo 3 (pos 9) → ⊥
nine_not_up_to u = let l : pos 9 ≤ℤ pos 8 = u.1 in omega (arith, ints)

below_not_up_to : IsUpTo 3 (neg_ℤ (pos 9)) → ⊥
below_not_up_to u = let l : neg_ℤ (pos 8) ≤ℤ neg_ℤ (pos 9) = u.0 in omega (arith, ints)
