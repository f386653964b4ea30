-- How many follows a problem has.
use Rattle.std.proofs.Common.{◌≡◌, ◌≢◌, ◌<◌, ◌≤◌, ℕ, List, length, map, get_or, eqb, All, AllPairs, sym, ◌∙◌, arith}
use Rattle.std.proofs.lemmas.Bool.{ne_eqb, eqb-true}
use Rattle.std.proofs.lemmas.List.{length-map, get_or-map}
use Rattle.std.proofs.lemmas.List.Elements.{All-contains, All-map}
use Rattle.std.proofs.lemmas.Map.Keys.{IsDistinct-from_apart}
use Rattle.std.proofs.lemmas.Map.Steps.{length-le_from_distinct_below}
use Rattle.std.proofs.lemmas.Map.Views.{Contains-from_any}
use Rattle.problem_model.specs.declared.items.Follow.{Follow}
use Rattle.problem_model.specs.Problem.{ProblemLists, IsProblem}

-- different numbers below a number are no more than it
few : (room : ℕ) (xs : List ℕ) → AllPairs (λ a b. a ≢ b) xs → All (λ a. a < room) xs → length xs ≤ room
few room xs differ below =
    length-le_from_distinct_below xs room
    (IsDistinct-from_apart eqb xs (λ i j d before inside. ne_eqb (get_or xs i d) (get_or xs j d) (differ i j d before inside)))
    (λ q among. All-contains (λ a. a < room) xs q below (Contains-from_any eqb-true q xs among))

later_of : Follow → ℕ
later_of f = f.later

-- no clock is the later of two, so there are no more follows than clocks
pub few_follows : (p : ProblemLists) → IsProblem p → length p.follows ≤ length p.clocks
unfolding later_of
few_follows p lawful =
    let e : Follow = record { earlier = 0; later = 0; gap = 0 } in
    let size : length (map later_of p.follows) ≡ length p.follows = length-map p.follows later_of in
    let count = few (length p.clocks) (map later_of p.follows)
    (λ i j d before inside same. lawful.formed.laters_differ i j e before (omega (arith, inside, size)) (sym (get_or-map later_of p.follows i e d (omega (arith, before, inside, size))) ∙ same ∙ get_or-map later_of p.follows j e d (omega (arith, inside, size))))
    (All-map (λ a. a < length p.clocks) later_of p.follows (λ i d inside. (lawful.formed.follow_ends i d inside).1)) in
    omega (arith, size, count)
