-- The names that a listing looks up.
use Rattle.std.proofs.Common.{◌≡◌, ℕ, zero, suc, List, [], ◌∷◌, map, slice_get, Some, refl}
use Rattle.std.specs.List.{slice_index_or}
use Rattle.problem_model.specs.declared.items.Clock.{Clock}
use Rattle.problem_model.specs.declared.items.Event.{Event}
use Rattle.problem_model.specs.ProblemText.{clock_name, event_name}
use Rattle.problem.specs.Listing.{name_at}

-- a name that is looked up is the name at that place
pub name_found : (names : List (List ℕ)) (k : ℕ) (name : List ℕ) → slice_get names k ≡ Some name → name ≡ slice_index_or names k []
name_found [] k name at = absurd cc
name_found (x ∷ names) zero name at = cc
name_found (x ∷ names) (suc k) name at = name_found names k name at

-- the names of a problem listed in its own order
pub event_name_is : (es : List Event) (k : ℕ) → name_at (map (λ e. e.name) es) k ≡ event_name es k
event_name_is [] k = refl
event_name_is (e ∷ es) zero = refl
event_name_is (e ∷ es) (suc k) = event_name_is es k

pub clock_name_is : (cs : List Clock) (k : ℕ) → name_at (map (λ c. c.name) cs) k ≡ clock_name cs k
clock_name_is [] k = refl
clock_name_is (c ∷ cs) zero = refl
clock_name_is (c ∷ cs) (suc k) = clock_name_is cs k
