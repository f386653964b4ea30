-- Places of events by their names, found one after another.
use Rattle.std.proofs.Common.{◌≡◌, ℕ, suc, List, [], ◌∷◌, ◌++◌, refl, sym, subst, arith, append_assoc, append-nil}
use Rattle.std.specs.Prelude.{Any}
use Rattle.problem_model.specs.Problem.{ProblemLists}
use Rattle.problem.specs.Line.{HasEvent, IsUnknown}
use Rattle.thinning.specs.Named.{AreNamed}

module _ (p : ProblemLists) (names : List (List ℕ)) where
  -- whatever are the places of the names that are left are, behind those so far, the places of all; and where one of those is
  -- unknown, one of all is
  pub record AreFound (left : List (List ℕ)) (places : List ℕ) : Type 0 where
    pub known : (more : List ℕ) → AreNamed p left more → AreNamed p names (places ++ more)
    pub unknown : Any (IsUnknown p) left → Any (IsUnknown p) names

  pub none_found : (places : List ℕ) → places ≡ [] → AreFound names places
  none_found places none = record { known = λ more named. subst (λ (so_far : List ℕ). AreNamed p names (so_far ++ more)) (sym none) named; unknown = λ some. some }

  module _ (left : List (List ℕ)) (places : List ℕ) (found : AreFound left places) where
    pub all_found : left ≡ [] → AreNamed p names places
    all_found none = subst (AreNamed p names) (append-nil places) (found.known [] (subst (λ (rest : List (List ℕ)). AreNamed p rest []) (sym none) tt))

    module _ (name : List ℕ) (next : List (List ℕ)) (is : left ≡ name ∷ next) where
      pub one_found : (place : ℕ) → HasEvent p place name → AreFound next (places ++ place ∷ [])
      one_found place has = record {
        known = λ more named. subst (AreNamed p names) (sym (append_assoc places (place ∷ []) more)) (found.known (place ∷ more) (subst (λ (rest : List (List ℕ)). AreNamed p rest (place ∷ more)) (sym is) (has, named)));
        unknown = λ (k, x, inside, at, none). found.unknown (subst (Any (IsUnknown p)) (sym is) (suc k, x, omega (arith, inside), at, none));
      }

      pub one_missing : IsUnknown p name → Any (IsUnknown p) names
      one_missing none = found.unknown (subst (Any (IsUnknown p)) (sym is) (0, name, omega arith, refl, none))
