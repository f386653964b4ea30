-- Places of events by their names, one after another, and what is told of a problem that is made smaller.
use Rattle.std.proofs.Common.{◌≡◌, inl, ◌≤◌, ◌+◌, ◌-◌, ℕ, zero, suc, Bool, List, [], ◌∷◌, ◌++◌, length, take, drop, slice_get, Some, refl, sym, subst, arith}
use Rattle.std.specs.Prelude.{All, Any}
use Rattle.std.proofs.lemmas.Option.{slice_get_within, get_or_from_slice_get}
use Rattle.problem_model.specs.Problem.{ProblemLists}
use Rattle.problem_model.specs.ProblemText.{problem_text}
use Rattle.problem.specs.Line.{HasEvent, IsUnknown}
use Rattle.thinning.specs.Thinned.{thinned_by}
use Rattle.thinning.specs.Named.{IsKnown, AreNamed, IsThinnedFor}
use Rattle.problem_commands.specs.Thin.{TellsThin}
use Rattle.problem_commands.specs.declared.status.Status.TheVariants.{Done}

-- ---- places of names, found one after another
whole : (xs : List (List ℕ)) (n : ℕ) → length xs ≤ n → take n xs ≡ xs
whole [] zero le = refl
whole [] (suc n) le = refl
whole (x ∷ xs) zero le = absurd (omega (arith, le))
whole (x ∷ xs) (suc n) le = let rest : take n xs ≡ xs = whole xs n (omega (arith, le)) in cc

some_one : (a b : List ℕ) → Some a ≡ Some b → a ≡ b
some_one a b same = cc

behind_two : (words : List (List ℕ)) (k : ℕ) (name : List ℕ) → 2 ≤ k → slice_get words k ≡ Some name → slice_get (drop 2 words) (k - 2) ≡ Some name
behind_two words zero name two at = absurd (omega (arith, two))
behind_two words (suc zero) name two at = absurd (omega (arith, two))
behind_two [] (suc (suc k)) name two at = absurd cc
behind_two (a ∷ []) (suc (suc k)) name two at = absurd cc
behind_two (a ∷ b ∷ words) (suc (suc k)) name two at =
    let back : suc (suc k) - 2 ≡ k = omega arith in
    subst (λ (n : ℕ). slice_get words n ≡ Some name) (sym back) at

short_behind : (words : List (List ℕ)) (k : ℕ) → length words ≤ k → length (drop 2 words) ≤ k - 2
short_behind [] k le = omega arith
short_behind (a ∷ []) k le = omega arith
short_behind (a ∷ b ∷ words) k le = omega (arith, le)

module _ (p : ProblemLists) where
  one_more : (names : List (List ℕ)) (j : ℕ) (name : List ℕ) (places : List ℕ) (place : ℕ) → slice_get names j ≡ Some name → AreNamed p (take j names) places → HasEvent p place name
      → AreNamed p (take (suc j) names) (places ++ place ∷ [])
  one_more [] j name places place at named has = absurd cc
  one_more (x ∷ names) zero name [] place at named has = (subst (HasEvent p place) (sym (some_one x name at)) has, tt)
  one_more (x ∷ names) zero name (y ∷ places) place at named has = absurd named
  one_more (x ∷ names) (suc j) name [] place at named has = absurd named
  one_more (x ∷ names) (suc j) name (y ∷ places) place at named has = (named.0, one_more names j name places place at named.1 has)

  module _ (words : List (List ℕ)) where
    -- the words behind the first two up to this one
    pub named_more : (k : ℕ) (name : List ℕ) (places : List ℕ) (place : ℕ) → 2 ≤ k → slice_get words k ≡ Some name → AreNamed p (take (k - 2) (drop 2 words)) places → HasEvent p place name
        → AreNamed p (take (k + 1 - 2) (drop 2 words)) (places ++ place ∷ [])
    named_more k name places place two at named has =
        let next : suc (k - 2) ≡ k + 1 - 2 = omega (arith, two) in
        subst (λ (n : ℕ). AreNamed p (take n (drop 2 words)) (places ++ place ∷ [])) next (one_more (drop 2 words) (k - 2) name places place (behind_two words k name two at) named has)

    pub all_named : (k : ℕ) (places : List ℕ) → length words ≤ k → AreNamed p (take (k - 2) (drop 2 words)) places → AreNamed p (drop 2 words) places
    all_named k places le named = subst (λ (names : List (List ℕ)). AreNamed p names places) (whole (drop 2 words) (k - 2) (short_behind words k le)) named

    pub one_unknown : (k : ℕ) (name : List ℕ) → 2 ≤ k → slice_get words k ≡ Some name → IsUnknown p name → Any (IsUnknown p) (drop 2 words)
    one_unknown k name two at unknown =
        let there = behind_two words k name two at in
        (k - 2, name, slice_get_within (drop 2 words) (k - 2) name there, get_or_from_slice_get (drop 2 words) (k - 2) name name there, unknown)

-- ---- what is told
pub tells : {p : ProblemLists} {names : List (List ℕ)} {stays keeps : List Bool} → All (IsKnown p) names → IsThinnedFor p names stays keeps → TellsThin p names Done (problem_text (thinned_by p stays keeps))
tells {stays = stays} {keeps = keeps} known is = inl (known, refl, (stays, keeps, is, refl))
