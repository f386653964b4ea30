-- From names to places of events, and from these to events of a problem that is made smaller.
use Rattle.std.proofs.Common.{◌≡◌, ◌<◌, ℕ, zero, suc, List, [], ◌∷◌, length, map, slice_get, Some, refl, sym, subst}
use Rattle.std.specs.Prelude.{All, Contains}
use Rattle.std.proofs.lemmas.Option.{slice_get_within, slice_get_read}
use Rattle.std.proofs.lemmas.List.Elements.{All-nil, All-cons, All-head, All-tail}
use Rattle.problem_model.specs.declared.items.Event.{Event}
use Rattle.problem_model.specs.Name.{IsEventName}
use Rattle.problem_model.specs.Problem.{ProblemLists, IsProblem}
use Rattle.problem_model.specs.Bounds.{EventAt}
use Rattle.problem.specs.Line.{HasEvent, IsUnknown}
use Rattle.thinning.specs.Thinned.{HasAsked}
use Rattle.thinning.specs.Named.{IsKnown, AreNamed}

-- ---- names of events
name_of_some : (events : List Event) (k : ℕ) (name : List ℕ) → All (λ (e : Event). IsEventName e.name) events → slice_get (map (λ (e : Event). e.name) events) k ≡ Some name → IsEventName name
name_of_some [] k name all at = absurd cc
name_of_some (e ∷ events) zero name all at = let is : e.name ≡ name = cc in subst IsEventName is (All-head (λ (x : Event). IsEventName x.name) e events all)
name_of_some (e ∷ events) (suc k) name all at = name_of_some events k name (All-tail (λ (x : Event). IsEventName x.name) e events all) at

-- what is no name is the name of no event
pub no_name : (p : ProblemLists) (name : List ℕ) → IsProblem p → (IsEventName name → ⊥) → IsUnknown p name
no_name p name lawful other k at = other (name_of_some p.events k name lawful.formed.event_names at)

-- ---- what names and places are good for
event_there : (events : List Event) (k : ℕ) (name : List ℕ) → slice_get (map (λ (e : Event). e.name) events) k ≡ Some name → (v : Event) × (slice_get events k ≡ Some v) × (v.name ≡ name)
event_there [] k name at = absurd cc
event_there (e ∷ events) zero name at = (e, refl, cc)
event_there (e ∷ events) (suc k) name at = event_there events k name at

name_at : (events : List Event) (k : ℕ) (v : Event) → slice_get events k ≡ Some v → slice_get (map (λ (e : Event). e.name) events) k ≡ Some v.name
name_at [] k v at = absurd cc
name_at (e ∷ events) zero v at = cc
name_at (e ∷ events) (suc k) v at = name_at events k v at

module _ (p : ProblemLists) where
  place_inside : (events : List Event) (k : ℕ) (name : List ℕ) → slice_get (map (λ (e : Event). e.name) events) k ≡ Some name → k < length events
  place_inside events k name at = let there = event_there events k name at in slice_get_within events k there.0 there.1

  pub all_inside : (names : List (List ℕ)) (places : List ℕ) → AreNamed p names places → All (λ k. k < length p.events) places
  all_inside [] [] named = All-nil (λ k. k < length p.events)
  all_inside [] (place ∷ places) named = absurd named
  all_inside (name ∷ names) [] named = absurd named
  all_inside (name ∷ names) (place ∷ places) named = All-cons (λ k. k < length p.events) place places (place_inside p.events place name named.0) (all_inside names places named.1)

  pub all_known : (names : List (List ℕ)) (places : List ℕ) → AreNamed p names places → All (IsKnown p) names
  all_known [] [] named = All-nil (IsKnown p)
  all_known [] (place ∷ places) named = absurd named
  all_known (name ∷ names) [] named = absurd named
  all_known (name ∷ names) (place ∷ places) named = All-cons (IsKnown p) name names (place, named.0) (all_known names places named.1)

  module _ (small : ProblemLists) where
    still_known : (name : List ℕ) (place : ℕ) → HasEvent p place name → ((v : Event) → EventAt p place v → Contains small.events v) → IsKnown small name
    still_known name place has stays =
        let there = event_there p.events place name has in
        let kept = stays there.0 there.1 in
        let at : slice_get small.events kept.0 ≡ Some there.0 = slice_get_read small.events (length small.events) kept.0 there.0 refl kept.1 (sym kept.2) in
        (kept.0, subst (λ (n : List ℕ). slice_get (map (λ (e : Event). e.name) small.events) kept.0 ≡ Some n) there.2 (name_at small.events kept.0 there.0 at))

    pub all_kept : (names : List (List ℕ)) (places : List ℕ) → AreNamed p names places → HasAsked p places small → All (IsKnown small) names
    all_kept [] [] named asked = All-nil (IsKnown small)
    all_kept [] (place ∷ places) named asked = absurd named
    all_kept (name ∷ names) [] named asked = absurd named
    all_kept (name ∷ names) (place ∷ places) named asked =
        All-cons (IsKnown small) name names (still_known name place named.0 (All-head (λ (k : ℕ). (v : Event) → EventAt p k v → Contains small.events v) place places asked))
        (all_kept names places named.1 (All-tail (λ (k : ℕ). (v : Event) → EventAt p k v → Contains small.events v) place places asked))
