-- Which follows the short list has.
use Rattle.std.proofs.Common.{◌≡◌, ◌⊎◌, ◌<◌, ◌≤◌, ◌+◌, ℕ, zero, suc, List, [], ◌∷◌, ◌++◌, length, Bool, true, false, cond, nat_eq, Option, Some, None, refl, sym, ◌∙◌, ap, subst, arith, inl, inr}
use Rattle.std.specs.Prelude.{Contains, ◌↔◌}
use Rattle.std.specs.Option.{option_or}
use Rattle.problem_model.specs.declared.items.Clock.{Clock}
use Rattle.problem_model.specs.declared.items.Follow.{Follow}
use Rattle.problem_model.specs.declared.items.Bound.{Bound}
use Rattle.problem_model.specs.declared.items.Bound.TheVariants as bounds
use Rattle.problem_model.specs.Problem.{ProblemLists, IsChained}
use Rattle.problem_model.specs.Bounds.{IsReading, LinesLead, ComesAfter}
use Rattle.problem_model.specs.Nodes.{Reading, AreReadings}
use Rattle.problem_model.specs.Nearest.{IsLastOn, IsFirstOn, IsNearestBefore}
use Rattle.problem_model.specs.ShortList.{follow_to, clocks_before, first_reading, last_reading, nearest_reading, follow_bound, follow_bounds}
use Rattle.problem_model.proofs.Chains.{Among, among, Rises, rises}
use Rattle.problem_model.proofs.OneList.{contained}
use Rattle.problem_model.proofs.Following.{by_last, IsLast, IsFirst, last_is, first_is, ends_rise, nearest, one_line, line_more}

-- ---- members
in_parts : {X : Type 0} (xs ys : List X) (x : X) → Among (xs ++ ys) x → Among xs x ⊎ Among ys x
in_parts [] ys x at = inr at
in_parts (v ∷ xs) ys x (inl is) = inl (inl is)
in_parts (v ∷ xs) ys x (inr at) = elim (in_parts xs ys x at) [ inl here ↦ inl (inr here) | inr there ↦ inr there ]

in_front : {X : Type 0} (xs ys : List X) (x : X) → Among xs x → Among (xs ++ ys) x
in_front [] ys x at = absurd at
in_front (v ∷ xs) ys x (inl is) = inl is
in_front (v ∷ xs) ys x (inr at) = inr (in_front xs ys x at)

in_back : {X : Type 0} (xs ys : List X) (x : X) → Among ys x → Among (xs ++ ys) x
in_back [] ys x at = at
in_back (v ∷ xs) ys x at = inr (in_back xs ys x at)

-- ---- places rise along a chain
along : (p : ProblemLists) → IsChained p → (c : ℕ) (lines : List Follow) (d : ℕ) → LinesLead p c lines d → c ≤ d
along p chained c [] d leads = omega (arith, leads)
along p chained c (f ∷ lines) d leads =
    let rest = along p chained f.later lines d leads.2 in
    let rise = (ends_rise p chained [] tt f leads.0).0 in
    let from = leads.1 in omega (arith, rest, rise, from)

pub rises_after : (p : ProblemLists) → IsChained p → (c d : ℕ) → ComesAfter p c d → c < d
rises_after p chained c d after =
    let rest = along p chained after.0.later after.1 d after.2.2 in
    let rise = (ends_rise p chained [] tt after.0 after.2.0).0 in
    let from = after.2.1 in omega (arith, rest, rise, from)

-- ---- what a follow of the list joins
abbrev LeadsTo : ℕ → List Follow → Follow → Type 0
LeadsTo d follows f = Among follows f × (f.later ≡ d)

some_same : {X : Type 0} (a b : X) → Some a ≡ Some b → a ≡ b
some_same a b e = cc

found_step : (d : ℕ) (g : Follow) (follows : List Follow) (f : Follow) (b : Bool) → nat_eq g.later d ≡ b → (follow_to follows d ≡ Some f → LeadsTo d follows f)
    → cond b (Some g) (follow_to follows d) ≡ Some f → LeadsTo d (g ∷ follows) f
found_step d g follows f true test rest is =
    let one : g ≡ f = some_same g f is in
    let later : g.later ≡ f.later = ap (λ (v : Follow). v.later) one in (inl one, grind (arith, test, later))
found_step d g follows f false test rest is = let there = rest is in (inr there.0, there.1)

found_is : (d : ℕ) (follows : List Follow) (f : Follow) → follow_to follows d ≡ Some f → LeadsTo d follows f
found_is d [] f is = absurd cc
found_is d (g ∷ follows) f is = found_step d g follows f (nat_eq g.later d) refl (found_is d follows f) is

module _ (p : ProblemLists) (chained : IsChained p) (readings : List Reading) (are : AreReadings p readings) where
  rising : Rises readings
  rising = rises readings are.rising

  -- r is the last reading of a clock that d comes after
  abbrev EndsBefore : ℕ → Reading → Type 0
  EndsBefore d r = ComesAfter p r.0 d × IsLastOn p r.0 r.1

  is_read : (r : Reading) → Among readings r → IsReading p r.0 r.1
  is_read r at = are.each r.0 r.1 (contained readings r at)

  -- a list of clocks that d comes after
  ends_step : (d e : ℕ) (o rest : Option Reading) (r : Reading) → ComesAfter p e d → IsLast e readings o → (rest ≡ Some r → EndsBefore d r) → option_or o rest ≡ Some r → EndsBefore d r
  ends_step d e None rest r after last further is = further is
  ends_step d e (Some q) rest r after last further is = subst (λ (v : Reading). EndsBefore d v) (some_same q r is) (
    subst (λ (k : ℕ). ComesAfter p k d) (sym last.0) after,
    (is_read q last.1, λ u read. last.2 u (among readings (e, u) (are.every e u (subst (λ (k : ℕ). IsReading p k u) last.0 read)))),
  )

  ends_on : (d : ℕ) (f : Follow) (r : Reading) → LeadsTo d p.follows f → EndsBefore f.earlier r → EndsBefore d r
  ends_on d f r leads ends = (subst (λ (k : ℕ). ComesAfter p r.0 k) leads.1 (line_more p r.0 f (contained p.follows f leads.0) ends.0), ends.1)

  ends_before : (n d : ℕ) (r : Reading) → nearest_reading readings (clocks_before p.follows n d) ≡ Some r → EndsBefore d r
  ends_before zero d r is = absurd cc
  ends_before (suc n) d r is = by_line d r n (follow_to p.follows d) refl (λ f. ends_before n f.earlier r) is
    where
      by_line : (d : ℕ) (r : Reading) (n : ℕ) (o : Option Follow) → follow_to p.follows d ≡ o
          → ((f : Follow) → nearest_reading readings (clocks_before p.follows n f.earlier) ≡ Some r → EndsBefore f.earlier r)
          → nearest_reading readings (elim o [ None ↦ [] | Some g ↦ g.earlier ∷ clocks_before p.follows n g.earlier ]) ≡ Some r → EndsBefore d r
      by_line d r n None line further is = absurd cc
      by_line d r n (Some f) line further is =
          let leads = found_is d p.follows f line in
          ends_step d f.earlier (last_reading readings f.earlier) _ r (subst (λ (k : ℕ). ComesAfter p f.earlier k) leads.1 (one_line p f (contained p.follows f leads.0)))
          (last_is f.earlier readings rising) (λ rest. ends_on d f r leads (further f rest)) is

  -- and of the nearest one
  is_nearest : (d : ℕ) (r : Reading) → nearest_reading readings (clocks_before p.follows d d) ≡ Some r → IsNearestBefore p r.0 d
  is_nearest d r is = (
    (ends_before d d r is).0,
    λ b u after read.
        let near = nearest p chained readings rising d d b u (omega arith) after (among readings (b, u) (are.every b u read)) in
        same_one b u near.0 (some_same near.0 r (sym near.1 ∙ is)) near.2.3,
  )
    where
      same_one : (b u : ℕ) (q : Reading) → q ≡ r → ((b ≡ q.0) × (u ≤ q.1)) ⊎ ComesAfter p b q.0 → (b ≡ r.0) ⊎ ComesAfter p b r.0
      same_one b u q one (inl here) = inl (here.0 ∙ ap (λ (v : Reading). v.0) one)
      same_one b u q one (inr after) = inr (subst (λ (v : Reading). ComesAfter p b v.0) one after)

  first_on : (d : ℕ) (b : Reading) → IsFirst d readings (Some b) → IsFirstOn p d b.1
  first_on d b first = (subst (λ (k : ℕ). IsReading p k b.1) first.0 (is_read b first.1), λ u read. first.2 u (among readings (d, u) (are.every d u read)))

  abbrev pub Joins : ℕ → ℕ → ℕ → ℕ → Type 0
  Joins c s d t = IsNearestBefore p c d × IsLastOn p c s × IsFirstOn p d t

  -- ---- each follow of the list
  joined : (k : ℕ) (o q : Option Reading) (c s d t : ℕ) → nearest_reading readings (clocks_before p.follows k k) ≡ o → IsFirst k readings q → Among (follow_bound o q) (bounds.Follow c s d t) → Joins c s d t
  joined k None q c s d t near first at = absurd at
  joined k (Some a) None c s d t near first at = absurd at
  joined k (Some a) (Some b) c s d t near first (inr at) = absurd at
  joined k (Some a) (Some b) c s d t near first (inl is) =
      let on : k ≡ d = sym first.0 ∙ same_later a.0 a.1 b.0 b.1 c s d t is in
      subst (λ (j : ℕ). IsNearestBefore p c j × IsLastOn p c s × IsFirstOn p j t) on (
        subst (λ (j : ℕ). IsNearestBefore p j k) (same_earlier a.0 a.1 b.0 b.1 c s d t is) (is_nearest k a near),
        subst (λ (j : ℕ). IsLastOn p j s) (same_earlier a.0 a.1 b.0 b.1 c s d t is) (subst (λ (j : ℕ). IsLastOn p a.0 j) (same_last a.0 a.1 b.0 b.1 c s d t is) (ends_before k k a near).1),
        subst (λ (j : ℕ). IsFirstOn p k j) (same_first a.0 a.1 b.0 b.1 c s d t is) (first_on k b first),
      )
    where
      same_earlier : (c s d t c' s' d' t' : ℕ) → bounds.Follow c s d t ≡ bounds.Follow c' s' d' t' → c ≡ c'
      same_earlier c s d t c' s' d' t' e = cc

      same_last : (c s d t c' s' d' t' : ℕ) → bounds.Follow c s d t ≡ bounds.Follow c' s' d' t' → s ≡ s'
      same_last c s d t c' s' d' t' e = cc

      same_later : (c s d t c' s' d' t' : ℕ) → bounds.Follow c s d t ≡ bounds.Follow c' s' d' t' → d ≡ d'
      same_later c s d t c' s' d' t' e = cc

      same_first : (c s d t c' s' d' t' : ℕ) → bounds.Follow c s d t ≡ bounds.Follow c' s' d' t' → t ≡ t'
      same_first c s d t c' s' d' t' e = cc

  only_joined : (k : ℕ) (clocks : List Clock) (c s d t : ℕ) → Among (follow_bounds p.follows readings k clocks) (bounds.Follow c s d t) → Joins c s d t
  only_joined k [] c s d t at = absurd at
  only_joined k (v ∷ clocks) c s d t at =
      elim (in_parts (follow_bound (nearest_reading readings (clocks_before p.follows k k)) (first_reading readings k)) (follow_bounds p.follows readings (k + 1) clocks) (bounds.Follow c s d t) at) [
        | inl here ↦ joined k (nearest_reading readings (clocks_before p.follows k k)) (first_reading readings k) c s d t refl (first_is k readings rising) here
        | inr there ↦ only_joined (k + 1) clocks c s d t there
      ]

  -- ---- every such pair
  held : (k j : ℕ) (clocks : List Clock) (b : Bound) → j < length clocks → Among (follow_bound (nearest_reading readings (clocks_before p.follows (k + j) (k + j))) (first_reading readings (k + j))) b
      → Among (follow_bounds p.follows readings k clocks) b
  held k j [] b inside at = absurd (omega (arith, inside))
  held k zero (v ∷ clocks) b inside at = in_front _ (follow_bounds p.follows readings (k + 1) clocks) b
      (subst (λ (n : ℕ). Among (follow_bound (nearest_reading readings (clocks_before p.follows n n)) (first_reading readings n)) b) (let same : k + 0 ≡ k = omega arith in same) at)
  held k (suc j) (v ∷ clocks) b inside at = in_back (follow_bound (nearest_reading readings (clocks_before p.follows k k)) (first_reading readings k)) _ b
      (held (k + 1) j clocks b (omega (arith, inside))
      (subst (λ (n : ℕ). Among (follow_bound (nearest_reading readings (clocks_before p.follows n n)) (first_reading readings n)) b) (let same : k + suc j ≡ k + 1 + j = omega arith in same) at))

  pair : (r : Reading) (c s : ℕ) → r.0 ≡ c → r.1 ≡ s → r ≡ (c, s)
  pair r c s e f = rw (← e, ← f) refl

  first_given : (d t : ℕ) → IsFirstOn p d t → (o : Option Reading) → IsFirst d readings o → o ≡ Some (d, t)
  first_given d t first None none = absurd (none t (among readings (d, t) (are.every d t first.0)))
  first_given d t first (Some b) is =
      let low : b.1 ≤ t = is.2 t (among readings (d, t) (are.every d t first.0)) in
      let high : t ≤ b.1 = first.1 b.1 (subst (λ (k : ℕ). IsReading p k b.1) is.0 (is_read b is.1)) in
      ap (λ (v : Reading). Some v) (pair b d t is.0 (omega (arith, low, high)))

  nearest_given : (c s d t : ℕ) → Joins c s d t → nearest_reading readings (clocks_before p.follows d d) ≡ Some (c, s)
  nearest_given c s d t joins =
      let found = nearest p chained readings rising d d c s (omega arith) joins.0.0 (among readings (c, s) (are.every c s joins.1.0)) in
      found.1 ∙ ap (λ (v : Reading). Some v) (which found.0 found.2.0 found.2.1 found.2.3)
    where
      which : (r : Reading) → Among readings r → ComesAfter p r.0 d → ((c ≡ r.0) × (s ≤ r.1)) ⊎ ComesAfter p c r.0 → r ≡ (c, s)
      which r at after (inl here) =
          let high : r.1 ≤ s = joins.1.1 r.1 (subst (λ (k : ℕ). IsReading p k r.1) (sym here.0) (is_read r at)) in
          let low = here.1 in pair r c s (sym here.0) (omega (arith, low, high))
      which r at after (inr before) = absurd (no_nearer (joins.0.1 r.0 r.1 after (is_read r at)))
        where
          no_nearer : (r.0 ≡ c) ⊎ ComesAfter p r.0 c → ⊥
          no_nearer (inl same) = let less = rises_after p chained c r.0 before in omega (arith, less, same)
          no_nearer (inr behind) = let less = rises_after p chained c r.0 before in let more = rises_after p chained r.0 c behind in omega (arith, less, more)

  every_joined : (c s d t : ℕ) → Joins c s d t → Among (follow_bounds p.follows readings 0 p.clocks) (bounds.Follow c s d t)
  every_joined c s d t joins =
      let last = by_last p c d joins.0.0 in
      let ends = (ends_rise p chained readings rising last.0 last.1.0).1 in
      let inside : d < length p.clocks = omega (arith, ends, last.1.1) in
      held 0 d p.clocks (bounds.Follow c s d t) inside
      (subst (λ (n : ℕ). Among (follow_bound (nearest_reading readings (clocks_before p.follows n n)) (first_reading readings n)) (bounds.Follow c s d t)) (let same : d ≡ 0 + d = omega arith in same)
      (rw (nearest_given c s d t joins, first_given d t joins.2 (first_reading readings d) (first_is d readings rising)) (inl refl)))

  pub follows_are : (c s d t : ℕ) → Contains (follow_bounds p.follows readings 0 p.clocks) (bounds.Follow c s d t) ↔ Joins c s d t
  follows_are c s d t = (
    λ at. only_joined 0 p.clocks c s d t (among (follow_bounds p.follows readings 0 p.clocks) (bounds.Follow c s d t) at),
    λ joins. contained (follow_bounds p.follows readings 0 p.clocks) (bounds.Follow c s d t) (every_joined c s d t joins),
  )
