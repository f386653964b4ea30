-- From the nearest clock before to every clock before.
use Rattle.std.proofs.Common.{◌≡◌, ◌≢◌, ◌⊎◌, ◌<◌, ◌≤◌, ◌*◌, ℕ, zero, suc, List, [], ◌∷◌, ◌++◌, length, Bool, true, false, cond, nat_eq, Option, Some, None, refl, sym, ◌∙◌, ap, subst, arith, inl, inr}
use Rattle.std.specs.Prelude.{AllPairs, Contains, ℤ, pos, neg_ℤ, ◌-ℤ◌, ◌≤ℤ◌}
use Rattle.std.specs.Option.{option_or}
use Rattle.std.specs.List.{AllByRecursion}
use Rattle.std.proofs.lemmas.List.Elements.{recursion_from_All, All-contains}
use Rattle.std.proofs.lemmas.Int.{ints}
use Rattle.problem_model.specs.declared.items.Follow.{Follow}
use Rattle.problem_model.specs.declared.items.Node.TheVariants as nodes
use Rattle.problem_model.specs.Problem.{ProblemLists, IsWellFormed, IsChained, LeadsOn}
use Rattle.problem_model.specs.Bounds.{Times, IsReading, LinesLead, ComesAfter}
use Rattle.problem_model.specs.Nodes.{Reading, IsEarlierReading}
use Rattle.problem_model.specs.ShortList.{ObeysNamed, follow_to, clocks_before, first_reading, last_reading, nearest_reading, follow_bound}
use Rattle.problem_model.proofs.Chains.{Among, among, each_among, Rises}

-- ---- what a problem's rules give
pub chained_by : (p : ProblemLists) → IsWellFormed p → IsChained p
chained_by p formed = record {
  follow_ends = formed.follow_ends;
  laters_differ = formed.laters_differ;
}

-- ---- lines of a chain
-- clock d comes after clock c by its last line f
abbrev pub EndsWith : ProblemLists → ℕ → ℕ → Follow → Type 0
EndsWith p c d f = Contains p.follows f × (f.later ≡ d) × ((c ≡ f.earlier) ⊎ ComesAfter p c f.earlier)

last_line : (p : ProblemLists) (c d : ℕ) (f : Follow) (lines : List Follow) → LinesLead p c (f ∷ lines) d → (g : Follow) × EndsWith p c d g
last_line p c d f [] leads = (f, (leads.0, leads.2, inl (sym leads.1)))
last_line p c d f (h ∷ lines) leads =
    let rest = last_line p f.later d h lines leads.2 in (rest.0, (rest.1.0, rest.1.1, inr (ahead rest.0 rest.1.2)))
  where
    ahead : (g : Follow) → (f.later ≡ g.earlier) ⊎ ComesAfter p f.later g.earlier → ComesAfter p c g.earlier
    ahead g (inl is) = (f, [], (leads.0, leads.1, is))
    ahead g (inr after) = (f, after.0 ∷ after.1, (leads.0, leads.1, after.2))

pub by_last : (p : ProblemLists) (c d : ℕ) → ComesAfter p c d → (f : Follow) × EndsWith p c d f
by_last p c d after = last_line p c d after.0 after.1 after.2

leads_more : (p : ProblemLists) (c : ℕ) (lines : List Follow) (f : Follow) → Contains p.follows f → LinesLead p c lines f.earlier → LinesLead p c (lines ++ f ∷ []) f.later
leads_more p c [] f at leads = (at, sym leads, refl)
leads_more p c (g ∷ lines) f at leads = (leads.0, leads.1, leads_more p g.later lines f at leads.2)

pub one_line : (p : ProblemLists) (f : Follow) → Contains p.follows f → ComesAfter p f.earlier f.later
one_line p f at = (f, [], (at, refl, refl))

pub line_more : (p : ProblemLists) (c : ℕ) (f : Follow) → Contains p.follows f → ComesAfter p c f.earlier → ComesAfter p c f.later
line_more p c f at after = (after.0, after.1 ++ f ∷ [], leads_more p c (after.0 ∷ after.1) f at after.2)

-- ---- the line to a clock is one
test_true : (a b : ℕ) → a ≡ b → nat_eq a b ≡ true
test_true a b is = grind (arith, is)

test_false : (a b : ℕ) → (a ≡ b → ⊥) → nat_eq a b ≡ false
test_false a b differ = grind (arith, differ)

abbrev LatersDiffer : List Follow → Type 0
LatersDiffer [] = Unit {0}
LatersDiffer (f ∷ follows) = AllByRecursion (λ g. f.later ≢ g.later) follows × LatersDiffer follows

laters_differ : (follows : List Follow) → AllPairs (λ f g. f.later ≢ g.later) follows → LatersDiffer follows
laters_differ [] pairs = tt
laters_differ (f ∷ follows) pairs = (
  recursion_from_All (λ g. f.later ≢ g.later) follows (λ k d inside. pairs 0 (suc k) d (omega arith) (omega (arith, inside))),
  laters_differ follows (λ i j d below inside. pairs (suc i) (suc j) d (omega (arith, below)) (omega (arith, inside))),
)

found : (follows : List Follow) (f : Follow) → LatersDiffer follows → Among follows f → follow_to follows f.later ≡ Some f
found [] f differ at = absurd at
found (g ∷ follows) f differ (inl is) = rw (test_true g.later f.later (ap (λ (v : Follow). v.later) is)) (ap (λ (v : Follow). Some v) is)
found (g ∷ follows) f differ (inr at) = rw (test_false g.later f.later (each_among (λ v. g.later ≢ v.later) follows f differ.0 at)) (found follows f differ.1 at)

pub line_to : (p : ProblemLists) → IsChained p → (f : Follow) (d : ℕ) → Contains p.follows f → f.later ≡ d → follow_to p.follows d ≡ Some f
line_to p chained f d at is = subst (λ (k : ℕ). follow_to p.follows k ≡ Some f) is (found p.follows f (laters_differ p.follows chained.laters_differ) (among p.follows f at))

line_one : {X : Type 0} (o : Option X) (a b : X) → o ≡ Some a → o ≡ Some b → a ≡ b
line_one o a b p q = some_same a b (sym p ∙ q)
  where
    some_same : {X : Type 0} (a b : X) → Some a ≡ Some b → a ≡ b
    some_same a b e = cc

pub follow_one : (p : ProblemLists) → IsChained p → (f g : Follow) → Contains p.follows f → Contains p.follows g → f.later ≡ g.later → f ≡ g
follow_one p chained f g at at' same = line_one (follow_to p.follows g.later) f g (line_to p chained f g.later at same) (line_to p chained g g.later at' refl)

-- ---- the first and the last reading of a clock
module _ (clock : ℕ) where
  abbrev pub IsLast : List Reading → Option Reading → Type 0
  IsLast readings None = (s : ℕ) → Among readings (clock, s) → ⊥
  IsLast readings (Some r) = (r.0 ≡ clock) × Among readings r × ((s : ℕ) → Among readings (clock, s) → s ≤ r.1)

  abbrev pub IsFirst : List Reading → Option Reading → Type 0
  IsFirst readings None = (s : ℕ) → Among readings (clock, s) → ⊥
  IsFirst readings (Some r) = (r.0 ≡ clock) × Among readings r × ((s : ℕ) → Among readings (clock, s) → r.1 ≤ s)

  stamp_less : (a b : Reading) → IsEarlierReading a b → a.0 ≡ clock → b.0 ≡ clock → a.1 ≤ b.1
  stamp_less a b (inl less) p q = absurd (omega (arith, less, p, q))
  stamp_less a b (inr later) p q = omega (arith, later.1)

  on_clock : (a : Reading) (s : ℕ) → a ≡ (clock, s) → a.0 ≡ clock
  on_clock a s is = ap (λ (r : Reading). r.0) is

  last_more : (a : Reading) (readings : List Reading) (o : Option Reading) (on : Bool) → Rises (a ∷ readings) → nat_eq a.0 clock ≡ on → IsLast readings o
      → IsLast (a ∷ readings) (option_or o (cond on (Some a) None))
  last_more a readings (Some r) on rising test last = (last.0, inr last.1, below)
    where
      below : (s : ℕ) → Among (a ∷ readings) (clock, s) → s ≤ r.1
      below s (inl is) = subst (λ (t : ℕ). t ≤ r.1) (ap (λ (v : Reading). v.1) is) (stamp_less a r (each_among (IsEarlierReading a) readings r rising.0 last.1) (on_clock a s is) last.0)
      below s (inr at) = last.2 s at
  last_more a readings None true rising test last = (grind (arith, test), inl refl, below)
    where
      below : (s : ℕ) → Among (a ∷ readings) (clock, s) → s ≤ a.1
      below s (inl is) = let same : a.1 ≡ s = ap (λ (v : Reading). v.1) is in omega (arith, same)
      below s (inr at) = absurd (last s at)
  last_more a readings None false rising test last = none
    where
      none : (s : ℕ) → Among (a ∷ readings) (clock, s) → ⊥
      none s (inl is) = let same : a.0 ≡ clock = on_clock a s is in grind (arith, test, same)
      none s (inr at) = last s at

  pub last_is : (readings : List Reading) → Rises readings → IsLast readings (last_reading readings clock)
  last_is [] rising = λ s at. at
  last_is (a ∷ readings) rising = last_more a readings (last_reading readings clock) (nat_eq a.0 clock) rising refl (last_is readings rising.1)

  first_more : (a : Reading) (readings : List Reading) (o : Option Reading) (on : Bool) → Rises (a ∷ readings) → nat_eq a.0 clock ≡ on → IsFirst readings o
      → IsFirst (a ∷ readings) (cond on (Some a) o)
  first_more a readings o true rising test first = (grind (arith, test), inl refl, above)
    where
      above : (s : ℕ) → Among (a ∷ readings) (clock, s) → a.1 ≤ s
      above s (inl is) = let same : a.1 ≡ s = ap (λ (v : Reading). v.1) is in omega (arith, same)
      above s (inr at) = stamp_less a (clock, s) (each_among (IsEarlierReading a) readings (clock, s) rising.0 at) (grind (arith, test)) refl
  first_more a readings None false rising test first = none
    where
      none : (s : ℕ) → Among (a ∷ readings) (clock, s) → ⊥
      none s (inl is) = let same : a.0 ≡ clock = on_clock a s is in grind (arith, test, same)
      none s (inr at) = first s at
  first_more a readings (Some r) false rising test first = (first.0, inr first.1, above)
    where
      above : (s : ℕ) → Among (a ∷ readings) (clock, s) → r.1 ≤ s
      above s (inl is) = let same : a.0 ≡ clock = on_clock a s is in absurd (grind (arith, test, same))
      above s (inr at) = first.2 s at

  pub first_is : (readings : List Reading) → Rises readings → IsFirst readings (first_reading readings clock)
  first_is [] rising = λ s at. at
  first_is (a ∷ readings) rising = first_more a readings (first_reading readings clock) (nat_eq a.0 clock) rising refl (first_is readings rising.1)

-- ---- the nearest reading before a clock
module _ (p : ProblemLists) (chained : IsChained p) (readings : List Reading) (rising : Rises readings) where
  -- r is a reading before clock d, and clock c at stamp s has it behind it
  abbrev pub LiesBefore : ℕ → ℕ → ℕ → Reading → Type 0
  LiesBefore d c s r = Among readings r × ComesAfter p r.0 d × (r.0 < d) × (((c ≡ r.0) × (s ≤ r.1)) ⊎ ComesAfter p c r.0)

  pub ends_rise : (f : Follow) → Contains p.follows f → LeadsOn p.clocks f
  ends_rise f at = All-contains (LeadsOn p.clocks) p.follows f chained.follow_ends at

  abbrev pub Nearest : ℕ → ℕ → ℕ → Option Reading → Type 0
  Nearest d c s o = (r : Reading) × (o ≡ Some r) × LiesBefore d c s r

  nearest_step : (c s : ℕ) (f : Follow) → Contains p.follows f → Among readings (c, s) → (c ≡ f.earlier) ⊎ ComesAfter p c f.earlier → (o : Option Reading) → IsLast f.earlier readings o
      → (rest : Option Reading) → (ComesAfter p c f.earlier → Nearest f.earlier c s rest) → Nearest f.later c s (option_or o rest)
  nearest_step c s f at reading which (Some r) last rest further =
      let here : r.0 ≡ f.earlier = last.0 in
      let rise = (ends_rise f at).0 in
      (r, refl, (last.1, subst (λ (k : ℕ). ComesAfter p k f.later) (sym here) (one_line p f at), omega (arith, here, rise), behind which))
    where
      behind : (c ≡ f.earlier) ⊎ ComesAfter p c f.earlier → ((c ≡ r.0) × (s ≤ r.1)) ⊎ ComesAfter p c r.0
      behind (inl is) = inl (is ∙ sym last.0, last.2 s (subst (λ (k : ℕ). Among readings (k, s)) is reading))
      behind (inr after) = inr (subst (λ (k : ℕ). ComesAfter p c k) (sym last.0) after)
  nearest_step c s f at reading (inl is) None last rest further = absurd (last s (subst (λ (k : ℕ). Among readings (k, s)) is reading))
  nearest_step c s f at reading (inr after) None last rest further =
      let near = further after in
      let rise = (ends_rise f at).0 in
      let less = near.2.2 in
      (near.0, near.1, (near.2.0, line_more p near.0.0 f at near.2.1, omega (arith, less, rise), near.2.3))

  pub nearest : (n d c s : ℕ) → d ≤ n → ComesAfter p c d → Among readings (c, s) → Nearest d c s (nearest_reading readings (clocks_before p.follows n d))
  nearest zero d c s fits after reading =
      let last = by_last p c d after in
      let rise : last.0.earlier < last.0.later = (ends_rise last.0 last.1.0).0 in
      let same : last.0.later ≡ d = last.1.1 in absurd (omega (arith, rise, same, fits))
  nearest (suc n) d c s fits after reading =
      let last = by_last p c d after in
      let f : Follow = last.0 in
      let rise : f.earlier < f.later = (ends_rise f last.1.0).0 in
      let same : f.later ≡ d = last.1.1 in
      let step : Nearest f.later c s (option_or (last_reading readings f.earlier) (nearest_reading readings (clocks_before p.follows n f.earlier))) =
      nearest_step c s f last.1.0 reading last.1.2 (last_reading readings f.earlier) (last_is f.earlier readings rising) _
      (λ behind. nearest n f.earlier c s (omega (arith, rise, same, fits)) behind reading) in
      subst (λ (o : Option Follow). Nearest d c s (nearest_reading readings (elim o [ None ↦ [] | Some g ↦ g.earlier ∷ clocks_before p.follows n g.earlier ]))) (sym (line_to p chained f d last.1.0 same))
      (subst (λ (k : ℕ). Nearest k c s (option_or (last_reading readings f.earlier) (nearest_reading readings (clocks_before p.follows n f.earlier)))) same step)

  -- ---- from the short list to every clock before
  module _ (x : Times) (each : (r : Reading) → Among readings r → IsReading p r.0 r.1) where
    abbrev pub time_at : ℕ → ℕ → ℤ
    time_at clock stamp = x (nodes.Reading clock stamp)

    -- real time does not run back on a clock
    abbrev pub RunsOn : Type 0
    RunsOn = (c s t : ℕ) → c < length p.clocks → Among readings (c, s) → Among readings (c, t) → s ≤ t → time_at c s ≤ℤ time_at c t

    -- what the short list says of a clock
    abbrev pub IsFollowed : Type 0
    IsFollowed = (d : ℕ) → d < length p.clocks → AllByRecursion (ObeysNamed p x) (follow_bound (nearest_reading readings (clocks_before p.follows d d)) (first_reading readings d))

    abbrev pub Keeps : ℕ → ℕ → ℕ → ℕ → ℕ → Type 0
    Keeps gap c s d t = (time_at c s -ℤ time_at d t) ≤ℤ neg_ℤ (pos (gap * 1000000000))

    hop : (d : ℕ) (f : Follow) → Contains p.follows f → f.later ≡ d → (r b : Reading) → ComesAfter p r.0 d → Among readings r → Among readings b → b.0 ≡ d
        → AllByRecursion (ObeysNamed p x) (follow_bound (Some r) (Some b)) → Keeps f.gap r.0 r.1 d b.1
    hop d f at later r b after here there on all =
        subst (λ (k : ℕ). Keeps f.gap r.0 r.1 k b.1) on (all.0 _ (f, at, later ∙ sym on, subst (λ (k : ℕ). ComesAfter p r.0 k) (sym on) after, each r here, each b there, refl))

    near : (gap : ℕ) (a b c d : ℤ) → a ≤ℤ b → (b -ℤ c) ≤ℤ neg_ℤ (pos (gap * 1000000000)) → c ≤ℤ d → (a -ℤ d) ≤ℤ neg_ℤ (pos (gap * 1000000000))
    near gap a b c d first second third = omega (arith, ints, first, second, third)

    no_later : (gap : ℕ) (a b : ℤ) → (a -ℤ b) ≤ℤ neg_ℤ (pos (gap * 1000000000)) → a ≤ℤ b
    no_later gap a b keeps = omega (arith, ints, keeps)

    module _ (runs : RunsOn) (followed : IsFollowed) where
      no_less : (c s d : ℕ) (r : Reading) → d < length p.clocks → Among readings (c, s) → Among readings r → r.0 < d → ((c ≡ r.0) × (s ≤ r.1)) ⊎ ComesAfter p c r.0
          → ((r : Reading) → r.0 < d → ComesAfter p c r.0 → Among readings r → time_at c s ≤ℤ time_at r.0 r.1) → time_at c s ≤ℤ time_at r.0 r.1
      no_less c s d r known from here less (inl same) back =
          subst (λ (v : ℕ). time_at v s ≤ℤ time_at r.0 r.1) (sym same.0) (runs r.0 s r.1 (omega (arith, less, known)) (subst (λ (v : ℕ). Among readings (v, s)) same.0 from) here same.1)
      no_less c s d r known from here less (inr before) back = back r less before here

      -- by the bound of the nearest reading
      by_nearest : (d c s t : ℕ) → ComesAfter p c d → Among readings (c, s) → Among readings (d, t) → (f : Follow) → Contains p.follows f → f.later ≡ d
          → ((r : Reading) → r.0 < d → ComesAfter p c r.0 → Among readings r → time_at c s ≤ℤ time_at r.0 r.1) → Keeps f.gap c s d t
      by_nearest d c s t after from to f at later back =
          by_first (first_reading readings d) (first_is d readings rising) refl
        where
          inside : d < length p.clocks
          inside = let end : f.later < length p.clocks = (ends_rise f at).1 in omega (arith, end, later)

          by_first : (o : Option Reading) → IsFirst d readings o → first_reading readings d ≡ o → Keeps f.gap c s d t
          by_first None first is = absurd (first t to)
          by_first (Some b) first is =
              let found = nearest d d c s (omega arith) after from in
              let r : Reading = found.0 in
              let step : Keeps f.gap r.0 r.1 d b.1 = hop d f at later r b found.2.1 found.2.0 first.1 first.0
              (subst (λ (o : Option Reading). AllByRecursion (ObeysNamed p x) (follow_bound (Some r) o)) is
              (subst (λ (o : Option Reading). AllByRecursion (ObeysNamed p x) (follow_bound o (first_reading readings d))) found.1 (followed d inside))) in
              near f.gap (time_at c s) (time_at r.0 r.1) (time_at d b.1) (time_at d t) (no_less c s d r inside from found.2.0 found.2.2 found.2.3 back) step
              (runs d b.1 t inside (subst (λ (v : ℕ). Among readings (v, b.1)) first.0 first.1) to (first.2 t to))

      pub every_before : (k d c s t : ℕ) → d < k → ComesAfter p c d → Among readings (c, s) → Among readings (d, t) → (f : Follow) → Contains p.follows f → f.later ≡ d → Keeps f.gap c s d t
      every_before zero d c s t below after from to f at later = absurd (omega (arith, below))
      every_before (suc k) d c s t below after from to f at later =
          by_nearest d c s t after from to f at later
          (λ r less before here.
          let last = by_last p c r.0 before in
          no_later last.0.gap (time_at c s) (time_at r.0 r.1) (every_before k r.0 c s r.1 (omega (arith, less, below)) before from here last.0 last.1.0 last.1.1))
