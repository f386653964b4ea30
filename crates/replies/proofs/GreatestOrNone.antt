-- Where a problem has an execution, it cannot be that a difference neither has a greatest value nor passes every number.
use Rattle.std.proofs.Common.{◌≡◌, ◌⊎◌, inl, inr, ℕ, zero, suc, ◌+◌, List, [], ◌∷◌, Bool, true, false, cond, MatchBool, All, refl, sym, ◌∙◌, ap, subst, arith}
use Rattle.std.specs.Prelude.{ℤ, pos, negsuc, ◌+ℤ◌, ◌-ℤ◌, ◌≤ℤ◌, ◌<ℤ◌}
use Rattle.std.proofs.lemmas.Bool.{cases_eq}
use Rattle.std.proofs.lemmas.Int.{ints, by_lt_z}
use Rattle.std.proofs.lemmas.List.Elements.{All-cons, All-nil, All-weaker}
use Rattle.std.proofs.lemmas.Option.{get_or_from_slice_get, slice_get_within}
use Rattle.problem_model.specs.declared.items.Node.{Node}
use Rattle.problem_model.specs.declared.items.Node.TheVariants as nodes
use Rattle.problem_model.specs.declared.items.Bound.{Bound}
use Rattle.problem_model.specs.Problem.{ProblemLists, IsProblem}
use Rattle.problem_model.specs.Bounds.{Constraint, Declares, Times, IsExecution}
use Rattle.problem_model.specs.Nodes.{Reading, AreReadings, nodes_of}
use Rattle.problem_model.specs.ProblemArcs.{IsGreatestOf, IsUnboundedOf}
use Rattle.problem_model.specs.Solutions.{IsNodeOf, WeighedBound, Leads, weight_of}
use Rattle.problem_model.proofs.Solutions.{place_of}
use Rattle.problem_graph.proofs.BoundEnds.{ends_are}
use Rattle.attain.specs.Tight.{HasPath}

-- it cannot be
abbrev pub Not : Type 0 → Type 0
Not A = A → ⊥

-- the difference has a greatest value
abbrev pub HasGreatest : ProblemLists → Node → Node → Type 0
HasGreatest p from to = (h : ℤ) × IsGreatestOf p from to h

-- the flag tells whether this is so
abbrev Tells : Bool → Type 0 → Type 0
Tells b P = MatchBool b P (Not P)

-- ---- numbers
not_more : (a b : ℤ) → Not (b <ℤ a) → a ≤ℤ b
not_more a b none = by_lt_z {P = a ≤ℤ b} b a (λ more. absurd (none more)) (λ fits. fits)

some_above : (z : ℤ) → (m : ℕ) × (z ≤ℤ pos m)
some_above (pos n) = (n, omega (arith, ints))
some_above (negsuc n) = (0, omega (arith, ints))

-- ---- paths
longer : (p : ProblemLists) (m : Node) (steps : List WeighedBound) (n : Node) (b : Bound) (c : Constraint) → Declares p b c → n ≡ c.from → Leads p m steps n → HasPath p m c.to
longer p m [] n b c declared at leads = ((b, c.weight) ∷ [], (c, declared, refl, sym (leads ∙ at), refl))
longer p m (s ∷ steps) n b c declared at (d, first, weighs, begins, leads) = let rest = longer p d.to steps n b c declared at leads in (s ∷ rest.0, (d, first, weighs, begins, rest.1))

pub path_bounds : (p : ProblemLists) (m : Node) (steps : List WeighedBound) (n : Node) → Leads p m steps n → (x : Times) → IsExecution p x → (x n -ℤ x m) ≤ℤ weight_of steps
path_bounds p m [] n leads x runs = let same : x m ≡ x n = ap x leads in omega (arith, ints)
path_bounds p m (s ∷ steps) n (c, declared, weighs, begins, leads) x runs =
    let rest : (x n -ℤ x c.to) ≤ℤ weight_of steps = path_bounds p c.to steps n leads x runs in
    let obeyed : (x c.to -ℤ x c.from) ≤ℤ c.weight = runs s.0 c declared in
    let same : x c.from ≡ x m = ap x begins in
    let weight : c.weight ≡ s.1 = weighs in
    omega (arith, ints)

-- ---- a path leads there: the greatest difference is one of the few from that of an execution up to the path's sum
descends : (p : ProblemLists) (from to : Node) (most : ℤ) → ((x : Times) → IsExecution p x → (x to -ℤ x from) ≤ℤ most) → (m : ℕ) (x : Times) → IsExecution p x → most ≤ℤ ((x to -ℤ x from) +ℤ pos m) →
    Not (Not (HasGreatest p from to))
descends p from to most above zero x runs near none =
    none (x to -ℤ x from, record { attained = (x, runs, refl); most = λ y also. let fits : (y to -ℤ y from) ≤ℤ most = above y also in omega (arith, ints) })
descends p from to most above (suc m) x runs near none =
    none (x to -ℤ x from, record { attained = (x, runs, refl); most = λ y also. not_more (y to -ℤ y from) (x to -ℤ x from) (λ more. descends p from to most above m y also (omega (arith, ints)) none) })

-- ---- none leads there: what is reached stays, and all else is raised
same_or_other : (m n : Node) → (m ≡ n) ⊎ Not (m ≡ n)
same_or_other (nodes.Event e) (nodes.Event f) = of (cases_eq e f)
  where
    of : (e ≡ f) ⊎ Not (e ≡ f) → (nodes.Event e ≡ nodes.Event f) ⊎ Not (nodes.Event e ≡ nodes.Event f)
    of (inl same) = inl (ap nodes.Event same)
    of (inr other) = inr (λ same. other cc)
same_or_other (nodes.Event e) (nodes.Reading clock stamp) = inr (λ same. absurd cc)
same_or_other (nodes.Reading clock stamp) (nodes.Event e) = inr (λ same. absurd cc)
same_or_other (nodes.Reading c s) (nodes.Reading d t) = of (cases_eq c d) (cases_eq s t)
  where
    of : (c ≡ d) ⊎ Not (c ≡ d) → (s ≡ t) ⊎ Not (s ≡ t) → (nodes.Reading c s ≡ nodes.Reading d t) ⊎ Not (nodes.Reading c s ≡ nodes.Reading d t)
    of (inl clock) (inl stamp) = inl (ap (λ (k : ℕ). nodes.Reading k s) clock ∙ ap (nodes.Reading d) stamp)
    of (inl clock) (inr other) = inr (λ same. other cc)
    of (inr other) stamp = inr (λ same. other cc)

abbrev pick : {A B : Type 0} → A ⊎ B → Bool → Bool → Bool
pick (inl a) here elsewhere = here
pick (inr b) here elsewhere = elsewhere

-- a flag for one node more
abbrev marked : Node → Bool → (Node → Bool) → Node → Bool
marked m b inside k = pick (same_or_other k m) b (inside k)

decided : (P : Type 0) → Not (Not ((b : Bool) × Tells b P))
decided P none = none (false, λ so. none (true, so))

module _ (P : Node → Type 0) where
  tells_picked : (m k : Node) (b t : Bool) (d : (k ≡ m) ⊎ Not (k ≡ m)) → Tells b (P m) → (Not (k ≡ m) → Tells t (P k)) → Tells (pick d b t) (P k)
  tells_picked m k b t (inl same) tell other = subst (λ (n : Node). Tells b (P n)) (sym same) tell
  tells_picked m k b t (inr differ) tell other = other differ

  all_decided : (all : List Node) → Not (Not ((inside : Node → Bool) × All (λ k. Tells (inside k) (P k)) all))
  all_decided [] none = none (λ k. true, All-nil (λ k. Tells true (P k)))
  all_decided (m ∷ all) none = all_decided all (λ (inside, tells). decided (P m) (λ (b, tell).
      let Told : Node → Type 0 = λ k. Tells (marked m b inside k) (P k) in
      none (
        marked m b inside,
        All-cons Told m all (tells_picked m m b (inside m) (same_or_other m m) tell (λ other. absurd (other refl)))
            (All-weaker (λ k. Tells (inside k) (P k)) Told (λ k is. tells_picked m k b (inside k) (same_or_other k m) tell (λ other. is)) all tells),
      )))

carried : (P Q : Type 0) (s t : Bool) → Tells s P → Tells t Q → (P → Q) → s ≡ true → t ≡ true
carried P Q true true so so' f is = refl
carried P Q true false so none f is = absurd (none (f so))
carried P Q false t none so f is = absurd cc

-- the real time of a node that is reached, or else raised
abbrev raised : (Node → Bool) → Times → ℕ → Times
raised inside x by k = cond (inside k) (x k) (x k +ℤ pos by)

raised_obeys : (s t : Bool) (a b weight : ℤ) (by : ℕ) → (s ≡ true → t ≡ true) → (b -ℤ a) ≤ℤ weight → (cond t b (b +ℤ pos by) -ℤ cond s a (a +ℤ pos by)) ≤ℤ weight
raised_obeys true true a b weight by kept fits = fits
raised_obeys true false a b weight by kept fits = let never : false ≡ true = kept refl in absurd cc
raised_obeys false true a b weight by kept fits = omega (arith, ints, fits)
raised_obeys false false a b weight by kept fits = omega (arith, ints, fits)

raised_more : (s t : Bool) (a b h : ℤ) (by : ℕ) → s ≡ true → t ≡ false → h <ℤ ((b +ℤ pos by) -ℤ a) → h <ℤ (cond t b (b +ℤ pos by) -ℤ cond s a (a +ℤ pos by))
raised_more true true a b h by reached away more = absurd cc
raised_more true false a b h by reached away more = more
raised_more false t a b h by reached away more = absurd cc

told_true : (P : Type 0) (s : Bool) → Tells s P → P → s ≡ true
told_true P true so is = refl
told_true P false none is = absurd (none is)

told_false : (P : Type 0) (s : Bool) → Tells s P → Not P → s ≡ false
told_false P true so none = absurd (none so)
told_false P false none' none = refl

module _ (p : ProblemLists) (readings : List Reading) (lawful : IsProblem p) (are : AreReadings p readings) (e : Times) (runs : IsExecution p e) (from to : Node) (a_node : IsNodeOf p from) (b_node : IsNodeOf p to) where
  module _ (inside : Node → Bool) (tells : All (λ k. Tells (inside k) (HasPath p from k)) (nodes_of p readings)) where
    tells_at : (n : Node) → IsNodeOf p n → Tells (inside n) (HasPath p from n)
    tells_at n is =
        let place = place_of p readings are n is in
        subst (λ (k : Node). Tells (inside k) (HasPath p from k)) (get_or_from_slice_get (nodes_of p readings) place.0 n n place.1) (tells place.0 n (slice_get_within (nodes_of p readings) place.0 n place.1))

    raised_runs : (by : ℕ) → IsExecution p (raised inside e by)
    raised_runs by b c declared =
        let ends = ends_are p b c lawful declared in
        let kept : inside c.from ≡ true → inside c.to ≡ true =
        carried (HasPath p from c.from) (HasPath p from c.to) (inside c.from) (inside c.to) (tells_at c.from ends.0) (tells_at c.to ends.1) (λ path. longer p from path.0 c.from b c declared refl path.1) in
        raised_obeys (inside c.from) (inside c.to) (e c.from) (e c.to) c.weight by kept (runs b c declared)

    unreached : Not (HasPath p from to) → IsUnboundedOf p from to
    unreached none h =
        let some = some_above (h -ℤ (e to -ℤ e from)) in
        let by : ℕ = some.0 + 1 in
        let reached : inside from ≡ true = told_true (HasPath p from from) (inside from) (tells_at from a_node) ([], refl) in
        let away : inside to ≡ false = told_false (HasPath p from to) (inside to) (tells_at to b_node) none in
        let near : (h -ℤ (e to -ℤ e from)) ≤ℤ pos some.0 = some.1 in
        (raised inside e by, raised_runs by, raised_more (inside from) (inside to) (e from) (e to) h by reached away (omega (arith, ints)))

  by_path : (b : Bool) → Tells b (HasPath p from to) → Not (Not (HasGreatest p from to ⊎ IsUnboundedOf p from to))
  by_path true (steps, leads) none =
      let some = some_above (weight_of steps -ℤ (e to -ℤ e from)) in
      let near : (weight_of steps -ℤ (e to -ℤ e from)) ≤ℤ pos some.0 = some.1 in
      descends p from to (weight_of steps) (path_bounds p from steps to leads) some.0 e runs (omega (arith, ints)) (λ has. none (inl has))
  by_path false no_path none = all_decided (HasPath p from) (nodes_of p readings) (λ (inside, tells). none (inr (unreached inside tells no_path)))

  -- it cannot be that it has neither
  pub greatest_or_none : Not (Not (HasGreatest p from to ⊎ IsUnboundedOf p from to))
  greatest_or_none none = decided (HasPath p from to) (λ (b, tell). by_path b tell none)
