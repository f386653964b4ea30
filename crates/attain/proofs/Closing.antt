-- One arc more: a cycle of negative sum, or another closed table.
use Rattle.std.proofs.Common.{◌≡◌, ◌⊎◌, ℕ, suc, List, [], ◌∷◌, ◌++◌, Option, Some, None, refl, sym, subst, arith, inl, inr, get_or}
use Rattle.std.specs.Prelude.{ℤ, pos, ◌+ℤ◌, ◌≤ℤ◌, ◌<ℤ◌, Contains}
use Rattle.std.proofs.lemmas.Int.{ints, by_lt_z}
use Rattle.std.proofs.lemmas.List.Elements.{All-cons, All-append}
use Rattle.problem_model.specs.Executions.{Arc}
use Rattle.problem_model.specs.Paths.{Joins, sum_of, IsPath, IsContradiction}
use Rattle.attain.proofs.Tables.{IsAtMost, Table, IsClosed, at_more, lesser, lesser_first, lesser_second, lesser_one, through, through_at, IsThrough, through_parts}

-- ---- paths
-- an arc of a list is one of a longer list
there_still : (a b : Arc) (arcs : List Arc) → Contains arcs b → Contains (a ∷ arcs) b
there_still a b arcs (k, inside, is) = (suc k, omega (arith, inside), is)

-- a path is one along more arcs
pub path_more : (a : Arc) (arcs : List Arc) (p q : ℕ) (steps : List Arc) → IsPath arcs p q steps → IsPath (a ∷ arcs) p q steps
path_more a arcs p q steps path = record {
  within = λ k d inside. there_still a (get_or steps k d) arcs (path.within k d inside);
  joined = path.joined;
}

-- a path that begins with the arc
path_from : (a : Arc) (arcs : List Arc) (q : ℕ) (steps : List Arc) → IsPath arcs a.to q steps → IsPath (a ∷ arcs) a.from q (a ∷ steps)
path_from a arcs q steps path = record {
  within = All-cons (Contains (a ∷ arcs)) a steps (0, omega arith, refl) (path_more a arcs a.to q steps path).within;
  joined = (refl, path.joined);
}

-- two chains that join are a chain
chained : (p q r : ℕ) (first last : List Arc) → Joins p first q → Joins q last r → Joins p (first ++ last) r
chained p q r [] last is is' = subst (λ n. Joins n last r) (sym is) is'
chained p q r (a ∷ first) last is is' = (is.0, chained a.to q r first last is.1 is')

-- and their sums add up
sum_joined : (first last : List Arc) → sum_of (first ++ last) ≡ sum_of first +ℤ sum_of last
sum_joined [] last = omega (arith, ints)
sum_joined (a ∷ first) last = let rest : sum_of (first ++ last) ≡ sum_of first +ℤ sum_of last = sum_joined first last in omega (arith, ints)

-- two paths that join are a path
path_joined : (arcs : List Arc) (p q r : ℕ) (first last : List Arc) → IsPath arcs p q first → IsPath arcs q r last → IsPath arcs p r (first ++ last)
path_joined arcs p q r first last path path' = record {
  within = All-append (Contains arcs) first last path.within path'.within;
  joined = chained p q r first last path.joined path'.joined;
}

-- ---- whether the arc closes a cycle of negative sum
-- no way back from its head to its tail is so short that the sum with the arc is below 0
abbrev pub IsSoundArc : Table → Arc → Type 0
IsSoundArc d a = (s : ℤ) → IsAtMost (d a.to a.from) s → pos 0 ≤ℤ (a.weight +ℤ s)

-- a sum back is too short, or none is
back_sum : (o : Option ℤ) (w : ℤ) → ((s : ℤ) × IsAtMost o s × ((w +ℤ s) <ℤ pos 0)) ⊎ ((s : ℤ) → IsAtMost o s → pos 0 ≤ℤ (w +ℤ s))
back_sum None w = inr (λ s is. absurd is)
back_sum (Some t) w = by_lt_z {P = ((s : ℤ) × (t ≤ℤ s) × ((w +ℤ s) <ℤ pos 0)) ⊎ ((s : ℤ) → t ≤ℤ s → pos 0 ≤ℤ (w +ℤ s))} (w +ℤ t) (pos 0)
    (λ less. inl (t, omega (arith, ints), less))
    (λ more. inr (λ s is. omega (arith, ints)))

-- the next table: the lesser of the sum without the arc and the one through it
abbrev pub with_arc : Table → Arc → Table
with_arc d a p q = lesser (d p q) (through (d p a.from) a.weight (d a.to q))

module _ (arcs : List Arc) (d : Table) (closed : IsClosed arcs d) (a : Arc) where
  -- so the arc closes a cycle of negative sum, or it is sound
  pub sound_or_not : ((steps : List Arc) × IsContradiction (a ∷ arcs) steps) ⊎ IsSoundArc d a
  sound_or_not = elim (back_sum (d a.to a.from) a.weight) [
    | inr sound ↦ inr sound
    | inl (s, is, low) ↦
        let (steps, path, few) = closed.path a.to a.from s is in
        let sum : sum_of steps ≤ℤ s = few in
        let below : (a.weight +ℤ s) <ℤ pos 0 = low in
        inl (a ∷ steps, record { closed = (a.from, path_from a arcs a.from steps path); negative = omega (arith, ints) })
  ]

  -- ---- the next table
  -- what is there without the arc is there with it
  as_before : (p q : ℕ) (s : ℤ) → IsAtMost (d p q) s → IsAtMost (with_arc d a p q) s
  as_before p q s is = lesser_first (d p q) (through (d p a.from) a.weight (d a.to q)) s is

  -- and so is what goes through the arc
  through_arc : (p q : ℕ) (before behind s : ℤ) → IsAtMost (d p a.from) before → IsAtMost (d a.to q) behind → ((before +ℤ a.weight) +ℤ behind) ≤ℤ s → IsAtMost (with_arc d a p q) s
  through_arc p q before behind s first last sum =
      lesser_second (d p q) (through (d p a.from) a.weight (d a.to q)) s
      (at_more (through (d p a.from) a.weight (d a.to q)) ((before +ℤ a.weight) +ℤ behind) s (through_at (d p a.from) (d a.to q) a.weight before behind first last) sum)

  -- the way is one without the arc, or it goes through it once
  abbrev Goes : ℕ → ℕ → ℤ → Type 0
  Goes p q s = IsAtMost (d p q) s ⊎ IsThrough (d p a.from) (d a.to q) a.weight s

  -- nothing else is there
  goes : (p q : ℕ) (s : ℤ) → IsAtMost (with_arc d a p q) s → Goes p q s
  goes p q s is = elim (lesser_one (d p q) (through (d p a.from) a.weight (d a.to q)) s is) [
    | inl old ↦ inl old
    | inr new ↦ inr (through_parts (d p a.from) (d a.to q) a.weight s new)
  ]

  -- a way through the arc has a path
  through_path : (p q : ℕ) (s : ℤ) → IsThrough (d p a.from) (d a.to q) a.weight s → (steps : List Arc) × IsPath (a ∷ arcs) p q steps × (sum_of steps ≤ℤ s)
  through_path p q s t =
      let (before, path, few) = closed.path p a.from t.before t.first in
      let (behind, path', few') = closed.path a.to q t.behind t.last in
      let low : sum_of before ≤ℤ t.before = few in
      let low' : sum_of behind ≤ℤ t.behind = few' in
      let all : sum_of (before ++ a ∷ behind) ≡ sum_of before +ℤ sum_of (a ∷ behind) = sum_joined before (a ∷ behind) in
      let sum : ((t.before +ℤ a.weight) +ℤ t.behind) ≤ℤ s = t.sum in
      (before ++ a ∷ behind, path_joined (a ∷ arcs) p a.from q before (a ∷ behind) (path_more a arcs p a.from before path) (path_from a arcs q behind path'), omega (arith, ints))

  -- each sum of the next table has a path
  next_path : (p q : ℕ) (s : ℤ) → IsAtMost (with_arc d a p q) s → (steps : List Arc) × IsPath (a ∷ arcs) p q steps × (sum_of steps ≤ℤ s)
  next_path p q s is = elim (goes p q s is) [
    | inl old ↦ (let (steps, path, few) = closed.path p q s old in (steps, path_more a arcs p q steps path, few))
    | inr t ↦ through_path p q s t
  ]

  module _ (sound : IsSoundArc d a) where
    -- none closes below 0
    next_sound : (p : ℕ) (s : ℤ) → IsAtMost (with_arc d a p p) s → pos 0 ≤ℤ s
    next_sound p s is = elim (goes p p s is) [
      | inl old ↦ closed.sound p s old
      | inr t ↦
          let back : pos 0 ≤ℤ (a.weight +ℤ (t.behind +ℤ t.before)) = sound (t.behind +ℤ t.before) (closed.joined a.to p a.from t.behind t.before t.last t.first) in
          let sum : ((t.before +ℤ a.weight) +ℤ t.behind) ≤ℤ s = t.sum in
          omega (arith, ints)
    ]

    -- of two ways that both go through the arc, the way between is no gain
    twice : (p q r : ℕ) (s t : ℤ) → IsThrough (d p a.from) (d a.to q) a.weight s → IsThrough (d q a.from) (d a.to r) a.weight t → IsAtMost (with_arc d a p r) (s +ℤ t)
    twice p q r s t x y =
        let back : pos 0 ≤ℤ (a.weight +ℤ (x.behind +ℤ y.before)) = sound (x.behind +ℤ y.before) (closed.joined a.to q a.from x.behind y.before x.last y.first) in
        let sum : ((x.before +ℤ a.weight) +ℤ x.behind) ≤ℤ s = x.sum in
        let sum' : ((y.before +ℤ a.weight) +ℤ y.behind) ≤ℤ t = y.sum in
        through_arc p r x.before y.behind (s +ℤ t) x.first y.last (omega (arith, ints))

    -- two that join are one
    next_joined : (p q r : ℕ) (s t : ℤ) → IsAtMost (with_arc d a p q) s → IsAtMost (with_arc d a q r) t → IsAtMost (with_arc d a p r) (s +ℤ t)
    next_joined p q r s t is is' = elim (goes p q s is) [
      | inl old ↦ elim (goes q r t is') [
        | inl old' ↦ as_before p r (s +ℤ t) (closed.joined p q r s t old old')
        | inr y ↦ (let sum : ((y.before +ℤ a.weight) +ℤ y.behind) ≤ℤ t = y.sum in
            through_arc p r (s +ℤ y.before) y.behind (s +ℤ t) (closed.joined p q a.from s y.before old y.first) y.last (omega (arith, ints)))
      ]
      | inr x ↦ elim (goes q r t is') [
        | inl old' ↦ (let sum : ((x.before +ℤ a.weight) +ℤ x.behind) ≤ℤ s = x.sum in
            through_arc p r x.before (x.behind +ℤ t) (s +ℤ t) x.first (closed.joined a.to q r x.behind t x.last old') (omega (arith, ints)))
        | inr y ↦ twice p q r s t x y
      ]
    ]

    -- so the next table is closed
    pub next_closed : IsClosed (a ∷ arcs) (with_arc d a)
    next_closed = record {
      own = λ p. as_before p p (pos 0) (closed.own p);
      sound = next_sound;
      path = next_path;
      along = All-cons (λ b. IsAtMost (with_arc d a b.from b.to) b.weight) a arcs
          (through_arc a.from a.to (pos 0) (pos 0) a.weight (closed.own a.from) (closed.own a.to) (omega (arith, ints)))
          (λ k e inside. let b = get_or arcs k e in as_before b.from b.to b.weight (closed.along k e inside));
      joined = next_joined;
    }
