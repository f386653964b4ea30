-- Last and first readings of clocks that come after each other, while a reading comes.
use Rattle.std.proofs.Common.{◌≡◌, ◌⊎◌, ◌≤◌, ℕ, Bool, Option, Some, None, sym, ap, arith, inl, inr, subst}
use Rattle.problem_model.specs.declared.items.Node.TheVariants as nodes
use Rattle.problem_model.specs.Problem.{ProblemLists, IsChained}
use Rattle.problem_model.specs.Bounds.{ComesAfter}
use Rattle.problem_model.proofs.NearestFollows.{rises_after}
use Rattle.sync_graph.specs.Graph.{GraphLists}
use Rattle.problem_graph.specs.Standing.{HasNode}
use Rattle.roster.specs.Entered.{IsReadingOf, AreLinked}
use Rattle.roster.specs.Entering.{IsStampBelow, IsStampAbove, IsFirstNode, IsLastNode, IsReadingBefore, IsReadingAfter, IsEarlierEnd, IsLaterEnd}

-- a clock does not come before one that it comes after, nor is it that one
one_way : (p : ProblemLists) → IsChained p → (b c : ℕ) → ComesAfter p b c → (c ≡ b) ⊎ ComesAfter p c b → ⊥
one_way p chained b c after (inl same) = (let rise = rises_after p chained b c after in omega (arith, rise, same))
one_way p chained b c after (inr back) = (let rise = rises_after p chained b c after in let fall = rises_after p chained c b back in omega (arith, rise, fall))

-- a reading that follows one on another clock stands on a clock that comes after
pub later_comes : (p : ProblemLists) (g : GraphLists) (c : ℕ) (above : Option ℕ) (d t : ℕ) → IsLaterEnd p g c above (Some (d, t)) → ComesAfter p c d
later_comes p g c None d t is = is.0
later_comes p g c (Some u) d t is = absurd (cc)

module _ (p : ProblemLists) (one more : ℕ → Bool) (still : (clock stamp : ℕ) → IsReadingOf p one clock stamp → IsReadingOf p more clock stamp) where
  -- what is linked among more readings is so among those that were
  pub linked_were : (c s d t : ℕ) → AreLinked p more c s d t → IsReadingOf p one c s → IsReadingOf p one d t → AreLinked p one c s d t
  linked_were c s d t are last first = record {
    comes = are.comes;
    nearest = λ b u after read. are.nearest b u after (still b u read);
    last = last;
    none_after = λ u read. are.none_after u (still c u read);
    first = first;
    none_before = λ u read. are.none_before u (still d u read);
  }

module _ (p : ProblemLists) (chained : IsChained p) (one more : ℕ → Bool) (still : (clock stamp : ℕ) → IsReadingOf p one clock stamp → IsReadingOf p more clock stamp) (g : GraphLists)
    (node_there : (clock stamp : ℕ) → IsReadingOf p one clock stamp → HasNode g (nodes.Reading clock stamp)) (read_there : (clock stamp : ℕ) → HasNode g (nodes.Reading clock stamp) → IsReadingOf p one clock stamp) where
  abbrev Linked : ℕ → ℕ → ℕ → ℕ → Type 0
  Linked c s d t = AreLinked p more c s d t

  node_read : (clock stamp : ℕ) → HasNode g (nodes.Reading clock stamp) → IsReadingOf p more clock stamp
  node_read clock stamp has = still clock stamp (read_there clock stamp has)

  -- the last node of a clock is the linked reading of this clock
  last_one : (c s d t : ℕ) → Linked c s d t → IsReadingOf p one c s → (b u : ℕ) → c ≡ b → IsLastNode g b u → ◌≡◌ {A = ℕ × ℕ} (b, u) (c, s)
  last_one c s d t are old b u same last =
      let last' : IsLastNode g c u = subst (λ (k : ℕ). IsLastNode g k u) (sym same) last in
      let up : s ≤ u = last'.1 s (node_there c s old) in
      let down : u ≤ s = are.none_after u (node_read c u last'.0) in
      let stamp : u ≡ s = omega (arith, up, down) in
      let clock : b ≡ c = sym same in
      cc

  first_one : (c s d t : ℕ) → Linked c s d t → IsReadingOf p one d t → (b u : ℕ) → d ≡ b → IsFirstNode g b u → ◌≡◌ {A = ℕ × ℕ} (b, u) (d, t)
  first_one c s d t are old b u same first =
      let first' : IsFirstNode g d u = subst (λ (k : ℕ). IsFirstNode g k u) (sym same) first in
      let down : u ≤ t = first'.1 t (node_there d t old) in
      let up : t ≤ u = are.none_before u (node_read d u first'.0) in
      let stamp : u ≡ t = omega (arith, up, down) in
      let clock : b ≡ d = sym same in
      cc

  -- the nearest node before is the one that is linked
  node_before : (c s d t : ℕ) (earlier : Option (ℕ × ℕ)) → IsReadingBefore p g d earlier → Linked c s d t → IsReadingOf p one c s → earlier ≡ Some (c, s)
  node_before c s d t None none are old = absurd (none c s are.comes (node_there c s old))
  node_before c s d t (Some (b, u)) (comes, closest, last) are old = elim (closest c s are.comes (node_there c s old)) [
    | inl same ↦ ap Some (last_one c s d t are old b u same last)
    | inr after ↦ absurd (one_way p chained c b after (are.nearest b u comes (node_read b u last.0)))
  ]

  -- and the nearest node after
  node_after : (c s d t : ℕ) (later : Option (ℕ × ℕ)) → IsReadingAfter p g c later → Linked c s d t → IsReadingOf p one d t → later ≡ Some (d, t)
  node_after c s d t None none are old = absurd (none d t are.comes (node_there d t old))
  node_after c s d t (Some (b, u)) (comes, closest, first) are old = elim (closest d t are.comes (node_there d t old)) [
    | inl same ↦ ap Some (first_one c s d t are old b u same first)
    | inr after ↦ absurd (one_way p chained c b comes (are.nearest b u after (node_read b u first.0)))
  ]

  -- a reading that comes as the first of its clock follows the one it is linked with
  pub earlier_is : (c s d t : ℕ) (below : Option ℕ) (earlier : Option (ℕ × ℕ)) → IsEarlierEnd p g d below earlier → IsStampBelow g d t below → Linked c s d t → IsReadingOf p one c s → earlier ≡ Some (c, s)
  earlier_is c s d t None earlier is none are old = node_before c s d t earlier is are old
  earlier_is c s d t (Some u) earlier is (there', less, most) are old = absurd (let least = are.none_before u (node_read d u there') in omega (arith, least, less))

  -- and one that comes as the last of its clock is followed by the one it is linked with
  pub later_is : (c s d t : ℕ) (above : Option ℕ) (later : Option (ℕ × ℕ)) → IsLaterEnd p g c above later → IsStampAbove g c s above → Linked c s d t → IsReadingOf p one d t → later ≡ Some (d, t)
  later_is c s d t None later is none are old = node_after c s d t later is are old
  later_is c s d t (Some u) later is (there', less, least) are old = absurd (let most = are.none_after u (node_read c u there') in omega (arith, most, less))
