-- Bounds that come, one after another.
use Rattle.std.proofs.Common.{◌≡◌, ◌<◌, ◌≤◌, ◌+◌, ℕ, Bool, true, false, List, [], ◌∷◌, ◌++◌, Option, Some, None, length, get_or, slice_get, refl, sym, ◌∙◌, ap, subst, arith, inl, inr, length-append, append_assoc}
use Rattle.std.specs.Prelude.{IfSome}
use Rattle.std.proofs.lemmas.Bool.{cases_lt}
use Rattle.std.proofs.Math.Seq.{get_or-append_seam}
use Rattle.std.proofs.lemmas.List.{get_or_append_left, get_or_past}
use Rattle.std.proofs.lemmas.Option.{slice_get_within, get_or_from_slice_get}
use Rattle.problem_model.specs.declared.items.Bound.{Bound}
use Rattle.problem_model.specs.declared.items.Node.{Node}
use Rattle.problem_model.specs.Problem.{ProblemLists}
use Rattle.problem_model.specs.Bounds.{IsReading}
use Rattle.sync_graph.specs.declared.arc.Arc.{Arc}
use Rattle.sync_graph.specs.Graph.{GraphLists, arc_at, with_arc}
use Rattle.problem_graph.specs.BoundArcs.{IsBoundAmong}
use Rattle.problem_graph.specs.Standing.{HasNode}
use Rattle.sync_graph.proofs.InForce.{no_arc}
use Rattle.solver.specs.Solver.{SolverLists, HasRoom}
use Rattle.solver.specs.Current.{IsCurrent}
use Rattle.solver.specs.Changes.{KeepsSlots}
use Rattle.roster.specs.Entered.{IsReadingOf}
use Rattle.roster.specs.Entering.{span_below, span_above, follow_before, follow_after}
use Rattle.roster.specs.Growing.{IsGrowing}
use Rattle.roster.specs.Once.{IsOn, HasEachOnce}
use Rattle.roster.proofs.Once.{pushed_once}
use Rattle.roster.proofs.PushedBounds.{bound_pushed}
use Rattle.session_graph.specs.Kept.{KeepsRows}
use Rattle.session_graph.specs.Pushes.{Brings}
use Rattle.session_graph.specs.Links.{bounds_beside}
use Rattle.session_graph.specs.declared.follows.Nearest.{Nearest}
use Rattle.session_graph.proofs.Extending.{extends_itself, extends_then, extends_by_arc}

-- ---- rows
pub rows_stay : (old new : SolverLists) → KeepsSlots old new → KeepsRows old new
rows_stay old new keeps = record { slots = keeps.slots; source = keeps.source; count = keeps.rows.count; free = keeps.free }

room_stays : (old new : SolverLists) (n : ℕ) → KeepsSlots old new → HasRoom n old → HasRoom n new
room_stays old new n keeps room =
    let wide : new.pool.width ≡ old.pool.width = keeps.rows.width in
    let found : new.kept.room ≡ old.kept.room = keeps.found in
    let front : new.front ≡ old.front = keeps.front in
    record { rows = (let x = room.rows in omega (arith, x, wide)); found = (let x = room.found in omega (arith, x, found)); front = (let x = room.front in omega (arith, x, front)) }

pub rows_then : (a b c : SolverLists) → KeepsRows a b → KeepsRows b c → KeepsRows a c
rows_then a b c one two = record { slots = two.slots ∙ one.slots; source = two.source ∙ one.source; count = two.count ∙ one.count; free = two.free ∙ one.free }

pub rows_same : (s : SolverLists) → KeepsRows s s
rows_same s = record { slots = refl; source = refl; count = refl; free = refl }

-- ---- one arc
pub on_inside : (g : GraphLists) (k : ℕ) → length g.in_force ≡ length g.arcs → IsOn g k → k < length g.arcs
on_inside g k flags on = elim (cases_lt k (length g.in_force)) [
  | inl inside ↦ omega (arith, inside, flags)
  | inr past ↦ absurd (let none : get_or g.in_force k false ≡ false = get_or_past g.in_force k false past in let z : ⊥ = cc in z)
]

module _ (g : GraphLists) (a : Arc) (flags : length g.in_force ≡ length g.arcs) where
  pub stays : (k : ℕ) → IsOn g k → IsOn (with_arc g a) k × (arc_at (g.arcs ++ a ∷ []) k ≡ arc_at g.arcs k)
  stays k on =
      let inside = on_inside g k flags on in
      (get_or_append_left g.in_force (true ∷ []) false k (omega (arith, inside, flags)) ∙ on, get_or_append_left g.arcs (a ∷ []) no_arc k inside)

  pub last_on : IsOn (with_arc g a) (length g.arcs)
  last_on = ap (λ (n : ℕ). get_or (g.in_force ++ true ∷ []) n false) (sym flags) ∙ get_or-append_seam g.in_force true [] false

  pub last_is : arc_at (g.arcs ++ a ∷ []) (length g.arcs) ≡ a
  last_is = get_or-append_seam g.arcs a [] no_arc

pub brings_one : (old new : SolverLists) (a : Arc) → IsCurrent old → new.graph ≡ with_arc old.graph a → IsCurrent new → KeepsSlots old new → Brings (a.name ∷ []) old new
brings_one old new a was is current keeps =
    let g = old.graph in
    let flags = was.set_up.graph.flags in
    record {
      current = current;
      nodes = ap (λ (h : GraphLists). h.nodes) is;
      count = ap (λ (h : GraphLists). length h.arcs) is ∙ length-append g.arcs (a ∷ []);
      stay = λ k on. subst (λ (h : GraphLists). IsOn h k × (arc_at h.arcs k ≡ arc_at g.arcs k)) (sym is) (stays g a flags k on);
      once = λ rest each. subst (HasEachOnce rest) (sym is) (pushed_once g a flags a.name rest refl each);
      rows = rows_stay old new keeps;
      extends = extends_by_arc old new a is keeps;
      room = λ n room. room_stays old new n keeps room;
    }

-- ---- in a row
pub brings_none : (s : SolverLists) → IsCurrent s → Brings [] s s
brings_none s current = record {
  current = current;
  nodes = refl;
  count = omega arith;
  stay = λ k on. (on, refl);
  once = λ rest each. each;
  rows = rows_same s;
  extends = extends_itself s;
  room = λ n room. room;
}

pub brings_then : (xs ys : List Bound) (a b c : SolverLists) → Brings xs a b → Brings ys b c → Brings (xs ++ ys) a c
brings_then xs ys a b c one two = record {
  current = two.current;
  nodes = two.nodes ∙ one.nodes;
  count = omega (arith, one.count, two.count, length-append xs ys);
  stay = λ k on. (let x = one.stay k on in let y = two.stay k x.0 in (y.0, y.1 ∙ x.1));
  once = λ rest each. two.once rest (one.once (ys ++ rest) (subst (λ (bs : List Bound). HasEachOnce bs a.graph) (append_assoc xs ys rest) each));
  rows = rows_then a b c one.rows two.rows;
  extends = extends_then a b c one.extends two.extends;
  room = λ n room. two.room n (one.room n room);
}

-- four lists in a row, and a rest
pub four_behind : (a b c d rest : List Bound) → (a ++ (b ++ (c ++ d))) ++ rest ≡ a ++ (b ++ (c ++ (d ++ rest)))
four_behind a b c d rest =
    append_assoc a (b ++ (c ++ d)) rest
    ∙ ap (λ (xs : List Bound). a ++ xs) (append_assoc b (c ++ d) rest)
    ∙ ap (λ (xs : List Bound). a ++ (b ++ xs)) (append_assoc c d rest)

-- ---- what is left
-- one bound less is left behind an arc
pub grows_one : (p : ProblemLists) (entered : ℕ → Bool) (rest : List Bound) (old new : SolverLists) (a : Arc) → IsCurrent old → new.graph ≡ with_arc old.graph a → IsBoundAmong p old.graph.nodes a
    → IsGrowing p entered (a.name ∷ rest) old.graph → IsGrowing p entered rest new.graph
grows_one p entered rest old new a was is bound left = subst (IsGrowing p entered rest) (sym is) (bound_pushed p entered a.name rest old.graph a was.set_up.graph bound refl left)

-- ---- readings
pub reading_by : (p : ProblemLists) (entered : ℕ → Bool) (clock stamp : ℕ) → IsReadingOf p entered clock stamp → IsReading p clock stamp
reading_by p entered clock stamp (v, e, has, on, is) = (e, (v, slice_get_within p.events v e has.0, get_or_from_slice_get p.events v e e has.0), on, is)

-- ---- what stands in a graph with the same nodes
pub has_still : (old new : SolverLists) (n : Node) → new.graph.nodes ≡ old.graph.nodes → HasNode old.graph n → HasNode new.graph n
has_still old new n same (k, at) = (k, ap (λ (ns : List Node). slice_get ns k) same ∙ at)

-- ---- how many bounds a new reading has
-- at most two on each side
before_few : (clock stamp : ℕ) (o : Option ℕ) (e : Option (ℕ × ℕ)) → IfSome o (λ s. e ≡ None) → length (span_below clock stamp o) + length (follow_before clock stamp e) ≤ 2
before_few clock stamp None None alone = omega arith
before_few clock stamp None (Some e) alone = omega arith
before_few clock stamp (Some s) None alone = omega arith
before_few clock stamp (Some s) (Some e) alone = absurd (cc)

after_few : (clock stamp : ℕ) (o : Option ℕ) (e : Option (ℕ × ℕ)) → IfSome o (λ t. e ≡ None) → length (span_above clock stamp o) + length (follow_after clock stamp e) ≤ 2
after_few clock stamp None None alone = omega arith
after_few clock stamp None (Some e) alone = omega arith
after_few clock stamp (Some t) None alone = omega arith
after_few clock stamp (Some t) (Some e) alone = absurd (cc)

-- at most four
pub links_few : (place stamp : ℕ) (n : Nearest) → IfSome n.below (λ s. n.earlier ≡ None) → IfSome n.above (λ t. n.later ≡ None) → length (bounds_beside place stamp n) ≤ 4
links_few place stamp n first last =
    let under : List Bound = span_below place stamp n.below in
    let over : List Bound = span_above place stamp n.above in
    let before : List Bound = follow_before place stamp n.earlier in
    let after : List Bound = follow_after place stamp n.later in
    let few = before_few place stamp n.below n.earlier first in
    let few' = after_few place stamp n.above n.later last in
    omega (arith, few, few', length-append under (over ++ (before ++ after)), length-append over (before ++ after), length-append before after)
