-- The start of an insertion.
use Rattle.std.proofs.Common.{◌≡◌, ℕ, ◌*◌, ◌^◌, ◌<◌, ◌≤◌, true, false, List, length, set, get_or, refl, sym, ◌∙◌, subst, arith, inl, inr, length-set}
use Rattle.std.specs.Prelude.{◌+◌, ℤ, pos, neg_ℤ, ◌-ℤ◌, ◌≤ℤ◌, ◌<ℤ◌, Option, Some, All}
use lib.Signed.{le_z}
use Rattle.std.proofs.lemmas.Int.{ints}
use Rattle.std.proofs.lemmas.Bool.{cases_lt}
use Rattle.std.proofs.lemmas.List.{get_or_default, get_or_past, get_or-set_same}
use Rattle.std.proofs.lemmas.List.Elements.{Contains-get_or}
use Rattle.problem_model.specs.Executions.{Arc, at, AreWithin}
use Rattle.problem_model.specs.Numbers.{IsUpTo}
use Rattle.problem_model.specs.Tables.{Lists, without}
use Rattle.problem_model.specs.Insertions.{IsFirstRaise}
use Rattle.problem_model.specs.Limits.{path_bits}
use Rattle.problem_model.proofs.Heights.{earliest_height, height_low}
use Rattle.problem_model.proofs.Insertions.{obeyed_elsewhere, kept_earliest, first_raising, first_chains}
use Rattle.problem_model.proofs.Tables.{lists_listed, without_force}
use Rattle.frontier.specs.Keys.{IsEmpty}
use Rattle.sync_graph.specs.Graph.{GraphLists, IsGraph, IsSound, arc_at, unnamed, table_of}
use Rattle.earliest.specs.Values.{arcs_of, arcs_but, IsEarliestOf, IsEarliestBut, AreSmall}
use Rattle.earliest.specs.UnderWay.{IsNeeded, raises_of, IsBefore, IsBetweenPops}
use Rattle.earliest.proofs.Waiting.{neg_neg, raise_none, raise-set_same, raise-set_other, raises_in, raises_none, in_force_below}
use Rattle.earliest.proofs.Bounds.{no_arc}

pub pos_le : (a b : ℕ) → a ≤ b → pos a ≤ℤ pos b
pos_le a b h = omega (arith, ints)

pub weight_low : (w : ℤ) → neg_ℤ (pos (2 ^ 93)) <ℤ w → neg_ℤ (pos (2 ^ 93)) ≤ℤ w
weight_low w h = omega (arith, ints)

pub value_low : (x y : ℤ) → x ≤ℤ y → y ≤ℤ pos (2 ^ path_bits) → x ≤ℤ pos (2 ^ path_bits)
value_low x y a b = omega (arith, ints)

first_low : (a b w r : ℤ) → a ≤ℤ pos (2 ^ path_bits) → pos 0 ≤ℤ b → neg_ℤ (pos (2 ^ 93)) <ℤ w → r ≡ a -ℤ w -ℤ b → r ≤ℤ pos (2 ^ (path_bits + 1))
first_low a b w r ha hb hw e = omega (arith, ints)

obeyed_from : (a b w r : ℤ) → r ≡ a -ℤ w -ℤ b → r ≤ℤ pos 0 → (a -ℤ b) ≤ℤ w
obeyed_from a b w r e h = omega (arith, ints)

pub up_to : (x : ℤ) → pos 0 ≤ℤ x → x ≤ℤ pos (2 ^ path_bits) → IsUpTo (path_bits + 3) x
up_to x l h = (omega (arith, ints), omega (arith, ints))

pub zero_low : (x : ℤ) → x ≡ pos 0 → x ≤ℤ pos (2 ^ path_bits)
zero_low x e = omega (arith, ints)

module _ (g : GraphLists) (is : IsGraph g) (arc : ℕ) (olds : List ℤ)
    (in_force : (table_of g).in_force arc ≡ true)
    (e : IsEarliestBut g arc olds)
  where
    pub arc_below : arc < length g.arcs
    arc_below = in_force_below g is arc in_force

    sound : IsSound (length g.nodes) (arc_at g.arcs arc)
    sound = is.sound arc no_arc arc_below

    now : Lists (table_of g) (arcs_of g)
    now = lists_listed (table_of g) (length g.arcs) (in_force_below g is)

    then_was : Lists (without (table_of g) arc) (arcs_but g arc)
    then_was = lists_listed (without (table_of g) arc) (length g.arcs) (λ j f. in_force_below g is j (without_force (table_of g) arc j f))

    -- what is true of each sound arc is true of the arcs but one
    each_sound : (P : Arc → Type 0) → ((j : ℕ) → IsSound (length g.nodes) (arc_at g.arcs j) → P (unnamed (arc_at g.arcs j))) → All P (arcs_but g arc)
    each_sound P h k d l =
        let r : (j : ℕ) × ((without (table_of g) arc).in_force j ≡ true) × ((without (table_of g) arc).arc j ≡ get_or (arcs_but g arc) k d) =
        then_was.only (get_or (arcs_but g arc) k d) (Contains-get_or (arcs_but g arc) k d l) in
        subst P r.2 (h r.0 (is.sound r.0 no_arc (in_force_below g is r.0 (without_force (table_of g) arc r.0 r.1))))

    within : AreWithin (length g.nodes) (arcs_but g arc)
    within = each_sound (λ a. (a.from < length g.nodes) × (a.to < length g.nodes)) (λ j s. (s.from, s.to))

    pub olds_low : (k : ℕ) → at olds k ≤ℤ pos (2 ^ path_bits)
    olds_low k = elim (cases_lt k (length g.nodes)) [
      | inl l ↦ value_low (at olds k) (pos (length g.nodes * 2 ^ 93))
          (earliest_height (length g.nodes) (arcs_but g arc) olds (2 ^ 93) within (each_sound (λ a. neg_ℤ (pos (2 ^ 93)) ≤ℤ a.weight) (λ j s. weight_low (arc_at g.arcs j).weight s.low)) e k l)
          (pos_le (length g.nodes * 2 ^ 93) (2 ^ path_bits) (height_low (length g.nodes) is.node_limit))
      | inr l ↦ zero_low (at olds k) (get_or_past olds k (pos 0) (omega (arith, l, e.execution.one_each)))
    ]

    pub olds_small : AreSmall g olds
    olds_small = record {
      one_each = e.execution.one_each;
      small = λ k d l. subst (IsUpTo (path_bits + 3)) (get_or_default olds k (pos 0) d l) (up_to (at olds k) (e.non_negative k) (olds_low k));
    }

    pub is_before : IsBefore g (arc_at g.arcs arc).to olds
    is_before = record {
      graph = is;
      within = sound.to;
      one_each = e.execution.one_each;
      non_negative = e.non_negative;
      small = olds_low;
      obeyed = obeyed_elsewhere (length g.nodes) (table_of g) (arcs_of g) (arcs_but g arc) arc olds now then_was within e;
    }

    module _ (r : ℤ) (needed : IsNeeded olds (arc_at g.arcs arc) r) where
      -- the new arc is obeyed already
      pub kept_already : r ≤ℤ pos 0 → IsEarliestOf g olds
      kept_already h = kept_earliest (length g.nodes) (table_of g) (arcs_of g) (arcs_but g arc) arc olds now then_was within e
          (obeyed_from (at olds (arc_at g.arcs arc).to) (at olds (arc_at g.arcs arc).from) (arc_at g.arcs arc).weight r needed h)

      module _ (front front' : List (Option ℤ)) (parents parents' : List ℕ)
          (positive : pos 0 <ℤ r)
          (empty : IsEmpty front)
          (room : length g.nodes ≤ length front)
          (parent_each : length parents ≡ length olds)
        where
          tail_front : (arc_at g.arcs arc).from < length front
          tail_front = omega (arith, room, sound.from)

          first_raise : IsFirstRaise (table_of g) arc r (at olds) (raises_of olds (set front (arc_at g.arcs arc).from (Some (neg_ℤ r))) (set parents (arc_at g.arcs arc).from arc))
          first_raise = record {
            value = λ k. refl;
            raise = raise-set_same front (arc_at g.arcs arc).from (Some (neg_ℤ r)) tail_front ∙ neg_neg r;
            others = λ k n. raise-set_other front (arc_at g.arcs arc).from k (Some (neg_ℤ r)) n ∙ raise_none front empty k;
            parent = get_or-set_same parents (arc_at g.arcs arc).from arc 0 (omega (arith, parent_each, e.execution.one_each, sound.from));
            equal = needed;
            positive = positive;
          }

          first_under_way : IsBetweenPops g (arc_at g.arcs arc).to olds olds (set front (arc_at g.arcs arc).from (Some (neg_ℤ r))) (set parents (arc_at g.arcs arc).from arc)
          first_under_way = record {
            first = r;
            top = r;
            small = first_low (at olds (arc_at g.arcs arc).to) (at olds (arc_at g.arcs arc).from) (arc_at g.arcs arc).weight r (olds_low (arc_at g.arcs arc).to) (e.non_negative (arc_at g.arcs arc).from) sound.low needed;
            raising = first_raising (length g.nodes) (table_of g) (arcs_of g) (arcs_but g arc) arc olds now then_was within e r
                (raises_of olds (set front (arc_at g.arcs arc).from (Some (neg_ℤ r))) (set parents (arc_at g.arcs arc).from arc)) in_force first_raise;
            chains = first_chains (length g.nodes) (table_of g) (arcs_of g) (arcs_but g arc) arc olds now then_was within e r
                (raises_of olds (set front (arc_at g.arcs arc).from (Some (neg_ℤ r))) (set parents (arc_at g.arcs arc).from arc)) in_force first_raise;
            raises = raises_in (length g.nodes) front (arc_at g.arcs arc).from r sound.from positive (raises_none (length g.nodes) front empty);
            one_each = e.execution.one_each;
            parent_each = length-set parents (arc_at g.arcs arc).from arc ∙ parent_each ∙ e.execution.one_each;
            room = omega (arith, room, length-set front (arc_at g.arcs arc).from (Some (neg_ℤ r)));
          }

          pub starts : front' ≡ set front (arc_at g.arcs arc).from (Some (neg_ℤ r)) → parents' ≡ set parents (arc_at g.arcs arc).from arc
              → IsBetweenPops g (arc_at g.arcs arc).to olds olds front' parents'
          starts ef ep = subst (λ f. IsBetweenPops g (arc_at g.arcs arc).to olds olds f parents') (sym ef)
              (subst (λ p. IsBetweenPops g (arc_at g.arcs arc).to olds olds (set front (arc_at g.arcs arc).from (Some (neg_ℤ r))) p) (sym ep) first_under_way)

pub test_low : (x : ℤ) → le_z x (pos 0) ≡ true → x ≤ℤ pos 0
test_low x h = grind (arith, ints)

pub test_high : (x : ℤ) → le_z x (pos 0) ≡ false → pos 0 <ℤ x
test_high x h = grind (arith, ints)
