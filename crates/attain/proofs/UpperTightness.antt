-- The written upper end of an interval shows it: a path and the latest execution, or a cut and the earliest one.
use Rattle.std.proofs.Common.{◌≡◌, ◌↔◌, ◌<◌, ℕ, true, false, List, length, map, refl, sym, ◌∙◌, ap, arith, inl, inr}
use Rattle.std.specs.Prelude.{ℤ, pos, ◌-ℤ◌, ◌≤ℤ◌, ◌+ℤ◌, Contains}
use Rattle.std.proofs.lemmas.Int.{ints}
use Rattle.std.proofs.lemmas.Bool.{cases_Bool}
use Rattle.problem_model.specs.declared.items.Node.{Node}
use Rattle.problem_model.specs.declared.items.Node.TheVariants as nodes
use Rattle.problem_model.specs.declared.items.Bound.{Bound}
use Rattle.problem_model.specs.Problem.{ProblemLists}
use Rattle.problem_model.specs.Bounds.{Times}
use Rattle.problem_model.specs.Nodes.{Reading, nodes_of}
use Rattle.problem_model.specs.Executions.{at}
use Rattle.problem_model.specs.Parents.{Cells, IsRow}
use Rattle.problem_model.specs.ProblemArcs.{IsGreatestOf, IsUnboundedOf}
use Rattle.problem_model.specs.Rows.{IsGreatestLead, attaining}
use Rattle.problem_model.proofs.Attaining.{attaining-known, attaining-other, attaining_execution}
use Rattle.problem_model.proofs.Parents.{row_closed, row_greatest, row_unbounded}
use Rattle.sync_graph.specs.Graph.{GraphLists, IsGraph, table_of}
use Rattle.sync_graph.specs.InForce.{arcs_of, IsEarliestOf}
use Rattle.cert.specs.EndLists.{EndLists, Limited, Unlimited}
use Rattle.cert.specs.CertificateText.{AreListsOf}
use Rattle.problem.specs.Listing.{Listed, listed_nodes}
use Rattle.cert.specs.Shows.{IsUpperEnd}
use Rattle.problem_graph.specs.ListedStanding.{IsNodeBy, StandsForListed}
use Rattle.attain.specs.Tight.{IsGreatestLeadOf, IsLatest, IsUpperCut, IsUpperAs}
use Rattle.attain.specs.Written.{WrittenEnd, Limit, NoLimit, IsUpperWritten}
use Rattle.attain.proofs.AttainedTimes.{one_greatest_of, no_greatest_of, one_each, times_like}
use Rattle.attain.proofs.ClosedClocks.{holds_by, closed_path, has_clock, clock_there, clocks_below, parts}
use Rattle.attain.proofs.EndTexts.{IsListedEnd}
use Rattle.sync_graph.proofs.InForce.{arcs_listed, arcs_within}
use Rattle.problem_graph.proofs.ListedExecutions.{greatest_of, unbounded_of, earliest_of}
use Rattle.problem_graph.proofs.NodeNumbers.{node_count, number_below, is_node, number_of, node_of, times_by, time_by}
use Rattle.attain.proofs.ParentWays.{upper_way, path_to_known}

module _ (l : Listed) (p : ProblemLists) (readings : List Reading) (g : GraphLists) (stands : StandsForListed l p readings g) (is : IsGraph g) (values : List ℤ)
    (e : IsEarliestOf g values)
    (from first : ℕ)
    (own : IsNodeBy l p readings from (nodes.Event first))
    (c : Cells)
    (row : IsRow (length g.nodes) (table_of g) from c)
  where
    -- ---- greatest differences
    known_greatest : (k : ℕ) (n : Node) → IsNodeBy l p readings k n → c.known k ≡ true → IsGreatestOf p (nodes.Event first) n (c.value k)
    known_greatest k n by known =
        greatest_of l p readings g stands is from k (nodes.Event first) n own by (c.value k)
        (row_greatest (length g.nodes) (table_of g) (arcs_of g) from c (arcs_listed g is) row values (arcs_within g is) e.execution k known)

    unknown_unbounded : (k : ℕ) (n : Node) → IsNodeBy l p readings k n → c.known k ≡ false → IsUnboundedOf p (nodes.Event first) n
    unknown_unbounded k n by unknown =
        unbounded_of l p readings g stands is from k (nodes.Event first) n own by
        (row_unbounded (length g.nodes) (table_of g) (arcs_of g) from c (arcs_listed g is) row values (arcs_within g is) e.execution k (number_below l p readings g stands k n by) unknown)

    greatest_known : (k : ℕ) (n : Node) (h : ℤ) → IsNodeBy l p readings k n → IsGreatestOf p (nodes.Event first) n h → (c.known k ≡ true) × (c.value k ≡ h)
    greatest_known k n h by greatest = elim (cases_Bool (c.known k)) [
      | inl known ↦ (known, one_greatest_of p (nodes.Event first) n (c.value k) h (known_greatest k n by known) greatest)
      | inr unknown ↦ absurd (no_greatest_of p (nodes.Event first) n h (unknown_unbounded k n by unknown) greatest)
    ]

    unbounded_unknown : (k : ℕ) (n : Node) → IsNodeBy l p readings k n → IsUnboundedOf p (nodes.Event first) n → c.known k ≡ false
    unbounded_unknown k n by unbounded = elim (cases_Bool (c.known k)) [
      | inl known ↦ absurd (no_greatest_of p (nodes.Event first) n (c.value k) unbounded (known_greatest k n by known))
      | inr unknown ↦ unknown
    ]

    -- ---- the latest execution
    module _ (earliest : Times) (earliest_is : map (at values) (listed_nodes l) ≡ map earliest (nodes_of p readings)) (K : ℤ) (lead : IsGreatestLead (length g.nodes) c.known c.value values K) where
      greatest_lead : IsGreatestLeadOf p (nodes.Event first) earliest K
      greatest_lead = record {
        attained = (
            let some = node_of l p readings g stands lead.attained.0 lead.attained.1 in
            let time : earliest some.0 ≡ at values lead.attained.0 = time_by l p readings g stands (at values) earliest earliest_is lead.attained.0 some.0 some.1 in
            let same : (c.value lead.attained.0 -ℤ at values lead.attained.0) ≡ K = lead.attained.3 in
            (some.0, c.value lead.attained.0, is_node l p readings g stands lead.attained.0 some.0 some.1, known_greatest lead.attained.0 some.0 some.1 lead.attained.2, omega (arith, ints, time, same)));
        most = λ n h there greatest.
            let by = number_of l p readings g stands n there in
            let known = greatest_known by.0 n h by.1 greatest in
            let value : c.value by.0 ≡ h = known.1 in
            let time : earliest n ≡ at values by.0 = time_by l p readings g stands (at values) earliest earliest_is by.0 n by.1 in
            let most : (c.value by.0 -ℤ at values by.0) ≤ℤ K = lead.most by.0 (number_below l p readings g stands by.0 n by.1) known.0 in
            omega (arith, ints, value, time, most);
      }

      latest : (x : Times) → ((k : ℕ) (n : Node) → IsNodeBy l p readings k n → x n ≡ attaining c.known c.value values K k) → IsLatest p (nodes.Event first) earliest K x
      latest x same = record {
        limited = λ n h there greatest.
            let by = number_of l p readings g stands n there in
            let known = greatest_known by.0 n h by.1 greatest in
            same by.0 n by.1 ∙ attaining-known c.known c.value values K by.0 known.0 ∙ known.1;
        unlimited = λ n there unbounded.
            let by = number_of l p readings g stands n there in
            let unknown = unbounded_unknown by.0 n by.1 unbounded in
            let time : earliest n ≡ at values by.0 = time_by l p readings g stands (at values) earliest earliest_is by.0 n by.1 in
            same by.0 n by.1 ∙ attaining-other c.known c.value values K by.0 unknown ∙ ap (λ (v : ℤ). v +ℤ K) (sym time);
      }

    -- ---- the written end
    module _ (to second : ℕ) (by : IsNodeBy l p readings to (nodes.Event second)) (there : first < length p.events) (there' : second < length p.events) where
      -- lists of the problem that show the end
      abbrev Shown : WrittenEnd → Type 0
      Shown w = (end : EndLists) × IsListedEnd l w end × AreListsOf p end × IsUpperEnd p first second end × IsUpperAs p readings first end

      at_limit : (value : ℤ) (steps : List (Bound × ℤ)) (x : ℕ → ℤ) → IsUpperWritten l g values c from to (Limit value steps x) → Shown (Limit value steps x)
      at_limit value steps x (K, known, value_is, lead, follows, short, same) =
          let earliest = times_by l p readings g stands (at values) in
          let way = upper_way l p readings g stands is from (nodes.Event first) own c row steps to (nodes.Event second) by known follows in
          let t = times_like l p readings g stands is (attaining c.known c.value values K) x
          (attaining_execution (length g.nodes) (arcs_of g) from c.known c.value values (arcs_within g is) (row_closed (length g.nodes) (table_of g) (arcs_of g) from c (arcs_listed g is) row) e.execution K lead) same in
          let time_to : t.0 (nodes.Event second) ≡ c.value to = t.3 to (nodes.Event second) by ∙ attaining-known c.known c.value values K to known in
          let time_from : t.0 (nodes.Event first) ≡ pos 0 = t.3 from (nodes.Event first) own ∙ attaining-known c.known c.value values K from row.own.0 ∙ row.own.1 in
          let difference : (t.0 (nodes.Event second) -ℤ t.0 (nodes.Event first)) ≡ value = omega (arith, ints, time_to, time_from, value_is) in (
            Limited value way.0 (map x (listed_nodes l)),
            (way.0, way.1.0, refl),
            (way.1.1, one_each l p readings g stands x),
            (way.1.2, way.1.3 ∙ sym value_is, (t.0, (readings, stands.are_readings, t.1), t.2, difference)),
            (
              earliest.0,
              K,
              t.0,
              earliest_of l p readings g stands is values earliest.0 e earliest.1,
              greatest_lead earliest.0 earliest.1 K lead,
              latest earliest.0 earliest.1 K lead t.0 t.3,
              t.1,
              (let long : length way.0 ≡ length steps = way.1.4 in omega (arith, long, short, node_count l p readings g stands)),
            ),
          )

      closed : (j : ℕ) → (table_of g).in_force j ≡ true → c.known ((table_of g).arc j).from ≡ true → c.known ((table_of g).arc j).to ≡ true
      closed j force known = (row.along j force known).0

      without_limit : (inside : List ℕ) (x : ℕ → ℤ) → IsUpperWritten l g values c from to (NoLimit inside x) → Shown (NoLimit inside x)
      without_limit inside x (unknown, clocks, same) =
          let earliest = times_by l p readings g stands (at values) in
          let execution = earliest_of l p readings g stands is values earliest.0 e earliest.1 in
          let listed : map x (listed_nodes l) ≡ map earliest.0 (nodes_of p readings) = ap (λ (f : ℕ → ℤ). map f (listed_nodes l)) same ∙ earliest.1 in (
            Unlimited inside (map x (listed_nodes l)),
            refl,
            (clocks_below l p readings g stands is values e.execution c.known closed inside clocks.each, clocks.rising, one_each l p readings g stands x),
            (
              parts l p readings g stands is values e.execution c.known closed inside clocks.each first second there there' (from, own, row.own.0)
                  (λ holds. (let known : c.known to ≡ true = holds_by l p readings g stands is values e.execution c.known closed to (nodes.Event second) by holds in let none : ⊥ = cc in none)),
              (earliest.0, (readings, stands.are_readings, listed), execution.execution),
            ),
            (earliest.0, execution, listed, cut_is inside clocks.each),
          )
        where
          cut_is : (inside : List ℕ) → ((clock : ℕ) → Contains inside clock ↔ ((r : ℕ × ℕ × ℕ) × Contains l.readings r × (r.0 ≡ clock) × (c.known r.2 ≡ true))) → IsUpperCut p (nodes.Event first) inside
          cut_is inside each clock = (
            λ has. (let some = clock_there l p readings g stands is values e.execution c.known closed inside each clock has in
                (some.0, some.1, some.2, path_to_known l p readings g stands is from (nodes.Event first) own c row some.3.0 some.0 some.3.1 some.3.2)),
            λ (n, node, on, path). has_clock l p readings g stands is values e.execution c.known closed inside each n clock node on
                (closed_path l p readings g stands is values e.execution c.known closed (nodes.Event first) n path.0 path.1 (from, own, row.own.0)),
          )

      pub upper_shown : (w : WrittenEnd) → IsUpperWritten l g values c from to w → (end : EndLists) × IsListedEnd l w end × AreListsOf p end × IsUpperEnd p first second end × IsUpperAs p readings first end
      upper_shown (Limit value steps x) written = at_limit value steps x written
      upper_shown (NoLimit inside x) written = without_limit inside x written
