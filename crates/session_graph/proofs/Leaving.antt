-- A graph from which messages are withdrawn.
use Rattle.std.proofs.Common.{◌≡◌, ◌≢◌, ◌<◌, ℕ, true, List, [], Some, None, length, map, Contains, All, AllPairs, refl, sym, ◌∙◌, ap, subst, arith, inl, inr}
use Rattle.std.specs.Prelude.{nat_lt}
use Rattle.std.specs.List.{flat_map}
use Rattle.std.proofs.lemmas.Bool.Decides.{nat_tests}
use Rattle.std.proofs.lemmas.List.{length-map}
use Rattle.std.proofs.lemmas.Option.{none-some, slice_get_within}
use Rattle.problem_model.specs.declared.items.Event.{Event}
use Rattle.problem_model.specs.declared.items.Message.{Message}
use Rattle.problem_model.specs.declared.items.Node.{Node}
use Rattle.problem_model.specs.declared.items.Node.TheVariants as nodes
use Rattle.problem_model.specs.declared.items.Bound.{Bound}
use Rattle.problem_model.specs.declared.items.Bound.TheVariants.{DelayLeast}
use Rattle.problem_model.specs.Problem.{ProblemLists}
use Rattle.problem_model.specs.Bounds.{Constraint, Declares}
use Rattle.decl.specs.Declaration.{Declaration, follows_of}
use Rattle.sync_graph.specs.declared.arc.Arc.{Arc}
use Rattle.sync_graph.specs.Graph.{arc_at}
use Rattle.solver.specs.Solver.{SolverLists}
use Rattle.solver.specs.Current.{IsCurrent}
use Rattle.solver.specs.Changes.{withdrawn}
use Rattle.traces.proofs.Members.{none_in}
use Rattle.roster.specs.declared.came.Came.{Came}
use Rattle.roster.specs.declared.came.Partner.{Partner}
use Rattle.roster.specs.Roster.{RosterLists}
use Rattle.roster.specs.Entered.{all_events, events_below}
use Rattle.roster.specs.Growing.{IsGrownTo}
use Rattle.roster.specs.Withdrawing.{IsMore, IsDelayOf, Withdraws, HasMessage}
use Rattle.roster.specs.Once.{IsOn, HasEachOnce, TakesOut}
use Rattle.roster.specs.Rosters.{named_event, problem_by_number}
use Rattle.roster.proofs.Once.{taken_out}
use Rattle.roster.proofs.Withdrawn.{grown_after}
use Rattle.roster.proofs.Loop.{grown_alike}
use Rattle.session_graph.specs.Kept.{HasArcs, KnowsMessages, TellsArc}
use Rattle.session_graph.specs.UnderWay.{IsChangeUnderWay}
use Rattle.session_graph.specs.Withdrawn.{AreLeft, told_arcs, without_partners}
use Rattle.session_graph.proofs.Messages.{OfMessage}
use Rattle.session_graph.proofs.OneEvent.{none_behind}
use Rattle.session_graph.proofs.ToldArcs.{all_from, mapped, map_has, all_on, all_differ, sends_apart, takes_out}
use Rattle.session_graph.proofs.Forgetting.{sends_of, IsForgetting, forgets}

is_below : (v n : ℕ) → v < n → nat_lt v n ≡ true
is_below v n less = grind (arith, nat_tests)

module _ (r : RosterLists) (s : SolverLists) (messages left went : List Message) (way : IsChangeUnderWay messages r s) (of : AreLeft messages went left) where
  pub all_told : All (λ m. TellsArc r s.graph m) went
  all_told = all_from (λ (m : Message). TellsArc r s.graph m) went (λ m held. way.grown.tells.each m (of.were m held))

  pub numbers_on : All (IsOn s.graph) (flat_map (told_arcs r) went)
  numbers_on = all_on r s.graph messages of.own_sends way.grown.tells.each went of.were

  -- ---- numbers
  pub numbers_differ : AllPairs (λ (a b : Message). a ≢ b) went → AllPairs (λ j k. j ≢ k) (flat_map (told_arcs r) went)
  numbers_differ differ =
      all_differ r s.graph messages of.own_sends way.grown.tells.each went of.were
      (sends_apart r s.graph messages of.own_sends way.grown.tells.each went of.were differ)

  -- ---- messages that are left
  abbrev p : ProblemLists
  p = problem_by_number r messages

  abbrev q : ProblemLists
  q = problem_by_number r left

  send_inside : (m : Message) → Contains messages m → m.send < length r.came
  send_inside m held = (let (e, arc, at, partner, has) = way.grown.tells.each m held in slice_get_within r.came m.send e at)

  pub sends_inside : All (λ (m : Message). m.send < length r.came) went
  sends_inside = all_from (λ (m : Message). m.send < length r.came) went (λ m held. send_inside m (of.were m held))

  pub forgotten : IsForgetting (sends_of went) r (without_partners r went)
  forgotten = forgets went r (length r.came) refl sends_inside

  receive_inside : (m : Message) → Contains messages m → m.receive < length (map (named_event r.declaration) r.came)
  receive_inside m held = elim (way.grown.grown.every (DelayLeast m.send m.receive) (m, record { among = held; send_is = refl; receive_is = refl; send_in = refl; receive_in = refl })) [
    | inl none ↦ absurd (none_in (DelayLeast m.send m.receive) none)
    | inr (a, force, name) ↦ (
        let own = way.grown.grown.each a force in
        let declares : Declares (problem_by_number r messages) (DelayLeast m.send m.receive) own.0 = subst (λ b. Declares (problem_by_number r messages) b own.0) name own.1 in
        let (n, held_n, from, to, is) = declares in
        let from_is : own.0.from ≡ nodes.Event m.receive = ap (λ (c : Constraint). c.from) is in
        let there' = way.grown.grown.nodes (nodes.Event m.receive) (a.from, own.2 ∙ ap Some from_is) in
        slice_get_within (map (named_event r.declaration) r.came) m.receive there'.0 there'.1.0)
  ]

  more : IsMore (problem_by_number r messages) (problem_by_number r left) went
  more = record {
    clocks = refl;
    follows = refl;
    more = [];
    events = sym (none_behind (map (named_event r.declaration) r.came));
    messages = record {
      kept = λ m held. elim (of.stay m held) [ inl goes ↦ inr goes | inr stays ↦ inl stays ];
      gone = λ m n goes stays from to. of.gone n stays (subst (Contains went) (of.own_sends m n (of.were m goes) (of.only n stays) (sym from)) goes);
      none = λ m held from to. of.only m held;
    };
  }

  module _ (s' : SolverLists) (is_nodes : s'.graph.nodes ≡ s.graph.nodes) (is_arcs : s'.graph.arcs ≡ s.graph.arcs) (flags : s'.graph.in_force ≡ withdrawn s.graph.in_force (flat_map (told_arcs r) went)) where
    takes : TakesOut went (flat_map (told_arcs r) went) s.graph s'.graph
    takes = takes_out r s.graph messages of.own_sends way.grown.tells.each went of.were way.grown.grown s'.graph is_nodes is_arcs flags

    out : Withdraws went s.graph s'.graph × HasEachOnce [] s'.graph
    out = taken_out went (flat_map (told_arcs r) went) s.graph s'.graph takes way.grown.once

    grown : IsGrownTo (problem_by_number r left) all_events s'.graph
    grown =
        let n = length (map (named_event r.declaration) r.came) in
        let many : length (map (named_event r.declaration) r.came) ≡ length r.came = length-map r.came (named_event r.declaration) in
        grown_alike (problem_by_number r left) (events_below n) all_events (λ v inside. is_below v n inside)
        (all_from (λ (m : Message). m.send < n) left (λ m held. (let x = send_inside m (of.only m held) in omega (arith, x, many))))
        (all_from (λ (m : Message). m.receive < n) left (λ m held. receive_inside m (of.only m held))) [] s'.graph
        (grown_after (problem_by_number r messages) (problem_by_number r left) went more s.graph s'.graph out.0 way.grown.grown)

    -- an arc of a message that is left stays in force
    gone_not : (m : Message) → Contains left m → HasMessage went m.send m.receive → ⊥
    gone_not m held (n, goes, from, to) = of.gone m held (subst (Contains went) (of.own_sends n m (of.were n goes) (of.only m held) from) goes)

    not_taken : (m : Message) → Contains left m → (b : Bound) → OfMessage m b → IsDelayOf went b → ⊥
    not_taken m held b (inl is) delay = gone_not m held (subst (IsDelayOf went) is delay)
    not_taken m held b (inr is) delay = gone_not m held (subst (IsDelayOf went) is delay)

    stays_on : (m : Message) → Contains left m → (k : ℕ) → IsOn s.graph k → OfMessage m (arc_at s.graph.arcs k).name → IsOn s'.graph k
    stays_on m held k on own = elim (takes.others k on) [
      | inl taken ↦ absurd (not_taken m held (arc_at s.graph.arcs k).name own (takes.of_messages k taken))
      | inr still ↦ still
    ]

    name_still : (k : ℕ) → (arc_at s'.graph.arcs k).name ≡ (arc_at s.graph.arcs k).name
    name_still k = ap (λ (some : List Arc). (arc_at some k).name) is_arcs

    arcs_still : (m : Message) → Contains left m → (arc : ℕ) → HasArcs s.graph m arc → HasArcs s'.graph m arc
    arcs_still m held arc has = record {
      on = stays_on m held arc has.on (inr has.least);
      least = name_still arc ∙ has.least;
      most = λ w is_w. (let (k, next, on, name) = has.most w is_w in (k, next, stays_on m held k on (inl name), name_still k ∙ name));
    }

    -- ---- the roster
    module _ (new : RosterLists) (forgetting : IsForgetting (sends_of went) r new) where
      not_sent : (m : Message) → Contains left m → Contains (sends_of went) m.send → ⊥
      not_sent m held sent =
          let (n, held_n, is) = mapped (λ (x : Message). x.send) went m.send sent in
          let one : n ≡ m = of.own_sends n m (of.were n held_n) (of.only m held) is in
          of.gone m held (subst (Contains went) one held_n)

      sent_if : (m : Message) → Contains went m → (v : ℕ) → m.send ≡ v → Contains (sends_of went) v
      sent_if m held v from = subst (Contains (sends_of went)) from (map_has (λ (x : Message). x.send) went m held)

      tells : KnowsMessages new left s'.graph
      tells = record {
        each = λ m held. (
            let (e, arc, at, partner, has) = way.grown.tells.each m (of.only m held) in
            (e, arc, forgetting.others m.send (not_sent m held) ∙ at, partner, arcs_still m held arc has));
        only = λ v e q at told. (
            let silent : Contains (sends_of went) v → ⊥ = λ sent. none_told e q (forgetting.none v sent e at) told in
            let (n, held, from, to) = way.grown.tells.only v e q (sym (forgetting.others v silent) ∙ at) told in
            elim (of.stay n held) [
              | inl goes ↦ absurd (silent (sent_if n goes v from))
              | inr stays ↦ (n, stays, from, to)
            ]);
      }
        where
          none_told : (e : Came) (q : Partner) → e.partner ≡ None → e.partner ≡ Some q → ⊥
          none_told e q none some = none-some q (sym none ∙ some)

      problem_same : problem_by_number new left ≡ problem_by_number r left
      problem_same =
          ap (λ (es : List Event). let x : ProblemLists = record { clocks = new.declaration.clocks; follows = follows_of new.declaration; events = es; messages = left } in x) forgetting.events
          ∙ ap (λ (d : Declaration). let x : ProblemLists = record { clocks = d.clocks; follows = follows_of d; events = map (named_event r.declaration) r.came; messages = left } in x) forgetting.retells.declaration

      pub left_way : IsCurrent s' → IsChangeUnderWay left new s'
      left_way current = record {
        current = current;
        grown = record {
          grown = subst (λ (x : ProblemLists). IsGrownTo x all_events s'.graph) (sym problem_same) grown;
          once = out.1;
          knows = forgetting.knows s.graph s'.graph is_nodes way.grown.knows;
          tells = tells;
        };
        nodes = (
            let same : length s'.graph.nodes ≡ length s.graph.nodes = ap (λ (ns : List Node). length ns) is_nodes in
            let many = forgetting.retells.count in
            let few = way.nodes in
            omega (arith, same, many, few));
      }
