use Rattle.std.proofs.Common.{◌≡◌, ℕ, List, [], map, All, true, sym, ◌∙◌, ap, subst}
use Rattle.std.proofs.lemmas.Result.{IfOk-weaker}
use Rattle.problem.specs.Listing.{all_readings}
use Rattle.problem.proofs.OwnReadings.{own_readings}
use Rattle.problem_graph.specs.ListedStanding.{IsEventAt}
use Rattle.mergecap.specs.declared.stored.Stored.{Stored}
use Rattle.mergecap.specs.Packets.{timed, all_timed}
use Rattle.traces.specs.Seen.{Seen}
use Rattle.traces.specs.declared.event_id.EventId.{EventId}
use Rattle.roster.specs.Roster.{listed}
use Rattle.replies.specs.Reply.{IsPlacedAt}
use Rattle.session_answers.specs.Ready.{AreAnswersOf, answers_problem, declared}
use Rattle.session_answers.specs.SinceAsking.{AreSinceAt, AsksSince}
use Rattle.session_answers.proofs.AskedRows.{answers_left}
use Rattle.session_answers.proofs.Engines.{spare_free}
use Rattle.session.specs.Settled.{HasEventOf, event_of, node_of}
use Rattle.session.specs.Since.{AreEndsFrom}
use Rattle.session.proofs.Settles.{none_held}
use Rattle.session.proofs.SinceEvents.{nodes_stand, nodes_told, packets_under, placed_stands, placed_under, since_packets}
use Rattle.session.proofs.since.packet_ends.Goals as goal

pub packet_nodes-requires : goal.packet_nodes-requires
packet_nodes-requires g c =
    let seen = c.requires.0 in
    let are = c.requires.2 in
    packets_under c.args.answers.now.graph.roster are.lawful seen are.graph.holds c.args.kept.now c.requires.5

pub node_of-first-requires : goal.node_of-first-requires
node_of-first-requires g c =
    let seen = c.requires.0 in
    let are = c.requires.2 in
    let placed = c.requires.4 in
    placed_under c.args.answers.now.graph.roster are.lawful seen are.graph.holds placed.0 c.args.event placed.1

pub ends_since-requires-clause-asked : goal.ends_since-requires-clause-asked
ends_since-requires-clause-asked g c =
    let a = c.args.answers.now in
    let r = a.graph.roster in
    let seen = c.requires.0 in
    let are = c.requires.2 in
    let placed = c.requires.4 in
    let p = answers_problem a seen in
    let nodes : c.deref.result.now ≡ nodes_told r are.lawful seen are.graph.holds c.args.kept.now = c.deref.ensures.value ∙ c.in_ok-nodes.ensures in
    record {
      listed = listed r;
      asked = record {
        problem = p;
        solution = are.graph.solution;
        none = none_held a.graph.solver.contradiction (listed r) p c.requires.3 (c.contradictions.ensures.held (listed r) p (all_readings p.events) a.graph.solver (own_readings p) are.graph.solution);
        place = placed.0;
        at = subst (λ (n : ℕ). IsEventAt (listed r) placed.0 n) (sym c.node_of-first.ensures) (placed_stands r are.lawful seen are.graph.holds placed.0 c.args.event placed.1);
      };
      events = subst (λ (ns : List ℕ). All (λ (node : ℕ). (place : ℕ) × IsEventAt (listed r) place node) ns) (sym nodes) (nodes_stand r are.lawful seen are.graph.holds c.args.kept.now c.requires.5);
    }

pub ends_since-requires-clause-free : goal.ends_since-requires-clause-free
ends_since-requires-clause-free g c = spare_free c.args.answers.now.graph.solver c.requires.2.rows

pub returns-clause-are : goal.returns-clause-are
returns-clause-are g c =
    let a = c.args.answers.now in
    let r = a.graph.roster in
    let s = a.graph.solver in
    let kept = c.args.kept.now in
    let event = c.args.event in
    IfOk-weaker c.ends_since.result _
    (λ all. (seen : List (List Seen)) (ids : List EventId) (place : ℕ) → AreAnswersOf seen ids a → IsPlacedAt seen place event → All (HasEventOf seen) (all_timed kept) → AreEndsFrom (declared a) seen place (all_timed kept) all.items)
    (λ all told. (λ seen ids place are placed there. (
    let nodes : c.deref.result.now ≡ nodes_told r are.lawful seen are.graph.holds kept = c.deref.ensures.value ∙ c.in_ok-nodes.ensures in
    since_packets r are.lawful seen are.graph.holds s are.graph.solution kept there place event placed all.items
    (subst (λ (ns : List ℕ). AreSinceAt s (node_of r event) ns all.items) nodes (subst (λ (n : ℕ). AreSinceAt s n c.deref.result.now all.items) c.node_of-first.ensures told))))) c.ends_since.ensures.are

pub returns-clause-ready : goal.returns-clause-ready
returns-clause-ready g c = λ seen ids are. answers_left seen ids c.args.answers.now _ are c.ends_since.ensures.leaves
