use Rattle.std.proofs.Common.{◌≡◌, sym, subst, rules}
use Rattle.std.proofs.lemmas.Int.{to_z-of_z}
use mir.Syntax.{w128}
use mir.Val.{SFits, of_z, to_z}
use Rattle.std.proofs.lemmas.Option.{get_or_from_slice_get, slice_get_within}
use Rattle.problem_model.specs.declared.items.Node.TheVariants as nodes
use Rattle.problem_graph.specs.ListedStanding.{IsEventAt}
use Rattle.roster.specs.declared.came.Came.{Came}
use Rattle.roster.specs.Roster.{event_at, listed, no_event}
use Rattle.session.specs.Dates.{IsDateOf}
use Rattle.session.proofs.starts.start_at.Goals as goal

pub value-requires-clause-node : goal.value-requires-clause-node
value-requires-clause-node c =
    slice_get_within c.args.solver.now.graph.nodes c.event-came.result.node (nodes.Event c.args.v) (c.requires.nodes.events c.args.v c.event-came.result c.event-came.ensures)

pub returns-clause-date : goal.returns-clause-date
returns-clause-date c = λ p declared place solution keeps here.
    let fits : SFits w128 c.date_of.result = search rules in
    let own : event_at c.args.names.now.came c.args.v ≡ c.event-came.result = get_or_from_slice_get c.args.names.now.came c.args.v c.event-came.result no_event c.event-came.ensures in
    subst (λ (e : Came). IsDateOf p declared place e.stamp (to_z w128 (of_z w128 c.date_of.result))) (sym own)
    (subst (IsDateOf p declared place c.event-came.result.stamp) (sym (to_z-of_z w128 c.date_of.result fits))
    (c.date_of.ensures p declared place solution keeps (subst (λ (e : Came). IsEventAt (listed c.args.names.now) place e.node) own here)))
