use Rattle.std.proofs.Common.{◌∙◌, ap, sym, rules}
use Rattle.std.proofs.lemmas.Int.{to_z-of_z}
use mir.Syntax.{w128}
use mir.Val.{SFits}
use Rattle.std.proofs.lemmas.Option.{get_or_from_slice_get, slice_get_within}
use Rattle.problem_model.specs.declared.items.Node.TheVariants as nodes
use Rattle.roster.specs.declared.came.Came.{Came}
use Rattle.roster.specs.Roster.{event_at, no_event}
use Rattle.session.specs.Firsts.{key_of_came}
use Rattle.session.proofs.starts.key_of.Goals as goal

pub value-requires-clause-node : goal.value-requires-clause-node
value-requires-clause-node c =
    slice_get_within c.args.solver.now.graph.nodes c.event-came.result.node (nodes.Event c.args.v) (c.requires.nodes.events c.args.v c.event-came.result c.event-came.ensures)
