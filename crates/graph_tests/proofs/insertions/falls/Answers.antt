use Rattle.std.proofs.Common.{length, sym, subst, [], ◌∷◌}
use Rattle.std.specs.Prelude.{All}
use Rattle.std.proofs.lemmas.List.Elements.{All-nil, All-cons}
use Rattle.sync_graph.specs.Graph.{IsSound}
use Rattle.earliest.specs.Withdrawn.{IsEarliestWith}
use Rattle.earliest.proofs.Waiting.{in_force_below}
use Rattle.earliest.proofs.Bounds.{sound_arc}
use Rattle.earliest.proofs.Removing.{none_removed, one_removed}
use Rattle.graph_tests.proofs.insertions.falls.Goals as goal

pub arc-requires : goal.arc-requires
arc-requires g c = in_force_below c.args.g.now c.exact.ensures c.args.arc c.requires.in_force

pub withdraw-requires-2-clause-sound : goal.withdraw-requires-2-clause-sound
withdraw-requires-2-clause-sound g c =
    subst (λ nodes. All (IsSound (length nodes)) (c.arc.result ∷ [])) (sym c.withdraw.ensures.nodes)
    (All-cons (IsSound (length c.args.g.now.nodes)) c.arc.result []
    (sound_arc c.args.g.now c.exact.ensures c.args.arc (in_force_below c.args.g.now c.exact.ensures c.args.arc c.requires.in_force) c.arc.result c.arc.ensures)
    (All-nil (IsSound (length c.args.g.now.nodes))))

pub withdraw-requires-2-clause-before : goal.withdraw-requires-2-clause-before
withdraw-requires-2-clause-before g c =
    subst (λ a. IsEarliestWith c.withdraw.new.self (a ∷ []) c.args.e.now.values) (sym c.arc.ensures)
    (one_removed c.args.g.now c.withdraw.new.self c.exact.ensures c.exact-2.ensures c.args.arc [] c.args.e.now.values
    c.withdraw.ensures.nodes c.withdraw.ensures.arcs c.withdraw.ensures.in_force c.requires.in_force (none_removed c.args.g.now c.args.e.now.values c.requires.earliest))
