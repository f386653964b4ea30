use Rattle.std.proofs.Common.{◌≡◌, ◌≢◌, ℕ, All, AllPairs, sym, ◌∙◌, ap, subst}
use Rattle.std.specs.List.{flat_map}
use Rattle.solver.specs.Changes.{withdrawn}
use Rattle.roster.specs.Once.{IsOn}
use Rattle.session_graph.specs.Growth.{Retells}
use Rattle.session_graph.specs.Withdrawn.{told_arcs}
use Rattle.session_graph.proofs.Forgetting.{IsForgetting, sends_of}
use Rattle.session_graph.proofs.Leaving.{all_told, numbers_on, numbers_differ, sends_inside, left_way, forgotten}
use Rattle.session_graph.proofs.withdrawn.withdraw.Goals as goal

pub list_messages-requires : goal.list_messages-requires
list_messages-requires g c =
    let (all, left, way, of) = c.requires.ready in
    (c.args.solver.now.graph, all_told c.args.roster.now c.args.solver.now all left c.args.messages.now way of)

pub withdraw-requires-clause-numbers : goal.withdraw-requires-clause-numbers
withdraw-requires-clause-numbers g c =
    let (all, left, way, of) = c.requires.ready in
    let numbers : c.deref.result.now ≡ flat_map (told_arcs c.args.roster.now) c.args.messages.now = c.deref.ensures.value ∙ c.in_ok-numbers.ensures in
    record {
      each = subst (All (IsOn c.args.solver.now.graph)) (sym numbers) (numbers_on c.args.roster.now c.args.solver.now all left c.args.messages.now way of);
      differ = subst (AllPairs (λ (j k : ℕ). j ≢ k)) (sym numbers) (numbers_differ c.args.roster.now c.args.solver.now all left c.args.messages.now way of c.requires.differ);
    }

pub forget_all-requires : goal.forget_all-requires
forget_all-requires g c =
    let (all, left, way, of) = c.requires.ready in
    sends_inside c.args.roster.now c.args.solver.now all left c.args.messages.now way of

pub returns-clause-gone : goal.returns-clause-gone
returns-clause-gone g c = λ all left way of.
    let numbers : c.deref.result.now ≡ flat_map (told_arcs c.args.roster.now) c.args.messages.now = c.deref.ensures.value ∙ c.in_ok-numbers.ensures in
    left_way c.args.roster.now c.args.solver.now all left c.args.messages.now way of c.withdraw.new.self c.withdraw.ensures.graph.nodes c.withdraw.ensures.graph.arcs
    (c.withdraw.ensures.graph.in_force ∙ ap (withdrawn c.args.solver.now.graph.in_force) numbers) c.forget_all.new.roster
    (subst (IsForgetting (sends_of c.args.messages.now) c.args.roster.now) (sym c.forget_all.ensures) (forgotten c.args.roster.now c.args.solver.now all left c.args.messages.now way of))
    c.in_ok-withdraw.ensures.slots.current

pub returns-clause-retells : goal.returns-clause-retells
returns-clause-retells g c =
    let (all, left, way, of) = c.requires.ready in
    subst (Retells c.args.roster.now) (sym c.forget_all.ensures) (forgotten c.args.roster.now c.args.solver.now all left c.args.messages.now way of).retells

pub returns-clause-declaration : goal.returns-clause-declaration
returns-clause-declaration g c = (returns-clause-retells g c).declaration

pub returns-clause-unchanged : goal.returns-clause-unchanged
returns-clause-unchanged g c = λ none.
    let numbers : c.deref.result.now ≡ flat_map (told_arcs c.args.roster.now) c.args.messages.now = c.deref.ensures.value ∙ c.in_ok-numbers.ensures in
    c.withdraw.ensures.unchanged (numbers ∙ ap (flat_map (told_arcs c.args.roster.now)) none)

pub returns-clause-steps : goal.returns-clause-steps
returns-clause-steps g c =
    let (all, left, way, of) = c.requires.ready in
    let numbers : c.deref.result.now ≡ flat_map (told_arcs c.args.roster.now) c.args.messages.now = c.deref.ensures.value ∙ c.in_ok-numbers.ensures in
    record {
      numbers = c.deref.result.now;
      were = subst (All (IsOn c.args.solver.now.graph)) (sym numbers) (numbers_on c.args.roster.now c.args.solver.now all left c.args.messages.now way of);
      nodes = c.withdraw.ensures.graph.nodes;
      arcs = c.withdraw.ensures.graph.arcs;
      in_force = c.withdraw.ensures.graph.in_force;
      slots = c.in_ok-withdraw.ensures.slots.slots;
      source = c.in_ok-withdraw.ensures.slots.source;
      solved = c.in_ok-withdraw.ensures.solved;
      few = c.withdraw.ensures.steps;
      none = c.withdraw.ensures.nothing;
    }
