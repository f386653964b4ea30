use Rattle.std.proofs.Common.{ap}
use Rattle.repair.specs.Slots.{KeptRows}
use Rattle.session_answers.proofs.Engines.{not_refused}
use Rattle.session_answers.proofs.slots.keep_node.Goals as goal

pub returns-clause-slot : goal.returns-clause-slot
returns-clause-slot g c =
    let t = c.in-Ok.ensures.takes in
    (t.0, t.1, ap (λ (k : KeptRows). k.slots) t.2, ap (λ (k : KeptRows). k.source) t.2)

pub returns-clause-takes : goal.returns-clause-takes
returns-clause-takes g c = record { answer = c.keep.ensures.leaves.answer; current = c.keep.ensures.leaves.current; count = c.in-Ok.ensures.takes.3.count; free = c.in-Ok.ensures.free }

pub unreachable-requires : goal.unreachable-requires
unreachable-requires g c = not_refused c.args.solver.now.kept c.args.node _ c.in-Err.ensures.refused c.requires.none c.requires.few
