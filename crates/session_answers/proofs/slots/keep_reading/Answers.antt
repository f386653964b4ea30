use Rattle.std.proofs.Common.{inl, inr, refl, ap}
use Rattle.repair.specs.Slots.{KeptRows}
use Rattle.problem.proofs.OwnReadings.{own_readings}
use Rattle.session_answers.proofs.Engines.{reading_within, reading_listed}
use Rattle.session_answers.proofs.slots.keep_reading.Goals as goal

pub keep_source-requires-clause-current : goal.keep_source-requires-clause-current
keep_source-requires-clause-current g c = c.requires.solution.1.current

pub keep_source-requires-clause-node : goal.keep_source-requires-clause-node
keep_source-requires-clause-node g c =
    let p = c.requires.solution.0 in
    reading_within _ p _ c.args.solver.now.graph c.args.clock _ _ (c.requires.solution.1.stands _ (own_readings p)) c.in-Some.ensures.some

pub returns-in-Some-clause-source : goal.returns-in-Some-clause-source
returns-in-Some-clause-source g c = λ p is.
    let t = c.keep_source.ensures.takes in
    (t.0, ap (λ (k : KeptRows). k.source) t.2, rw t.1 c.in-Some.ensures.some)

pub returns-in-Some-clause-slots : goal.returns-in-Some-clause-slots
returns-in-Some-clause-slots g c = ap (λ (k : KeptRows). k.slots) c.keep_source.ensures.takes.2

pub returns-in-Some-clause-takes : goal.returns-in-Some-clause-takes
returns-in-Some-clause-takes g c =
    let t = c.keep_source.ensures.takes in
    inl ((t.0, ap (λ (k : KeptRows). k.source) t.2), record { answer = c.keep_source.ensures.leaves.answer; current = c.keep_source.ensures.leaves.current; count = t.3.count; free = c.keep_source.ensures.free })

pub returns-in-None-clause-source : goal.returns-in-None-clause-source
returns-in-None-clause-source g c = λ p is. (
  λ has. (
      let l = reading_listed _ p _ c.args.solver.now.graph c.args.clock (is.stands _ (own_readings p)) has in
      c.in-None.ensures.none l.0 l.1 l.2),
  c.requires.none,
)

pub returns-in-None-clause-takes : goal.returns-in-None-clause-takes
returns-in-None-clause-takes g c = inr refl
