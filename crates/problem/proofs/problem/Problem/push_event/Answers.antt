use Rattle.problem.specs.Growing.{AddsReading, reading_of}
use Rattle.problem.proofs.ReadingOrder.{readings_more}
use Rattle.problem.proofs.problem.Problem.push_event.Goals as goal

pub invariant_of-self-2 : goal.invariant_of-self-2
invariant_of-self-2 c =
    let adds : AddsReading c.self.inside.readings.items c.insert_reading.new.readings.items (reading_of c.args.e) = rw c.reserve.ensures.items at c.insert_reading.ensures.adds in
    rw c.in_ok-add_event.ensures.ok (readings_more _ c.args.e _ _ c.self.invariant adds c.insert_reading.ensures.rising)
