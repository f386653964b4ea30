use Rattle.std.proofs.Common.{sym, ◌∙◌, subst}
use Rattle.row_pool.specs.Pool.{Pool}
use Rattle.solver.specs.Changes.{LeavesTaken}
use Rattle.solver.specs.Lending.{lent_slot}
use Rattle.solver.proofs.Returning.{given_up}
use Rattle.queries.proofs.Solutions.{event_below, goes_on, keeps_both}
use Rattle.queries.proofs.prove.write_lent.Goals as goal

pub lend-rows-requires-clause-node : goal.lend-rows-requires-clause-node
lend-rows-requires-clause-node g c =
    event_below (g.N.Listing.listed c.args.names.now) c.requires.asked.problem c.args.solver.now c.requires.asked.solution c.requires.asked.events.0 c.args.first c.requires.asked.events.2

pub write_by-written-requires-clause-asked : goal.write_by-written-requires-clause-asked
write_by-written-requires-clause-asked g c =
    let asked = c.requires.asked in
    record {
      problem = asked.problem;
      solution = goes_on (g.N.Listing.listed c.args.names.now) asked.problem c.args.solver.now c.lend-rows.new.self c.lend-rows.ensures.leaves.answer c.lend-rows.ensures.leaves.current asked.solution;
      none = c.lend-rows.ensures.leaves.answer.contradiction ∙ asked.none;
      events = asked.events;
    }

pub write_by-written-requires-clause-rows : goal.write_by-written-requires-clause-rows
write_by-written-requires-clause-rows g c = record {
  from_node = c.lent.ensures.from c.args.first c.lend-rows.ensures.rows;
  to_node = c.lent.ensures.to c.args.first c.lend-rows.ensures.rows;
  cells_from = c.lent.ensures.cells_from;
  cells_to = c.lent.ensures.cells_to;
}

pub returns-clause-writes : goal.returns-clause-writes
returns-clause-writes g c = λ p i j solution at at'.
    let l = g.N.Listing.listed c.args.names.now in
    c.write_by-written.ensures p i j (goes_on l p c.args.solver.now c.lend-rows.new.self c.lend-rows.ensures.leaves.answer c.lend-rows.ensures.leaves.current solution) at at'

pub returns-clause-leaves : goal.returns-clause-leaves
returns-clause-leaves g c = record {
  answer = keeps_both c.args.solver.now c.lend-rows.new.self c.give_back.new.self c.lend-rows.ensures.leaves.answer c.give_back.ensures.leaves.answer;
  kept = c.give_back.ensures.kept ∙ c.lend-rows.ensures.kept;
  rows =
      subst (λ (pool : Pool). LeavesTaken c.args.solver.now.pool pool) (sym c.give_back.ensures.pool)
      (given_up c.args.solver.now.pool c.lend-rows.new.self.pool (lent_slot c.args.first c.lend-rows.result) c.lend-rows.ensures.takes);
  room = c.give_back.ensures.leaves.room ∙ c.lend-rows.ensures.leaves.room;
  current = c.give_back.ensures.leaves.current;
}
