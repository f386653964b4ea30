use Rattle.std.proofs.Common.{sym, ◌∙◌, subst}
use Rattle.row_pool.specs.Pool.{Pool}
use Rattle.attain.specs.Ends.{AreRowsAt}
use Rattle.solver.specs.Changes.{LeavesTaken}
use Rattle.solver.specs.Lending.{lent_slot}
use Rattle.solver.proofs.Returning.{given_up}
use Rattle.queries.proofs.Solutions.{event_below, goes_on, keeps_both}
use Rattle.session_answers.proofs.TimesTold.{since_tells, since_text}
use Rattle.session_answers.proofs.times.write_lent.Goals as goal

pub lend-rows-requires-clause-node : goal.lend-rows-requires-clause-node
lend-rows-requires-clause-node g c =
    let asked = c.requires.asked in
    event_below (g.N.Listing.listed c.args.names.now) asked.problem c.args.solver.now asked.solution asked.place c.args.first asked.at

pub write_times-written-requires : goal.write_times-written-requires
write_times-written-requires g c =
    let l = g.N.Listing.listed c.args.names.now in
    let asked = c.requires.asked in
    let s = c.lend-rows.new.self in
    let solution = goes_on l asked.problem c.args.solver.now s c.lend-rows.ensures.leaves.answer c.lend-rows.ensures.leaves.current asked.solution in
    let rows : AreRowsAt s.graph c.args.first c.lent.result.0.now c.lent.result.1.now = record {
      from_node = c.lent.ensures.from c.args.first c.lend-rows.ensures.rows;
      to_node = c.lent.ensures.to c.args.first c.lend-rows.ensures.rows;
      cells_from = c.lent.ensures.cells_from;
      cells_to = c.lent.ensures.cells_to;
    } in
    λ place node at. since_tells l asked.problem s solution (c.lend-rows.ensures.leaves.answer.contradiction ∙ asked.none) c.args.first c.lent.result.0.now c.lent.result.1.now rows asked.place asked.at place node at

pub returns-clause-writes : goal.returns-clause-writes
returns-clause-writes g c = λ p start solution at.
    let l = g.N.Listing.listed c.args.names.now in
    let asked = c.requires.asked in
    let s = c.lend-rows.new.self in
    let its = goes_on l p c.args.solver.now s c.lend-rows.ensures.leaves.answer c.lend-rows.ensures.leaves.current solution in
    let rows : AreRowsAt s.graph c.args.first c.lent.result.0.now c.lent.result.1.now = record {
      from_node = c.lent.ensures.from c.args.first c.lend-rows.ensures.rows;
      to_node = c.lent.ensures.to c.args.first c.lend-rows.ensures.rows;
      cells_from = c.lent.ensures.cells_from;
      cells_to = c.lent.ensures.cells_to;
    } in
    (_, since_text l p s its (c.lend-rows.ensures.leaves.answer.contradiction ∙ asked.none) c.args.first c.lent.result.0.now c.lent.result.1.now rows start at, c.write_times-written.ensures)

pub returns-clause-leaves : goal.returns-clause-leaves
returns-clause-leaves g c = record {
  answer = keeps_both c.args.solver.now c.lend-rows.new.self c.give_back.new.self c.lend-rows.ensures.leaves.answer c.give_back.ensures.leaves.answer;
  kept = c.give_back.ensures.kept ∙ c.lend-rows.ensures.kept;
  rows =
      subst (λ (pool : Pool). LeavesTaken c.args.solver.now.pool pool) (sym c.give_back.ensures.pool)
      (given_up c.args.solver.now.pool c.lend-rows.new.self.pool (lent_slot c.args.first c.lend-rows.result) c.lend-rows.ensures.takes);
  room = c.give_back.ensures.leaves.room ∙ c.lend-rows.ensures.leaves.room;
  current = c.give_back.ensures.leaves.current;
}
