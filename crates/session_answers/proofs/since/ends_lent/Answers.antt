use Rattle.std.proofs.Common.{List, sym, ◌∙◌, subst}
use Rattle.std.specs.Prelude.{All}
use Rattle.intervals.specs.declared.ends.Ends.{Ends}
use Rattle.intervals.specs.Ends.{FitsEnds}
use Rattle.row_pool.specs.Pool.{Pool}
use Rattle.attain.specs.Ends.{AreRowsAt}
use Rattle.solver.specs.Changes.{LeavesTaken}
use Rattle.solver.specs.Lending.{lent_slot}
use Rattle.solver.proofs.Returning.{given_up}
use Rattle.queries.proofs.Solutions.{event_below, goes_on, keeps_both}
use Rattle.std.proofs.lemmas.Result.{IfOk-weaker}
use Rattle.session_answers.specs.SinceAsking.{AreSinceAt}
use Rattle.session_answers.proofs.SinceTold.{all_since, all_small, all_tell, since_before, told}
use Rattle.session_answers.proofs.since.ends_lent.Goals as goal

pub lend-rows-requires-clause-node : goal.lend-rows-requires-clause-node
lend-rows-requires-clause-node g c =
    let asked = c.requires.asked.asked in
    event_below c.requires.asked.listed asked.problem c.args.solver.now asked.solution asked.place c.args.first asked.at

pub ends_by-all-requires : goal.ends_by-all-requires
ends_by-all-requires g c =
    let l = c.requires.asked.listed in
    let asked = c.requires.asked.asked in
    let s = c.lend-rows.new.self in
    let solution = goes_on l asked.problem c.args.solver.now s c.lend-rows.ensures.leaves.answer c.lend-rows.ensures.leaves.current asked.solution in
    let rows : AreRowsAt s.graph c.args.first c.lent.result.0.now c.lent.result.1.now = record {
      from_node = c.lent.ensures.from c.args.first c.lend-rows.ensures.rows;
      to_node = c.lent.ensures.to c.args.first c.lend-rows.ensures.rows;
      cells_from = c.lent.ensures.cells_from;
      cells_to = c.lent.ensures.cells_to;
    } in
    all_tell c.lent.result.0.now c.lent.result.1.now c.args.nodes.now s (c.lend-rows.ensures.leaves.answer.contradiction ∙ asked.none) c.args.first rows l asked.problem asked.place solution asked.at c.requires.asked.events

pub returns-clause-are : goal.returns-clause-are
returns-clause-are g c =
    let asked = c.requires.asked.asked in
    let old = c.args.solver.now in
    let s = c.lend-rows.new.self in
    let rows : AreRowsAt s.graph c.args.first c.lent.result.0.now c.lent.result.1.now = record {
      from_node = c.lent.ensures.from c.args.first c.lend-rows.ensures.rows;
      to_node = c.lent.ensures.to c.args.first c.lend-rows.ensures.rows;
      cells_from = c.lent.ensures.cells_from;
      cells_to = c.lent.ensures.cells_to;
    } in
    IfOk-weaker c.ends_by-all.result _ (λ all. AreSinceAt old c.args.first c.args.nodes.now all.items)
    (λ all is. since_before old s c.args.first c.args.nodes.now all.items (λ l p solution. goes_on l p old s c.lend-rows.ensures.leaves.answer c.lend-rows.ensures.leaves.current solution)
    (subst (λ (ends : List Ends). AreSinceAt s c.args.first c.args.nodes.now ends) (sym is) (all_since c.lent.result.0.now c.lent.result.1.now c.args.nodes.now s (c.lend-rows.ensures.leaves.answer.contradiction ∙ asked.none) c.args.first rows))) c.ends_by-all.ensures

pub returns-clause-small : goal.returns-clause-small
returns-clause-small g c =
    let l = c.requires.asked.listed in
    let asked = c.requires.asked.asked in
    let s = c.lend-rows.new.self in
    let solution = goes_on l asked.problem c.args.solver.now s c.lend-rows.ensures.leaves.answer c.lend-rows.ensures.leaves.current asked.solution in
    let rows : AreRowsAt s.graph c.args.first c.lent.result.0.now c.lent.result.1.now = record {
      from_node = c.lent.ensures.from c.args.first c.lend-rows.ensures.rows;
      to_node = c.lent.ensures.to c.args.first c.lend-rows.ensures.rows;
      cells_from = c.lent.ensures.cells_from;
      cells_to = c.lent.ensures.cells_to;
    } in
    let tell = all_tell c.lent.result.0.now c.lent.result.1.now c.args.nodes.now s (c.lend-rows.ensures.leaves.answer.contradiction ∙ asked.none) c.args.first rows l asked.problem asked.place solution asked.at c.requires.asked.events in
    IfOk-weaker c.ends_by-all.result _ (λ all. All FitsEnds all.items)
    (λ all is. subst (λ (ends : List Ends). All FitsEnds ends) (sym is) (all_small c.lent.result.0.now c.lent.result.1.now c.args.nodes.now tell)) c.ends_by-all.ensures

pub returns-clause-leaves : goal.returns-clause-leaves
returns-clause-leaves g c = record {
  answer = keeps_both c.args.solver.now c.lend-rows.new.self c.give_back.new.self c.lend-rows.ensures.leaves.answer c.give_back.ensures.leaves.answer;
  kept = c.give_back.ensures.kept ∙ c.lend-rows.ensures.kept;
  rows =
      subst (λ (pool : Pool). LeavesTaken c.args.solver.now.pool pool) (sym c.give_back.ensures.pool)
      (given_up c.args.solver.now.pool c.lend-rows.new.self.pool (lent_slot c.args.first c.lend-rows.result) c.lend-rows.ensures.takes);
  room = c.give_back.ensures.leaves.room ∙ c.lend-rows.ensures.leaves.room;
  current = c.give_back.ensures.leaves.current;
}
