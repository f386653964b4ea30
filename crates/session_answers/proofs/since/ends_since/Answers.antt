use Rattle.std.proofs.Common.{List, sym, subst}
use Rattle.std.specs.Prelude.{All}
use Rattle.std.proofs.lemmas.Result.{IfOk-weaker}
use Rattle.intervals.specs.declared.ends.Ends.{Ends}
use Rattle.intervals.specs.Ends.{FitsEnds}
use Rattle.attain.specs.Ends.{AreRowsAt}
use Rattle.solver.proofs.Staying.{leaves_all}
use Rattle.session_answers.specs.SinceAsking.{AreSinceAt}
use Rattle.session_answers.proofs.SinceTold.{all_since, all_small, all_tell}
use Rattle.session_answers.proofs.since.ends_since.Goals as goal

pub ends_by-requires : goal.ends_by-requires
ends_by-requires g c =
    let asked = c.requires.asked.asked in
    let from = c.in-Some.from.now in
    let to = c.in-Some.to.now in
    let rows : AreRowsAt c.args.solver.now.graph c.args.first from to = record {
      from_node = c.in-Some.ensures.rows.0;
      to_node = c.in-Some.ensures.rows.1;
      cells_from = c.in-Some.ensures.cells.0;
      cells_to = c.in-Some.ensures.cells.1;
    } in
    all_tell from to c.args.nodes.now c.args.solver.now asked.none c.args.first rows c.requires.asked.listed asked.problem asked.place asked.solution asked.at c.requires.asked.events

pub returns-in-Some-clause-are : goal.returns-in-Some-clause-are
returns-in-Some-clause-are g c =
    let from = c.in-Some.from.now in
    let to = c.in-Some.to.now in
    let rows : AreRowsAt c.args.solver.now.graph c.args.first from to = record {
      from_node = c.in-Some.ensures.rows.0;
      to_node = c.in-Some.ensures.rows.1;
      cells_from = c.in-Some.ensures.cells.0;
      cells_to = c.in-Some.ensures.cells.1;
    } in
    IfOk-weaker c.ends_by.result _ (λ all. AreSinceAt c.args.solver.now c.args.first c.args.nodes.now all.items)
    (λ all is. subst (λ (ends : List Ends). AreSinceAt c.args.solver.now c.args.first c.args.nodes.now ends) (sym is) (all_since from to c.args.nodes.now c.args.solver.now c.requires.asked.asked.none c.args.first rows)) c.ends_by.ensures

pub returns-in-Some-clause-small : goal.returns-in-Some-clause-small
returns-in-Some-clause-small g c =
    let asked = c.requires.asked.asked in
    let from = c.in-Some.from.now in
    let to = c.in-Some.to.now in
    let rows : AreRowsAt c.args.solver.now.graph c.args.first from to = record {
      from_node = c.in-Some.ensures.rows.0;
      to_node = c.in-Some.ensures.rows.1;
      cells_from = c.in-Some.ensures.cells.0;
      cells_to = c.in-Some.ensures.cells.1;
    } in
    let tell = all_tell from to c.args.nodes.now c.args.solver.now asked.none c.args.first rows c.requires.asked.listed asked.problem asked.place asked.solution asked.at c.requires.asked.events in
    IfOk-weaker c.ends_by.result _ (λ all. All FitsEnds all.items) (λ all is. subst (λ (ends : List Ends). All FitsEnds ends) (sym is) (all_small from to c.args.nodes.now tell)) c.ends_by.ensures

pub returns-in-Some-clause-leaves : goal.returns-in-Some-clause-leaves
returns-in-Some-clause-leaves g c = leaves_all c.args.solver.now c.requires.asked.asked.solution.current
