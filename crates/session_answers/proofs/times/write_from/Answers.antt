use Rattle.attain.specs.Ends.{AreRowsAt}
use Rattle.solver.proofs.Staying.{leaves_all}
use Rattle.session_answers.proofs.TimesTold.{since_tells, since_text}
use Rattle.session_answers.proofs.times.write_from.Goals as goal

pub write_times-requires : goal.write_times-requires
write_times-requires g c =
    let asked = c.requires.asked in
    let from = c.in-Some.from.now in
    let to = c.in-Some.to.now in
    let rows : AreRowsAt c.args.solver.now.graph c.args.first from to = record {
      from_node = c.in-Some.ensures.rows.0;
      to_node = c.in-Some.ensures.rows.1;
      cells_from = c.in-Some.ensures.cells.0;
      cells_to = c.in-Some.ensures.cells.1;
    } in
    λ place node at. since_tells (g.N.Listing.listed c.args.names.now) asked.problem c.args.solver.now asked.solution asked.none c.args.first from to rows asked.place asked.at place node at

pub returns-in-Some-clause-writes : goal.returns-in-Some-clause-writes
returns-in-Some-clause-writes g c = λ p start solution at.
    let from = c.in-Some.from.now in
    let to = c.in-Some.to.now in
    let rows : AreRowsAt c.args.solver.now.graph c.args.first from to = record {
      from_node = c.in-Some.ensures.rows.0;
      to_node = c.in-Some.ensures.rows.1;
      cells_from = c.in-Some.ensures.cells.0;
      cells_to = c.in-Some.ensures.cells.1;
    } in
    (_, since_text (g.N.Listing.listed c.args.names.now) p c.args.solver.now solution c.requires.asked.none c.args.first from to rows start at, c.write_times.ensures)

pub returns-in-Some-clause-leaves : goal.returns-in-Some-clause-leaves
returns-in-Some-clause-leaves g c = leaves_all c.args.solver.now c.requires.asked.solution.current
