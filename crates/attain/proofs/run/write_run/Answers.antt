use Rattle.std.specs.Prelude.{codes}
use Rattle.problem_model.specs.Executions.{at}
use Rattle.ports.proofs.Writing.{writes_then, writes_front, writes_failed}
use Rattle.cert.specs.Listed.{listed_values}
use Rattle.attain.proofs.run.write_run.Goals as goal

pub returns-in_err-write_whole : goal.returns-in_err-write_whole
returns-in_err-write_whole g c =
    let y = listed_values (g.N.Listing.listed c.args.names.now) (at c.args.e.now.values) in
    writes_failed c.from_residual.ensures.0 (writes_front (codes "end\n") (writes_front y c.in_err-write_whole.ensures))

pub returns-in_err-write_values : goal.returns-in_err-write_values
returns-in_err-write_values g c = writes_failed c.from_residual-in_err-write_values.ensures.0 (writes_front (codes "end\n") (writes_then c.in_ok-write_whole.ensures c.in_err-write_values.ensures))

pub returns : goal.returns
returns g c = writes_then (writes_then c.in_ok-write_whole.ensures c.in_ok-write_values.ensures) c.write_whole-2.ensures
