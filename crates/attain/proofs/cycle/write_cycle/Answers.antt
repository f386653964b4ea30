use Rattle.std.specs.Prelude.{codes, map}
use Rattle.std.specs.List.{flat_map}
use Rattle.ports.proofs.Writing.{writes_then, writes_front, writes_failed}
use Rattle.cert.specs.Listed.{listed_step}
use Rattle.attain.proofs.cycle.write_cycle.Goals as goal

pub returns-in_err-write_whole : goal.returns-in_err-write_whole
returns-in_err-write_whole g c =
    let y = flat_map (listed_step (g.N.Listing.listed c.args.names.now)) (map (λ a. (a.name, a.weight)) c.args.cycle.now) in
    writes_failed c.from_residual.ensures.0 (writes_front (codes "end\n") (writes_front y c.in_err-write_whole.ensures))

pub returns-in_err-write_steps : goal.returns-in_err-write_steps
returns-in_err-write_steps g c = writes_failed c.from_residual-in_err-write_steps.ensures.0 (writes_front (codes "end\n") (writes_then c.in_ok-write_whole.ensures c.in_err-write_steps.ensures))

pub returns : goal.returns
returns g c = writes_then (writes_then c.in_ok-write_whole.ensures c.in_ok-write_steps.ensures) c.write_whole-2.ensures
