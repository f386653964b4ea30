use Rattle.std.proofs.Common.{[], ◌∷◌}
use Rattle.std.specs.Prelude.{codes}
use Rattle.line_format.specs.Words.{line_of}
use Rattle.problem_model.specs.Nodes.{nodes_of}
use Rattle.problem.specs.Listing.{all_readings}
use Rattle.cert.proofs.Certificates.{own_readings}
use Rattle.ports.proofs.Writing.{writes_then, writes_front, writes_failed}
use Rattle.widen.specs.WideningText.{widening_lines}
use Rattle.widen.proofs.write.write_widening.Goals as goal

pub returns-in_err-write_whole : goal.returns-in_err-write_whole
returns-in_err-write_whole g c =
    let p = c.args.p.now in
    let lines = widening_lines p (nodes_of p (all_readings p.events)) c.args.what c.args.w.now in (
      all_readings p.events,
      own_readings p c.readings.result.now c.readings.ensures,
      writes_failed c.from_residual.ensures.0 (writes_front (line_of (codes "end" ∷ [])) (writes_front lines c.in_err-write_whole.ensures)),
    )

pub returns-in_err-write_lines : goal.returns-in_err-write_lines
returns-in_err-write_lines g c =
    let p = c.args.p.now in (
      all_readings p.events,
      own_readings p c.readings.result.now c.readings.ensures,
      writes_failed c.from_residual-in_err-write_lines.ensures.0 (writes_front (line_of (codes "end" ∷ [])) (writes_then c.in_ok-write_whole.ensures c.in_err-write_lines.ensures)),
    )

pub returns : goal.returns
returns g c =
    let p = c.args.p.now in (
      all_readings p.events,
      own_readings p c.readings.result.now c.readings.ensures,
      writes_then (writes_then c.in_ok-write_whole.ensures c.in_ok-write_lines.ensures) c.write_whole-2.ensures,
    )
