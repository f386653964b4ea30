use Rattle.std.proofs.Common.{All, sym, ap, subst}
use Rattle.std.specs.List.{flat_map}
use Rattle.ports.proofs.Writing.{writes_as, writes_then, writes_front, writes_failed}
use Rattle.cert.specs.CertificateText.{step_line, IsStepOf}
use Rattle.widen.proofs.write.write_cycle.Goals as goal

pub write_steps-requires : goal.write_steps-requires
write_steps-requires g c = subst (All (IsStepOf c.args.p.now)) (sym c.steps.ensures) c.requires

pub returns-in_err-write_whole : goal.returns-in_err-write_whole
returns-in_err-write_whole g c = writes_failed c.from_residual.ensures.0 (writes_front (flat_map (step_line c.args.p.now) c.args.cycle.now) c.in_err-write_whole.ensures)

pub returns : goal.returns
returns g c = writes_then c.in_ok-write_whole.ensures (writes_as (ap (flat_map (step_line c.args.p.now)) c.steps.ensures) c.write_steps.ensures)
