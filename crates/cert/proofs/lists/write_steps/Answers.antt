use Rattle.std.proofs.Common.{◌≡◌, length, slice_get, Some, refl}
use Rattle.std.proofs.lemmas.Option.{slice_get_read}
use Rattle.cert.specs.declared.chain.Step.{Step}
use Rattle.cert.specs.CertificateText.{step_line}
use Rattle.ports.proofs.Writing.{writes_as}
use Rattle.cert.proofs.Certificates.{step_text, step_named, line_written, line_cut, lines_written}
use Rattle.cert.proofs.lists.write_steps.Goals as goal

pub write_step-requires : goal.write_step-requires
write_step-requires g c = step_named c.args.p.now c.args.steps.now c.loop-step.step-index c.step-item.result c.messages.ensures.lawful c.requires c.loop-step-test.true c.step-item.is

pub returns-in_err-write_step : goal.returns-in_err-write_step
returns-in_err-write_step g c =
    let p = c.args.p.now in
    let steps = c.args.steps.now in
    let k = c.loop-step.step-index in
    let s : Step = c.step-item.result in
    let at : slice_get steps k ≡ Some s = slice_get_read steps (length steps) k s refl c.loop-step-test.true c.step-item.is in
    line_cut (step_line p) steps k s at c.loop-step.invariant c.from_residual.ensures.0
    (writes_as (step_text p s c.get.result c.get.ensures.value c.get.ensures.fits) c.in_err-write_step.ensures)

pub loop-step-preserved : goal.loop-step-preserved
loop-step-preserved g c =
    let p = c.args.p.now in
    let steps = c.args.steps.now in
    let k = c.loop-step.step-index in
    let s : Step = c.step-item.result in
    let at : slice_get steps k ≡ Some s = slice_get_read steps (length steps) k s refl c.loop-step-test.true c.step-item.is in
    line_written (step_line p) steps k s at c.loop-step.invariant
    (writes_as (step_text p s c.get.result c.get.ensures.value c.get.ensures.fits) c.in_ok-write_step.ensures)

pub returns : goal.returns
returns g c = lines_written (step_line c.args.p.now) c.args.steps.now c.loop-step.step-index c.loop-step-test.false c.loop-step.invariant
