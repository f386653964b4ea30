use Rattle.std.proofs.Common.{◌++◌, ◌∙◌, ℕ, ap}
use Rattle.ports.proofs.Writing.{writes_as, writes_then, writes_front, writes_failed}
use Rattle.captures.specs.Capture.{Passed}
use Rattle.captures.specs.Feeding.{passed_of, waiting_of}
use Rattle.merge_script.specs.Notes.{passed_note, pending_note}
use Rattle.merge_script.proofs.notes.write_on_capture.Goals as goal

pub returns-in_err-write_pending : goal.returns-in_err-write_pending
returns-in_err-write_pending g c =
    let label = c.args.label.now in
    let passed = passed_note label (passed_of c.args.capture.now) in
    writes_as (ap (λ (n : ℕ). pending_note label n ++ passed) c.pending.ensures)
    (writes_failed c.from_residual.ensures.0 (writes_front passed c.in_err-write_pending.ensures))

pub returns : goal.returns
returns g c =
    let label = c.args.label.now in
    let pending = pending_note label (waiting_of c.args.capture.now) in
    writes_as (ap (λ (n : ℕ). pending_note label n ++ passed_note label c.passed.result) c.pending.ensures ∙ ap (λ (p : Passed). pending ++ passed_note label p) c.passed.ensures)
    (writes_then c.in_ok-write_pending.ensures c.write_passed.ensures)
