use Rattle.std.proofs.Common.{◌++◌, ◌∙◌, ℕ, List, ap}
use Rattle.ports.proofs.Writing.{writes_as, writes_then, writes_front, writes_failed}
use Rattle.commands.proofs.trials.write_outcome.Goals as goal

pub returns-in_err-write_whole : goal.returns-in_err-write_whole
returns-in_err-write_whole g c =
    let o = c.args.outcome.now in
    writes_as (ap (λ (l : List ℕ). l ++ o.replies.held) (c.as_slice.ensures.value ∙ c.counts_line.ensures))
    (writes_failed c.from_residual.ensures.0 (writes_front o.replies.held c.in_err-write_whole.ensures))

pub returns : goal.returns
returns g c =
    let o = c.args.outcome.now in
    writes_as (ap (λ (l : List ℕ). l ++ o.replies.held) (c.as_slice.ensures.value ∙ c.counts_line.ensures))
    (writes_then c.in_ok-write_whole.ensures (rw c.bytes.ensures at c.write_whole-2.ensures))
