use Rattle.std.proofs.Common.{◌∙◌, ◌++◌, ℕ, ap}
use Rattle.ports.proofs.Writing.{writes_as, writes_failed, writes_front, writes_then}
use Rattle.pcapng_blocks.specs.Bytes.{filled, two_bytes}
use Rattle.pcapng_blocks.proofs.options.write_option.Goals as goal

pub returns-in_err-write_whole : goal.returns-in_err-write_whole
returns-in_err-write_whole g c =
    writes_failed c.from_residual.ensures.0 (writes_front (filled c.args.value.now)
    (writes_as (c.as_slice.ensures.value ∙ c.option_head-head.ensures ∙ ap (λ (n : ℕ). two_bytes c.args.code ++ two_bytes n) c.text_length.ensures) c.in_err-write_whole.ensures))

pub returns : goal.returns
returns g c =
    writes_then (writes_as (c.as_slice.ensures.value ∙ c.option_head-head.ensures ∙ ap (λ (n : ℕ). two_bytes c.args.code ++ two_bytes n) c.text_length.ensures) c.in_ok-write_whole.ensures)
    c.write_filled.ensures
