use Rattle.std.proofs.Common.{ℕ, List, length, ◌∙◌, ap, arith}
use Rattle.replies.specs.AllTimes.{ends_line}
use Rattle.session_answers.proofs.times_lines.event_line.Goals as goal

pub ends_line-requires : goal.ends_line-requires
ends_line-requires c = omega (arith, c.bytes.ensures.named.short, ap length c.bytes.ensures.value)

pub returns : goal.returns
returns c = c.ends_line.ensures ∙ ap (λ (name : List ℕ). ends_line name c.args.ends.now) c.bytes.ensures.value
