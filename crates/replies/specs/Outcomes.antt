-- What came of a change, as a line.
use Rattle.std.specs.Prelude.{◌≡◌, ℕ, List}
use Rattle.replies.specs.declared.outcome.Outcome.{Outcome}
use Rattle.replies.specs.declared.outcome.Outcome.TheVariants.{Added, Kept, Refused}
use Rattle.replies.specs.Refusals.{refusal_line}
use Rattle.replies.specs.Reply.{added_line, kept_line}

-- the line that tells it
abbrev pub outcome_line : Outcome → List ℕ
outcome_line (Added a) = added_line a
outcome_line (Kept slot) = kept_line slot
outcome_line (Refused r) = refusal_line r

-- the text is that line
abbrev pub IsOutcomeLine : Outcome → List ℕ → Type 0
IsOutcomeLine outcome text = text ≡ outcome_line outcome
