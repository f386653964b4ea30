-- What `trial` prints and answers.
use Rattle.std.specs.Prelude.{◌≡◌, ◌⊎◌, ◌<◌, ◌^◌, ℕ, List, [], ◌∷◌, ◌++◌, codes}
use Rattle.atto.specs.Decimal.{decimal_of}
use Rattle.line_format.specs.Words.{line_of}
use Rattle.trial_session.specs.Trial.{IsTrial}
use Rattle.problem_commands.specs.declared.status.Status.{Status}
use Rattle.problem_commands.specs.declared.status.Status.TheVariants.{Done, Usage}
use Rattle.problem_commands.specs.Printing.{Prints, Closes}
use Rattle.ports.specs.Content.{SinkTold}
use Rattle.commands.specs.Asked.{usage_line}

-- the text is the decimal of this number, which a trial may have
abbrev pub IsNumber : ℕ → List ℕ → Type 0
IsNumber n text = (n < 2 ^ 32) × (text ≡ decimal_of n)

-- the line that counts the events and the messages of a trial
abbrev pub counts_line : ℕ → ℕ → ℕ → List ℕ
counts_line n events messages = line_of (codes "trial" ∷ decimal_of n ∷ codes "events" ∷ decimal_of events ∷ codes "messages" ∷ decimal_of messages ∷ [])

-- what `trial` prints, and with which status: the counts, and behind them the replies
abbrev pub Tried : ℕ → Status → List ℕ → Type 0
Tried n status text = (status ≡ Done) × ((events : ℕ) × (messages : ℕ) × (replies : List ℕ) × IsTrial n events messages replies × (text ≡ counts_line n events messages ++ replies))

-- the trial with the number that the text is; where it is none, the words are of no command
abbrev pub TriedBy : List ℕ → SinkTold → SinkTold → Status → Type 0
TriedBy text old new result =
    ((n : ℕ) × IsNumber n text × Prints (Tried n) old new result)
    ⊎ (((n : ℕ) → IsNumber n text → ⊥) × Closes usage_line Usage old new result)
