-- What a run prints, and with which status.
use Rattle.std.specs.Prelude.{◌≡◌, ◌⊎◌, List, ℕ}
use Rattle.ports.specs.Content.{Rose, Appends, AppendsPrefix, SinkTold}
use Rattle.problem_commands.specs.declared.status.Status.{Status}
use Rattle.problem_commands.specs.declared.status.Status.TheVariants.{WriteFault, Memory}

-- a write failed, behind a front of the text
abbrev pub FailsIn : List ℕ → SinkTold → SinkTold → Type 0
FailsIn text old new = Rose old.faults new.faults × AppendsPrefix old.written new.written text

-- the line is printed and the status answered, or a write failed
abbrev pub Closes : List ℕ → Status → SinkTold → SinkTold → Status → Type 0
Closes line status old new result = ((result ≡ status) × Appends old.written new.written line) ⊎ ((result ≡ WriteFault) × FailsIn line old new)

-- one text alone, with one status
abbrev pub IsOnlyText : List ℕ → Status → Status → List ℕ → Type 0
IsOnlyText line only status text = (status ≡ only) × (text ≡ line)

-- a text that goes with the status is printed; or a write failed, behind a front of a text that goes with its own status; or memory
-- ran out, and nothing is printed
abbrev pub Prints : (Status → List ℕ → Type 0) → SinkTold → SinkTold → Status → Type 0
Prints Goes old new result = ((text : List ℕ) × Goes result text × Appends old.written new.written text)
    ⊎ ((result ≡ WriteFault) × ((status : Status) × (text : List ℕ) × Goes status text × FailsIn text old new))
    ⊎ ((result ≡ Memory) × (new ≡ old))
