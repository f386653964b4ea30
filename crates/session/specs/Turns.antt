-- One turn of a session over a script: a line is taken off and answered, or none is.
use Rattle.std.specs.Prelude.{◌≡◌, ℕ, ◌+◌, ◌≤◌, List, length}
use Rattle.ports.specs.Content.{Rose, AppendsPrefix}
use Rattle.ports.specs.Lines.{most_taken}
use Rattle.ports.specs.Reader.{Reader, Came, GivesLine, Ends, BreaksOff, GoesPast}
use Rattle.replies.specs.Commands.{AsksForMemory}
use Rattle.session.specs.Stands.{Held, Stepped}
use Rattle.session.specs.Script.{Devices}
use Rattle.session.specs.declared.ended.Ended.{Ended}
use Rattle.session.specs.declared.ended.Ended.TheVariants.{Done, ReadFault, Limit, WriteFault, Memory}

-- these bytes came off the script and were counted, and no more than the most were taken in all
pub record CountsTaken (r r' : Reader) (old new : Devices) (bytes : List ℕ) : Type 0 where
  pub came : Came old.input new.input bytes
  pub counted : r'.taken ≡ r.taken + length bytes
  pub within : r'.taken ≤ most_taken

-- the next line of the script was taken off
pub record TakesOff (r r' : Reader) (old new : Devices) : Type 0 where
  pub bytes : List ℕ
  pub line : List ℕ
  pub counts : CountsTaken r r' old new bytes
  pub gives : GivesLine r r' old.input new.input bytes line

-- the next line was taken off, and its reply stands written so
pub record AnswersLine (h h' : Held) (r r' : Reader) (old new : Devices) (IsWritten : List ℕ → Type 0) : Type 0 where
  pub off : TakesOff r r' old new
  pub stepped : Stepped off.line old.files new.files h h' IsWritten

-- the next line was taken off, it may ask for memory, and nothing of its reply is written
pub record RunsOut (r r' : Reader) (old new : Devices) : Type 0 where
  pub off : TakesOff r r' old new
  pub asks : AsksForMemory off.line
  pub silent : new.out.written ≡ old.out.written

-- no line is left
pub record HasNoLine (r r' : Reader) (old new : Devices) : Type 0 where
  pub bytes : List ℕ
  pub counts : CountsTaken r r' old new bytes
  pub ends : Ends r old.input new.input bytes
  pub silent : new.out.written ≡ old.out.written

-- reading failed in the middle of a line, or before it
pub record FailsInLine (r r' : Reader) (old new : Devices) : Type 0 where
  pub bytes : List ℕ
  pub counts : CountsTaken r r' old new bytes
  pub breaks : BreaksOff r r' bytes
  pub rose : Rose old.input.faults new.input.faults
  pub silent : new.out.written ≡ old.out.written

-- the most bytes were taken before the line ended, and another came
pub record IsPastMost (r r' : Reader) (old new : Devices) : Type 0 where
  pub bytes : List ℕ
  pub came : Came old.input new.input bytes
  pub goes : GoesPast r r' bytes
  pub silent : new.out.written ≡ old.out.written

-- why there is no whole reply: where a write failed, a front of it is written
abbrev pub HasNoReply : Held → Held → Reader → Reader → Devices → Devices → Ended → Type 0
HasNoReply h h' r r' old new Done = HasNoLine r r' old new
HasNoReply h h' r r' old new ReadFault = FailsInLine r r' old new
HasNoReply h h' r r' old new Limit = IsPastMost r r' old new
HasNoReply h h' r r' old new WriteFault = Rose old.out.faults new.out.faults × AnswersLine h h' r r' old new (AppendsPrefix old.out.written new.out.written)
HasNoReply h h' r r' old new Memory = RunsOut r r' old new
