-- What stands written, by what was handed to the sink.
use Rattle.std.proofs.Common.{◌≡◌, List, ℕ, Result, Ok, Err, IfErr, IsErrOf}
use Rattle.ports.specs.Content.{Appends, AppendsPrefix, SinkTold, Writes, WritesSuch}
use Rattle.queries.specs.declared.stop.Stop.{Stop}
use Rattle.queries.specs.declared.stop.Stop.TheVariants as stops
use Rattle.session.specs.Stands.{WritesReply}

-- a text of this kind stands written so
abbrev pub Told : (List ℕ → Type 0) → (List ℕ → Type 0) → Type 0
Told Such IsWritten = (text : List ℕ) × Such text × IsWritten text

-- a whole text is written, whatever else the caller may answer
pub written_so : {A A' E E' : Type 0} {a : A} {a' : A'} {old new : SinkTold} {text : List ℕ} → Writes {A = A'} {E = E'} text old new (Ok a') → Writes {A = A} {E = E} text old new (Ok a)
written_so written = record { ok = written.ok; err = tt; cause = tt; no_fall = written.no_fall }

-- what is said of a reply is also said in other words
pub reply_as : {Says Other : (List ℕ → Type 0) → Type 0} {old new : SinkTold} {r : Result (Unit {0}) Stop} → ((IsWritten : List ℕ → Type 0) → Says IsWritten → Other IsWritten)
    → WritesReply Says old new r → WritesReply Other old new r
reply_as {old = old} {new = new} {r = Ok v} turn said = record {
  reply = turn (Appends old.written new.written) said.reply;
  front = λ fails. absurd cc;
  cause = said.cause;
  no_fall = said.no_fall;
}
reply_as {old = old} {new = new} {r = Err e} turn said = record {
  reply = tt;
  front = λ fails. turn (AppendsPrefix old.written new.written) (said.front fails);
  cause = said.cause;
  no_fall = said.no_fall;
}

-- a text of a kind answers
pub reply_such : {Such : List ℕ → Type 0} {Says : (List ℕ → Type 0) → Type 0} {old new : SinkTold} {r : Result (Unit {0}) Stop} → ((IsWritten : List ℕ → Type 0) → Told Such IsWritten → Says IsWritten)
    → WritesSuch Such stops.WriteFault old new r → WritesReply Says old new r
reply_such {old = old} {new = new} {r = Ok v} turn written = record {
  reply = turn (Appends old.written new.written) written.reply;
  front = λ fails. absurd cc;
  cause = written.cause;
  no_fall = written.no_fall;
}
reply_such {old = old} {new = new} {r = Err e} turn written = record {
  reply = tt;
  front = λ fails. turn (AppendsPrefix old.written new.written) (written.front fails);
  cause = written.cause;
  no_fall = written.no_fall;
}

-- a text answers
pub reply_text : {text : List ℕ} {Says : (List ℕ → Type 0) → Type 0} {old new : SinkTold} {r : Result (Unit {0}) Stop} → ((IsWritten : List ℕ → Type 0) → IsWritten text → Says IsWritten)
    → Writes text old new r → WritesReply Says old new r
reply_text {old = old} {new = new} {r = Ok v} turn written = record {
  reply = turn (Appends old.written new.written) written.ok;
  front = λ fails. absurd cc;
  cause = λ fails. absurd cc;
  no_fall = written.no_fall;
}
reply_text {old = old} {new = new} {r = Err e} turn written = record {
  reply = tt;
  front = λ fails. turn (AppendsPrefix old.written new.written) written.err;
  cause = λ fails. written.cause;
  no_fall = written.no_fall;
}

-- a failed write is no want of memory
pub never_memory : {P : Type 0} (r : Result (Unit {0}) Stop) → IfErr r (λ stop. stop ≡ stops.WriteFault) → IsErrOf r stops.Memory → P
never_memory (Ok v) only fails = absurd cc
never_memory (Err e) only fails = absurd cc
