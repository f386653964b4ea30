-- Texts that are written one after another.
use Rattle.std.proofs.Common.{◌≡◌, ◌≤◌, ◌+◌, ℕ, zero, suc, List, [], ◌∷◌, ◌++◌, length, take, Option, Some, None, Result, Ok, Err, refl, sym, ◌∙◌, ap, subst, arith, append_assoc, append-nil, length-append}
use Rattle.std.specs.Prelude.{IsErr, IsErrOf}
use Rattle.ports.specs.declared.failed.Failed.{Failed}
use Rattle.ports.specs.Content.{Appends, AppendsPrefix, SinkTold, Writes, WritesSuch}
use Rattle.ports.proofs.Appending.{rose_later}

pub appends_then : (old mid new : Option (List ℕ)) (x y : List ℕ) → Appends old mid x → Appends mid new y → Appends old new (x ++ y)
appends_then None mid new x y first second = tt
appends_then (Some held) mid new x y first second =
    let more : Appends (Some (held ++ x)) new y = rw first at second in
    rw (← append_assoc held x y) more

take_past : (x y : List ℕ) (k : ℕ) → take (length x + k) (x ++ y) ≡ x ++ take k y
take_past [] y k = let same : 0 + k ≡ k = omega arith in ap (λ (n : ℕ). take n y) same
take_past (c ∷ x) y k =
    let same : suc (length x) + k ≡ suc (length x + k) = omega arith in
    ap (λ (n : ℕ). take n ((c ∷ x) ++ y)) same ∙ ap (λ (l : List ℕ). c ∷ l) (take_past x y k)

take_before : (x y : List ℕ) (k : ℕ) → k ≤ length x → take k (x ++ y) ≡ take k x
take_before x y zero le = refl
take_before [] y (suc k) le = absurd (omega (arith, le))
take_before (c ∷ x) y (suc k) le = ap (λ (l : List ℕ). c ∷ l) (take_before x y k (omega (arith, le)))

-- a front of the second piece behind the whole first
pub prefix_then : (old mid new : Option (List ℕ)) (x y : List ℕ) → Appends old mid x → AppendsPrefix mid new y → AppendsPrefix old new (x ++ y)
prefix_then old mid new x y first (k, le, second) = (
  length x + k,
  omega (arith, le, length-append x y),
  subst (Appends old new) (sym (take_past x y k)) (appends_then old mid new x (take k y) first second),
)

-- a front of the first piece alone
pub prefix_before : (old new : Option (List ℕ)) (x y : List ℕ) → AppendsPrefix old new x → AppendsPrefix old new (x ++ y)
prefix_before old new x y (k, le, front) = (
  k,
  omega (arith, le, length-append x y),
  subst (Appends old new) (sym (take_before x y k le)) front,
)

pub appends_none : (old : Option (List ℕ)) → Appends old old []
appends_none None = tt
appends_none (Some held) = ap Some (sym (append-nil held))

-- ---- a text that is written, or a front of it
-- the same text in another spelling
pub writes_as : {A E : Type 0} {r : Result A E} {old new : SinkTold} {x y : List ℕ} → x ≡ y → Writes x old new r → Writes y old new r
writes_as {r = r} {old = old} {new = new} is written = subst (λ (t : List ℕ). Writes t old new r) is written

-- the whole first text, and then what became of the second
pub writes_then : {A A' E E' : Type 0} {a : A'} {r : Result A E} {old mid new : SinkTold} {x y : List ℕ} →
    Writes {A = A'} {E = E'} x old mid (Ok a) → Writes y mid new r → Writes (x ++ y) old new r
writes_then {r = Ok b} {old = old} {mid = mid} {new = new} {x = x} {y = y} first second = record {
  ok = appends_then old.written mid.written new.written x y first.ok second.ok;
  err = tt;
  cause = tt;
  no_fall = omega (arith, first.no_fall, second.no_fall);
}
writes_then {r = Err e} {old = old} {mid = mid} {new = new} {x = x} {y = y} first second = record {
  ok = tt;
  err = prefix_then old.written mid.written new.written x y first.ok second.err;
  cause = rose_later old.faults mid.faults new.faults first.no_fall second.cause;
  no_fall = omega (arith, first.no_fall, second.no_fall);
}

-- a front of the first text, and nothing of the second
pub writes_front : {A E : Type 0} {e : E} {old new : SinkTold} {x : List ℕ} (y : List ℕ) → Writes {A = A} x old new (Err e) → Writes {A = A} (x ++ y) old new (Err e)
writes_front {old = old} {new = new} {x = x} y first = record { ok = tt; err = prefix_before old.written new.written x y first.err; cause = first.cause; no_fall = first.no_fall }

-- what becomes of a text where a call failed, where the caller hands the failure on
pub writes_failed : {A A' E E' : Type 0} {e : E'} {r : Result A E} {old new : SinkTold} {x : List ℕ} →
    IsErr r → Writes {A = A'} {E = E'} x old new (Err e) → Writes x old new r
writes_failed {r = Ok b} failed first = absurd cc
writes_failed {r = Err e} failed first = record { ok = tt; err = first.err; cause = first.cause; no_fall = first.no_fall }

-- nothing at all
pub writes_none : {A E : Type 0} {a : A} (now : SinkTold) → Writes {A = A} {E = E} [] now now (Ok a)
writes_none now = record { ok = appends_none now.written; err = tt; cause = tt; no_fall = omega arith }

-- what is left of a text: whatever becomes of it becomes of the whole
pub record Leaves (old now : SinkTold) (left all : List ℕ) : Type 0 where
  pub on : (new : SinkTold) (r : Result (Unit {0}) Failed) → Writes left now new r → Writes all old new r

pub leaves_all : (old : SinkTold) (all : List ℕ) → Leaves old old all all
leaves_all old all = record { on = λ new r written. written }

-- a piece of it is written
pub leaves_less : {A E : Type 0} {a : A} {old now mid : SinkTold} {piece left all : List ℕ} → Leaves old now (piece ++ left) all → Writes {A = A} {E = E} piece now mid (Ok a) → Leaves old mid left all
leaves_less leaves first = record { on = λ new r more. leaves.on new r (writes_then first more) }

-- a front of a piece of it is written, and that is all
pub leaves_cut : {A E : Type 0} {e : E} {r : Result (Unit {0}) Failed} {old now new : SinkTold} {piece all : List ℕ} (left : List ℕ) → Leaves old now (piece ++ left) all → IsErr r
    → Writes {A = A} {E = E} piece now new (Err e) → Writes all old new r
leaves_cut {r = r} {new = new} left leaves failed first = leaves.on new r (writes_failed failed (writes_front left first))

-- nothing of it is left
pub leaves_none : {old now : SinkTold} {all : List ℕ} → Leaves old now [] all → Writes {A = Unit {0}} {E = Failed} all old now (Ok tt)
leaves_none {now = now} leaves = leaves.on now (Ok tt) (writes_none now)

pub leaves_as : {old now : SinkTold} {left left' all : List ℕ} → left ≡ left' → Leaves old now left all → Leaves old now left' all
leaves_as {old = old} {now = now} {all = all} is = subst (λ (l : List ℕ). Leaves old now l all) is

-- ---- a text of a kind that is written, or a front of one
-- such a text is written
pub such_written : {A A' E E' : Type 0} {a : A} {a' : A'} {fault : E} {old new : SinkTold} {text : List ℕ} (Such : List ℕ → Type 0) → Such text
    → Writes {A = A'} {E = E'} text old new (Ok a') → WritesSuch Such fault old new (Ok a)
such_written {text = text} Such is written = record { reply = (text, is, written.ok); front = λ fails. absurd cc; cause = λ fails. absurd cc; no_fall = written.no_fall }

-- such a text was to be written, and a write failed
pub such_failed : {A A' E E' : Type 0} {e' : E'} {fault : E} {r : Result A E} {old new : SinkTold} {text : List ℕ} (Such : List ℕ → Type 0) → Such text → IsErr r
    → Writes {A = A'} {E = E'} text old new (Err e') → WritesSuch Such fault old new r
such_failed {r = Ok a} Such is failed written = absurd cc
such_failed {r = Err e} {text = text} Such is failed written = record { reply = tt; front = λ fails. (text, is, written.err); cause = λ fails. written.cause; no_fall = written.no_fall }

-- such a text was written, or was to be
pub such_of : {A E : Type 0} {fault : E} {r : Result A E} {old new : SinkTold} {text : List ℕ} (Such : List ℕ → Type 0) → Such text
    → Writes text old new r → WritesSuch Such fault old new r
such_of {r = Ok a} {text = text} Such is written = record { reply = (text, is, written.ok); front = λ fails. absurd cc; cause = λ fails. absurd cc; no_fall = written.no_fall }
such_of {r = Err e} {text = text} Such is written = record { reply = tt; front = λ fails. (text, is, written.err); cause = λ fails. written.cause; no_fall = written.no_fall }

-- nothing is written, and no write failed
pub such_none : {A E : Type 0} {fault : E} {r : Result A E} {now : SinkTold} (Such : List ℕ → Type 0) → IsErr r → (IsErrOf r fault → ⊥) → WritesSuch Such fault now now r
such_none {r = Ok a} Such failed other = absurd cc
such_none {r = Err e} Such failed other = record { reply = tt; front = λ fails. absurd (other fails); cause = λ fails. absurd (other fails); no_fall = omega arith }

-- such a text is one of another kind
pub such_as : {A E : Type 0} {fault : E} {r : Result A E} {old new : SinkTold} (Such Other : List ℕ → Type 0) → ((text : List ℕ) → Such text → Other text)
    → WritesSuch Such fault old new r → WritesSuch Other fault old new r
such_as {r = Ok a} Such Other turn written = record { reply = (written.reply.0, turn written.reply.0 written.reply.1, written.reply.2); front = λ fails. absurd cc; cause = written.cause; no_fall = written.no_fall }
such_as {r = Err e} Such Other turn written = record { reply = tt; front = λ fails. (let f = written.front fails in (f.0, turn f.0 f.1, f.2)); cause = written.cause; no_fall = written.no_fall }
