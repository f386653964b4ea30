-- The extension headers of a packet, one after the other.
use Rattle.std.proofs.Common.{◌≡◌, ℕ, zero, suc, Bool, true, false, if◌then◌else◌, Some, None, refl, ◌∙◌, arith}
use Rattle.std.specs.Prelude.{Result, Ok, Err}
use Rattle.headers.specs.declared.key.Reason.{Reason}
use Rattle.headers.specs.declared.key.Reason.TheVariants.{Other}
use Rattle.headers.specs.Checks.{first_reason}
use Rattle.headers.specs.Extensions.{behind_extension, extension_checks, goes_on, past, walked}
use Rattle.headers.specs.Layers.{InnerPart}

chosen : (b : Bool) (x y : Result InnerPart Reason) → b ≡ true → (if b then x else y) ≡ x
chosen true x y h = refl
chosen false x y h = cc

other : (b : Bool) (x y : Result InnerPart Reason) → b ≡ false → (if b then x else y) ≡ y
other true x y h = cc
other false x y h = refl

-- no header comes
pub ends : (left : ℕ) (inner : InnerPart) → goes_on inner ≡ false → walked left inner ≡ Ok inner
unfolding walked
ends zero inner h = other (goes_on inner) (Err Other) (Ok inner) h
ends (suc n) inner h = other (goes_on inner) _ (Ok inner) h

-- one more than are walked
pub too_many : (left : ℕ) (inner : InnerPart) → left ≡ 0 → goes_on inner ≡ true → walked left inner ≡ Err Other
unfolding walked
too_many zero inner e h = chosen (goes_on inner) (Err Other) (Ok inner) h
too_many (suc n) inner e h = absurd (omega (arith, e))

one : (left less : ℕ) (inner : InnerPart) → left ≡ suc less → goes_on inner ≡ true → walked left inner ≡ past (first_reason (extension_checks inner)) (walked less (behind_extension inner))
unfolding walked
one left less inner e h = rw e (chosen (goes_on inner) (past (first_reason (extension_checks inner)) (walked less (behind_extension inner))) (Ok inner) h)

-- one that cannot be passed
pub refused : (left less : ℕ) (inner : InnerPart) (reason : Reason) → left ≡ suc less → goes_on inner ≡ true → first_reason (extension_checks inner) ≡ Some reason → walked left inner ≡ Err reason
refused left less inner reason e h r = one left less inner e h ∙ rw r refl

-- one, and then what is behind it
pub on : (left less : ℕ) (inner next : InnerPart) → left ≡ suc less → goes_on inner ≡ true → first_reason (extension_checks inner) ≡ None → next ≡ behind_extension inner → walked left inner ≡ walked less next
on left less inner next e h r n = one left less inner e h ∙ rw (r, n) refl
