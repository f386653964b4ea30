-- From a file to the declaration in it, or its first fault.
use Rattle.std.proofs.Common.{◌≡◌, ℕ, List, length, Some, None, Bool, true, false, nat_lt, refl, subst, arith}
use Rattle.std.proofs.lemmas.Grind.{common_steps}
use Rattle.ports.specs.Files.{Content, HasBytes, IsFront}
use Rattle.decl.specs.declared.errors.DeclError.TheVariants as faults
use Rattle.decl.specs.declared.errors.Section.{Section}
use Rattle.decl.specs.declared.errors.Section.TheVariants.{Top}
use Rattle.decl.specs.Declaration.{Declaration}
use Rattle.decl.specs.Walk.{IsDocumentOf, IsFirstFault}
use Rattle.commands.specs.Sessions.{IsDeclaredAt, IsFaultAt}

whole : (most : ℕ) (front bytes : List ℕ) (more : Bool) → more ≡ false → IsFront most front more bytes → front ≡ bytes
whole most front bytes more is_false is = grind (arith, common_steps, is.0, is.1, is_false)

-- what the bytes that were read say, the file says
has_whole : (files : Content) (path front : List ℕ) (more : Bool) (most : ℕ) (P : List ℕ → Type 0) → more ≡ false → HasBytes files path (IsFront most front more) → P front → HasBytes files path P
has_whole None path front more most P is_false has p = tt
has_whole (Some files) path front more most P is_false has p = (has.0, has.1, subst P (whole most front has.0 more is_false has.2) p)

pub declared_in : (files : Content) (path front : List ℕ) (more : Bool) (d : Declaration) → more ≡ false → HasBytes files path (IsFront 16777216 front more) → IsDocumentOf front d → IsDeclaredAt files path d
declared_in files path front more d is_false has is = has_whole files path front more 16777216 (λ bytes. IsDocumentOf bytes d) is_false has is

pub faulty_in : (files : Content) (path front : List ℕ) (more : Bool) (number : ℕ) (section : Section) (index : ℕ) → more ≡ false → HasBytes files path (IsFront 16777216 front more) →
    IsFirstFault front (faults.Fault number section index) → IsFaultAt files path number section index
faulty_in files path front more number section index is_false has is =
    has_whole files path front more 16777216 (λ bytes. IsFirstFault bytes (faults.Fault number section index)) is_false has is

-- a file that is too long
long_fault : (bytes : List ℕ) → nat_lt 16777216 (length bytes) ≡ true → IsFirstFault bytes (faults.Fault 8 Top 0)
long_fault bytes long = rw long refl

pub long_in : (files : Content) (path front : List ℕ) (more : Bool) → more ≡ true → HasBytes files path (IsFront 16777216 front more) → IsFaultAt files path 8 Top 0
long_in None path front more is_true has = tt
long_in (Some files) path front more is_true has = (has.0, has.1, long_fault has.0 (rw (← is_true) (rw (← has.2.1) refl)))
