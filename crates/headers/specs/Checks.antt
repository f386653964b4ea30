-- Tests of a header, in the order in which they count.
use Rattle.std.specs.Prelude.{Bool, if◌then◌else◌, List, [], ◌∷◌, Option, Some, None}
use Rattle.headers.specs.declared.key.Reason.{Reason}

-- something that a header may be, and why there is no key if it is so
pub record Check : Type 0 where
  pub so : Bool
  pub reason : Reason

-- if this is so, there is no key for that reason
abbrev pub refuse : Bool → Reason → Check
refuse so reason = record { so = so; reason = reason }

-- the reason of the first of these that is so
abbrev pub first_reason : List Check → Option Reason
first_reason [] = None
first_reason (c ∷ more) = if c.so then Some c.reason else first_reason more
