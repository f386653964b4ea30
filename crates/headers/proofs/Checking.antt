-- Tests, one part behind another.
use Rattle.std.proofs.Common.{◌≡◌, Bool, true, false, if◌then◌else◌, List, [], ◌∷◌, ◌++◌, Option, Some, None, refl}
use Rattle.headers.specs.Checks.{Check, first_reason}
use Rattle.headers.specs.declared.key.Reason.{Reason}

passed : (so : Bool) (reason : Reason) (x y z : Option Reason) → (x ≡ None → y ≡ z) → (if so then Some reason else x) ≡ None → (if so then Some reason else y) ≡ z
passed true reason x y z more h = cc
passed false reason x y z more h = more h

stopped : (so : Bool) (reason first : Reason) (x y : Option Reason) → (x ≡ Some first → y ≡ Some first) → (if so then Some reason else x) ≡ Some first → (if so then Some reason else y) ≡ Some first
stopped true reason first x y more h = h
stopped false reason first x y more h = more h

-- where the first part finds nothing, the second part says
pub none_before : (a b : List Check) → first_reason a ≡ None → first_reason (a ++ b) ≡ first_reason b
none_before [] b h = refl
none_before (c ∷ more) b h = passed c.so c.reason (first_reason more) (first_reason (more ++ b)) (first_reason b) (none_before more b) h

-- what the first part finds is first
pub some_before : (a b : List Check) (reason : Reason) → first_reason a ≡ Some reason → first_reason (a ++ b) ≡ Some reason
some_before [] b reason h = cc
some_before (c ∷ more) b reason h = stopped c.so c.reason reason (first_reason more) (first_reason (more ++ b)) (some_before more b reason) h
