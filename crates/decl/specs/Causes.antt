-- What is wrong in a declaration, and where.
use Rattle.std.specs.Prelude.{◌≡◌, ℕ, Bool, if◌then◌else◌, List, [], ◌∷◌, map, Option, Some, None, Result, Ok, Err, ⊤}
use Rattle.decl.specs.declared.cause.Cause.{Cause}
use Rattle.decl.specs.declared.cause.Cause.TheVariants.{Document, Key, Shape, Name, Number, Address, Source, Size, Sides}
use Rattle.decl.specs.declared.errors.DeclError.{DeclError}
use Rattle.decl.specs.declared.errors.DeclError.TheVariants.{Fault, Memory}
use Rattle.decl.specs.declared.errors.Section.{Section}

-- the number by which each cause is told
abbrev pub cause_number : Cause → ℕ
cause_number Document = 1
cause_number Key = 2
cause_number Shape = 3
cause_number Name = 4
cause_number Number = 5
cause_number Address = 6
cause_number Source = 7
cause_number Size = 8
cause_number Sides = 9

-- the fault of an entry of a section
abbrev pub fault_of_entry : Section → ℕ → Cause → DeclError
fault_of_entry section index cause = Fault (cause_number cause) section index

-- the faults of an entry, by what is wrong with it
abbrev pub at : Section → ℕ → List Cause → List DeclError
at section index causes = map (fault_of_entry section index) causes

-- a cause, if something is so
abbrev pub when : Bool → Cause → List Cause
when so cause = if so then cause ∷ [] else []

-- the first of a list
abbrev pub first : {A : Type 0} → List A → Option A
first [] = None
first (a ∷ more) = Some a

-- what is told of a value with these causes: the value where there is none, and else the first
abbrev pub Tells : {V : Type 0} → List Cause → V → Result V Cause → Type 0
Tells causes v (Ok w) = (causes ≡ []) × (w ≡ v)
Tells causes v (Err cause) = first causes ≡ Some cause

-- the first of these faults; of want of memory nothing is said
abbrev pub IsFirstOf : List DeclError → DeclError → Type 0
IsFirstOf faults (Fault number section index) = first faults ≡ Some (Fault number section index)
IsFirstOf faults Memory = ⊤
