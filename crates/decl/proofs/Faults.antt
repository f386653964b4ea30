-- Lists of faults: where they are empty, and what comes first.
use Rattle.std.proofs.Common.{◌≡◌, ◌≤◌, arith, ℕ, Bool, true, false, not, ◌||◌, if◌then◌else◌, List, [], ◌∷◌, ◌++◌, Some, None, refl, sym, ap, subst}
use Rattle.std.proofs.lemmas.Option.{none-some, same_Some}
use Rattle.decl.specs.Causes.{at, when, first, fault_of_entry, IsFirstOf}
use Rattle.decl.specs.Hosts.{is_one_too_many}
use Rattle.decl.specs.Limits.{most_entries}
use Rattle.decl.specs.declared.cause.Cause.{Cause}
use Rattle.decl.specs.declared.errors.DeclError.{DeclError}
use Rattle.decl.specs.declared.errors.DeclError.TheVariants.{Fault, Memory}
use Rattle.decl.specs.declared.errors.Section.{Section}

-- both parts of what is empty are
pub no_parts : {A : Type 0} (xs ys : List A) → xs ++ ys ≡ [] → (xs ≡ []) × (ys ≡ [])
no_parts [] ys e = (refl, e)
no_parts (x ∷ xs) ys e = cc

pub not_so : (so : Bool) (cause : Cause) → when so cause ≡ [] → so ≡ false
not_so true cause e = cc
not_so false cause e = refl

pub neither : (a b : Bool) → (a || b) ≡ false → (a ≡ false) × (b ≡ false)
neither true b e = cc
neither false b e = (refl, e)

pub neither_of : (a b : Bool) → a ≡ false → b ≡ false → (a || b) ≡ false
neither_of a b p q = rw (p, q) refl

pub second_of : (a b : Bool) → b ≡ true → (a || b) ≡ true
second_of true b e = refl
second_of false b e = e

-- an index that may be
pub few_index : (index : ℕ) → index ≤ most_entries → is_one_too_many index ≡ false
few_index index few = grind (arith, few)

pub not_false : (a : Bool) → not a ≡ false → a ≡ true
not_false true e = refl
not_false false e = cc

pub not_true : (a : Bool) → not a ≡ true → a ≡ false
not_true true e = cc
not_true false e = refl

-- what an answer by a test says where it is none or some
pub some_if : {A : Type 0} (b : Bool) (x y : A) → Some x ≡ (if b then Some y else None) → (b ≡ true) × (x ≡ y)
some_if true x y e = (refl, same_Some x y e)
some_if false x y e = absurd (none-some x (sym e))

pub some_unless : {A : Type 0} (b : Bool) (x y : A) → Some x ≡ (if b then None else Some y) → (b ≡ false) × (x ≡ y)
some_unless true x y e = absurd (none-some x (sym e))
some_unless false x y e = (refl, same_Some x y e)

pub none_unless : {A : Type 0} (b : Bool) (y : A) → None ≡ (if b then None else Some y) → b ≡ true
none_unless true y e = refl
none_unless false y e = absurd (none-some y e)

pub none_if : {A : Type 0} (b : Bool) (y : A) → None ≡ (if b then Some y else None) → b ≡ false
none_if true y e = absurd (none-some y e)
none_if false y e = refl

-- the first of a front is the first of all
pub first_front : {A : Type 0} (xs ys : List A) (a : A) → first xs ≡ Some a → first (xs ++ ys) ≡ Some a
first_front [] ys a e = absurd (none-some a e)
first_front (x ∷ xs) ys a e = e

pub fault_front : (xs ys : List DeclError) (e : DeclError) → IsFirstOf xs e → IsFirstOf (xs ++ ys) e
fault_front xs ys (Fault n s i) h = first_front xs ys (Fault n s i) h
fault_front xs ys Memory h = tt

-- behind a front that is empty
pub fault_behind : (xs ys : List DeclError) (e : DeclError) → xs ≡ [] → IsFirstOf ys e → IsFirstOf (xs ++ ys) e
fault_behind xs ys e none h = subst (λ (front : List DeclError). IsFirstOf (front ++ ys) e) (sym none) h

-- an entry's first cause is its first fault
first_at : (section : Section) (index : ℕ) (causes : List Cause) (cause : Cause) → first causes ≡ Some cause → first (at section index causes) ≡ Some (fault_of_entry section index cause)
first_at section index [] cause e = absurd (none-some cause e)
first_at section index (c ∷ causes) cause e = ap (λ (d : Cause). Some (fault_of_entry section index d)) (same_Some c cause e)

pub fault_at : (section : Section) (index : ℕ) (causes : List Cause) (cause : Cause) (e : DeclError) → first causes ≡ Some cause → e ≡ fault_of_entry section index cause
    → IsFirstOf (at section index causes) e
fault_at section index causes cause e h is = subst (λ (d : DeclError). IsFirstOf (at section index causes) d) (sym is) (first_at section index causes cause h)

pub no_causes : (section : Section) (index : ℕ) (causes : List Cause) → at section index causes ≡ [] → causes ≡ []
no_causes section index [] e = refl
no_causes section index (c ∷ causes) e = cc

-- all faults behind those of an entry without a fault
pub none_at : (section : Section) (index : ℕ) (causes : List Cause) (more : List DeclError) → causes ≡ [] → at section index causes ++ more ≡ more
none_at section index causes more e = ap (λ (c : List Cause). at section index c ++ more) e
