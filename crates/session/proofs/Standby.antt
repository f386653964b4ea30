-- Answers that stand ready, by what the code holds.
use Rattle.std.proofs.Common.{◌≡◌, Bool, true, false, Result, Ok, Err, OnOk, refl, subst, sym}
use Rattle.std.specs.Prelude.{IsSome}
use Rattle.std.specs.Result.{is_err}
use Rattle.session_answers.specs.declared.answers.Answers.{Answers}
use Rattle.session.specs.Stands.{Held, solver_of}

-- whether they stand ready
pub ready_is : (ready : Bool) (a : Answers) → IsSome (solver_of ready a) → ready ≡ true
ready_is true a is = refl
ready_is false a is = let no : false ≡ true = is in absurd cc

pub ready_some : (ready : Bool) (a : Answers) → ready ≡ true → IsSome (solver_of ready a)
ready_some true a is = refl
ready_some false a is = absurd cc

pub ready_of : (h : Held) (ready : Bool) (a : Answers) → solver_of ready a ≡ h.answers → IsSome h.answers → ready ≡ true
ready_of h ready a same is = ready_is ready a (subst IsSome (sym same) is)

pub on_ok : {A E : Type 0} (r : Result A E) (P : Type 0) → P → OnOk r P
on_ok (Ok x) P is = is
on_ok (Err e) P is = tt

pub of_ok : {A E : Type 0} (r : Result A E) (P : Type 0) → is_err r ≡ false → OnOk r P → P
of_ok (Ok x) P fine is = is
of_ok (Err e) P fine is = absurd cc
