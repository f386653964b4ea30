use Rattle.std.proofs.Common.{ℕ, sym, subst}
use Rattle.widen.specs.declared.widening.Widening.TheVariants.{Least}
use Rattle.widen.specs.Found.{FindsWidening}
use Rattle.widen.proofs.Concluding.{met}
use Rattle.widen.proofs.known.concluded.Goals as goal

pub nano-requires : goal.nano-requires
nano-requires c = (met c.requires.known.0 c.requires.known.1 c.args.known c.in-Some.execution c.requires.done c.in-Some.is c.requires.known.2).0

pub returns-in-Some : goal.returns-in-Some
returns-in-Some c = λ what p known. subst (λ (n : ℕ). FindsWidening what p (Least n c.in-Some.execution c.args.known.below)) (sym c.nano.ensures) (met what p c.args.known c.in-Some.execution c.requires.done c.in-Some.is known)
