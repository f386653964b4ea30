-- What a problem and the same problem with fewer messages have in common.
use Rattle.std.proofs.Common.{ℕ, List, [], ◌∷◌, refl, inl, inr}
use Rattle.std.specs.Prelude.{Contains}
use Rattle.problem_model.specs.declared.items.Message.{Message}
use Rattle.problem_model.specs.declared.items.Node.{Node}
use Rattle.problem_model.specs.declared.items.Bound.{Bound}
use Rattle.problem_model.specs.declared.items.Bound.TheVariants as bounds
use Rattle.problem_model.specs.declared.items.Bound.TheVariants.{SpanMost, SpanLeast, Late, Early, DelayMost, DelayLeast}
use Rattle.problem_model.specs.Problem.{ProblemLists, IsWellFormed, IsProblem}
use Rattle.problem_model.specs.Bounds.{Constraint, Times, Declares, IsExecution}
use Rattle.problem_model.specs.Solutions.{WeighedBound, Leads, IsContradictionOf}
use Rattle.problem_model.proofs.Solutions.{no_execution}
use Rattle.attain.proofs.Problems.{problem_outcome}
use Rattle.thinning.specs.Thinning.{with_messages, IsLeftOut, Thins, Remains}
use Rattle.thinning.proofs.Moving.{extended_exactly}
use Rattle.thinning.proofs.Alike.{Meets}

-- where no execution of q is left over by p, what contradicts p comes with a contradiction of q
pub contradiction_less : (p q : ProblemLists) → IsProblem q → ((x : Times) → IsExecution q x → (y : Times) × IsExecution p y) → (steps : List WeighedBound) → IsContradictionOf p steps →
    (others : List WeighedBound) × IsContradictionOf q others
contradiction_less p q lawful back steps is = elim (problem_outcome q lawful) [
  | inl (x, earliest) ↦ (let (y, whole) = back x earliest.execution in absurd (no_execution p steps y is whole))
  | inr found ↦ found
]

module _ (p : ProblemLists) (kept : List Message) (slack : ℕ) (thins : Thins p slack kept) where
  -- what the kept messages declare, all of them do
  pub declared_more : (b : Bound) (a : Constraint) → Declares (with_messages p kept) b a → Declares p b a
  declared_more (SpanMost clock s t) a declares = declares
  declared_more (SpanLeast clock s t) a declares = declares
  declared_more (Late e) a declares = declares
  declared_more (Early e) a declares = declares
  declared_more (bounds.Follow c s d t) a declares = declares
  declared_more (DelayMost send receive) a declares =
      let (m, most, at, sends, receives, bounded, is) = declares in (m, most, thins.among m at, sends, receives, bounded, is)
  declared_more (DelayLeast send receive) a declares =
      let (m, at, sends, receives, is) = declares in (m, thins.among m at, sends, receives, is)

  -- an execution is one of fewer messages
  pub fewer : (x : Times) → IsExecution p x → IsExecution (with_messages p kept) x
  fewer x execution b a declares = execution b a (declared_more b a declares)

  -- a chain of bounds is one of more messages
  leads_more : (m : Node) (steps : List WeighedBound) (n : Node) → Leads (with_messages p kept) m steps n → Leads p m steps n
  leads_more m [] n leads = leads
  leads_more m (s ∷ steps) n leads =
      let (c, declares, weighs, starts, rest) = leads in
      (c, declared_more s.0 c declares, weighs, starts, leads_more c.to steps n rest)

  pub contradiction_more : (steps : List WeighedBound) → IsContradictionOf (with_messages p kept) steps → IsContradictionOf p steps
  contradiction_more steps is = record { closed = (is.closed.0, leads_more is.closed.0 steps is.closed.0 is.closed.1); negative = is.negative }

  pub forth : (from to : Node) → Meets (with_messages p kept) from to p from to
  forth from to x execution = (x, fewer x execution, refl, refl)

-- executions of the two meet at nodes that remain
module _ (p : ProblemLists) (kept : List Message) (thins : Thins p 0 kept) (formed : IsWellFormed p) where
  pub back : (from to : Node) → Remains p kept from → Remains p kept to → Meets p from to (with_messages p kept) from to
  back from to first second x execution =
      let (y, whole, agrees) = extended_exactly p formed kept thins x execution in
      (y, whole, agrees from first, agrees to second)

  pub some_execution : (x : Times) → IsExecution (with_messages p kept) x → (y : Times) × IsExecution p y
  some_execution x execution = let (y, whole, agrees) = extended_exactly p formed kept thins x execution in (y, whole)

-- with more messages kept it is the same
pub kept_more : (p : ProblemLists) (slack : ℕ) (kept more : List Message) → Thins p slack kept → ((m : Message) → Contains kept m → Contains more m) → ((m : Message) → Contains more m → Contains p.messages m) →
    Thins p slack more
kept_more p slack kept more thins all among = record {
  among = among;
  covered = λ m left.
      let covered = thins.covered m (less m left) in
      record {
        fast = (let (k, inside, same, near, f) = covered.fast in (k, all k inside, same, near, f));
        slow = λ most is. let (k, inside, same, near, f) = covered.slow most is in (k, all k inside, same, near, f);
      };
  alone = λ m n e left. thins.alone m n e (less m left);
}
  where
    less : (m : Message) → IsLeftOut p more m → IsLeftOut p kept m
    less m left = (left.0, λ at. left.1 (all m at))
