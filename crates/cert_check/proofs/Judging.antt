-- Judging bounds one by one, and lists of them.
use Rattle.std.proofs.Common.{◌≡◌, ℕ, List, [], ◌∷◌, ◌++◌, true, nat_eq, refl, sym, ◌∙◌, ap, subst, arith, append_assoc}
use Rattle.std.specs.Prelude.{All, ℤ, ◌-ℤ◌, ◌≤ℤ◌, ◌<ℤ◌}
use Rattle.std.proofs.lemmas.List.Elements.{All-append, All-nil, All-cons}
use Rattle.problem_model.specs.declared.items.Bound.{Bound}
use Rattle.problem_model.specs.declared.items.Bound.TheVariants.{SpanMost, SpanLeast}
use Rattle.problem_model.specs.Problem.{ProblemLists, IsWellFormed}
use Rattle.problem_model.specs.Bounds.{Constraint, Declares, Obeys, Times}
use Rattle.problem_model.proofs.OneName.{declared_one}
use Rattle.problem_model.specs.ShortList.{ObeysNamed, IsFirstBrokenOf, neighbour_bounds}
use Rattle.cert_check.specs.declared.verdict.Verdict.{Verdict}
use Rattle.cert_check.specs.declared.verdict.Verdict.TheVariants as verdicts
use Rattle.cert_check.specs.Verdict.{Judges}

-- ---- one bound
module _ (p : ProblemLists) (x : Times) where
  pub one_obeyed : (b : Bound) (a : Constraint) → IsWellFormed p → Declares p b a → (x a.to -ℤ x a.from) ≤ℤ a.weight → Judges p x (b ∷ []) verdicts.Obeys
  one_obeyed b a lawful declares obeys =
      All-cons (ObeysNamed p x) b [] (λ a' declares'. subst (λ (v : Constraint). Obeys x v) (declared_one p lawful b a a' declares declares') obeys) (All-nil (ObeysNamed p x))

  pub one_broken : (b : Bound) (a : Constraint) (weight difference : ℤ) → Declares p b a → a.weight ≡ weight → (x a.to -ℤ x a.from) ≡ difference → weight <ℤ difference →
      Judges p x (b ∷ []) (verdicts.Broken b weight difference)
  one_broken b a weight difference declares weighs differs broken = record {
    front = [];
    back = [];
    place = refl;
    obeyed = All-nil (ObeysNamed p x);
    constraint = a;
    declares = declares;
    weight_is = weighs;
    difference_is = differs;
    broken = broken;
  }

  -- ---- lists of bounds
  first_stays : (xs ys : List Bound) (b : Bound) (w d : ℤ) → IsFirstBrokenOf p x xs b w d → IsFirstBrokenOf p x (xs ++ ys) b w d
  first_stays xs ys b w d first = record {
    front = first.front;
    back = first.back ++ ys;
    place = ap (λ (v : List Bound). v ++ ys) first.place ∙ append_assoc first.front (b ∷ first.back) ys;
    obeyed = first.obeyed;
    constraint = first.constraint;
    declares = first.declares;
    weight_is = first.weight_is;
    difference_is = first.difference_is;
    broken = first.broken;
  }

  first_moves : (xs ys : List Bound) (b : Bound) (w d : ℤ) → All (ObeysNamed p x) xs → IsFirstBrokenOf p x ys b w d → IsFirstBrokenOf p x (xs ++ ys) b w d
  first_moves xs ys b w d all first = record {
    front = xs ++ first.front;
    back = first.back;
    place = ap (λ (v : List Bound). xs ++ v) first.place ∙ sym (append_assoc xs first.front (b ∷ first.back));
    obeyed = All-append (ObeysNamed p x) xs first.front all first.obeyed;
    constraint = first.constraint;
    declares = first.declares;
    weight_is = first.weight_is;
    difference_is = first.difference_is;
    broken = first.broken;
  }

  -- where the first bounds are obeyed, the verdict is that over the others
  pub judges_on : (xs ys : List Bound) (v : Verdict) → Judges p x xs verdicts.Obeys → Judges p x ys v → Judges p x (xs ++ ys) v
  judges_on xs ys verdicts.Obeys all all' = All-append (ObeysNamed p x) xs ys all all'
  judges_on xs ys (verdicts.Broken b w d) all first = first_moves xs ys b w d all first

  -- where one of the first is broken, that is the verdict
  pub judges_first : (xs ys : List Bound) (v : Verdict) → (v ≡ verdicts.Obeys → ⊥) → Judges p x xs v → Judges p x (xs ++ ys) v
  judges_first xs ys verdicts.Obeys broken all = absurd (broken refl)
  judges_first xs ys (verdicts.Broken b w d) broken first = first_stays xs ys b w d first

-- ---- the bounds of one span, one stamp, one message
equal_self : (k : ℕ) → nat_eq k k ≡ true
equal_self k = grind arith

neighbours_same : (clock s t : ℕ) → neighbour_bounds (clock, s) (clock, t) ≡ SpanMost clock s t ∷ SpanLeast clock s t ∷ []
neighbours_same clock s t = rw (equal_self clock) refl

pub on_one_clock : (p : ProblemLists) (x : Times) (clock s t : ℕ) (v : Verdict) → Judges p x (SpanMost clock s t ∷ SpanLeast clock s t ∷ []) v → Judges p x (neighbour_bounds (clock, s) (clock, t)) v
on_one_clock p x clock s t v judged = subst (λ (bounds : List Bound). Judges p x bounds v) (sym (neighbours_same clock s t)) judged
