-- A name declares one constraint.
use Rattle.std.proofs.Common.{◌≡◌, ◌<◌, ◌*◌, ◌-◌, ℕ, zero, suc, List, [], ◌∷◌, length, get_or, slice_get, Option, Some, refl, sym, ◌∙◌, ap, subst, arith, inl, inr}
use Rattle.std.specs.Prelude.{Contains, pos, neg_ℤ}
use Rattle.std.proofs.lemmas.Bool.{cases_lt}
use Rattle.problem_model.specs.declared.items.Clock.{Clock}
use Rattle.problem_model.specs.declared.items.Follow.{Follow}
use Rattle.problem_model.specs.declared.items.Event.{Event}
use Rattle.problem_model.specs.declared.items.Message.{Message}
use Rattle.problem_model.specs.declared.items.Bound.{Bound}
use Rattle.problem_model.specs.declared.items.Bound.TheVariants as bounds
use Rattle.problem_model.specs.declared.items.Bound.TheVariants.{SpanMost, SpanLeast, Late, Early, DelayMost, DelayLeast}
use Rattle.atto.specs.Span.{least_of, most_of}
use Rattle.problem_model.specs.declared.items.Node.TheVariants as nodes
use Rattle.problem_model.specs.Problem.{ProblemLists, IsWellFormed}
use Rattle.problem_model.specs.Bounds.{Constraint, Declares, early_of, late_of}
use Rattle.problem_model.proofs.Following.{chained_by, follow_one}

some_same : {X : Type 0} (a b : X) → Some a ≡ Some b → a ≡ b
some_same a b e = cc

slot_same : {X : Type 0} (o : Option X) (a b : X) → o ≡ Some a → o ≡ Some b → a ≡ b
slot_same o a b p q = some_same a b (sym p ∙ q)

-- two messages of one pair of ends are one
message_one : (p : ProblemLists) → IsWellFormed p → (m n : Message) → Contains p.messages m → Contains p.messages n → m.send ≡ n.send → m.receive ≡ n.receive → m ≡ n
message_one p formed m n (i, inside, is) (j, inside', is') send receive =
    elim (cases_lt i j) [
      | inl below ↦ absurd (differ i j below inside' is is' send receive)
      | inr le ↦ elim (cases_lt j i) [
        | inl below ↦ absurd (differ' j i below inside is is')
        | inr le' ↦ same (omega (arith, le, le'))
      ]
    ]
  where
    at : (k : ℕ) (x d : Message) → k < length p.messages → get_or p.messages k x ≡ x → get_or p.messages k d ≡ x
    at k x d l e = default p.messages k x d l ∙ e
      where
        default : (ms : List Message) (k : ℕ) (x d : Message) → k < length ms → get_or ms k d ≡ get_or ms k x
        default [] k x d l = absurd (omega (arith, l))
        default (y ∷ ms) zero x d l = refl
        default (y ∷ ms) (suc k) x d l = default ms k x d (omega (arith, l))

    differ : (i j : ℕ) → i < j → j < length p.messages → get_or p.messages i m ≡ m → get_or p.messages j n ≡ n → m.send ≡ n.send → m.receive ≡ n.receive → ⊥
    differ i j below l e e' s r =
        let a = at i m m (omega (arith, below, l)) e in
        let b = at j n m l e' in
        formed.messages_differ i j m below l (ap (λ (v : Message). v.send) a ∙ s ∙ sym (ap (λ (v : Message). v.send) b)) (ap (λ (v : Message). v.receive) a ∙ r ∙ sym (ap (λ (v : Message). v.receive) b))

    differ' : (j i : ℕ) → j < i → i < length p.messages → get_or p.messages i m ≡ m → get_or p.messages j n ≡ n → ⊥
    differ' j i below l e e' =
        let a = at i m m l e in
        let b = at j n m (omega (arith, below, l)) e' in
        formed.messages_differ j i m below l (ap (λ (v : Message). v.send) b ∙ sym send ∙ sym (ap (λ (v : Message). v.send) a)) (ap (λ (v : Message). v.receive) b ∙ sym receive ∙ sym (ap (λ (v : Message). v.receive) a))

    same : i ≡ j → m ≡ n
    same e = sym (at i m n inside is) ∙ subst (λ (k : ℕ). get_or p.messages k n ≡ n) (sym e) is'

pub declared_one : (p : ProblemLists) → IsWellFormed p → (b : Bound) (a a' : Constraint) → Declares p b a → Declares p b a' → a ≡ a'
declared_one p formed (SpanMost clock s t) a a' x y =
    let c : x.0 ≡ y.0 = slot_same _ x.0 y.0 x.1 y.1 in x.5 ∙ ap (λ (v : Clock). span_most_of clock s t v) c ∙ sym y.5
  where
    span_most_of : ℕ → ℕ → ℕ → Clock → Constraint
    span_most_of clock s t v = record { from = nodes.Reading clock s; to = nodes.Reading clock t; weight = pos (most_of v.rate (t - s)) }
declared_one p formed (SpanLeast clock s t) a a' x y =
    let c : x.0 ≡ y.0 = slot_same _ x.0 y.0 x.1 y.1 in x.5 ∙ ap (λ (v : Clock). record { from = nodes.Reading clock t; to = nodes.Reading clock s; weight = neg_ℤ (pos (least_of v.rate (t - s))) }) c ∙ sym y.5
declared_one p formed (Late e) a a' x y =
    let v : x.0 ≡ y.0 = slot_same _ x.0 y.0 x.2 y.2 in
    let c : x.1 ≡ y.1 = slot_same _ x.1 y.1 x.3 (subst (λ (w : Event). slice_get p.clocks w.clock ≡ Some y.1) (sym v) y.3) in
    x.4 ∙ ap (λ (w : Event). record { from = nodes.Reading w.clock w.stamp; to = nodes.Event e; weight = pos (late_of x.1 w * 1000000000) }) v
    ∙ ap (λ (w : Clock). record { from = nodes.Reading y.0.clock y.0.stamp; to = nodes.Event e; weight = pos (late_of w y.0 * 1000000000) }) c ∙ sym y.4
declared_one p formed (Early e) a a' x y =
    let v : x.0 ≡ y.0 = slot_same _ x.0 y.0 x.2 y.2 in
    let c : x.1 ≡ y.1 = slot_same _ x.1 y.1 x.3 (subst (λ (w : Event). slice_get p.clocks w.clock ≡ Some y.1) (sym v) y.3) in
    x.4 ∙ ap (λ (w : Event). record { from = nodes.Event e; to = nodes.Reading w.clock w.stamp; weight = pos (early_of x.1 w * 1000000000) }) v
    ∙ ap (λ (w : Clock). record { from = nodes.Event e; to = nodes.Reading y.0.clock y.0.stamp; weight = pos (early_of w y.0 * 1000000000) }) c ∙ sym y.4
declared_one p formed (bounds.Follow c s d t) a a' x y =
    let f : x.0 ≡ y.0 = follow_one p (chained_by p formed) x.0 y.0 x.1 y.1 (x.2 ∙ sym y.2) in
    x.6 ∙ ap (λ (v : Follow). record { from = nodes.Reading d t; to = nodes.Reading c s; weight = neg_ℤ (pos (v.gap * 1000000000)) }) f ∙ sym y.6
declared_one p formed (DelayMost send receive) a a' x y =
    let m : x.0 ≡ y.0 = message_one p formed x.0 y.0 x.2 y.2 (x.3 ∙ sym y.3) (x.4 ∙ sym y.4) in
    let most : x.1 ≡ y.1 = some_same x.1 y.1 (sym x.5 ∙ ap (λ (v : Message). v.most) m ∙ y.5) in
    x.6 ∙ ap (λ (v : ℕ). record { from = nodes.Event send; to = nodes.Event receive; weight = pos (v * 1000000000) }) most ∙ sym y.6
declared_one p formed (DelayLeast send receive) a a' x y =
    let m : x.0 ≡ y.0 = message_one p formed x.0 y.0 x.1 y.1 (x.2 ∙ sym y.2) (x.3 ∙ sym y.3) in
    x.4 ∙ ap (λ (v : Message). record { from = nodes.Event receive; to = nodes.Event send; weight = neg_ℤ (pos (v.least * 1000000000)) }) m ∙ sym y.4
