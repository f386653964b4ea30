-- The ends of declared bounds are nodes of the problem.
use Rattle.std.proofs.Common.{◌<◌, ℕ, [], length, get_or, None, refl, sym, subst}
use Rattle.std.specs.Prelude.{Contains}
use Rattle.std.proofs.lemmas.List.Elements.{All-contains}
use Rattle.std.proofs.lemmas.Option.{slice_get_within, slice_get-get_or, get_or_from_slice_get}
use Rattle.problem_model.specs.declared.items.Event.{Event}
use Rattle.problem_model.specs.declared.items.Message.{Message}
use Rattle.problem_model.specs.declared.items.Bound.{Bound}
use Rattle.problem_model.specs.declared.items.Bound.TheVariants.{SpanMost, SpanLeast, Late, Early, Follow, DelayMost, DelayLeast}
use Rattle.problem_model.specs.Problem.{ProblemLists, IsProblem}
use Rattle.problem_model.specs.Bounds.{Constraint, Declares, EventAt, IsReading}
use Rattle.problem_model.specs.Solutions.{IsNodeOf}

pub event_of : (p : ProblemLists) (k : ℕ) → k < length p.events → (v : Event) × EventAt p k v
event_of p k inside = (get_or p.events k (record { name = []; clock = 0; stamp = 0; bounds = None }), slice_get-get_or p.events k (record { name = []; clock = 0; stamp = 0; bounds = None }) inside)

pub contains_at : (p : ProblemLists) (k : ℕ) (v : Event) → EventAt p k v → Contains p.events v
contains_at p k v at = (k, slice_get_within p.events k v at, get_or_from_slice_get p.events k v v at)

pub reading_of : (p : ProblemLists) (k : ℕ) (v : Event) → EventAt p k v → IsReading p v.clock v.stamp
reading_of p k v at = (v, contains_at p k v at, refl, refl)

pub ends_are : (p : ProblemLists) (b : Bound) (c : Constraint) → IsProblem p → Declares p b c → IsNodeOf p c.from × IsNodeOf p c.to
ends_are p (SpanMost clock s t) c lawful d = subst (λ (v : Constraint). IsNodeOf p v.from × IsNodeOf p v.to) (sym d.5) (d.2, d.3)
ends_are p (SpanLeast clock s t) c lawful d = subst (λ (v : Constraint). IsNodeOf p v.from × IsNodeOf p v.to) (sym d.5) (d.3, d.2)
ends_are p (Late e) c lawful d = subst (λ (v : Constraint). IsNodeOf p v.from × IsNodeOf p v.to) (sym d.4) (reading_of p e d.0 d.2, slice_get_within p.events e d.0 d.2)
ends_are p (Early e) c lawful d = subst (λ (v : Constraint). IsNodeOf p v.from × IsNodeOf p v.to) (sym d.4) (slice_get_within p.events e d.0 d.2, reading_of p e d.0 d.2)
ends_are p (Follow b s e t) c lawful d = subst (λ (v : Constraint). IsNodeOf p v.from × IsNodeOf p v.to) (sym d.6) (d.5, d.4)
ends_are p (DelayMost send receive) c lawful d =
    let s : send < length p.events = subst (λ (k : ℕ). k < length p.events) d.3 (All-contains (λ (m : Message). m.send < length p.events) p.messages d.0 lawful.formed.sends d.2) in
    let r : receive < length p.events = subst (λ (k : ℕ). k < length p.events) d.4 (All-contains (λ (m : Message). m.receive < length p.events) p.messages d.0 lawful.formed.receives d.2) in
    subst (λ (v : Constraint). IsNodeOf p v.from × IsNodeOf p v.to) (sym d.6) (s, r)
ends_are p (DelayLeast send receive) c lawful d =
    let s : send < length p.events = subst (λ (k : ℕ). k < length p.events) d.2 (All-contains (λ (m : Message). m.send < length p.events) p.messages d.0 lawful.formed.sends d.1) in
    let r : receive < length p.events = subst (λ (k : ℕ). k < length p.events) d.3 (All-contains (λ (m : Message). m.receive < length p.events) p.messages d.0 lawful.formed.receives d.1) in
    subst (λ (v : Constraint). IsNodeOf p v.from × IsNodeOf p v.to) (sym d.4) (r, s)
