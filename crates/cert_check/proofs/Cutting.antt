-- Cuts: which clocks are inside, and which bounds leave.
use Rattle.std.proofs.Common.{◌≡◌, ◌<◌, ℕ, zero, suc, List, [], ◌∷◌, ◌++◌, length, get_or, Option, Some, None, refl, sym, ◌∙◌, ap, subst, arith, append_assoc}
use Rattle.std.specs.Prelude.{Contains, All}
use Rattle.std.specs.List.{flat_map}
use Rattle.std.proofs.lemmas.List.Elements.{All-append, All-nil, All-cons, All-head}
use Rattle.problem_model.specs.declared.items.Event.{Event}
use Rattle.problem_model.specs.declared.items.Message.{Message}
use Rattle.problem_model.specs.declared.items.Node.{Node}
use Rattle.problem_model.specs.declared.items.Node.TheVariants as nodes
use Rattle.problem_model.specs.declared.items.Bound.{Bound}
use Rattle.problem_model.specs.declared.items.Bound.TheVariants.{SpanMost, SpanLeast, Late, Early, Follow, DelayMost, DelayLeast}
use Rattle.problem_model.specs.Problem.{ProblemLists, IsWellFormed}
use Rattle.problem_model.specs.Bounds.{Constraint, Declares, EventAt}
use Rattle.problem_model.specs.Nodes.{Reading, AreReadings}
use Rattle.problem_model.specs.ShortList.{follow_bounds, most_bound, message_bounds}
use Rattle.problem_model.proofs.Chains.{among}
use Rattle.problem_model.proofs.Following.{chained_by}
use Rattle.problem_model.proofs.OneName.{declared_one}
use Rattle.cert.specs.Shows.{IsOnClock, IsInside, IsCutOf, Parts}
use Rattle.cert_check.specs.declared.answer.Part.{Part}
use Rattle.cert_check.specs.declared.answer.Reason.{Reason}
use Rattle.cert_check.specs.declared.answer.Reason.TheVariants.{Leaves}
use Rattle.cert_check.specs.Reasons.{joining_bounds, home_of, away_of, IsLeaving, IsFirstLeaving, CutIs, IsNoLater}
use Rattle.cert_check.specs.Faults.{IsFirstWrong, StaysInside, FindsLeaving}
use Rattle.cert_check.proofs.Chained.{front, back, inside_before}
use Rattle.cert_check.proofs.Turns.{cut_cases, same_kind, leaves_turn}

some_same : {X : Type 0} (a b : X) → Some a ≡ Some b → a ≡ b
some_same a b e = cc

pub none_found : {X : Type 0} (o : Option X) → ((x : X) → o ≡ Some x → ⊥) → o ≡ None
none_found None none = refl
none_found (Some x) none = absurd (none x refl)

-- ---- an event is inside where its clock is
pub inside_by : (p : ProblemLists) (inside : List ℕ) (e : ℕ) (v : Event) → EventAt p e v → Contains inside v.clock → IsInside p inside (nodes.Event e)
inside_by p inside e v at held = (v.clock, (v, at, refl), held)

pub inside_clock : (p : ProblemLists) (inside : List ℕ) (e : ℕ) (v : Event) → EventAt p e v → IsInside p inside (nodes.Event e) → Contains inside v.clock
inside_clock p inside e v at (clock, (w, at', on), held) =
    let same : w ≡ v = some_same w v (sym at' ∙ at) in
    subst (λ (k : ℕ). Contains inside k) (sym on ∙ ap (λ (u : Event). u.clock) same) held

-- ---- bounds that stay, and the first that leaves
pub stays_not : (p : ProblemLists) (inside : List ℕ) (b : Bound) → StaysInside p inside b → IsLeaving p inside b → ⊥
stays_not p inside b stays (c, declares, from, out) = out (stays c declares from)

none_leave : (p : ProblemLists) (inside : List ℕ) (bounds : List Bound) → All (StaysInside p inside) bounds → All (λ a. IsLeaving p inside a → ⊥) bounds
none_leave p inside bounds all k d within = stays_not p inside (get_or bounds k d) (all k d within)

module _ (p : ProblemLists) (inside : List ℕ) where
  pub one_stays : (b : Bound) (c : Constraint) → IsWellFormed p → Declares p b c → (IsInside p inside c.from → IsInside p inside c.to) → FindsLeaving p inside (b ∷ []) None
  one_stays b c lawful declares stays =
      All-cons (StaysInside p inside) b [] (λ c' declares' from. subst (λ (d : Constraint). IsInside p inside d.to) (declared_one p lawful b c c' declares declares')
      (stays (subst (λ (d : Constraint). IsInside p inside d.from) (declared_one p lawful b c' c declares' declares) from))) (All-nil (StaysInside p inside))

  pub one_leaves : (b : Bound) (c : Constraint) → Declares p b c → IsInside p inside c.from → (IsInside p inside c.to → ⊥) → FindsLeaving p inside (b ∷ []) (Some b)
  one_leaves b c declares from out = record { front = []; back = []; place = refl; within = All-nil (λ a. IsLeaving p inside a → ⊥); leaves = (c, declares, from, out) }

  pub leaving_on : (xs ys : List Bound) (o : Option Bound) → FindsLeaving p inside xs None → FindsLeaving p inside ys o → FindsLeaving p inside (xs ++ ys) o
  leaving_on xs ys None all all' = All-append (StaysInside p inside) xs ys all all'
  leaving_on xs ys (Some b) all first = record {
    front = xs ++ first.front;
    back = first.back;
    place = ap (λ (v : List Bound). xs ++ v) first.place ∙ sym (append_assoc xs first.front (b ∷ first.back));
    within = All-append (λ a. IsLeaving p inside a → ⊥) xs first.front (none_leave p inside xs all) first.within;
    leaves = first.leaves;
  }

  pub leaving_first : (xs ys : List Bound) (o : Option Bound) → (o ≡ None → ⊥) → FindsLeaving p inside xs o → FindsLeaving p inside (xs ++ ys) o
  leaving_first xs ys None some all = absurd (some refl)
  leaving_first xs ys (Some b) some first = record {
    front = first.front;
    back = first.back ++ ys;
    place = ap (λ (v : List Bound). v ++ ys) first.place ∙ append_assoc first.front (b ∷ first.back) ys;
    within = first.within;
    leaves = first.leaves;
  }

  -- what is left of a list, as with verdicts
  module _ (whole here : List Bound) (lead : (o : Option Bound) → FindsLeaving p inside here o → FindsLeaving p inside whole o) where
    pub past : (piece next : List Bound) → here ≡ piece ++ next → FindsLeaving p inside piece None → (o : Option Bound) → FindsLeaving p inside next o → FindsLeaving p inside whole o
    past piece next is all o found = lead o (subst (λ (bounds : List Bound). FindsLeaving p inside bounds o) (sym is) (leaving_on piece next o all found))

    pub stop : (piece next : List Bound) → here ≡ piece ++ next → (o : Option Bound) → (o ≡ None → ⊥) → FindsLeaving p inside piece o → FindsLeaving p inside whole o
    stop piece next is o some found = lead o (subst (λ (bounds : List Bound). FindsLeaving p inside bounds o) (sym is) (leaving_first piece next o some found))

    pub none_left : here ≡ [] → FindsLeaving p inside whole None
    none_left is = lead None (subst (λ (bounds : List Bound). FindsLeaving p inside bounds None) (sym is) (All-nil (StaysInside p inside)))

  -- ---- spans and stamps stay on one clock
  on_one_clock : (m n : Node) → ((clock : ℕ) → IsOnClock p m clock → IsOnClock p n clock) → IsInside p inside m → IsInside p inside n
  on_one_clock m n same (clock, on, held) = (clock, same clock on, held)

  abbrev Kept : Constraint → Type 0
  Kept c = IsInside p inside c.from → IsInside p inside c.to

  -- ---- every bound of a message stays
  at_place : (ms : List Message) (k : ℕ) (m : Message) → k < length ms → get_or ms k m ≡ m → All (StaysInside p inside) (flat_map message_bounds ms) → All (StaysInside p inside) (message_bounds m)
  at_place [] k m within is every = absurd (omega (arith, within))
  at_place (n ∷ ms) zero m within is every = subst (λ (v : Message). All (StaysInside p inside) (message_bounds v)) is (front p inside (message_bounds n) (flat_map message_bounds ms) every)
  at_place (n ∷ ms) (suc k) m within is every = at_place ms k m (omega (arith, within)) is (back p inside (message_bounds n) (flat_map message_bounds ms) every)

  -- no follow of the short list and no bound of a message leaves, so none at all does
  pub cut_is : (readings : List Reading) → IsWellFormed p → AreReadings p readings → All (StaysInside p inside) (joining_bounds p readings) → IsCutOf p inside
  cut_is readings lawful are every (SpanMost clock s t) c d = subst Kept (sym d.5) (on_one_clock (nodes.Reading clock s) (nodes.Reading clock t) (λ k on. on))
  cut_is readings lawful are every (SpanLeast clock s t) c d = subst Kept (sym d.5) (on_one_clock (nodes.Reading clock t) (nodes.Reading clock s) (λ k on. on))
  cut_is readings lawful are every (Late e) c d = subst Kept (sym d.4) (on_one_clock (nodes.Reading d.0.clock d.0.stamp) (nodes.Event e) (λ k on. (d.0, d.2, on)))
  cut_is readings lawful are every (Early e) c d =
      subst Kept (sym d.4) (on_one_clock (nodes.Event e) (nodes.Reading d.0.clock d.0.stamp) (λ k on. ap (λ (u : Event). u.clock) (some_same d.0 on.0 (sym d.2 ∙ on.1)) ∙ on.2))
  cut_is readings lawful are every (Follow k s l t) c d = subst Kept (sym d.6) (λ from.
      let follows = front p inside (follow_bounds p.follows readings 0 p.clocks) (flat_map message_bounds p.messages) every in
      let held = inside_before p inside (chained_by p lawful) readings are follows (suc l) l k s t (omega arith) d.3 (among readings (k, s) (are.every k s d.4)) (among readings (l, t) (are.every l t d.5)) (subst (Contains inside) (sym from.1) from.2) in
      (k, refl, held))
  cut_is readings lawful are every (DelayMost send receive) c d =
      let delays = back p inside (follow_bounds p.follows readings 0 p.clocks) (flat_map message_bounds p.messages) every in
      let m : Message = d.0 in
      let bounds : All (StaysInside p inside) (message_bounds m) = at_place p.messages d.2.0 m d.2.1 d.2.2 delays in
      let first : All (StaysInside p inside) (most_bound m (Some d.1)) = subst (λ (o : Option ℕ). All (StaysInside p inside) (most_bound m o)) d.5 (front p inside (most_bound m m.most) (DelayLeast m.send m.receive ∷ []) bounds) in
      let stays : StaysInside p inside (DelayMost m.send m.receive) = All-head (StaysInside p inside) (DelayMost m.send m.receive) [] first in
      subst (λ (v : ℕ). StaysInside p inside (DelayMost v receive)) d.3 (subst (λ (v : ℕ). StaysInside p inside (DelayMost m.send v)) d.4 stays) c d
  cut_is readings lawful are every (DelayLeast send receive) c d =
      let delays = back p inside (follow_bounds p.follows readings 0 p.clocks) (flat_map message_bounds p.messages) every in
      let m : Message = d.0 in
      let bounds : All (StaysInside p inside) (message_bounds m) = at_place p.messages d.1.0 m d.1.1 d.1.2 delays in
      let stays : StaysInside p inside (DelayLeast m.send m.receive) = All-head (StaysInside p inside) (DelayLeast m.send m.receive) [] (back p inside (most_bound m m.most) (DelayLeast m.send m.receive ∷ []) bounds) in
      subst (λ (v : ℕ). StaysInside p inside (DelayLeast v receive)) d.2 (subst (λ (v : ℕ). StaysInside p inside (DelayLeast m.send v)) d.3 stays) c d

-- ---- what is wrong with a cut first
module _ (p : ProblemLists) (part : Part) (first second : ℕ) (inside : List ℕ) where
  pub leaves_first : (b : Bound) → IsInside p inside (nodes.Event (home_of part first second)) → (IsInside p inside (nodes.Event (away_of part first second)) → ⊥) → IsFirstLeaving p inside b → IsFirstWrong part (CutIs p part first second inside) (Leaves b)
  leaves_first b home away leaves = record {
    is_so = leaves;
    first = cut_cases p part first second inside (IsNoLater part (Leaves b) part) (λ so. absurd (so home)) (λ so. absurd (away so)) (λ b' so. same_kind part (Leaves b) (Leaves b') refl (omega (arith, leaves_turn part b)));
  }

  -- a cut between them has no fault
  pub cut_sound : Parts p inside (home_of part first second) (away_of part first second) → (r : Reason) → CutIs p part first second inside r → ⊥
  cut_sound parts = cut_cases p part first second inside (λ r. ⊥) (λ so. so parts.home) (λ so. parts.away so)
      (λ b so. let leaves = so.2.leaves in leaves.3 (parts.cut b leaves.0 leaves.1 leaves.2))
