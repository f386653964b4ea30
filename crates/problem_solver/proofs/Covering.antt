-- The bounds of all items are those of the short list.
use Rattle.std.proofs.Common.{◌≡◌, ◌<◌, ◌≤◌, ◌+◌, ◌-◌, ◌==◌, ℕ, zero, suc, Bool, true, false, List, [], ◌∷◌, ◌++◌, length, get_or, if◌then◌else◌, Option, Some, None, sym, ap, subst, arith, inl, inr, length-append}
use Rattle.std.specs.Prelude.{All, Contains}
use Rattle.std.specs.List.{flat_map}
use Rattle.std.proofs.lemmas.Bool.{cases_eq, ne_eqb, cond-false}
use Rattle.std.proofs.lemmas.List.Elements.{All-nil, All-append, Contains-get_or, Contains-append_left, Contains-append_right}
use Rattle.problem_model.specs.declared.items.Clock.{Clock}
use Rattle.problem_model.specs.declared.items.Follow.{Follow}
use Rattle.problem_model.specs.declared.items.Event.{Event}
use Rattle.problem_model.specs.declared.items.Message.{Message}
use Rattle.problem_model.specs.declared.items.Bound.{Bound}
use Rattle.problem_model.specs.declared.items.Bound.TheVariants.{SpanMost, SpanLeast, Late, Early, DelayLeast}
use Rattle.problem_model.specs.Problem.{ProblemLists}
use Rattle.problem_model.specs.Nodes.{Reading}
use Rattle.problem_model.specs.ShortList.{neighbour_bounds, span_bounds, event_bounds, clocks_before, first_reading, nearest_reading, follow_bound, follow_bounds, most_bound, message_bounds}
use Rattle.problem_solver.specs.declared.items.Item.{Item}
use Rattle.problem_solver.specs.declared.items.Item.TheVariants as items
use Rattle.problem_graph.specs.HeldBounds.{HasShortList}
use Rattle.problem_solver.specs.Items.{reading_at, message_at, bounds_of, AreItems}

-- ---- pieces of the short list
spans_all : (P : Bound → Type 0) (rs : List Reading) → ((k : ℕ) → suc k < length rs → All P (neighbour_bounds (reading_at rs k) (reading_at rs (suc k)))) → All P (span_bounds rs)
spans_all P [] each = All-nil P
spans_all P (a ∷ []) each = All-nil P
spans_all P (a ∷ b ∷ rs) each =
    All-append P (neighbour_bounds a b) (span_bounds (b ∷ rs)) (each 0 (omega arith)) (spans_all P (b ∷ rs) (λ k inside. each (suc k) (omega (arith, inside))))

events_all : (P : Bound → Type 0) (k : ℕ) (es : List Event) → ((j : ℕ) → j < length es → All P (Late (k + j) ∷ Early (k + j) ∷ [])) → All P (event_bounds k es)
events_all P k [] each = All-nil P
events_all P k (e ∷ es) each =
    let first : k + 0 ≡ k = omega arith in
    All-append P (Late k ∷ Early k ∷ []) (event_bounds (k + 1) es)
    (subst (λ (n : ℕ). All P (Late n ∷ Early n ∷ [])) first (each 0 (omega arith)))
    (events_all P (k + 1) es (λ j inside. (
    let next : k + suc j ≡ k + 1 + j = omega arith in
    subst (λ (n : ℕ). All P (Late n ∷ Early n ∷ [])) next (each (suc j) (omega (arith, inside))))))

follows_all : (P : Bound → Type 0) (follows : List Follow) (rs : List Reading) (k : ℕ) (cs : List Clock)
    → ((j : ℕ) → j < length cs → All P (follow_bound (nearest_reading rs (clocks_before follows (k + j) (k + j))) (first_reading rs (k + j)))) → All P (follow_bounds follows rs k cs)
follows_all P follows rs k [] each = All-nil P
follows_all P follows rs k (c ∷ cs) each =
    let first : k + 0 ≡ k = omega arith in
    All-append P (follow_bound (nearest_reading rs (clocks_before follows k k)) (first_reading rs k)) (follow_bounds follows rs (k + 1) cs)
    (subst (λ (n : ℕ). All P (follow_bound (nearest_reading rs (clocks_before follows n n)) (first_reading rs n))) first (each 0 (omega arith)))
    (follows_all P follows rs (k + 1) cs (λ j inside. (
    let next : k + suc j ≡ k + 1 + j = omega arith in
    subst (λ (n : ℕ). All P (follow_bound (nearest_reading rs (clocks_before follows n n)) (first_reading rs n))) next (each (suc j) (omega (arith, inside))))))

messages_all : (P : Bound → Type 0) (ms : List Message) → ((j : ℕ) → j < length ms → All P (message_bounds (message_at ms j))) → All P (flat_map message_bounds ms)
messages_all P [] each = All-nil P
messages_all P (m ∷ ms) each = All-append P (message_bounds m) (flat_map message_bounds ms) (each 0 (omega arith)) (messages_all P ms (λ j inside. each (suc j) (omega (arith, inside))))

-- ---- bounds of items
contained : (f : Item → List Bound) (xs : List Item) (x : Item) (b : Bound) → Contains xs x → Contains (f x) b → Contains (flat_map f xs) b
contained f [] x b (k, inside, here) there = absurd (omega (arith, inside))
contained f (y ∷ ys) x b (zero, inside, here) there = Contains-append_left (f y) (flat_map f ys) b (subst (λ (v : Item). Contains (f v) b) (sym here) there)
contained f (y ∷ ys) x b (suc k, inside, here) there = Contains-append_right (f y) (flat_map f ys) b (contained f ys x b (k, omega (arith, inside), here) there)

module _ (p : ProblemLists) (readings : List Reading) (all : List Item) (are : AreItems p readings (length readings - 1) (length p.clocks) (length p.events) (length p.messages) all) where
  abbrev bounds : List Bound
  bounds = flat_map (bounds_of p readings) all

  item_all : (i : Item) → Contains all i → All (Contains bounds) (bounds_of p readings i)
  item_all i has k d inside = contained (bounds_of p readings) all i (get_or (bounds_of p readings i) k d) has (Contains-get_or (bounds_of p readings i) k d inside)

  neighbours_all : (k : ℕ) → suc k < length readings → All (Contains bounds) (neighbour_bounds (reading_at readings k) (reading_at readings (suc k)))
  neighbours_all k inside =
      let next : k + 1 ≡ suc k = omega arith in
      elim (cases_eq (reading_at readings k).0 (reading_at readings (suc k)).0) [
        | inl same ↦
            subst (λ (n : ℕ). All (Contains bounds) (neighbour_bounds (reading_at readings k) (reading_at readings n))) next
            (item_all (items.Span k) (are.spans_in k (omega (arith, inside))
            (omega (arith, inside), subst (λ (n : ℕ). (reading_at readings k).0 ≡ (reading_at readings n).0) (sym next) same)))
        | inr differ ↦
            subst (All (Contains bounds))
            (sym (cond-false ((reading_at readings k).0 == (reading_at readings (suc k)).0)
            (SpanMost (reading_at readings k).0 (reading_at readings k).1 (reading_at readings (suc k)).1 ∷ SpanLeast (reading_at readings k).0 (reading_at readings k).1 (reading_at readings (suc k)).1 ∷ []) []
            (ne_eqb (reading_at readings k).0 (reading_at readings (suc k)).0 differ)))
            (All-nil (Contains bounds))
      ]

  -- a clock to which no follow leads has no bound
  follows_to_all : (k : ℕ) → k < length p.clocks → All (Contains bounds) (bounds_of p readings (items.Follow k))
  follows_to_all k below i d inside =
      item_all (items.Follow k) (are.follows_in k below (λ none. (
      let empty : length (bounds_of p readings (items.Follow k)) ≡ 0 = ap length none in
      omega (arith, inside, empty)))) i d inside

  pub covered : HasShortList p readings bounds
  covered =
      All-append (Contains bounds) (span_bounds readings ++ event_bounds 0 p.events ++ follow_bounds p.follows readings 0 p.clocks) (flat_map message_bounds p.messages)
      (All-append (Contains bounds) (span_bounds readings ++ event_bounds 0 p.events) (follow_bounds p.follows readings 0 p.clocks)
      (All-append (Contains bounds) (span_bounds readings) (event_bounds 0 p.events)
      (spans_all (Contains bounds) readings neighbours_all)
      (events_all (Contains bounds) 0 p.events (λ j inside. (
      let same : j ≡ 0 + j = omega arith in
      subst (λ (n : ℕ). All (Contains bounds) (Late n ∷ Early n ∷ [])) same (item_all (items.Event j) (are.events_in j inside))))))
      (follows_all (Contains bounds) p.follows readings 0 p.clocks (λ j inside. (
      let same : j ≡ 0 + j = omega arith in
      subst (λ (n : ℕ). All (Contains bounds) (bounds_of p readings (items.Follow n))) same (follows_to_all j inside)))))
      (messages_all (Contains bounds) p.messages (λ j inside. item_all (items.Message j) (are.messages_in j inside)))

-- ---- each item has two bounds at most
if_two : (b : Bool) (x y : Bound) → length (if b then x ∷ y ∷ [] else []) ≤ 2
if_two true x y = omega arith
if_two false x y = omega arith

follow_one : (a b : Option Reading) → length (follow_bound a b) ≤ 2
follow_one None b = omega arith
follow_one (Some a) None = omega arith
follow_one (Some a) (Some b) = omega arith

pub most_one : (m : Message) (o : Option ℕ) → length (most_bound m o) ≤ 1
most_one m None = omega arith
most_one m (Some most) = omega arith

module _ (p : ProblemLists) (readings : List Reading) where
  two_at_most : (i : Item) → length (bounds_of p readings i) ≤ 2
  two_at_most (items.Span k) = if_two ((reading_at readings k).0 == (reading_at readings (k + 1)).0) _ _
  two_at_most (items.Follow d) = follow_one (nearest_reading readings (clocks_before p.follows d d)) (first_reading readings d)
  two_at_most (items.Event e) = omega arith
  two_at_most (items.Message m) =
      let message = message_at p.messages m in
      let most = most_one message message.most in
      omega (arith, length-append (most_bound message message.most) (DelayLeast message.send message.receive ∷ []), most)

  pub two_each : (all : List Item) → length (flat_map (bounds_of p readings) all) ≤ length all + length all
  two_each [] = omega arith
  two_each (i ∷ all) =
      let here = two_at_most i in
      let rest = two_each all in
      omega (arith, length-append (bounds_of p readings i) (flat_map (bounds_of p readings) all), here, rest)
