-- The lists of a problem are walked from front to back.
use Rattle.std.proofs.Common.{◌≡◌, ◌<◌, ◌≤◌, ◌+◌, ◌-◌, ℕ, zero, suc, List, [], ◌∷◌, ◌++◌, length, drop, slice_get, get_or, Some, refl, sym, ◌∙◌, ap, subst, arith, length-drop, append_assoc, true, nat_eq}
use Rattle.std.specs.Prelude.{Contains}
use Rattle.std.specs.List.{flat_map}
use Rattle.std.proofs.lemmas.List.Elements.{All-contains}
use Rattle.std.proofs.lemmas.Option.{slice_get_read}
use Rattle.problem_model.specs.declared.items.Clock.{Clock}
use Rattle.problem_model.specs.declared.items.Follow.{Follow}
use Rattle.problem_model.specs.declared.items.Event.{Event}
use Rattle.problem_model.specs.declared.items.Message.{Message}
use Rattle.problem_model.specs.declared.items.Bound.{Bound}
use Rattle.problem_model.specs.declared.items.Bound.TheVariants.{SpanMost, SpanLeast, Late, Early}
use Rattle.problem_model.specs.declared.items.Node.TheVariants as nodes
use Rattle.problem_model.specs.Problem.{ProblemLists, IsWellFormed}
use Rattle.problem_model.specs.Bounds.{IsReading}
use Rattle.problem_model.specs.Nodes.{Reading, AreReadings, event_nodes}
use Rattle.problem_model.specs.ShortList.{neighbour_bounds, span_bounds, event_bounds, clocks_before, first_reading, nearest_reading, follow_bound, follow_bounds, message_bounds}

-- ---- what is left of a list
pub drop_more : {X : Type 0} (xs : List X) (k : ℕ) (x : X) → slice_get xs k ≡ Some x → drop k xs ≡ x ∷ drop (k + 1) xs
drop_more [] k x at = absurd cc
drop_more (y ∷ ys) zero x at = let same : y ≡ x = cc in rw same refl
drop_more (y ∷ ys) (suc k) x at = drop_more ys k x at ∙ ap (λ (n : ℕ). x ∷ drop n (y ∷ ys)) (let same : suc (k + 1) ≡ suc k + 1 = omega arith in same)

pub drop_all : {X : Type 0} (xs : List X) (k : ℕ) → length xs ≤ k → drop k xs ≡ []
drop_all xs k past = none (drop k xs) (let len = length-drop k xs in omega (arith, len, past))
  where
    none : {X : Type 0} (ys : List X) → length ys ≤ 0 → ys ≡ []
    none [] short = refl
    none (y ∷ ys) short = absurd (omega (arith, short))

no_spans : (readings : List Reading) → length readings ≤ 1 → span_bounds readings ≡ []
no_spans [] short = refl
no_spans (a ∷ []) short = refl
no_spans (a ∷ b ∷ rest) short = absurd (omega (arith, short))

pub spans_more : (readings : List Reading) (k : ℕ) (a b : Reading) → slice_get readings k ≡ Some a → slice_get readings (k + 1) ≡ Some b →
    span_bounds (drop k readings) ≡ neighbour_bounds a b ++ span_bounds (drop (k + 1) readings)
spans_more readings k a b at at' =
    let next : drop (k + 1) readings ≡ b ∷ drop (k + 1 + 1) readings = drop_more readings (k + 1) b at' in
    let here : drop k readings ≡ a ∷ b ∷ drop (k + 1 + 1) readings = drop_more readings k a at ∙ ap (λ (rest : List Reading). a ∷ rest) next in
    ap span_bounds here ∙ ap (λ (rest : List Reading). neighbour_bounds a b ++ span_bounds rest) (sym next)

pub spans_all : (readings : List Reading) (k : ℕ) → length readings - 1 ≤ k → span_bounds (drop k readings) ≡ []
spans_all readings k past = no_spans (drop k readings) (let len = length-drop k readings in omega (arith, len, past))

pub stamps_more : (events : List Event) (k : ℕ) (e : Event) → slice_get events k ≡ Some e → event_bounds k (drop k events) ≡ (Late k ∷ Early k ∷ []) ++ event_bounds (k + 1) (drop (k + 1) events)
stamps_more events k e at = ap (event_bounds k) (drop_more events k e at)

pub stamps_all : (events : List Event) (k : ℕ) → length events ≤ k → event_bounds k (drop k events) ≡ []
stamps_all events k past = ap (event_bounds k) (drop_all events k past)

pub follows_more : (follows : List Follow) (readings : List Reading) (clocks : List Clock) (k : ℕ) (c : Clock) → slice_get clocks k ≡ Some c → follow_bounds follows readings k (drop k clocks) ≡
    follow_bound (nearest_reading readings (clocks_before follows k k)) (first_reading readings k) ++ follow_bounds follows readings (k + 1) (drop (k + 1) clocks)
follows_more follows readings clocks k c at = ap (follow_bounds follows readings k) (drop_more clocks k c at)

pub follows_all : (follows : List Follow) (readings : List Reading) (clocks : List Clock) (k : ℕ) → length clocks ≤ k → follow_bounds follows readings k (drop k clocks) ≡ []
follows_all follows readings clocks k past = ap (follow_bounds follows readings k) (drop_all clocks k past)

pub delays_more : (messages : List Message) (k : ℕ) (m : Message) → slice_get messages k ≡ Some m → flat_map message_bounds (drop k messages) ≡ message_bounds m ++ flat_map message_bounds (drop (k + 1) messages)
delays_more messages k m at = ap (flat_map message_bounds) (drop_more messages k m at)

pub delays_all : (messages : List Message) (k : ℕ) → length messages ≤ k → flat_map message_bounds (drop k messages) ≡ []
delays_all messages k past = ap (flat_map message_bounds) (drop_all messages k past)

-- ---- the clock of a reading is one of the problem's
pub reading_there : (p : ProblemLists) (readings : List Reading) (k : ℕ) (r : Reading) → AreReadings p readings → k < length readings → r ≡ get_or readings k r → IsReading p r.0 r.1
reading_there p readings k r are inside is = are.each r.0 r.1 (k, inside, sym is)

pub clock_there : (p : ProblemLists) (clock stamp : ℕ) → IsWellFormed p → IsReading p clock stamp → clock < length p.clocks
clock_there p clock stamp formed (e, at, on, is) =
    let inside : e.clock < length p.clocks = All-contains (λ (v : Event). v.clock < length p.clocks) p.events e formed.event_clocks at in
    omega (arith, inside, on)

-- the clock of an event stands at its place
pub clock_at : (p : ProblemLists) (clocks : List Clock) (e : Event) (c : Clock) → IsWellFormed p → clocks ≡ p.clocks → Contains p.events e → c ≡ get_or clocks e.clock c → slice_get p.clocks e.clock ≡ Some c
clock_at p clocks e c formed same at is =
    let inside : e.clock < length p.clocks = All-contains (λ (v : Event). v.clock < length p.clocks) p.events e formed.event_clocks at in
    slice_get_read p.clocks (length p.clocks) e.clock c refl inside (is ∙ ap (λ (cs : List Clock). get_or cs e.clock c) same)

pub nodes_more : (j : ℕ) (es : List Event) (k : ℕ) → k < length es → event_nodes j (drop k es) ≡ nodes.Event j ∷ event_nodes (j + 1) (drop (k + 1) es)
nodes_more j [] k inside = absurd (omega (arith, inside))
nodes_more j (e ∷ es) zero inside = refl
nodes_more j (e ∷ es) (suc k) inside = nodes_more j es k (omega (arith, inside)) ∙ ap (λ (n : ℕ). nodes.Event j ∷ event_nodes (j + 1) (drop n (e ∷ es))) (let same : suc (k + 1) ≡ suc k + 1 = omega arith in same)

-- ---- the bounds of two neighbours of one clock
equal_self : (k : ℕ) → nat_eq k k ≡ true
equal_self k = grind arith

pub neighbours_are : (k l s t : ℕ) → k ≡ l → neighbour_bounds (k, s) (l, t) ≡ SpanMost k s t ∷ SpanLeast k s t ∷ []
neighbours_are k l s t same = subst (λ (m : ℕ). neighbour_bounds (k, s) (m, t) ≡ SpanMost k s t ∷ SpanLeast k s t ∷ []) same (rw (equal_self k) refl)

pub first_of_four : (a b c d : List Bound) → ((a ++ b) ++ c) ++ d ≡ a ++ ((b ++ c) ++ d)
first_of_four a b c d = append_assoc (a ++ b) c d ∙ append_assoc a b (c ++ d) ∙ ap (λ v. a ++ v) (sym (append_assoc b c d))

pub first_of_five : (a b c d e : List Bound) → (((a ++ b) ++ c) ++ d) ++ e ≡ a ++ (((b ++ c) ++ d) ++ e)
first_of_five a b c d e = ap (λ v. v ++ e) (first_of_four a b c d) ∙ append_assoc a ((b ++ c) ++ d) e

-- ---- where no clock follows another
none_before : (k d : ℕ) → clocks_before [] k d ≡ []
none_before zero d = refl
none_before (suc k) d = refl

-- ---- lines of a list, from a place on
pub lines_more : {X : Type 0} (line : X → List ℕ) (xs : List X) (k : ℕ) (x : X) → slice_get xs k ≡ Some x → flat_map line (drop k xs) ≡ line x ++ flat_map line (drop (k + 1) xs)
lines_more line xs k x at = ap (flat_map line) (drop_more xs k x at)

pub lines_none : {X : Type 0} (line : X → List ℕ) (xs : List X) (k : ℕ) → length xs ≤ k → flat_map line (drop k xs) ≡ []
lines_none line xs k past = ap (flat_map line) (drop_all xs k past)
