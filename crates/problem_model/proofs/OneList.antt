-- The readings of a problem are one list, and each list of one value per node is that of some real times.
use Rattle.std.proofs.Common.{◌≡◌, ◌⊎◌, ◌<◌, ◌+◌, ℕ, suc, List, [], ◌∷◌, ◌++◌, length, map, Bool, true, false, cond, nat_eq, ◌&&◌, refl, sym, ◌∙◌, ap, arith, inl, inr}
use Rattle.std.specs.Prelude.{Contains, ℤ, pos}
use Rattle.std.specs.List.{AllByRecursion}
use Rattle.problem_model.specs.declared.items.Event.{Event}
use Rattle.problem_model.specs.declared.items.Node.{Node}
use Rattle.problem_model.specs.declared.items.Node.TheVariants as nodes
use Rattle.problem_model.specs.Problem.{ProblemLists}
use Rattle.problem_model.specs.Bounds.{Times}
use Rattle.problem_model.specs.Nodes.{Reading, IsEarlierReading, AreReadings, event_nodes, reading_nodes, nodes_of, Lists}
use Rattle.problem_model.proofs.Chains.{Among, among, each_among, Rises, rises}

-- ---- one list of readings
irreflexive : (a b : Reading) → IsEarlierReading a b → a ≡ b → ⊥
irreflexive a b (inl less) is = let same : a.0 ≡ b.0 = ap (λ (r : Reading). r.0) is in omega (arith, less, same)
irreflexive a b (inr later) is = let same : a.1 ≡ b.1 = ap (λ (r : Reading). r.1) is in omega (arith, later.1, same)

no_circle : (a b : Reading) → IsEarlierReading a b → IsEarlierReading b a → ⊥
no_circle a b (inl x) (inl y) = omega (arith, x, y)
no_circle a b (inl x) (inr y) = omega (arith, x, y.0)
no_circle a b (inr x) (inl y) = omega (arith, x.0, y)
no_circle a b (inr x) (inr y) = omega (arith, x.1, y.1)

pub contained : {X : Type 0} (xs : List X) (x : X) → Among xs x → Contains xs x
contained [] x at = absurd at
contained (y ∷ ys) x (inl is) = (0, omega arith, is)
contained (y ∷ ys) x (inr at) = let rest = contained ys x at in (suc rest.0, omega (arith, rest.1), rest.2)

Within : List Reading → List Reading → Type 0
Within rs ss = (r : Reading) → Among rs r → Among ss r

heads_one : (a b : Reading) (rs ss : List Reading) → Rises (a ∷ rs) → Rises (b ∷ ss) → (a ≡ b) ⊎ Among ss a → (b ≡ a) ⊎ Among rs b → a ≡ b
heads_one a b rs ss x y (inl is) other = is
heads_one a b rs ss x y (inr at) (inl is) = sym is
heads_one a b rs ss x y (inr at) (inr at') = absurd (no_circle a b (each_among (IsEarlierReading a) rs b x.0 at') (each_among (IsEarlierReading b) ss a y.0 at))

flip : (a b : Reading) (rs : List Reading) → Among (b ∷ rs) a → (a ≡ b) ⊎ Among rs a
flip a b rs (inl is) = inl (sym is)
flip a b rs (inr at) = inr at

tail_within : (a b : Reading) (rs ss : List Reading) → Rises (a ∷ rs) → a ≡ b → ((r : Reading) → Among (a ∷ rs) r → Among (b ∷ ss) r) → (r : Reading) → Among rs r → Among ss r
tail_within a b rs ss x is all r at = behind (all r (inr at))
  where
    behind : Among (b ∷ ss) r → Among ss r
    behind (inl same) = absurd (irreflexive a r (each_among (IsEarlierReading a) rs r x.0 at) (is ∙ same))
    behind (inr there) = there

lists_one : (rs ss : List Reading) → Rises rs → Rises ss → ((r : Reading) → Among rs r → Among ss r) → ((r : Reading) → Among ss r → Among rs r) → rs ≡ ss
lists_one [] [] x y f g = refl
lists_one [] (b ∷ ss) x y f g = absurd (g b (inl refl))
lists_one (a ∷ rs) [] x y f g = absurd (f a (inl refl))
lists_one (a ∷ rs) (b ∷ ss) x y f g =
    let head : a ≡ b = heads_one a b rs ss x y (flip a b ss (f a (inl refl))) (flip b a rs (g b (inl refl))) in
    let tail : rs ≡ ss = lists_one rs ss x.1 y.1 (tail_within a b rs ss x head f) (tail_within b a ss rs y (sym head) g) in
    rw (head, tail) refl

pub readings_one : (p : ProblemLists) (rs ss : List Reading) → AreReadings p rs → AreReadings p ss → rs ≡ ss
readings_one p rs ss x y = lists_one rs ss (rises rs x.rising) (rises ss y.rising)
    (λ r at. among ss r (y.every r.0 r.1 (x.each r.0 r.1 (contained rs r at))))
    (λ r at. among rs r (x.every r.0 r.1 (y.each r.0 r.1 (contained ss r at))))

-- ---- real times of a list
node_eq : Node → Node → Bool
node_eq (nodes.Event a) (nodes.Event b) = nat_eq a b
node_eq (nodes.Event a) (nodes.Reading c t) = false
node_eq (nodes.Reading c s) (nodes.Event b) = false
node_eq (nodes.Reading c s) (nodes.Reading d t) = nat_eq c d && nat_eq s t

node_self : (n : Node) → node_eq n n ≡ true
unfolding node_eq
node_self (nodes.Event a) = grind arith
node_self (nodes.Reading c s) = grind arith

Apart : Node → Node → Type 0
Apart a b = node_eq b a ≡ false

abbrev AllApart : List Node → Type 0
AllApart [] = Unit {0}
AllApart (n ∷ ns) = AllByRecursion (λ m. node_eq m n ≡ false) ns × AllApart ns

-- the value at the node's place
time_in : List Node → List ℤ → Node → ℤ
time_in [] values n = pos 0
time_in (m ∷ ms) [] n = pos 0
time_in (m ∷ ms) (v ∷ values) n = cond (node_eq n m) v (time_in ms values n)

skip_head : (m : Node) (ms : List Node) (v : ℤ) (values : List ℤ) (ns : List Node) → AllByRecursion (λ n. node_eq n m ≡ false) ns → map (time_in (m ∷ ms) (v ∷ values)) ns ≡ map (time_in ms values) ns
unfolding time_in
skip_head m ms v values [] apart = refl
skip_head m ms v values (n ∷ ns) apart = rw (apart.0, skip_head m ms v values ns apart.1) refl

times_of : (ns : List Node) (values : List ℤ) → AllApart ns → length values ≡ length ns → values ≡ map (time_in ns values) ns
unfolding time_in
times_of [] [] apart len = refl
times_of [] (v ∷ values) apart len = absurd (omega (arith, len))
times_of (n ∷ ns) [] apart len = absurd (omega (arith, len))
times_of (n ∷ ns) (v ∷ values) apart len =
    let rest : values ≡ map (time_in ns values) ns = times_of ns values apart.1 (omega (arith, len)) in
    rw (node_self n, skip_head n ns v values ns apart.0, ← rest) refl

event_apart : (k j : ℕ) (events : List Event) → k < j → AllByRecursion (λ m. node_eq m (nodes.Event k) ≡ false) (event_nodes j events)
unfolding node_eq
event_apart k j [] below = tt
event_apart k j (e ∷ events) below = (grind (arith, below), event_apart k (j + 1) events (omega (arith, below)))

reading_apart : (k : ℕ) (rs : List Reading) → AllByRecursion (λ m. node_eq m (nodes.Event k) ≡ false) (reading_nodes rs)
unfolding node_eq
reading_apart k [] = tt
reading_apart k (r ∷ rs) = (refl, reading_apart k rs)

both_apart : {X : Type 0} (P : X → Type 0) (xs ys : List X) → AllByRecursion P xs → AllByRecursion P ys → AllByRecursion P (xs ++ ys)
both_apart P [] ys all all' = all'
both_apart P (x ∷ xs) ys all all' = (all.0, both_apart P xs ys all.1 all')

later_apart : (a b : Reading) → IsEarlierReading a b → (nat_eq b.0 a.0 && nat_eq b.1 a.1) ≡ false
later_apart a b (inl less) = grind (arith, less)
later_apart a b (inr later) = grind (arith, later.1)

rest_apart : (a : Reading) (rs : List Reading) → AllByRecursion (IsEarlierReading a) rs → AllByRecursion (λ m. node_eq m (nodes.Reading a.0 a.1) ≡ false) (reading_nodes rs)
unfolding node_eq
rest_apart a [] all = tt
rest_apart a (r ∷ rs) all = (later_apart a r all.0, rest_apart a rs all.1)

readings_apart : (rs : List Reading) → Rises rs → AllApart (reading_nodes rs)
readings_apart [] rising = tt
readings_apart (r ∷ rs) rising = (rest_apart r rs rising.0, readings_apart rs rising.1)

nodes_apart : (k : ℕ) (events : List Event) (rs : List Reading) → Rises rs → AllApart (event_nodes k events ++ reading_nodes rs)
nodes_apart k [] rs rising = readings_apart rs rising
nodes_apart k (e ∷ events) rs rising = (
  both_apart (λ m. node_eq m (nodes.Event k) ≡ false) (event_nodes (k + 1) events) (reading_nodes rs) (event_apart k (k + 1) events (omega arith)) (reading_apart k rs),
  nodes_apart (k + 1) events rs rising,
)

pub listed : (p : ProblemLists) (rs : List Reading) (values : List ℤ) → AreReadings p rs → length values ≡ length (nodes_of p rs) → (x : Times) × Lists p x values
listed p rs values are len = (time_in (nodes_of p rs) values, (rs, are, times_of (nodes_of p rs) values (nodes_apart 0 p.events rs (rises rs are.rising)) len))
