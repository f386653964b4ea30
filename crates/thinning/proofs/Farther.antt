-- Two messages whose ends have bounds of their own: the one with the wider bounds is as fast, and yet the other one may not
-- be left out, since an execution of the one alone need not be one of both.
use Rattle.std.proofs.Common.{◌≡◌, ◌≤◌, ◌*◌, ℕ, zero, suc, [], ◌∷◌, Option, Some, None, refl, sym, ◌∙◌, ap, subst, arith, inl, inr, codes}
use Rattle.std.specs.Prelude.{All, ℤ, pos, neg_ℤ, ◌-ℤ◌, ◌≤ℤ◌}
use Rattle.std.proofs.lemmas.Int.{ints}
use Rattle.std.proofs.lemmas.Option.{same_Some}
use Rattle.std.proofs.lemmas.List.Elements.{All-contains, All-from_recursion}
use Rattle.problem_model.specs.declared.items.Clock.{Clock}
use Rattle.problem_model.specs.declared.items.Event.{Event}
use Rattle.problem_model.specs.declared.items.Message.{Message}
use Rattle.problem_model.specs.declared.items.Node.{Node}
use Rattle.problem_model.specs.declared.items.Node.TheVariants as nodes
use Rattle.problem_model.specs.declared.items.Bound.TheVariants as bounds
use Rattle.problem_model.specs.declared.items.Bound.TheVariants.{SpanMost, SpanLeast, Late, Early, DelayMost, DelayLeast}
use Rattle.problem_model.specs.Problem.{ProblemLists}
use Rattle.problem_model.specs.Bounds.{Times, IsReading, EventAt, early_of, late_of, Obeys, IsExecution}
use Rattle.problem_model.proofs.Chains.{Among, among}
use Rattle.thinning.specs.Thinning.{with_messages, IsAsFast, HaveSameBounds, IsAsNear, HasNearEnds, IsCovered, Remains}
use Rattle.thinning.proofs.Nearer.{near_alike}

-- both are sent by clock 0 at 0 and received by clock 1 at 0, and take 1 ns or more; the receive of the first may be 7 ns
-- behind its reading
abbrev a_clock : Clock
a_clock = record { name = codes "a"; rate = record { short = 100; long = 100 }; early = 0; late = 0 }

abbrev b_clock : Clock
b_clock = record { name = codes "b"; rate = record { short = 100; long = 100 }; early = 0; late = 0 }

abbrev sent : Event
sent = record { name = codes "p"; clock = 0; stamp = 0; bounds = Some (record { early = 0; late = 0 }) }

abbrev wide_received : Event
wide_received = record { name = codes "q"; clock = 1; stamp = 0; bounds = Some (record { early = 0; late = 7 }) }

abbrev also_sent : Event
also_sent = record { name = codes "r"; clock = 0; stamp = 0; bounds = Some (record { early = 0; late = 0 }) }

abbrev tight_received : Event
tight_received = record { name = codes "s"; clock = 1; stamp = 0; bounds = Some (record { early = 0; late = 0 }) }

abbrev wide : Message
wide = record { send = 0; receive = 1; least = 1; most = None }

abbrev tight : Message
tight = record { send = 2; receive = 3; least = 1; most = None }

abbrev unlike : ProblemLists
unlike = record {
  clocks = a_clock ∷ b_clock ∷ [];
  follows = [];
  events = sent ∷ wide_received ∷ also_sent ∷ tight_received ∷ [];
  messages = wide ∷ tight ∷ [];
}

-- ---- by their stamps and delays the first covers the second
wide_is_as_fast : IsAsFast unlike 0 wide tight
wide_is_as_fast = record {
  from = 0;
  to = 1;
  sender = a_clock;
  receiver = b_clock;
  sender_at = refl;
  receiver_at = refl;
  k_sent = 0;
  k_received = 0;
  m_sent = 0;
  m_received = 0;
  k_sends = (sent, refl, refl, refl);
  k_receives = (wide_received, refl, refl, refl);
  m_sends = (also_sent, refl, refl, refl);
  m_receives = (tight_received, refl, refl, refl);
  u = omega (arith, ints);
  v = omega (arith, ints);
  one = inl (omega (arith, ints));
}

same_bounds : HaveSameBounds wide tight
same_bounds = (refl, refl)

-- ---- but its receive is not as near its reading; that of the second is
tight_is_near : HasNearEnds unlike tight wide
tight_is_near = (near_alike unlike 2 0 also_sent sent refl refl refl refl, receives)
  where
    receives : IsAsNear unlike 3 1
    receives v w b c here there on on' =
        let early : 0 ≤ 0 = omega arith in
        let late : 0 ≤ 7 = omega arith in
        subst (λ (u : Event). (early_of b u ≤ early_of c w) × (late_of b u ≤ late_of c w)) (same_Some tight_received v here)
        (subst (λ (u : Event). (early_of b tight_received ≤ early_of c u) × (late_of b tight_received ≤ late_of c u)) (same_Some wide_received w there) (early, late))

wide_is_not : HasNearEnds unlike wide tight → ⊥
wide_is_not near =
    let late : 7 ≤ 0 = (near.1 wide_received tight_received b_clock b_clock refl refl refl refl).1 in
    absurd (omega (arith, late))

only_wide : (m : Message) → Among (wide ∷ []) m → wide ≡ m
only_wide m (inl is) = is
only_wide m (inr never) = absurd never

not_covered : IsCovered unlike 0 (wide ∷ []) tight → ⊥
not_covered covered =
    let (k, inside, same, near, f) = covered.fast in
    wide_is_not (subst (λ (m : Message). HasNearEnds unlike m tight) (sym (only_wide k (among (wide ∷ []) k inside))) near)

-- ---- and there is an execution of the first alone, received 1 ns behind its reading, with whose readings no execution of
-- both agrees
abbrev time_of : ℕ → ℤ
time_of zero = pos 0
time_of (suc zero) = pos 1000000000
time_of (suc (suc e)) = pos 0

abbrev times : Times
times (nodes.Reading clock stamp) = pos 0
times (nodes.Event e) = time_of e

late_obeyed : (e : ℕ) (v : Event) (c : Clock) → EventAt unlike e v → (time_of e -ℤ pos 0) ≤ℤ pos (late_of c v * 1000000000)
late_obeyed zero v c at = omega (arith, ints)
late_obeyed (suc zero) v c at =
    let within : (pos 1000000000 -ℤ pos 0) ≤ℤ pos (7 * 1000000000) = omega (arith, ints) in
    subst (λ (w : Event). (pos 1000000000 -ℤ pos 0) ≤ℤ pos (late_of c w * 1000000000)) (same_Some wide_received v at) within
late_obeyed (suc (suc e)) v c at = omega (arith, ints)

early_obeyed : (e n : ℕ) → (pos 0 -ℤ time_of e) ≤ℤ pos n
early_obeyed zero n = omega (arith, ints)
early_obeyed (suc zero) n = omega (arith, ints)
early_obeyed (suc (suc e)) n = omega (arith, ints)

least_obeyed : (m : Message) → wide ≡ m → (time_of m.send -ℤ time_of m.receive) ≤ℤ neg_ℤ (pos (m.least * 1000000000))
least_obeyed m is =
    let after : (pos 0 -ℤ pos 1000000000) ≤ℤ neg_ℤ (pos (1 * 1000000000)) = omega (arith, ints) in
    subst (λ (k : Message). (time_of k.send -ℤ time_of k.receive) ≤ℤ neg_ℤ (pos (k.least * 1000000000))) is after

none_greatest : (n : ℕ) → ◌≡◌ {A = Option ℕ} None (Some n) → ⊥
none_greatest n is = absurd cc

-- a clock has one reading
stamped_zero : (clock stamp : ℕ) → IsReading unlike clock stamp → stamp ≡ 0
stamped_zero clock stamp (v, inside, on, is) =
    let all : All (λ (e : Event). e.stamp ≡ 0) unlike.events = All-from_recursion (λ (e : Event). e.stamp ≡ 0) unlike.events (refl, (refl, (refl, (refl, tt)))) in
    sym is ∙ All-contains (λ (e : Event). e.stamp ≡ 0) unlike.events v all inside

runs : IsExecution (with_messages unlike (wide ∷ [])) times
runs (SpanMost clock s t) a declares =
    let (c, at, from, to, below, is) = declares in
    let zero_at = stamped_zero clock t to in
    absurd (omega (arith, below, zero_at))
runs (SpanLeast clock s t) a declares =
    let (c, at, from, to, below, is) = declares in
    let zero_at = stamped_zero clock t to in
    absurd (omega (arith, below, zero_at))
runs (Late e) a declares =
    let (v, c, at, clocked, is) = declares in
    subst (Obeys times) (sym is) (late_obeyed e v c at)
runs (Early e) a declares =
    let (v, c, at, clocked, is) = declares in
    subst (Obeys times) (sym is) (early_obeyed e (early_of c v * 1000000000))
runs (bounds.Follow c s d t) a declares =
    let (f, inside, later, after, from, to, is) = declares in
    absurd (omega (arith, inside.1))
runs (DelayMost send receive) a declares =
    let (m, most, inside, sends, receives, bounded, is) = declares in
    absurd (none_greatest most (ap (λ (k : Message). k.most) (only_wide m (among (wide ∷ []) m inside)) ∙ bounded))
runs (DelayLeast send receive) a declares =
    let (m, inside, sends, receives, is) = declares in
    subst (Obeys times) (sym is)
    (subst (λ (n : ℕ). (time_of n -ℤ time_of receive) ≤ℤ neg_ℤ (pos (m.least * 1000000000))) sends
    (subst (λ (n : ℕ). (time_of m.send -ℤ time_of n) ≤ℤ neg_ℤ (pos (m.least * 1000000000))) receives
    (least_obeyed m (only_wide m (among (wide ∷ []) m inside)))))

never_extended : (y : Times) → IsExecution unlike y → ((n : Node) → Remains unlike (wide ∷ []) n → y n ≡ times n) → ⊥
never_extended y execution agrees =
    let early : (y (nodes.Reading 0 0) -ℤ y (nodes.Event 2)) ≤ℤ pos (0 * 1000000000) = execution (Early 2) _ (also_sent, a_clock, refl, refl, refl) in
    let late : (y (nodes.Event 3) -ℤ y (nodes.Reading 1 0)) ≤ℤ pos (0 * 1000000000) = execution (Late 3) _ (tight_received, b_clock, refl, refl, refl) in
    let least : (y (nodes.Event 2) -ℤ y (nodes.Event 3)) ≤ℤ neg_ℤ (pos (1 * 1000000000)) = execution (DelayLeast 2 3) _ (tight, (1, omega arith, refl), refl, refl, refl) in
    apart (y (nodes.Reading 0 0)) (y (nodes.Event 2)) (y (nodes.Event 3)) (y (nodes.Reading 1 0)) early late least (agrees (nodes.Reading 0 0) tt) (agrees (nodes.Reading 1 0) tt)
  where
    apart : (a s r b : ℤ) → (a -ℤ s) ≤ℤ pos (0 * 1000000000) → (r -ℤ b) ≤ℤ pos (0 * 1000000000) → (s -ℤ r) ≤ℤ neg_ℤ (pos (1 * 1000000000)) → a ≡ pos 0 → b ≡ pos 0 → ⊥
    apart a s r b early late least first second = absurd (omega (arith, ints, early, late, least, first, second))
