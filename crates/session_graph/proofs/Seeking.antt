-- The nearest nodes of a reading, sought from stamp to stamp of its clock.
use Rattle.std.proofs.Common.{◌≡◌, ◌<◌, ◌≤◌, ◌-◌, ◌^◌, ℕ, suc, Bool, true, false, List, Option, Some, None, sym, subst, arith, inl, inr}
use Rattle.std.specs.Prelude.{IfSome}
use Rattle.std.proofs.lemmas.Bool.{cases_Bool, cases_eq}
use Rattle.problem_model.specs.declared.items.Event.{Event}
use Rattle.problem_model.specs.declared.items.Node.{Node}
use Rattle.problem_model.specs.declared.items.Node.TheVariants as nodes
use Rattle.problem_model.specs.Problem.{ProblemLists}
use Rattle.problem_model.specs.Bounds.{ComesAfter}
use Rattle.sync_graph.specs.Graph.{GraphLists}
use Rattle.problem_graph.specs.Standing.{HasNode}
use Rattle.roster.specs.Readings.{Stamped, HasStamp, IsLastUnder, IsFirstOver}
use Rattle.roster.specs.Entering.{IsStampBelow, IsStampAbove, IsEarlierEnd, IsLaterEnd, AreNearest}
use Rattle.session_graph.specs.Links.{AreThere, AreBeside}
use Rattle.session_graph.specs.declared.follows.Nearest.{Nearest}

-- no node of the clock is between this stamp, which the clock has shown, and the one that is asked of
abbrev pub GoesDown : List Stamped → GraphLists → ℕ → ℕ → Option ℕ → Type 0
GoesDown readings g clock stamp (Some s) = HasStamp readings s × (s < stamp) × ((t : ℕ) → HasNode g (nodes.Reading clock t) → t < stamp → t ≤ s)
GoesDown readings g clock stamp None = (t : ℕ) → HasNode g (nodes.Reading clock t) → t < stamp → ⊥

abbrev pub GoesUp : List Stamped → GraphLists → ℕ → ℕ → Option ℕ → Type 0
GoesUp readings g clock stamp (Some s) = HasStamp readings s × (stamp < s) × ((t : ℕ) → HasNode g (nodes.Reading clock t) → stamp < t → s ≤ t)
GoesUp readings g clock stamp None = (t : ℕ) → HasNode g (nodes.Reading clock t) → stamp < t → ⊥

abbrev pub left_below : Option ℕ → ℕ
left_below (Some s) = suc s
left_below None = 0

abbrev pub left_above : Option ℕ → ℕ
left_above (Some s) = 2 ^ 62 - s
left_above None = 0

module _ (readings : List Stamped) (g : GraphLists) (clock stamp : ℕ) (shown : (t : ℕ) → HasNode g (nodes.Reading clock t) → HasStamp readings t) where
  pub down_first : (o : Option ℕ) → IsLastUnder readings stamp o → GoesDown readings g clock stamp o
  down_first None none = λ t has less. none t (shown t has) less
  down_first (Some s) (has, less, most) = (has, less, λ t has' less'. most t (shown t has') less')

  pub up_first : (o : Option ℕ) → IsFirstOver readings stamp o → GoesUp readings g clock stamp o
  up_first None none = λ t has more. none t (shown t has) more
  up_first (Some s) (has, more, least) = (has, more, λ t has' more'. least t (shown t has') more')

  pub down_next : (s : ℕ) (o : Option ℕ) → GoesDown readings g clock stamp (Some s) → (HasNode g (nodes.Reading clock s) → ⊥) → IsLastUnder readings s o → GoesDown readings g clock stamp o
  down_next s None (has, less, most) absent none = λ t has' less'. elim (cases_eq t s) [
    | inl same ↦ absent (subst (λ (n : ℕ). HasNode g (nodes.Reading clock n)) same has')
    | inr other ↦ none t (shown t has') (let few = most t has' less' in omega (arith, few, other))
  ]
  down_next s (Some u) (has, less, most) absent (has', less', most') = (
    has',
    omega (arith, less, less'),
    λ t node below. elim (cases_eq t s) [
      | inl same ↦ absurd (absent (subst (λ (n : ℕ). HasNode g (nodes.Reading clock n)) same node))
      | inr other ↦ most' t (shown t node) (let few = most t node below in omega (arith, few, other))
    ],
  )

  pub up_next : (s : ℕ) (o : Option ℕ) → GoesUp readings g clock stamp (Some s) → (HasNode g (nodes.Reading clock s) → ⊥) → IsFirstOver readings s o → GoesUp readings g clock stamp o
  up_next s None (has, more, least) absent none = λ t has' more'. elim (cases_eq t s) [
    | inl same ↦ absent (subst (λ (n : ℕ). HasNode g (nodes.Reading clock n)) same has')
    | inr other ↦ none t (shown t has') (let few = least t has' more' in omega (arith, few, other))
  ]
  up_next s (Some u) (has, more, least) absent (has', more', least') = (
    has',
    omega (arith, more, more'),
    λ t node over. elim (cases_eq t s) [
      | inl same ↦ absurd (absent (subst (λ (n : ℕ). HasNode g (nodes.Reading clock n)) same node))
      | inr other ↦ least' t (shown t node) (let few = least t node over in omega (arith, few, other))
    ],
  )

-- ---- all that is nearest to a reading
-- what is said of a new reading and of one that is there, together
pub near_by : (p : ProblemLists) (g : GraphLists) (place stamp : ℕ) (known : Bool) (o u : Option ℕ) (a b : Option (ℕ × ℕ)) (e : Event) → e.clock ≡ place → e.stamp ≡ stamp → (known ≡ true → HasNode g (nodes.Reading place stamp))
    → (known ≡ false → HasNode g (nodes.Reading place stamp) → ⊥) → (known ≡ true → (o ≡ None) × (u ≡ None) × (a ≡ None) × (b ≡ None))
    → (known ≡ false → IsStampBelow g place stamp o × IsStampAbove g place stamp u × IsEarlierEnd p g place o a × IsLaterEnd p g place u b) → AreNearest p g e o u a b
near_by p g place stamp known o u a b e on is has fresh none some =
    subst (λ (c : ℕ). AreNearest p g (record { name = e.name; clock = c; stamp = e.stamp; bounds = e.bounds }) o u a b) (sym on)
    (subst (λ (t : ℕ). AreNearest p g (record { name = e.name; clock = place; stamp = t; bounds = e.bounds }) o u a b) (sym is) here)
  where
    here : AreNearest p g (record { name = e.name; clock = place; stamp = stamp; bounds = e.bounds }) o u a b
    here = elim (cases_Bool known) [
      | inl k ↦ (let (under, over, before, after) = none k in inl (has k, under, over, before, after))
      | inr k ↦ (let (under, over, before, after) = some k in inr (fresh k, under, over, before, after))
    ]

if_some : {X : Type 0} (o : Option X) (P Q : X → Type 0) → ((x : X) → P x → Q x) → IfSome o P → IfSome o Q
if_some None P Q weaker told = tt
if_some (Some x) P Q weaker told = weaker x told

module _ (p : ProblemLists) (g : GraphLists) (e : Event) where
  below_in : (o u : Option ℕ) (a b : Option (ℕ × ℕ)) → AreNearest p g e o u a b → IfSome o (λ s. (s < e.stamp) × HasNode g (nodes.Reading e.clock s))
  below_in None u a b near = tt
  below_in (Some s) u a b (inl (there, none, no_over, no_before, no_after)) = absurd (cc)
  below_in (Some s) u a b (inr (absent, under, over, before, after)) = (under.1, under.0)

  above_in : (o u : Option ℕ) (a b : Option (ℕ × ℕ)) → AreNearest p g e o u a b → IfSome u (λ t. (e.stamp < t) × HasNode g (nodes.Reading e.clock t))
  above_in o None a b near = tt
  above_in o (Some t) a b (inl (there, no_under, none, no_before, no_after)) = absurd (cc)
  above_in o (Some t) a b (inr (absent, under, over, before, after)) = (over.1, over.0)

  earlier_in : (o u : Option ℕ) (a b : Option (ℕ × ℕ)) → AreNearest p g e o u a b → IfSome a (λ x. HasNode g (nodes.Reading x.0 x.1) × ComesAfter p x.0 e.clock)
  earlier_in o u None b near = tt
  earlier_in o u (Some x) b (inl (there, no_under, no_over, none, no_after)) = absurd (cc)
  earlier_in (Some s) u (Some x) b (inr (absent, under, over, before, after)) = absurd (cc)
  earlier_in None u (Some (c, s)) b (inr (absent, under, over, (comes, nearest, last), after)) = (last.0, comes)

  later_in : (o u : Option ℕ) (a b : Option (ℕ × ℕ)) → AreNearest p g e o u a b → IfSome b (λ x. HasNode g (nodes.Reading x.0 x.1) × ComesAfter p e.clock x.0)
  later_in o u a None near = tt
  later_in o u a (Some x) (inl (there, no_under, no_over, no_before, none)) = absurd (cc)
  later_in o (Some t) a (Some x) (inr (absent, under, over, before, after)) = absurd (cc)
  later_in o None a (Some (c, t)) (inr (absent, under, over, before, (comes, nearest, first))) = (first.0, comes)

  first_in : (o u : Option ℕ) (a b : Option (ℕ × ℕ)) → AreNearest p g e o u a b → IfSome o (λ s. a ≡ None)
  first_in None u a b near = tt
  first_in (Some s) u a b (inl (there, no_under, no_over, none, no_after)) = none
  first_in (Some s) u a b (inr (absent, under, over, before, after)) = before

  last_in : (o u : Option ℕ) (a b : Option (ℕ × ℕ)) → AreNearest p g e o u a b → IfSome u (λ t. b ≡ None)
  last_in o None a b near = tt
  last_in o (Some t) a b (inl (there, no_under, no_over, no_before, none)) = none
  last_in o (Some t) a b (inr (absent, under, over, before, after)) = after

  -- they are nodes still where no node goes
  module _ (n : Nearest) (near : AreNearest p g e n.below n.above n.earlier n.later) where
    pub there_by : (clocks : ℕ) (h : GraphLists) → ((x : Node) → HasNode g x → HasNode h x) → IfSome n.later (λ x. x.0 < clocks) → AreThere clocks h e.clock e.stamp n
    there_by clocks h kept inside = record {
      below = if_some n.below (λ s. (s < e.stamp) × HasNode g (nodes.Reading e.clock s)) (λ s. (s < e.stamp) × HasNode h (nodes.Reading e.clock s)) (λ s (less, has). (less, kept (nodes.Reading e.clock s) has)) (below_in n.below n.above n.earlier n.later near);
      above = if_some n.above (λ t. (e.stamp < t) × HasNode g (nodes.Reading e.clock t)) (λ t. (e.stamp < t) × HasNode h (nodes.Reading e.clock t)) (λ t (more, has). (more, kept (nodes.Reading e.clock t) has)) (above_in n.below n.above n.earlier n.later near);
      earlier = if_some n.earlier (λ x. HasNode g (nodes.Reading x.0 x.1) × ComesAfter p x.0 e.clock) (λ x. HasNode h (nodes.Reading x.0 x.1)) (λ x (has, after). kept (nodes.Reading x.0 x.1) has) (earlier_in n.below n.above n.earlier n.later near);
      later = if_some n.later (λ x. HasNode g (nodes.Reading x.0 x.1) × ComesAfter p e.clock x.0) (λ x. HasNode h (nodes.Reading x.0 x.1)) (λ x (has, after). kept (nodes.Reading x.0 x.1) has) (later_in n.below n.above n.earlier n.later near);
      inside = inside;
      first = first_in n.below n.above n.earlier n.later near;
      last = last_in n.below n.above n.earlier n.later near;
    }

    pub beside_by : AreBeside p e.clock n
    beside_by = record {
      earlier = if_some n.earlier (λ x. HasNode g (nodes.Reading x.0 x.1) × ComesAfter p x.0 e.clock) (λ x. ComesAfter p x.0 e.clock) (λ x (has, after). after) (earlier_in n.below n.above n.earlier n.later near);
      later = if_some n.later (λ x. HasNode g (nodes.Reading x.0 x.1) × ComesAfter p e.clock x.0) (λ x. ComesAfter p e.clock x.0) (λ x (has, after). after) (later_in n.below n.above n.earlier n.later near);
    }
