-- The clocks of one host, walked back and on from the clock of a new reading.
use Rattle.std.proofs.Common.{◌≡◌, ◌<◌, ◌≤◌, ◌+◌, ◌-◌, ℕ, zero, suc, true, false, is_some, List, length, get_or, slice_get, Option, Some, None, pos, refl, sym, ◌∙◌, ap, subst, arith, inl, inr}
use Rattle.std.specs.Prelude.{Contains}
use Rattle.std.proofs.lemmas.Bool.{cases_lt, cases_eq}
use Rattle.std.proofs.lemmas.List.Elements.{All-contains}
use Rattle.std.proofs.lemmas.Option.{none-some, same_Some, slice_get-get_or, slice_get_within, get_or_from_slice_get}
use Rattle.problem_model.specs.declared.items.Follow.{Follow}
use Rattle.problem_model.specs.declared.items.Node.TheVariants as nodes
use Rattle.problem_model.specs.Problem.{ProblemLists}
use Rattle.problem_model.specs.Bounds.{ComesAfter}
use Rattle.problem_model.proofs.Following.{by_last}
use Rattle.decl.specs.Declaration.{Declaration, IsDeclaration, IsClockOf, AreOfOneHost, follow_from, follows_of}
use Rattle.decl.specs.declared.items.Owner.{Owner}
use Rattle.decl.proofs.Following.{is_follow, follow_there, comes_exactly, each_follow}
use Rattle.sync_graph.specs.Graph.{GraphLists}
use Rattle.problem_graph.specs.Standing.{HasNode}
use Rattle.roster.specs.Readings.{Stamped, HasStamp, IsLastUnder, IsFirstOver, IsFirstStamp, IsLastStamp}
use Rattle.roster.specs.Entering.{IsFirstNode, IsLastNode, IsReadingBefore, IsReadingAfter}

-- ---- the first and the last node of a clock, sought from stamp to stamp
-- no node of the clock is before this stamp, which the clock has shown; or none is behind it
abbrev pub ComesUp : List Stamped → GraphLists → ℕ → Option ℕ → Type 0
ComesUp readings g clock (Some s) = HasStamp readings s × ((t : ℕ) → HasNode g (nodes.Reading clock t) → s ≤ t)
ComesUp readings g clock None = (t : ℕ) → HasNode g (nodes.Reading clock t) → ⊥

abbrev pub ComesDown : List Stamped → GraphLists → ℕ → Option ℕ → Type 0
ComesDown readings g clock (Some s) = HasStamp readings s × ((t : ℕ) → HasNode g (nodes.Reading clock t) → t ≤ s)
ComesDown readings g clock None = (t : ℕ) → HasNode g (nodes.Reading clock t) → ⊥

module _ (readings : List Stamped) (g : GraphLists) (clock : ℕ) (shown : (t : ℕ) → HasNode g (nodes.Reading clock t) → HasStamp readings t) where
  pub up_begins : (o : Option ℕ) → IsFirstStamp readings o → ComesUp readings g clock o
  up_begins None none = λ t has. none t (shown t has)
  up_begins (Some s) (has, least) = (has, λ t has'. least t (shown t has'))

  pub down_begins : (o : Option ℕ) → IsLastStamp readings o → ComesDown readings g clock o
  down_begins None none = λ t has. none t (shown t has)
  down_begins (Some s) (has, most) = (has, λ t has'. most t (shown t has'))

  pub up_goes : (s : ℕ) (o : Option ℕ) → ComesUp readings g clock (Some s) → (HasNode g (nodes.Reading clock s) → ⊥) → IsFirstOver readings s o → ComesUp readings g clock o
  up_goes s None (has, least) absent none = λ t node. none t (shown t node) (behind t node)
    where
      behind : (t : ℕ) → HasNode g (nodes.Reading clock t) → s < t
      behind t node = elim (cases_eq t s) [
        | inl same ↦ absurd (absent (subst (λ (n : ℕ). HasNode g (nodes.Reading clock n)) same node))
        | inr other ↦ (let more = least t node in omega (arith, more, other))
      ]
  up_goes s (Some u) (has, least) absent (has', more, least') = (has', λ t node. least' t (shown t node) (behind t node))
    where
      behind : (t : ℕ) → HasNode g (nodes.Reading clock t) → s < t
      behind t node = elim (cases_eq t s) [
        | inl same ↦ absurd (absent (subst (λ (n : ℕ). HasNode g (nodes.Reading clock n)) same node))
        | inr other ↦ (let over = least t node in omega (arith, over, other))
      ]

  pub down_goes : (s : ℕ) (o : Option ℕ) → ComesDown readings g clock (Some s) → (HasNode g (nodes.Reading clock s) → ⊥) → IsLastUnder readings s o → ComesDown readings g clock o
  down_goes s None (has, most) absent none = λ t node. none t (shown t node) (before t node)
    where
      before : (t : ℕ) → HasNode g (nodes.Reading clock t) → t < s
      before t node = elim (cases_eq t s) [
        | inl same ↦ absurd (absent (subst (λ (n : ℕ). HasNode g (nodes.Reading clock n)) same node))
        | inr other ↦ (let few = most t node in omega (arith, few, other))
      ]
  down_goes s (Some u) (has, most) absent (has', less, most') = (has', λ t node. most' t (shown t node) (before t node))
    where
      before : (t : ℕ) → HasNode g (nodes.Reading clock t) → t < s
      before t node = elim (cases_eq t s) [
        | inl same ↦ absurd (absent (subst (λ (n : ℕ). HasNode g (nodes.Reading clock n)) same node))
        | inr other ↦ (let few = most t node in omega (arith, few, other))
      ]

-- ---- neighbouring clocks
-- the follow from a clock is there exactly where both are of one host
pub one_host : (d : Declaration) (k : ℕ) (o : Option Follow) → o ≡ follow_from d k → is_some o ≡ true → AreOfOneHost d k (k + 1)
one_host d k None is test = absurd (cc)
one_host d k (Some f) is test =
    let own = is_follow d k f (sym is) in
    (own.next.host, (own.here, own.at_here, own.same_host), (own.next, own.at_next, refl))

pub two_hosts : (d : Declaration) (k : ℕ) (o : Option Follow) → o ≡ follow_from d k → is_some o ≡ false → AreOfOneHost d k (k + 1) → ⊥
two_hosts d k (Some f) is test one = absurd (cc)
two_hosts d k None is test (host, (a, at, here), (b, at', next)) = none-some (record { earlier = k; later = k + 1; gap = b.gap }) (is ∙ follow_there d k a b at at' (here ∙ sym next))

-- ---- a walk over the clocks of a host
-- no clock of the host from this one up to the reading's own has a node
pub record GoesBack (d : Declaration) (g : GraphLists) (place clock : ℕ) : Type 0 where
  pub same : AreOfOneHost d clock place
  pub le : clock ≤ place
  pub none : (b u : ℕ) → clock ≤ b → b < place → HasNode g (nodes.Reading b u) → ⊥

-- no clock of the host behind the reading's own up to this one has a node
pub record GoesOn (d : Declaration) (g : GraphLists) (place clock : ℕ) : Type 0 where
  pub same : AreOfOneHost d place clock
  pub le : place ≤ clock
  pub none : (b u : ℕ) → place < b → b ≤ clock → HasNode g (nodes.Reading b u) → ⊥

module _ (d : Declaration) (lawful : IsDeclaration d) where
  host_one : (c h i : ℕ) → IsClockOf d.owners h c → IsClockOf d.owners i c → h ≡ i
  host_one c h i one other = sym one.2 ∙ ap (λ (o : Owner). o.host) (same_Some one.0 other.0 (sym one.1 ∙ other.1)) ∙ other.2

  joined : (a b c : ℕ) → AreOfOneHost d a b → AreOfOneHost d b c → AreOfOneHost d a c
  joined a b c first second = (second.0, subst (λ (h : ℕ). IsClockOf d.owners h a) (host_one b first.0 second.0 first.2 second.1) first.1, second.2)

  turned : (a b : ℕ) → AreOfOneHost d a b → AreOfOneHost d b a
  turned a b one = (one.0, one.2, one.1)

  clock_there : (h c : ℕ) → IsClockOf d.owners h c → c < length d.clocks
  clock_there h c own = let inside = slice_get_within d.owners c own.0 own.1 in let long = lawful.clocks.clocks_owned in omega (arith, inside, long)

  of_itself : (c : ℕ) → c < length d.clocks → AreOfOneHost d c c
  of_itself c inside =
      let none : Owner = record { host = 0; gap = 0; offset = pos 0 } in
      let at = slice_get-get_or d.owners c none (let long = lawful.clocks.clocks_owned in omega (arith, inside, long)) in
      ((get_or d.owners c none).host, (get_or d.owners c none, at, refl), (get_or d.owners c none, at, refl))

  -- between two clocks of a host there are clocks of this host alone
  between : (b k c : ℕ) → b ≤ k → k ≤ c → AreOfOneHost d b c → AreOfOneHost d k c
  between b k c low high (h, at_b, at_c) =
      let inside = slice_get_within d.owners c at_c.0 at_c.1 in
      let first : (get_or d.owners b at_b.0).host ≡ h = ap (λ (o : Owner). o.host) (get_or_from_slice_get d.owners b at_b.0 at_b.0 at_b.1) ∙ at_b.2 in
      let last : (get_or d.owners c at_b.0).host ≡ h = ap (λ (o : Owner). o.host) (get_or_from_slice_get d.owners c at_c.0 at_b.0 at_c.1) ∙ at_c.2 in
      let above = ordered b k at_b.0 low (omega (arith, high, inside)) in
      let below = ordered k c at_b.0 high inside in
      (h, (get_or d.owners k at_b.0, slice_get-get_or d.owners k at_b.0 (omega (arith, high, inside)), omega (arith, first, last, above, below)), at_c)
    where
      ordered : (i j : ℕ) (o : Owner) → i ≤ j → j < length d.owners → (get_or d.owners i o).host ≤ (get_or d.owners j o).host
      ordered i j o le inside = elim (cases_lt i j) [
        | inl less ↦ lawful.owners.owners_rise i j o less inside
        | inr past ↦ let same : i ≡ j = omega (arith, le, past) in subst (λ (k : ℕ). (get_or d.owners i o).host ≤ (get_or d.owners k o).host) same (omega arith)
      ]

  after_of : (p : ProblemLists) → p.follows ≡ follows_of d → (b c : ℕ) → b < c → AreOfOneHost d b c → ComesAfter p b c
  after_of p follows b c less one = (comes_exactly d p b c lawful follows).1 (less, one)

  of_after : (p : ProblemLists) → p.follows ≡ follows_of d → (b c : ℕ) → ComesAfter p b c → (b < c) × AreOfOneHost d b c
  of_after p follows b c after = (comes_exactly d p b c lawful follows).0 after

  pub next_there : (clock : ℕ) → AreOfOneHost d clock (clock + 1) → clock + 1 < length d.clocks
  next_there clock one = clock_there one.0 (clock + 1) one.2

  module _ (g : GraphLists) (place : ℕ) where
    pub back_begins : place < length d.clocks → GoesBack d g place place
    back_begins inside = record { same = of_itself place inside; le = omega arith; none = λ b u from to has. absurd (omega (arith, from, to)) }

    pub on_begins : place < length d.clocks → GoesOn d g place place
    on_begins inside = record { same = of_itself place inside; le = omega arith; none = λ b u from to has. absurd (omega (arith, from, to)) }

    goes_one : (clock k : ℕ) → GoesBack d g place clock → clock ≡ k + 1 → AreOfOneHost d k clock → ((u : ℕ) → HasNode g (nodes.Reading k u) → ⊥) → GoesBack d g place k
    goes_one clock k goes is one empty = record {
      same = joined k clock place one goes.same;
      le = (let le = goes.le in omega (arith, le, is));
      none = λ b u from to has. elim (cases_eq b k) [
        | inl same ↦ empty u (subst (λ (n : ℕ). HasNode g (nodes.Reading n u)) same has)
        | inr other ↦ goes.none b u (omega (arith, from, other, is)) to has
      ];
    }

    pub back_goes : (clock : ℕ) → GoesBack d g place clock → (k : ℕ) × (clock ≡ k + 1) × AreOfOneHost d k clock → ((u : ℕ) → HasNode g (nodes.Reading (clock - 1) u) → ⊥) → GoesBack d g place (clock - 1)
    back_goes clock goes (k, is, one) empty =
        let less : k ≡ clock - 1 = omega (arith, is) in
        subst (λ (n : ℕ). GoesBack d g place n) less (goes_one clock k goes is one (subst (λ (n : ℕ). (u : ℕ) → HasNode g (nodes.Reading n u) → ⊥) (sym less) empty))

    pub on_goes : (clock : ℕ) → GoesOn d g place clock → AreOfOneHost d clock (clock + 1) → ((u : ℕ) → HasNode g (nodes.Reading (clock + 1) u) → ⊥) → GoesOn d g place (clock + 1)
    on_goes clock goes one empty = record {
      same = joined place clock (clock + 1) goes.same one;
      le = (let le = goes.le in omega (arith, le));
      none = λ b u from to has. elim (cases_eq b (clock + 1)) [
        | inl same ↦ empty u (subst (λ (n : ℕ). HasNode g (nodes.Reading n u)) same has)
        | inr other ↦ goes.none b u from (omega (arith, to, other)) has
      ];
    }

    module _ (p : ProblemLists) (follows : p.follows ≡ follows_of d) where
      found_one : (clock k s : ℕ) → GoesBack d g place clock → clock ≡ k + 1 → AreOfOneHost d k clock → IsLastNode g k s → IsReadingBefore p g place (Some (k, s))
      found_one clock k s goes is one last = (
        after_of p follows k place (let le = goes.le in omega (arith, le, is)) (joined k clock place one goes.same),
        λ b u after has. (
            let (less, own) = of_after p follows b place after in
            elim (cases_eq b k) [
              | inl same ↦ inl same
              | inr other ↦ elim (cases_lt b clock) [
                | inl under ↦ inr (after_of p follows b k (omega (arith, under, is, other)) (joined b place k own (turned k place (joined k clock place one goes.same))))
                | inr past ↦ absurd (goes.none b u past less has)
              ]
            ]),
        last,
      )

      pub back_found : (clock s : ℕ) → GoesBack d g place clock → (k : ℕ) × (clock ≡ k + 1) × AreOfOneHost d k clock → IsLastNode g (clock - 1) s → IsReadingBefore p g place (Some (clock - 1, s))
      back_found clock s goes (k, is, one) last =
          let less : k ≡ clock - 1 = omega (arith, is) in
          subst (λ (n : ℕ). IsReadingBefore p g place (Some (n, s))) less (found_one clock k s goes is one (subst (λ (n : ℕ). IsLastNode g n s) (sym less) last))

      pub back_ends : (clock : ℕ) → GoesBack d g place clock → ((k : ℕ) → clock ≡ k + 1 → AreOfOneHost d k clock → ⊥) → IsReadingBefore p g place None
      back_ends clock goes stops b u after has =
          let (less, own) = of_after p follows b place after in
          elim (cases_lt b clock) [
            | inl under ↦ down clock refl under
            | inr past ↦ goes.none b u past less has
          ]
        where
          down : (n : ℕ) → clock ≡ n → b < n → ⊥
          down zero is under = absurd (omega (arith, under))
          down (suc k) is under =
              let (less, own) = of_after p follows b place after in
              let whole : AreOfOneHost d b clock = joined b place clock own (turned clock place goes.same) in
              stops k (omega (arith, is)) (between b k clock (omega (arith, under)) (omega (arith, is)) whole)

      pub on_found : (clock t : ℕ) → GoesOn d g place clock → AreOfOneHost d clock (clock + 1) → IsFirstNode g (clock + 1) t → IsReadingAfter p g place (Some (clock + 1, t))
      on_found clock t goes one first = (
        after_of p follows place (clock + 1) (let le = goes.le in omega (arith, le)) (joined place clock (clock + 1) goes.same one),
        λ b u after has. (
            let (less, own) = of_after p follows place b after in
            elim (cases_eq b (clock + 1)) [
              | inl same ↦ inl same
              | inr other ↦ elim (cases_lt (clock + 1) b) [
                | inl over ↦ inr (after_of p follows (clock + 1) b over (joined (clock + 1) place b (turned place (clock + 1) (joined place clock (clock + 1) goes.same one)) own))
                | inr past ↦ absurd (goes.none b u less (omega (arith, past, other)) has)
              ]
            ]),
        first,
      )

      pub on_ends : (clock : ℕ) → GoesOn d g place clock → (AreOfOneHost d clock (clock + 1) → ⊥) → IsReadingAfter p g place None
      on_ends clock goes stops b u after has =
          let (less, own) = of_after p follows place b after in
          elim (cases_lt clock b) [
            | inl over ↦ (
                let whole : AreOfOneHost d clock b = joined clock place b (turned place clock goes.same) own in
                stops (turned (clock + 1) clock (joined (clock + 1) b clock (between clock (clock + 1) b (omega arith) (omega (arith, over)) whole) (turned clock b whole))))
            | inr past ↦ goes.none b u less past has
          ]

-- ---- gaps
-- the gap of a follow is that of the clock that it leads to
pub gap_of_follow : (d : Declaration) (f : Follow) (o : Owner) → Contains (follows_of d) f → slice_get d.owners f.later ≡ Some o → f.gap ≡ o.gap
gap_of_follow d f o among at =
    All-contains (λ (g : Follow). (x : Owner) → slice_get d.owners g.later ≡ Some x → g.gap ≡ x.gap) (follows_of d) f
    (each_follow d (λ (g : Follow). (x : Owner) → slice_get d.owners g.later ≡ Some x → g.gap ≡ x.gap) (λ k g is x at'.
    let later : g.later ≡ k + 1 = ap (λ (v : Follow). v.later) is.is in
    let one : is.next ≡ x = same_Some is.next x (sym is.at_next ∙ ap (slice_get d.owners) (sym later) ∙ at') in
    ap (λ (v : Follow). v.gap) is.is ∙ ap (λ (v : Owner). v.gap) one))
    among o at

pub follow_to : (d : Declaration) (p : ProblemLists) (b c gap : ℕ) → p.follows ≡ follows_of d → ComesAfter p b c → (o : Owner) × (slice_get d.owners c ≡ Some o) × (o.gap ≡ gap) → (f : Follow) × Contains p.follows f × (f.later ≡ c) × (f.gap ≡ gap)
follow_to d p b c gap follows after (o, at, is) =
    let last = by_last p b c after in
    let f = last.0 in
    (f, last.1.0, last.1.1, gap_of_follow d f o (subst (λ (fs : List Follow). Contains fs f) follows last.1.0) (ap (slice_get d.owners) last.1.1 ∙ at) ∙ is)
