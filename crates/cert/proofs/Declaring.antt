-- Which bounds a problem declares.
use Rattle.std.proofs.Common.{◌≡◌, ◌<◌, ◌^◌, ℕ, zero, suc, List, [], ◌∷◌, length, map, get_or, slice_get, Option, Some, None, refl, sym, ◌∙◌, ap, subst, arith, inl, inr}
use Rattle.std.specs.Prelude.{Contains, SomeIff}
use Rattle.std.proofs.lemmas.Bool.{cases_lt}
use Rattle.std.proofs.lemmas.List.Elements.{All-contains}
use Rattle.std.proofs.lemmas.Option.{get_or_from_slice_get}
use Rattle.problem_model.specs.declared.items.Event.{Event}
use Rattle.problem_model.specs.declared.items.Message.{Message}
use Rattle.problem_model.specs.declared.items.Bound.{Bound}
use Rattle.problem_model.specs.declared.items.Bound.TheVariants as bounds
use Rattle.problem_model.specs.Problem.{ProblemLists, IsProblem, EventFits}
use Rattle.problem_model.specs.Bounds.{IsReading, ComesAfter}
use Rattle.problem_model.specs.Nodes.{Reading, AreReadings}
use Rattle.problem_model.proofs.Following.{by_last}
use Rattle.problem.specs.Line.{HasClock, HasEvent, HasMessageAt}
use Rattle.cert.specs.declared.kinds.Extreme.{Extreme}
use Rattle.cert.specs.declared.kinds.Extreme.TheVariants.{Most, Least}
use Rattle.cert.specs.declared.kinds.StampBound.{StampBound}
use Rattle.cert.specs.declared.kinds.StampBound.TheVariants.{Late, Early}
use Rattle.cert.specs.CertificateFormat.{Names, IsDeclared, span_bound, stamp_bound, delay_bound}
use Rattle.cert.specs.CertificateFormat.NamedBound.{Span, Stamp, Follow, Delay}
use Rattle.cert.specs.TakesPart.{HasDelayBound}
use Rattle.cert.proofs.Certificates.{there_is}
use Rattle.cert.proofs.CertGrowing.{clock_one, event_one, event_inside}
use Rattle.cert.proofs.Places.{same_default}

-- ---- spans
pub span_declared : (p : ProblemLists) (e : Extreme) (k s t : ℕ) → k < length p.clocks → IsReading p k s → IsReading p k t → s < t → IsDeclared p (span_bound e k s t)
span_declared p Most k s t inside a b below = let c = there_is p.clocks k inside in (_, (c.0, c.1, a, b, below, refl))
span_declared p Least k s t inside a b below = let c = there_is p.clocks k inside in (_, (c.0, c.1, a, b, below, refl))

pub span_parts : (p : ProblemLists) (e : Extreme) (k s t : ℕ) → IsDeclared p (span_bound e k s t) → IsReading p k s × IsReading p k t × (s < t)
span_parts p Most k s t d = (d.1.2, d.1.3, d.1.4)
span_parts p Least k s t d = (d.1.2, d.1.3, d.1.4)

-- ---- follows
pub follow_declared : (p : ProblemLists) (c s d t : ℕ) → ComesAfter p c d → IsReading p c s → IsReading p d t → IsDeclared p (bounds.Follow c s d t)
follow_declared p c s d t after a b = let last = by_last p c d after in (_, (last.0, last.1.0, last.1.1, after, a, b, refl))

pub follow_parts : (p : ProblemLists) (c s d t : ℕ) → IsDeclared p (bounds.Follow c s d t) → ComesAfter p c d × IsReading p c s × IsReading p d t
follow_parts p c s d t (a, declares) = (declares.3, declares.4, declares.5)

-- ---- readings
pub read_at : (p : ProblemLists) (readings : List Reading) (k m s : ℕ) → AreReadings p readings → slice_get readings m ≡ Some (k, s) → IsReading p k s
read_at p readings k m s are at = are.each k s (contained readings m (k, s) at)
  where
    contained : (rs : List Reading) (m : ℕ) (r : Reading) → slice_get rs m ≡ Some r → Contains rs r
    contained [] m r at = absurd cc
    contained (x ∷ rs) zero r at = (0, omega arith, cc)
    contained (x ∷ rs) (suc m) r at = let c = contained rs m r at in (suc c.0, omega (arith, c.1), c.2)

pub reading_fits : (p : ProblemLists) (k s : ℕ) → IsProblem p → IsReading p k s → s < 2 ^ 62
reading_fits p k s lawful (e, has, clock, stamp) = subst (λ (n : ℕ). n < 2 ^ 62) stamp (All-contains EventFits p.events e lawful.fits.events_fit has).0

pub stamp_is : (n : Option ℕ) (m x : ℕ) → n ≡ Some x → SomeIff n (m < 2 ^ 62) m → m ≡ x
stamp_is None m x is held = absurd cc
stamp_is (Some y) m x is held = let same : y ≡ x = cc in sym held.1 ∙ same

module _ (p : ProblemLists) (lawful : IsProblem p) where
  pub span_named : (e : Extreme) (clock : List ℕ) (k x y s t : ℕ) (b : Bound) → HasClock p k clock → x ≡ s → y ≡ t → b ≡ span_bound e k s t → Names p (Span e clock x y) b
  span_named e clock k x y s t b at sx ty is = (k, at, is ∙ ap (λ (u : ℕ). span_bound e k u t) (sym sx) ∙ ap (λ (u : ℕ). span_bound e k x u) (sym ty))

  -- a declared bound of these names is the bound at the clock's place
  pub span_as : (e : Extreme) (clock : List ℕ) (k x y : ℕ) (b : Bound) → HasClock p k clock → Names p (Span e clock x y) b → IsDeclared p b → IsDeclared p (span_bound e k x y)
  span_as e clock k x y b at named declared =
      subst (IsDeclared p) (named.2 ∙ ap (λ (j : ℕ). span_bound e j x y) (clock_one p lawful named.0 k clock named.1 at)) declared

  pub span_reads : (e : Extreme) (clock : List ℕ) (x y : ℕ) (b : Bound) → Names p (Span e clock x y) b → IsDeclared p b → (x < 2 ^ 62) × (y < 2 ^ 62)
  span_reads e clock x y b named declared =
      let parts = span_parts p e named.0 x y (subst (IsDeclared p) named.2 declared) in
      (reading_fits p named.0 x lawful parts.0, reading_fits p named.0 y lawful parts.1)

  pub span_not : (e : Extreme) (clock : List ℕ) (k x y s t : ℕ) (b : Bound) → HasClock p k clock → x ≡ s → y ≡ t → (IsDeclared p (span_bound e k s t) → ⊥) → Names p (Span e clock x y) b → IsDeclared p b → ⊥
  span_not e clock k x y s t b at sx ty none named declared =
      none (subst (λ (u : ℕ). IsDeclared p (span_bound e k s u)) ty (subst (λ (u : ℕ). IsDeclared p (span_bound e k u y)) sx (span_as e clock k x y b at named declared)))

  -- ---- follows
  pub follow_named : (earlier later : List ℕ) (j k x y s t : ℕ) (b : Bound) → HasClock p j earlier → HasClock p k later → x ≡ s → y ≡ t → b ≡ bounds.Follow j s k t → Names p (Follow earlier x later y) b
  follow_named earlier later j k x y s t b at at' sx ty is = (j, k, at, at', is ∙ ap (λ (u : ℕ). bounds.Follow j u k t) (sym sx) ∙ ap (λ (u : ℕ). bounds.Follow j x k u) (sym ty))

  -- a declared bound of these names is the bound at the clocks' places
  pub follow_as : (earlier later : List ℕ) (j k x y : ℕ) (b : Bound) → HasClock p j earlier → HasClock p k later → Names p (Follow earlier x later y) b → IsDeclared p b → IsDeclared p (bounds.Follow j x k y)
  follow_as earlier later j k x y b at at' named declared =
      let one = clock_one p lawful named.0 j earlier named.2 at in
      let two = clock_one p lawful named.1 k later named.3 at' in
      subst (IsDeclared p) (named.4 ∙ ap (λ (i : ℕ). bounds.Follow i x named.1 y) one ∙ ap (λ (i : ℕ). bounds.Follow j x i y) two) declared

  pub follow_reads : (earlier later : List ℕ) (x y : ℕ) (b : Bound) → Names p (Follow earlier x later y) b → IsDeclared p b → (x < 2 ^ 62) × (y < 2 ^ 62)
  follow_reads earlier later x y b named declared =
      let parts = follow_parts p named.0 x named.1 y (subst (IsDeclared p) named.4 declared) in
      (reading_fits p named.0 x lawful parts.1, reading_fits p named.1 y lawful parts.2)

  pub follow_not : (earlier later : List ℕ) (j k x y s t : ℕ) (b : Bound) → HasClock p j earlier → HasClock p k later → x ≡ s → y ≡ t → (IsDeclared p (bounds.Follow j s k t) → ⊥)
      → Names p (Follow earlier x later y) b → IsDeclared p b → ⊥
  follow_not earlier later j k x y s t b at at' sx ty none named declared =
      none (subst (λ (u : ℕ). IsDeclared p (bounds.Follow j s k u)) ty (subst (λ (u : ℕ). IsDeclared p (bounds.Follow j u k y)) sx (follow_as earlier later j k x y b at at' named declared)))

  -- ---- stamps
  pub stamp_declared : (kind : StampBound) (k : ℕ) → k < length p.events → IsDeclared p (stamp_bound kind k)
  stamp_declared kind k inside =
      let event = there_is p.events k inside in
      let known : event.0.clock < length p.clocks = subst (λ (v : Event). v.clock < length p.clocks) (get_or_from_slice_get p.events k event.0 event.0 event.1) (lawful.formed.event_clocks k event.0 inside) in
      let clock = there_is p.clocks event.0.clock known in
      both kind event.0 clock.0 event.1 clock.1
    where
      both : (kind : StampBound) (v : Event) (c : _) → slice_get p.events k ≡ Some v → slice_get p.clocks v.clock ≡ Some c → IsDeclared p (stamp_bound kind k)
      both Late v c at at' = (_, (v, c, at, at', refl))
      both Early v c at at' = (_, (v, c, at, at', refl))

  pub stamp_found : (kind : StampBound) (name : List ℕ) (k : ℕ) (b : Bound) → HasEvent p k name → b ≡ stamp_bound kind k → Names p (Stamp kind name) b × IsDeclared p b
  stamp_found kind name k b at is = ((k, at, is), subst (IsDeclared p) (sym is) (stamp_declared kind k (event_inside p.events k name at)))

  -- ---- delays
  abbrev pair_of : Message → ℕ × ℕ
  pair_of m = (m.send, m.receive)

  first_of : ℕ × ℕ → ℕ
  first_of x = x.0

  second_of : ℕ × ℕ → ℕ
  second_of x = x.1

  some_pair : (a b c d : ℕ) → (let x : Option (ℕ × ℕ) = Some (a, b) in x) ≡ Some (c, d) → (a ≡ c) × (b ≡ d)
  unfolding first_of second_of
  some_pair a b c d is = let e : (let x : ℕ × ℕ = (a, b) in x) ≡ (c, d) = cc in (ap first_of e, ap second_of e)

  pair_at : (ms : List Message) (k s r : ℕ) (d : Message) → slice_get {X = ℕ × ℕ} (map pair_of ms) k ≡ Some (s, r) → (k < length ms) × ((get_or ms k d).send ≡ s) × ((get_or ms k d).receive ≡ r)
  pair_at [] k s r d at = absurd cc
  pair_at (m ∷ ms) zero s r d at = let e = some_pair m.send m.receive s r at in (omega arith, e.0, e.1)
  pair_at (m ∷ ms) (suc k) s r d at = let e = pair_at ms k s r d at in (omega (arith, e.0), e.1, e.2)

  pub message_at : (k s r : ℕ) (d : Message) → HasMessageAt p k s r → (k < length p.messages) × ((get_or p.messages k d).send ≡ s) × ((get_or p.messages k d).receive ≡ r)
  message_at k s r d at = pair_at p.messages k s r d at

  at_pair : (ms : List Message) (k : ℕ) (m : Message) → k < length ms → get_or ms k m ≡ m → slice_get {X = ℕ × ℕ} (map pair_of ms) k ≡ Some (m.send, m.receive)
  at_pair [] k m inside is = absurd (omega (arith, inside))
  at_pair (x ∷ ms) zero m inside is = ap (λ (y : Message). Some (y.send, y.receive)) is
  at_pair (x ∷ ms) (suc k) m inside is = at_pair ms k m (omega (arith, inside)) is

  pub message_has : (m : Message) (s r : ℕ) → Contains p.messages m → m.send ≡ s → m.receive ≡ r → (k : ℕ) × HasMessageAt p k s r
  message_has m s r has send receive = (has.0, rw (← send, ← receive) (at_pair p.messages has.0 m has.1 has.2))

  -- messages of one pair of events stand at one place
  pair_one : (i j : ℕ) (d : Message) → i < length p.messages → j < length p.messages → (get_or p.messages i d).send ≡ (get_or p.messages j d).send → (get_or p.messages i d).receive ≡ (get_or p.messages j d).receive → i ≡ j
  pair_one i j d a b send receive =
      elim (cases_lt i j) [
        | inl lt ↦ absurd (lawful.formed.messages_differ i j d lt b send receive)
        | inr le ↦ elim (cases_lt j i) [
          | inl lt ↦ absurd (lawful.formed.messages_differ j i d lt a (sym send) (sym receive))
          | inr le' ↦ omega (arith, le, le')
        ]
      ]

  pub message_same : (k s r : ℕ) (m n : Message) → HasMessageAt p k s r → m ≡ get_or p.messages k m → Contains p.messages n → n.send ≡ s → n.receive ≡ r → m ≡ n
  message_same k s r m n at is has send receive =
      let a = message_at k s r n at in
      let there = has.2 in
      let one = pair_one k has.0 n a.0 has.1 (a.1 ∙ sym send ∙ ap (λ (x : Message). x.send) (sym there)) (a.2 ∙ sym receive ∙ ap (λ (x : Message). x.receive) (sym there)) in
      is ∙ same_default p.messages k n m a.0 ∙ ap (λ (i : ℕ). get_or p.messages i n) one ∙ there

  message_none : Message
  message_none = record { send = 0; receive = 0; least = 0; most = None }

  pub message_inside : (k s r : ℕ) → HasMessageAt p k s r → k < length p.messages
  message_inside k s r at = (message_at k s r message_none at).0

  pub delay_declared : (e : Extreme) (k s r : ℕ) (m : Message) → HasMessageAt p k s r → m ≡ get_or p.messages k m → HasDelayBound e m → IsDeclared p (delay_bound e s r)
  delay_declared Most k s r m at is most =
      let a = message_at k s r m at in
      (_, (m, most.0, (k, a.0, sym is), ap (λ (x : Message). x.send) is ∙ a.1, ap (λ (x : Message). x.receive) is ∙ a.2, most.1, refl))
  delay_declared Least k s r m at is most =
      let a = message_at k s r m at in
      (_, (m, (k, a.0, sym is), ap (λ (x : Message). x.send) is ∙ a.1, ap (λ (x : Message). x.receive) is ∙ a.2, refl))

  pub delay_place : (e : Extreme) (s r : ℕ) → IsDeclared p (delay_bound e s r) → (k : ℕ) × HasMessageAt p k s r
  delay_place Most s r (c, d) = message_has d.0 s r d.2 d.3 d.4
  delay_place Least s r (c, d) = message_has d.0 s r d.1 d.2 d.3

  pub delay_has : (e : Extreme) (k s r : ℕ) (m : Message) → HasMessageAt p k s r → m ≡ get_or p.messages k m → IsDeclared p (delay_bound e s r) → HasDelayBound e m
  delay_has Most k s r m at is (c, d) =
      let same = message_same k s r m d.0 at is d.2 d.3 d.4 in
      (d.1, ap (λ (x : Message). x.most) same ∙ d.5)
  delay_has Least k s r m at is d = tt

  pub delay_not : (e : Extreme) (send receive : List ℕ) (s r : ℕ) (b : Bound) → HasEvent p s send → HasEvent p r receive → (IsDeclared p (delay_bound e s r) → ⊥) → Names p (Delay e send receive) b → IsDeclared p b → ⊥
  delay_not e send receive s r b at at' none named declared =
      let one = event_one p lawful named.0 s send named.2 at in
      let two = event_one p lawful named.1 r receive named.3 at' in
      none (subst (IsDeclared p) (named.4 ∙ ap (λ (j : ℕ). delay_bound e j named.1) one ∙ ap (λ (k : ℕ). delay_bound e s k) two) declared)
