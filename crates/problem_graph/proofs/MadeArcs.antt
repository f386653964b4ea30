-- Arcs that are made of one thing of a problem.
use Rattle.std.proofs.Common.{◌≡◌, ◌<◌, ◌-◌, ◌*◌, ◌^◌, ℕ, List, [], ◌∷◌, ◌++◌, length, slice_get, Option, Some, None, refl, sym, ◌∙◌, ap, subst, arith}
use Rattle.std.specs.Prelude.{ℤ, pos, neg_ℤ, ◌<ℤ◌, All, Contains}
use Rattle.std.proofs.lemmas.Int.{ints}
use Rattle.std.proofs.lemmas.List.{length-map, map-append}
use Rattle.std.proofs.lemmas.List.Elements.{All-append, All-nil, All-cons, All-head, All-tail}
use Rattle.std.proofs.lemmas.Option.{slice_get_within}
use Rattle.atto.specs.Span.{most_of, least_of}
use Rattle.problem_model.specs.declared.items.Clock.{Clock}
use Rattle.problem_model.specs.declared.items.Event.{Event}
use Rattle.problem_model.specs.declared.items.StampBounds.{StampBounds}
use Rattle.problem_model.specs.declared.items.Message.{Message}
use Rattle.problem_model.specs.declared.items.Node.{Node}
use Rattle.problem_model.specs.declared.items.Node.TheVariants as nodes
use Rattle.problem_model.specs.declared.items.Bound.{Bound}
use Rattle.problem_model.specs.declared.items.Bound.TheVariants.{SpanMost, SpanLeast, Late, Early, Follow, DelayMost, DelayLeast}
use Rattle.problem_model.specs.Problem.{ProblemLists}
use Rattle.problem_model.specs.Bounds.{Declares, ClockAt, EventAt, IsReading, early_by, late_by}
use Rattle.problem_model.specs.ShortList.{most_bound, message_bounds}
use Rattle.problem.specs.Nearest.{gap_between}
use Rattle.sync_graph.specs.declared.arc.Arc.{Arc}
use Rattle.sync_graph.specs.Names.{JoinsNodes}
use Rattle.problem_graph.specs.declared.arcs.Arcs.{Arcs}
use Rattle.problem_graph.specs.declared.arcs.Arcs.TheVariants.{One, Two}
use Rattle.problem_graph.specs.BoundArcs.{arcs_in, names_of, FitsNodes, IsBoundAmong, HaveNumbers, AreArcsOf}

-- ---- arcs in a row
pub arcs_then : (N : List Node → Type 0) (H : ProblemLists → Type 0) (xs ys : List Bound) (xa xb : List Arc) → AreArcsOf xs N H xa → AreArcsOf ys N H xb → AreArcsOf (xs ++ ys) N H (xa ++ xb)
arcs_then N H xs ys xa xb one two = record {
  named = map-append (λ (a : Arc). a.name) xa xb ∙ ap (λ (v : List Bound). v ++ names_of xb) one.named ∙ ap (λ (v : List Bound). xs ++ v) two.named;
  fit = λ all is. All-append (FitsNodes all) xa xb (one.fit all is) (two.fit all is);
  declared = λ p all is has. All-append (IsBoundAmong p all) xa xb (one.declared p all is has) (two.declared p all is has);
}

pub as_many : {N : List Node → Type 0} {H : ProblemLists → Type 0} {bounds : List Bound} {arcs : List Arc} → AreArcsOf bounds N H arcs → length arcs ≡ length bounds
as_many {arcs = arcs} are = sym (length-map arcs (λ (a : Arc). a.name)) ∙ ap length are.named

-- ---- what holds of each
module _ (P : Arc → Type 0) (arcs : Arcs) (each : All P (arcs_in arcs)) where
  pub of_one : (a : Arc) → arcs ≡ One a → P a
  of_one a is = All-head P a [] (subst (λ (x : Arcs). All P (arcs_in x)) is each)

  pub of_first : (a b : Arc) → arcs ≡ Two a b → P a
  of_first a b is = All-head P a (b ∷ []) (subst (λ (x : Arcs). All P (arcs_in x)) is each)

  pub of_second : (a b : Arc) → arcs ≡ Two a b → P b
  of_second a b is = All-head P b [] (All-tail P a (b ∷ []) (subst (λ (x : Arcs). All P (arcs_in x)) is each))

-- ---- one arc
-- an arc from a node to another, each with its number
module _ (a : Arc) (m n : Node) (joins : JoinsNodes a.name m n) (low : neg_ℤ (pos (2 ^ 93)) <ℤ a.weight) (high : a.weight <ℤ pos (2 ^ 93)) where
  fits_at : (all : List Node) → slice_get all a.from ≡ Some m → slice_get all a.to ≡ Some n → FitsNodes all a
  fits_at all tail head = record {
    sound = record { from = slice_get_within all a.from m tail; to = slice_get_within all a.to n head; low = low; high = high };
    named = record { tail = m; head = n; from = tail; to = head; joins = joins };
  }

  -- of each problem that has the thing it is the bound
  module _ (H : ProblemLists → Type 0) (declares : (p : ProblemLists) → H p → Declares p a.name (record { from = m; to = n; weight = a.weight })) where
    pub onward : AreArcsOf (a.name ∷ []) (HaveNumbers a.from m a.to n) H (a ∷ [])
    onward = record {
      named = refl;
      fit = λ all is. All-cons (FitsNodes all) a [] (fits_at all is.0 is.1) (All-nil (FitsNodes all));
      declared = λ p all is has. All-cons (IsBoundAmong p all) a [] (record { from = m; to = n; weight = a.weight }, declares p has, is.0, is.1, refl) (All-nil (IsBoundAmong p all));
    }

    pub back : AreArcsOf (a.name ∷ []) (HaveNumbers a.to n a.from m) H (a ∷ [])
    back = record {
      named = refl;
      fit = λ all is. All-cons (FitsNodes all) a [] (fits_at all is.1 is.0) (All-nil (FitsNodes all));
      declared = λ p all is has. All-cons (IsBoundAmong p all) a [] (record { from = m; to = n; weight = a.weight }, declares p has, is.1, is.0, refl) (All-nil (IsBoundAmong p all));
    }

-- ---- a span of a clock
module _ (place s t j k : ℕ) (c : Clock) (rising : s < t) (w w' : ℤ) (is : w ≡ pos (most_of c.rate (t - s))) (is' : w' ≡ neg_ℤ (pos (least_of c.rate (t - s))))
    (few : most_of c.rate (t - s) < 2 ^ 93) (few' : least_of c.rate (t - s) < 2 ^ 93)
  where
    abbrev most : Arc
    most = record { from = j; to = k; weight = w; name = SpanMost place s t }

    abbrev least : Arc
    least = record { from = k; to = j; weight = w'; name = SpanLeast place s t }

    abbrev HasSpan : ProblemLists → Type 0
    HasSpan p = ClockAt p place c × IsReading p place s × IsReading p place t

    pub span_are : AreArcsOf (SpanMost place s t ∷ SpanLeast place s t ∷ []) (HaveNumbers j (nodes.Reading place s) k (nodes.Reading place t)) HasSpan
        (record { from = j; to = k; weight = w; name = SpanMost place s t } ∷ record { from = k; to = j; weight = w'; name = SpanLeast place s t } ∷ [])
    span_are =
        let m : Node = nodes.Reading place s in
        let n : Node = nodes.Reading place t in
        arcs_then (HaveNumbers j m k n) HasSpan (SpanMost place s t ∷ []) (SpanLeast place s t ∷ []) (most ∷ []) (least ∷ [])
        (onward most m n (refl, refl) (omega (arith, ints, is)) (omega (arith, ints, is, few)) HasSpan
        (λ p (at, of_s, of_t). (c, at, of_s, of_t, rising, ap (λ (v : ℤ). record { from = m; to = n; weight = v }) is)))
        (back least n m (refl, refl) (omega (arith, ints, is', few')) (omega (arith, ints, is')) HasSpan
        (λ p (at, of_s, of_t). (c, at, of_s, of_t, rising, ap (λ (v : ℤ). record { from = n; to = m; weight = v }) is')))

-- ---- the stamp of an event
module _ (e place stamp j k : ℕ) (c : Clock) (own : Option StampBounds) (w w' : ℤ) (is : w ≡ pos (late_by c own * 1000000000)) (is' : w' ≡ pos (early_by c own * 1000000000))
    (few : late_by c own * 1000000000 < 2 ^ 92) (few' : early_by c own * 1000000000 < 2 ^ 92)
  where
    abbrev late : Arc
    late = record { from = j; to = k; weight = w; name = Late e }

    abbrev early : Arc
    early = record { from = k; to = j; weight = w'; name = Early e }

    abbrev HasStamped : ProblemLists → Type 0
    HasStamped p = (v : Event) × EventAt p e v × (v.clock ≡ place) × (v.stamp ≡ stamp) × (v.bounds ≡ own) × ClockAt p place c

    -- the reading of the event is this one
    at : (v : Event) → v.clock ≡ place → v.stamp ≡ stamp → nodes.Reading v.clock v.stamp ≡ nodes.Reading place stamp
    at v on reads = ap (λ (m : ℕ). nodes.Reading m v.stamp) on ∙ ap (λ (m : ℕ). nodes.Reading place m) reads

    pub stamp_are : AreArcsOf (Late e ∷ Early e ∷ []) (HaveNumbers j (nodes.Reading place stamp) k (nodes.Event e)) HasStamped
        (record { from = j; to = k; weight = w; name = Late e } ∷ record { from = k; to = j; weight = w'; name = Early e } ∷ [])
    stamp_are =
        let m : Node = nodes.Reading place stamp in
        let n : Node = nodes.Event e in
        arcs_then (HaveNumbers j m k n) HasStamped (Late e ∷ []) (Early e ∷ []) (late ∷ []) (early ∷ [])
        (onward late m n (place, stamp, refl, refl) (omega (arith, ints, is)) (omega (arith, ints, is, few)) HasStamped
        (λ p (v, event, on, reads, bounded, clock). (
          v,
          c,
          event,
          subst (λ (d : ℕ). ClockAt p d c) (sym on) clock,
          ap (λ (r : Node). record { from = r; to = n; weight = w }) (sym (at v on reads)) ∙ ap (λ (x : ℤ). record { from = nodes.Reading v.clock v.stamp; to = n; weight = x }) (is ∙ ap (λ (o : Option StampBounds). pos (late_by c o * 1000000000)) (sym bounded)),
        )))
        (back early n m (place, stamp, refl, refl) (omega (arith, ints, is')) (omega (arith, ints, is', few')) HasStamped
        (λ p (v, event, on, reads, bounded, clock). (
          v,
          c,
          event,
          subst (λ (d : ℕ). ClockAt p d c) (sym on) clock,
          ap (λ (r : Node). record { from = n; to = r; weight = w' }) (sym (at v on reads)) ∙ ap (λ (x : ℤ). record { from = n; to = nodes.Reading v.clock v.stamp; weight = x }) (is' ∙ ap (λ (o : Option StampBounds). pos (early_by c o * 1000000000)) (sym bounded)),
        )))

-- ---- a follow
pub follow_are : (c s d t gap j k : ℕ) (w : ℤ) → w ≡ neg_ℤ (pos (gap * 1000000000)) → gap * 1000000000 < 2 ^ 92
    → AreArcsOf (Follow c s d t ∷ []) (HaveNumbers j (nodes.Reading c s) k (nodes.Reading d t)) (λ p. Declares p (Follow c s d t) (gap_between c s d t gap))
    (record { from = k; to = j; weight = w; name = Follow c s d t } ∷ [])
follow_are c s d t gap j k w is few =
    let m : Node = nodes.Reading c s in
    let n : Node = nodes.Reading d t in
    back (record { from = k; to = j; weight = w; name = Follow c s d t }) n m (refl, refl) (omega (arith, ints, is, few)) (omega (arith, ints, is)) (λ p. Declares p (Follow c s d t) (gap_between c s d t gap))
    (λ p declares. subst (λ (v : ℤ). Declares p (Follow c s d t) (record { from = n; to = m; weight = v })) (sym is) declares)

-- ---- a message
module _ (m : Message) (j k : ℕ) where
  abbrev HasMessage : ProblemLists → Type 0
  HasMessage p = Contains p.messages m

  abbrev HaveEnds : List Node → Type 0
  HaveEnds = HaveNumbers j (nodes.Event m.send) k (nodes.Event m.receive)

  pub least_are : (w : ℤ) → w ≡ neg_ℤ (pos (m.least * 1000000000)) → m.least * 1000000000 < 2 ^ 92
      → AreArcsOf (DelayLeast m.send m.receive ∷ []) (HaveNumbers j (nodes.Event m.send) k (nodes.Event m.receive)) (λ p. Contains p.messages m)
      (record { from = k; to = j; weight = w; name = DelayLeast m.send m.receive } ∷ [])
  least_are w is few =
      back (record { from = k; to = j; weight = w; name = DelayLeast m.send m.receive }) (nodes.Event m.receive) (nodes.Event m.send) (refl, refl) (omega (arith, ints, is, few)) (omega (arith, ints, is)) HasMessage
      (λ p has. (m, has, refl, refl, ap (λ (v : ℤ). record { from = nodes.Event m.receive; to = nodes.Event m.send; weight = v }) is))

  -- alone, or behind the arc of the greatest delay
  module _ (least : Arc) (are : AreArcsOf (DelayLeast m.send m.receive ∷ []) (HaveNumbers j (nodes.Event m.send) k (nodes.Event m.receive)) (λ p. Contains p.messages m) (least ∷ [])) where
    pub least_alone : m.most ≡ None → AreArcsOf (message_bounds m) (HaveNumbers j (nodes.Event m.send) k (nodes.Event m.receive)) (λ p. Contains p.messages m) (least ∷ [])
    least_alone none = subst (λ (o : Option ℕ). AreArcsOf (most_bound m o ++ DelayLeast m.send m.receive ∷ []) HaveEnds HasMessage (least ∷ [])) (sym none) are

    pub both_are : (most : ℕ) (w : ℤ) → m.most ≡ Some most → w ≡ pos (most * 1000000000) → most * 1000000000 < 2 ^ 92
        → AreArcsOf (message_bounds m) (HaveNumbers j (nodes.Event m.send) k (nodes.Event m.receive)) (λ p. Contains p.messages m)
        (record { from = j; to = k; weight = w; name = DelayMost m.send m.receive } ∷ least ∷ [])
    both_are most w there is few =
        let first : Arc = record { from = j; to = k; weight = w; name = DelayMost m.send m.receive } in
        subst (λ (o : Option ℕ). AreArcsOf (most_bound m o ++ DelayLeast m.send m.receive ∷ []) HaveEnds HasMessage (first ∷ least ∷ [])) (sym there)
        (arcs_then HaveEnds HasMessage (DelayMost m.send m.receive ∷ []) (DelayLeast m.send m.receive ∷ []) (first ∷ []) (least ∷ [])
        (onward first (nodes.Event m.send) (nodes.Event m.receive) (refl, refl) (omega (arith, ints, is)) (omega (arith, ints, is, few)) HasMessage
        (λ p has. (m, most, has, refl, refl, there, ap (λ (v : ℤ). record { from = nodes.Event m.send; to = nodes.Event m.receive; weight = v }) is)))
        are)
