-- Events with the first and the last reading of each clock, over one event more at a time.
use Rattle.std.proofs.Common.{◌≡◌, ◌≢◌, ◌<◌, ◌≤◌, ◌+◌, ℕ, List, Bool, length, set, get_or, slice_get, Option, Some, None, All, refl, sym, ◌∙◌, ap, subst, arith, inl, inr}
use Rattle.std.proofs.lemmas.Bool.{cases_eq}
use Rattle.std.specs.Prelude.{Contains}
use Rattle.std.proofs.lemmas.Option.{same_Some, slice_get_within, slice_get-get_or, slice_get_read, get_or_from_slice_get}
use Rattle.std.proofs.lemmas.List.Elements.{All-contains}
use Rattle.problem_model.specs.declared.items.Event.{Event}
use Rattle.thinning.specs.declared.edges.ClockEdges.{ClockEdges}
use Rattle.thinning.specs.Edges.{IsEarlierOf, IsLaterOf, IsFirstOf, IsLastOf, AreEdges, AreEdgesOfClocks, AreEdgesWithin, HasEdgesMarked}
use Rattle.problem_model.specs.declared.items.Follow.{Follow}
use Rattle.problem_model.specs.Problem.{ProblemLists, LeadsOn, IsProblem}
use Rattle.thinning.specs.Staying.{AreKeptMarks, AreAsked}
use Rattle.thinning.specs.Thinned.{IsMarked}
use Rattle.thinning.proofs.Marked.{place_in}
use Rattle.thinning.proofs.Marking.{get_set_same, get_set_other}

-- what is so of the first k and of the next one is so of k + 1
each_with : (P : Event → Type 0) (events : List Event) (k : ℕ) (v : Event) → slice_get events k ≡ Some v → ((j : ℕ) (w : Event) → j < k → slice_get events j ≡ Some w → P w) → P v →
    (j : ℕ) (w : Event) → j < k + 1 → slice_get events j ≡ Some w → P w
each_with P events k v here before also j w below at = elim (cases_eq j k) [
  | inl same ↦ subst P (same_Some v w (sym here ∙ (ap (slice_get events) (sym same) ∙ at))) also
  | inr differ ↦ before j w (omega (arith, below, differ)) at
]

first_with : (events : List Event) (k clock a r : ℕ) (v : Event) → slice_get events k ≡ Some v → v.clock ≡ clock → IsFirstOf events k clock a → IsEarlierOf events a k r → IsFirstOf events (k + 1) clock r
first_with events k clock a r v here on (u, at, is, least) earlier = elim (earlier u v at here) [
  | inl (same, less) ↦ (
    u,
    subst (λ (n : ℕ). slice_get events n ≡ Some u) (sym same) at,
    is,
    λ j w below there of. each_with (λ (w : Event). w.clock ≡ clock → u.stamp ≤ w.stamp) events k v here least (λ of. less) j w below there of,
  )
  | inr (same, less) ↦ (
    v,
    subst (λ (n : ℕ). slice_get events n ≡ Some v) (sym same) here,
    on,
    λ j w below there of. each_with (λ (w : Event). w.clock ≡ clock → v.stamp ≤ w.stamp) events k v here (λ i x under its of. at_most v.stamp u.stamp x.stamp less (least i x under its of)) (λ of. omega arith) j w below there of,
  )
]
  where
    at_most : (a b c : ℕ) → a ≤ b → b ≤ c → a ≤ c
    at_most a b c less more = omega (arith, less, more)

last_with : (events : List Event) (k clock a r : ℕ) (v : Event) → slice_get events k ≡ Some v → v.clock ≡ clock → IsLastOf events k clock a → IsLaterOf events a k r → IsLastOf events (k + 1) clock r
last_with events k clock a r v here on (u, at, is, most) later = elim (later u v at here) [
  | inl (same, less) ↦ (
    u,
    subst (λ (n : ℕ). slice_get events n ≡ Some u) (sym same) at,
    is,
    λ j w below there of. each_with (λ (w : Event). w.clock ≡ clock → w.stamp ≤ u.stamp) events k v here most (λ of. less) j w below there of,
  )
  | inr (same, less) ↦ (
    v,
    subst (λ (n : ℕ). slice_get events n ≡ Some v) (sym same) here,
    on,
    λ j w below there of. each_with (λ (w : Event). w.clock ≡ clock → w.stamp ≤ v.stamp) events k v here (λ i x under its of. at_most x.stamp u.stamp v.stamp (most i x under its of) less) (λ of. omega arith) j w below there of,
  )
]
  where
    at_most : (a b c : ℕ) → a ≤ b → b ≤ c → a ≤ c
    at_most a b c less more = omega (arith, less, more)

-- the edges of a clock with one event of it more
pub edges_with : (events : List Event) (k : ℕ) (o : Option ClockEdges) (e : ClockEdges) (r s : ℕ) → o ≡ Some e → ((v : Event) × (slice_get events k ≡ Some v) × AreEdges events k v.clock o) →
    IsEarlierOf events e.first k r → IsLaterOf events e.last k s → (v : Event) → slice_get events k ≡ Some v → IsFirstOf events (k + 1) v.clock r × IsLastOf events (k + 1) v.clock s
edges_with events k o e r s is (u, there, are) earlier later v here =
    let same : u ≡ v = same_Some u v (sym there ∙ here) in
    let of_v : AreEdges events k v.clock (Some e) = subst (λ (w : Event). AreEdges events k w.clock (Some e)) same (subst (AreEdges events k u.clock) is are) in
    (first_with events k v.clock e.first r v here refl of_v.0 earlier, last_with events k v.clock e.last s v here refl of_v.1 later)

-- those of another clock stay
edges_past : (events : List Event) (k clock : ℕ) (v : Event) (o : Option ClockEdges) → slice_get events k ≡ Some v → v.clock ≢ clock → AreEdges events k clock o → AreEdges events (k + 1) clock o
edges_past events k clock v None here other none = each_with (λ (w : Event). w.clock ≡ clock → ⊥) events k v here none other
edges_past events k clock v (Some e) here other ((u, at, is, least), (w, there, on, most)) = (
  (u, at, is, each_with (λ (w : Event). w.clock ≡ clock → u.stamp ≤ w.stamp) events k v here least (λ of. absurd (other of))),
  (w, there, on, each_with (λ (x : Event). x.clock ≡ clock → x.stamp ≤ w.stamp) events k v here most (λ of. absurd (other of))),
)

-- so with the edges of its own clock set, all are those of one event more
pub edges_more : (events : List Event) (k : ℕ) (v : Event) (edges : List (Option ClockEdges)) (e : ClockEdges) → slice_get events k ≡ Some v → v.clock < length edges → AreEdgesOfClocks events k edges →
    AreEdges events (k + 1) v.clock (Some e) → AreEdgesOfClocks events (k + 1) (set edges v.clock (Some e))
edges_more events k v edges e here inside are also clock o at = elim (cases_eq clock v.clock) [
  | inl same ↦
      (let is : o ≡ Some e = same_Some o (Some e) (sym at ∙ (ap (slice_get (set edges v.clock (Some e))) same ∙ get_set_same edges v.clock (Some e) inside)) in
      subst (λ (n : ℕ). AreEdges events (k + 1) n o) (sym same) (subst (AreEdges events (k + 1) v.clock) (sym is) also))
  | inr differ ↦ edges_past events k clock v o here (λ is. differ (sym is)) (are clock o (sym (get_set_other edges v.clock clock (Some e) differ) ∙ at))
]

-- each is an event
pub edges_within : (events : List Event) (k : ℕ) (edges : List (Option ClockEdges)) → AreEdgesOfClocks events k edges → AreEdgesWithin edges (length events)
edges_within events k edges are clock e at =
    let ((v, there, on, least), (w, here, of, most)) = are clock (Some e) at in
    (slice_get_within events e.first v there, slice_get_within events e.last w here)

-- ---- what follows need
-- the clock has an edge where it has a reading
some_edge : (events : List Event) (edges : List (Option ClockEdges)) (clock j : ℕ) (v : Event) → AreEdgesOfClocks events (length events) edges → clock < length edges → slice_get events j ≡ Some v → v.clock ≡ clock →
    (e : ClockEdges) × (slice_get edges clock ≡ Some (Some e))
some_edge events edges clock j v are inside at on =
    let o = get_or edges clock None in
    let there : slice_get edges clock ≡ Some o = slice_get-get_or edges clock None inside in
    by o there (are clock o there)
  where
    by : (o : Option ClockEdges) → slice_get edges clock ≡ Some o → AreEdges events (length events) clock o → (e : ClockEdges) × (slice_get edges clock ≡ Some (Some e))
    by None there none = absurd (none j v (slice_get_within events j v at) at on)
    by (Some e) there is = (e, there)

pub asked_by : (p : ProblemLists) (places : List ℕ) (edges : List (Option ClockEdges)) (marks : List Bool) → IsProblem p → length marks ≡ length p.events → length edges ≡ length p.clocks →
    AreEdgesOfClocks p.events (length p.events) edges → All (IsMarked marks) places → All (HasEdgesMarked marks edges) p.follows → AreAsked p places marks
asked_by p places edges marks lawful each clocks are asked follows = record {
  each = each;
  asked = asked;
  last = λ f s at reads.
      let (v, inside, on, is) = reads in
      let (j, there) = place_in p.events v inside in
      let (e, edge) = some_edge p.events edges f.earlier j v are (earlier_within f at) there on in
      let (first, last) = are f.earlier (Some e) edge in
      let (w, here, of, most) = last in (
        w.stamp,
        (e.last, w, here, (All-contains (HasEdgesMarked marks edges) p.follows f follows at).0 e edge, of, refl),
        subst (λ (n : ℕ). n ≤ w.stamp) is (most j v (slice_get_within p.events j v there) there on),
      );
  first = λ f t at reads.
      let (v, inside, on, is) = reads in
      let (j, there) = place_in p.events v inside in
      let (e, edge) = some_edge p.events edges f.later j v are (later_within f at) there on in
      let (first, last) = are f.later (Some e) edge in
      let (w, here, of, least) = first in (
        w.stamp,
        (e.first, w, here, (All-contains (HasEdgesMarked marks edges) p.follows f follows at).1 e edge, of, refl),
        subst (λ (n : ℕ). w.stamp ≤ n) is (least j v (slice_get_within p.events j v there) there on),
      );
}
  where
    later_within : (f : Follow) → Contains p.follows f → f.later < length edges
    later_within f at = let (order, within) = All-contains (LeadsOn p.clocks) p.follows f lawful.formed.follow_ends at in omega (arith, within, clocks)

    earlier_within : (f : Follow) → Contains p.follows f → f.earlier < length edges
    earlier_within f at = let (order, within) = All-contains (LeadsOn p.clocks) p.follows f lawful.formed.follow_ends at in omega (arith, order, within, clocks)

-- one follow more has its readings marked
pub follows_more : (marks new : List Bool) (edges : List (Option ClockEdges)) (follows : List Follow) (i : ℕ) (f : Follow) → i < length follows → f ≡ get_or follows i f → AreKeptMarks marks new →
    HasEdgesMarked new edges f → ((j : ℕ) (d : Follow) → j < i → HasEdgesMarked marks edges (get_or follows j d)) → (j : ℕ) (d : Follow) → j < i + 1 → HasEdgesMarked new edges (get_or follows j d)
follows_more marks new edges follows i f inside is kept its before j d below = elim (cases_eq j i) [
  | inl same ↦ subst (HasEdgesMarked new edges) (sym (ap (λ (n : ℕ). get_or follows n d) same ∙ get_or_from_slice_get follows i f d (slice_get_read follows (length follows) i f refl inside is))) its
  | inr differ ↦ (let had = before j d (omega (arith, below, differ)) in ((λ e at. kept e.last (had.0 e at)), (λ e at. kept e.first (had.1 e at))))
]
