-- Events that are accepted under a label.
use Rattle.std.proofs.Common.{◌≡◌, ◌≢◌, ◌⊎◌, inl, inr, ℕ, ◌+◌, ◌-◌, ◌*◌, ◌<◌, ◌≤◌, List, ◌++◌, length, map, slice_get, slice_set, Option, Some, None, Bool, true, false, nat_le, option_map, refl, sym, ◌∙◌, ap, subst, arith, MatchBool, length-set, Vec}
use Rattle.std.specs.Prelude.{IsSome}
use Rattle.std.specs.Vec.{with_items}
use Rattle.std.proofs.lemmas.List.{length-map, with_items_is}
use Rattle.std.proofs.lemmas.Option.{slice_get-map}
use Rattle.std.proofs.Math.Seq.{map-set}
use Rattle.problem_model.specs.Problem.{ProblemLists}
use Rattle.problem_model.specs.Limits.{most_events}
use Rattle.decl.specs.declared.items.Label.{Label}
use Rattle.decl.specs.Declaration.{Declaration}
use Rattle.traces.specs.declared.event.Event.{Event}
use Rattle.traces.specs.Seen.{Seen, seen_event, seen_events}
use Rattle.traces.specs.declared.accepted.Accepted.{Accepted}
use Rattle.traces.specs.declared.event_id.EventId.{EventId}
use Rattle.solver.specs.Solver.{SolverLists}
use Rattle.solver.specs.Solution.{IsSolutionBy}
use Rattle.roster.specs.Roster.{listed}
use Rattle.traces.specs.declared.accepted.Stream.{Stream}
use Rattle.traces.specs.Held.{seen_in}
use Rattle.traces.specs.Traces.{Trace, bytes_accepted, seen_of, seen_by, IsOfKind, event_count, events_of}
use Rattle.traces.specs.Messages.{messages_of, missing, problem_of, problem_of_seen}
use Rattle.msg_match.specs.declared.changes.Changed.{Changed}
use Rattle.session_answers.specs.declared.answers.Answers.{Answers}
use Rattle.msg_match.specs.Ends.{IsChange}
use Rattle.queries.specs.Consistent.{IsConsistent}
use Rattle.replies.specs.declared.outcome.Added.{Added}
use Rattle.replies.specs.declared.outcome.Aside.{Aside}
use Rattle.replies.specs.declared.refusal.Refusal.TheVariants.{TooManyEvents}
use Rattle.replies.specs.Refusals.{refusal_line}
use Rattle.replies.specs.Reply.{State, IsAdded, added_line, count_by, messages_by, aside_of, AreKept}
use Rattle.session.specs.Stands.{Held, Under, IsHeldInSession, IsKeptUp, StandsFor, held_parts, under_of, problem_held, seen_held, solver_of, aside_in, IsStreamOf}
use Rattle.session_answers.specs.Ready.{KeepsSource, AreAnswersOf, declared}
use Rattle.session.specs.Inside.{AcceptAnswered, HasPlace, IsStreamWithin, IsAddedTo, IsGrownAt, IsGrownTrace, grown_under}
use Rattle.session_answers.specs.Keeping.{BringsEvents}
use Rattle.session_answers.proofs.RosterEvents.{came_count}
use Rattle.replies.proofs.KeptEvents.{kept_grown}
use Rattle.session.proofs.Telling.{Told}
use Rattle.session.proofs.Standby.{ready_of}
use Rattle.session.proofs.Holding.{IsWithinLimits, held_by, accepted_few, held_same, count_grown, held_grown, room_by, room_few, seen_accepted}
use Rattle.replies.proofs.Elements.{some_same, there_some, set_or_same}
use Rattle.replies.proofs.SeenUnder.{seen_at, seen_set}

pub choose : (b b' : Bool) (P Q : Type 0) → b ≡ b' → MatchBool b' P Q → MatchBool b P Q
choose b b' P Q e m = rw e m

-- what was added, by its parts
abbrev added : ℕ → ℕ → ℕ → Aside → Bool → Added
added events messages withdrawn aside consistent = record { events = events; messages = messages; withdrawn = withdrawn; aside = aside; consistent = consistent }

-- ---- a trace that grew
module _ (held : Held) (d : Declaration) (s : State) (k : ℕ) (label : Label) (old new : Trace) (events : List Seen) (size : ℕ) (stream : Stream) (stands : StandsFor held d s) (at_label : slice_get d.labels k ≡ Some label)
    (at_old : slice_get s.traces k ≡ Some old) (g : IsGrownTrace d label label.kind old new events size stream) where
  events_are : (u : Under) → slice_get held.under k ≡ Some u → u.events ≡ seen_of d label old
  events_are u was =
      let had : slice_get (seen_held held.under) k ≡ Some u.events = slice_get-map (λ (x : Under). x.events) held.under k ∙ ap (option_map (λ (x : Under). x.events)) was in
      let also : slice_get (seen_held held.under) k ≡ Some (seen_of d label old) = ap (λ (x : List (List Seen)). slice_get x k) stands.events ∙ seen_at d d.labels s.traces k label old at_label at_old in
      some_same u.events (seen_of d label old) (sym had ∙ also)

  size_is : (u : Under) → slice_get held.under k ≡ Some u → u.size ≡ bytes_accepted old
  size_is u was =
      let f = λ (x : Under). x.size in
      let had : slice_get (map f held.under) k ≡ Some u.size = slice_get-map f held.under k ∙ ap (option_map f) was in
      let also : slice_get (map f held.under) k ≡ Some (bytes_accepted old) = ap (λ (x : List ℕ). slice_get x k) stands.sizes ∙ slice_get-map bytes_accepted s.traces k ∙ ap (option_map bytes_accepted) at_old in
      some_same u.size (bytes_accepted old) (sym had ∙ also)

  seen_then : (u : Under) → slice_get held.under k ≡ Some u → seen_by d (slice_set s.traces k new) ≡ seen_held (slice_set held.under k (grown_under u events size stream))
  seen_then u was =
      seen_set d d.labels s.traces k label new at_label
      ∙ ap (λ (x : List Seen). slice_set (seen_by d s.traces) k x) (g.events ∙ ap (λ (x : List Seen). x ++ events) (sym (events_are u was)))
      ∙ ap (λ (x : List (List Seen)). slice_set x k (u.events ++ events)) (sym stands.events)
      ∙ sym (map-set (λ (x : Under). x.events) held.under k (grown_under u events size stream))

  sizes_then : (u : Under) → slice_get held.under k ≡ Some u → map (λ (x : Under). x.size) (slice_set held.under k (grown_under u events size stream)) ≡ map bytes_accepted (slice_set s.traces k new)
  sizes_then u was =
      let f = λ (x : Under). x.size in
      map-set f held.under k (grown_under u events size stream)
      ∙ ap (λ (x : List ℕ). slice_set x k (u.size + size)) stands.sizes
      ∙ ap (λ (n : ℕ). slice_set (map bytes_accepted s.traces) k n) (ap (λ (n : ℕ). n + size) (size_is u was) ∙ sym g.size)
      ∙ sym (map-set bytes_accepted s.traces k new)

  count_then : k < length held.under → count_by d (slice_set s.traces k new) ≡ event_count (seen_held held.under) + length events
  count_then inside =
      let u = there_some held.under k inside in
      ap event_count (seen_then u.0 u.1) ∙ count_grown held.under k u.0 events size stream u.1

  room_is : (b : Bool) → k < length held.under → nat_le (event_count (seen_held held.under) + length events) (most_events) ≡ b → nat_le (count_by d (slice_set s.traces k new)) (most_events) ≡ b
  room_is b inside room = ap (λ (n : ℕ). nat_le n (most_events)) (count_then inside) ∙ room

  more_is : k < length held.under → length events ≡ count_by d (slice_set s.traces k new) - count_by d s.traces
  more_is inside =
      let before : event_count (seen_held held.under) ≡ count_by d s.traces = ap event_count stands.events in
      let after = count_then inside in
      omega (arith, before, after)

  kind_of : (j : ℕ) (l : Label) (t : Trace) → slice_get d.labels j ≡ Some l → ((j ≡ k) × (t ≡ new)) ⊎ ((j ≢ k) × (slice_get s.traces j ≡ Some t)) → IsOfKind l.kind t
  kind_of j l t at_l (inr had) = stands.kinds j l t at_l had.1
  kind_of j l t at_l (inl is) =
      let same : label ≡ l = some_same label l (sym at_label ∙ subst (λ (i : ℕ). slice_get d.labels i ≡ Some l) is.0 at_l) in
      subst (λ (x : Trace). IsOfKind l.kind x) (sym is.1) (subst (λ (x : Label). IsOfKind x.kind new) same g.of_kind)

  stream_of : (u : Under) (j : ℕ) (v : Under) (t : Trace) → ((j ≡ k) × (v ≡ grown_under u events size stream)) ⊎ ((j ≢ k) × (slice_get held.under j ≡ Some v)) →
      ((j ≡ k) × (t ≡ new)) ⊎ ((j ≢ k) × (slice_get s.traces j ≡ Some t)) → IsStreamOf v.stream t
  stream_of u j v t (inl p) (inl q) =
      subst (λ (x : Under). IsStreamOf x.stream t) (sym p.1) (subst (λ (x : Trace). IsStreamOf stream x) (sym q.1) g.stream)
  stream_of u j v t (inl p) (inr q) = absurd (q.0 p.0)
  stream_of u j v t (inr p) (inl q) = absurd (p.0 q.0)
  stream_of u j v t (inr p) (inr q) = stands.streams j v t p.1 q.1

  stands_then : (held' : Held) → held'.declaration ≡ held.declaration → held'.kept ≡ held.kept → IsGrownAt held.under held'.under k events size stream → StandsFor held' d (record s { traces = slice_set s.traces k new })
  stands_then held' same same_kept grew =
      let set = slice_set held.under k (grown_under grew.at events size stream) in
      record {
        declaration = same ∙ stands.declaration;
        labels = length-set s.traces k new ∙ stands.labels;
        kinds = λ j l t at_l at_t. kind_of j l t at_l (set_or_same s.traces k j new t at_t);
        events = ap seen_held grew.is ∙ sym (seen_then grew.at grew.was);
        sizes = ap (λ (us : List Under). map (λ (x : Under). x.size) us) grew.is ∙ sizes_then grew.at grew.was;
        streams = λ j v t at_v at_t. stream_of grew.at j v t
            (set_or_same held.under k j (grown_under grew.at events size stream) v (ap (λ (us : List Under). slice_get us j) (sym grew.is) ∙ at_v))
            (set_or_same s.traces k j new t at_t);
        kept = stands.kept ∙ sym same_kept;
      }

  added_then : (held' : Held) (p : ProblemLists) (changed : Changed) (text : List ℕ) → k < length held.under → held'.declaration ≡ held.declaration → p ≡ problem_held held' →
      IsChange (seen_held held.under) (seen_held held'.under) changed → IsGrownAt held.under held'.under k events size stream → IsAddedTo p changed (length events) (aside_in stream) text →
      IsAdded d s.traces (slice_set s.traces k new) (aside_of new) text
  added_then held' p changed text inside same p_is change grew says =
      let traces = slice_set s.traces k new in
      let after : seen_held held'.under ≡ seen_by d traces = ap seen_held grew.is ∙ sym (seen_then grew.at grew.was) in
      let problem : p ≡ problem_of d traces =
      p_is ∙ ap (λ (x : Declaration). problem_of_seen x (seen_held held'.under)) (same ∙ stands.declaration) ∙ ap (λ (x : List (List Seen)). problem_of_seen d x) after in
      let now = λ (x : List (List Seen)). messages_of (events_of x) in
      let came : changed.messages ≡ missing (messages_by d traces) (messages_by d s.traces) =
      change.added ∙ ap (λ (x : List (List Seen)). missing (now x) (now (seen_held held.under))) after ∙ ap (λ (x : List (List Seen)). missing (messages_by d traces) (now x)) stands.events in
      let went : changed.withdrawn ≡ missing (messages_by d s.traces) (messages_by d traces) =
      change.withdrawn ∙ ap (λ (x : List (List Seen)). missing (now (seen_held held.under)) (now x)) after ∙ ap (λ (x : List (List Seen)). missing (now x) (messages_by d traces)) stands.events in (
        says.0,
        subst (λ (q : ProblemLists). IsConsistent q says.0) problem says.1,
        says.2
            ∙ ap (λ (n : ℕ). added_line (added n changed.messages changed.withdrawn (aside_in stream) says.0)) (more_is inside)
            ∙ ap (λ (n : ℕ). added_line (added (count_by d traces - count_by d s.traces) n changed.withdrawn (aside_in stream) says.0)) came
            ∙ ap (λ (n : ℕ). added_line (added (count_by d traces - count_by d s.traces) (missing (messages_by d traces) (messages_by d s.traces)) n (aside_in stream) says.0)) went
            ∙ ap (λ (a : Aside). added_line (added (count_by d traces - count_by d s.traces) (missing (messages_by d traces) (messages_by d s.traces)) (missing (messages_by d s.traces) (messages_by d traces)) a says.0)) g.aside,
      )

-- ---- the replies
pub accept_refused : (held : Held) (k : ℕ) (events : List Seen) (size : ℕ) (stream : Stream) (IsWritten : List ℕ → Type 0) → k < length held.under →
    nat_le (event_count (seen_held held.under) + length events) (most_events) ≡ false → IsWritten (refusal_line TooManyEvents) → AcceptAnswered held held k events size stream IsWritten
accept_refused held k events size stream IsWritten inside room written d s label old new stands at_label at_old g =
    (_, s, choose _ false _ _ (room_is held d s k label old new events size stream stands at_label at_old g false inside room) (refl, refl), written, stands)

pub accept_added : (held held' : Held) (k : ℕ) (events : List Seen) (size : ℕ) (stream : Stream) (p : ProblemLists) (changed : Changed) (IsWritten : List ℕ → Type 0) → k < length held.under →
    nat_le (event_count (seen_held held.under) + length events) (most_events) ≡ true → held'.declaration ≡ held.declaration → held'.kept ≡ held.kept → p ≡ problem_held held' →
    IsChange (seen_held held.under) (seen_held held'.under) changed → IsGrownAt held.under held'.under k events size stream →
    Told (IsAddedTo p changed (length events) (aside_in stream)) IsWritten → AcceptAnswered held held' k events size stream IsWritten
accept_added held held' k events size stream p changed IsWritten inside room same same_kept p_is change grew says d s label old new stands at_label at_old g = (
  says.0,
  record s { traces = slice_set s.traces k new },
  choose _ true _ _ (room_is held d s k label old new events size stream stands at_label at_old g true inside room)
      (refl, added_then held d s k label old new events size stream stands at_label at_old g held' p changed says.0 inside same p_is change grew says.1),
  says.2,
  stands_then held d s k label old new events size stream stands at_label at_old g held' same same_kept grew,
)

-- ---- the same by what the code holds
-- the roster of answers that stand ready has the events that are held
pub count_is : (accepted : List Accepted) (kept : List EventId) (ready : Bool) (a : Answers) (held : Held) → held_parts (declared a) accepted kept (solver_of ready a) ≡ held → IsSome held.answers →
    (ready ≡ true → AreAnswersOf (seen_in accepted) kept a) → (n : ℕ) → n ≡ length a.graph.roster.came → n ≡ event_count (seen_held held.under)
count_is accepted kept ready a held same some are n n_is =
    let all : AreAnswersOf (seen_in accepted) kept a = are (ready_of held ready a (ap (λ (h : Held). h.answers) same) some) in
    n_is ∙ came_count a.graph.roster all.lawful (seen_in accepted) all.graph.holds ∙ sym (ap event_count (seen_accepted accepted)) ∙ ap (λ (h : Held). event_count (seen_held h.under)) same

-- whether there is room for more, by a count of the events that are held
room_by_count : (d : Declaration) (accepted : List Accepted) (kept : List EventId) (answers : Option SolverLists) (held : Held) (count n more : ℕ) (r : Bool) →
    held_parts d accepted kept answers ≡ held → count ≡ event_count (seen_held held.under) → n ≡ more → r ≡ nat_le (count + n) (most_events) → r ≡ nat_le (event_count (seen_in accepted) + more) (most_events)
room_by_count d accepted kept answers held count n more r same counted n_is r_is =
    let all : count ≡ event_count (seen_in accepted) =
    counted ∙ ap (λ (h : Held). event_count (seen_held h.under)) (sym same) ∙ ap event_count (seen_accepted accepted) in
    r_is ∙ ap (λ (m : ℕ). nat_le (m + n) (most_events)) all ∙ ap (λ (m : ℕ). nat_le (event_count (seen_in accepted) + m) (most_events)) n_is

-- there is room for so many more
fits : (held n more : ℕ) → n ≡ more → held + more ≤ most_events → nat_le (held + n) (most_events) ≡ true
fits held n more n_is few = ap (λ (m : ℕ). nat_le (held + m) (most_events)) n_is ∙ le_true_back (held + more) few
  where
    le_true_back : (m : ℕ) → m ≤ most_events → nat_le m (most_events) ≡ true
    le_true_back m le = grind (arith, le)

-- events that there is no room for are refused
pub refused_in : (held : Held) (k room : ℕ) (events : List Seen) (size : ℕ) (stream : Stream) (IsWritten : List ℕ → Type 0) →
    k < length held.under → room ≡ most_events - event_count (seen_held held.under) → room < length events → IsWritten (refusal_line TooManyEvents) → AcceptAnswered held held k events size stream IsWritten
refused_in held k room events size stream IsWritten inside room_is many written =
    accept_refused held k events size stream IsWritten inside (over (event_count (seen_held held.under) + length events) (omega (arith, room_is, many))) written
  where
    over : (m : ℕ) → most_events < m → nat_le m (most_events) ≡ false
    over m lt = grind (arith, lt)

-- what was found out of an addition of events to what the code holds
pub record Extended (d : Declaration) (accepted new : List Accepted) (kept : List EventId) (answers : Option SolverLists) (held : Held) (k : ℕ) (events : List Seen) (size : ℕ) (stream : Stream) : Type 0 where
  pub same : held_parts d accepted kept answers ≡ held
  pub inside : k < length held.under
  pub place : HasPlace held.under k size
  pub within : IsStreamWithin held.under k size stream
  pub room : nat_le (event_count (seen_in accepted) + length events) (most_events) ≡ true
  pub grew : IsGrownAt (map under_of accepted) (map under_of new) k events size stream

extended : (d : Declaration) (accepted taken new : List Accepted) (kept : List EventId) (answers : Option SolverLists) (held : Held) (k n count : ℕ) (events : List Seen) (size : ℕ) (stream : Stream) (r : Bool) →
    held_parts d accepted kept answers ≡ held → k < length held.under →
    HasPlace held.under k size → IsStreamWithin held.under k size stream → n ≡ length events → count ≡ event_count (seen_held held.under) → r ≡ nat_le (count + n) (most_events) → r ≡ true → taken ≡ accepted →
    IsGrownAt (map under_of taken) (map under_of new) k events size stream → Extended d accepted new kept answers held k events size stream
extended d accepted taken new kept answers held k n count events size stream r same inside place within n_is counted r_is fit taken_is grew = record {
  same = same;
  inside = inside;
  place = place;
  within = within;
  room = sym (room_by_count d accepted kept answers held count n (length events) r same counted n_is r_is) ∙ fit;
  grew = subst (λ (l : List Accepted). IsGrownAt (map under_of l) (map under_of new) k events size stream) taken_is grew;
}

module _ (d : Declaration) (accepted new : List Accepted) (kept : List EventId) (answers : Option SolverLists) (held : Held) (k : ℕ) (events : List Seen) (size : ℕ) (stream : Stream)
    (e : Extended d accepted new kept answers held k events size stream) where
  inside_is : k < length (map under_of accepted)
  inside_is = let P : Held → Type 0 = λ h. k < length h.under in subst P (sym e.same) e.inside

  has_room : nat_le (event_count (seen_held (map under_of accepted)) + length events) (most_events) ≡ true
  has_room = room_by accepted (length events) true true (sym e.room) refl

  pub held_extended : (after : Option SolverLists) → IsWithinLimits (held_parts d accepted kept answers) → IsWithinLimits (held_parts d new kept after)
  held_extended after is =
      let P : Held → Type 0 = λ h. HasPlace h.under k size in
      let Q : Held → Type 0 = λ h. IsStreamWithin h.under k size stream in
      held_grown (held_parts d accepted kept answers) (held_parts d new kept after) k events size stream is (subst P (sym e.same) e.place) (subst Q (sym e.same) e.within) (room_few (map under_of accepted) (length events) has_room) refl e.grew

  pub added_in : (p : ProblemLists) (changed : Changed) (n : ℕ) (aside : Aside) (after : Option SolverLists) (IsWritten : List ℕ → Type 0) → p ≡ problem_held (held_parts d new kept after) →
      IsChange (seen_in accepted) (seen_in new) changed →
      n ≡ length events → aside ≡ aside_in stream → Told (IsAddedTo p changed n aside) IsWritten → AcceptAnswered held (held_parts d new kept after) k events size stream IsWritten
  added_in p changed n aside after IsWritten p_is change n_is aside_is says =
      let P : Held → Type 0 = λ h. AcceptAnswered h (held_parts d new kept after) k events size stream IsWritten in
      let from_old : IsChange (seen_held (map under_of accepted)) (seen_in new) changed = subst (λ (x : List (List Seen)). IsChange x (seen_in new) changed) (sym (seen_accepted accepted)) change in
      let to_new : IsChange (seen_held (map under_of accepted)) (seen_held (map under_of new)) changed =
      subst (λ (x : List (List Seen)). IsChange (seen_held (map under_of accepted)) x changed) (sym (seen_accepted new)) from_old in
      let said = subst (λ (m : ℕ). Told (IsAddedTo p changed m aside) IsWritten) n_is says in
      let gives = subst (λ (a : Aside). Told (IsAddedTo p changed (length events) a) IsWritten) aside_is said in
      subst P e.same (accept_added (held_parts d accepted kept answers) (held_parts d new kept after) k events size stream p changed IsWritten inside_is has_room refl refl p_is to_new e.grew gives)

-- ---- the events that are kept
module _ (accepted new : List Accepted) (k : ℕ) (events : List Seen) (size : ℕ) (stream : Stream) (grew : IsGrownAt (map under_of accepted) (map under_of new) k events size stream) where
  seen_then_at : slice_get (seen_held (map under_of accepted)) k ≡ Some grew.at.events
  seen_then_at = slice_get-map (λ (u : Under). u.events) (map under_of accepted) k ∙ ap (option_map (λ (u : Under). u.events)) grew.was

  seen_then_is : seen_held (map under_of new) ≡ slice_set (seen_held (map under_of accepted)) k (grew.at.events ++ events)
  seen_then_is = ap seen_held grew.is ∙ map-set (λ (u : Under). u.events) (map under_of accepted) k (grown_under grew.at events size stream)

  -- they are kept of more events too
  pub kept_then : (kept : List EventId) → AreKept (seen_in accepted) kept → AreKept (seen_in new) kept
  kept_then kept are =
      let before : AreKept (seen_held (map under_of accepted)) kept = subst (λ (x : List (List Seen)). AreKept x kept) (sym (seen_accepted accepted)) are in
      let after = kept_grown (seen_held (map under_of accepted)) kept k grew.at.events events seen_then_at before in
      subst (λ (x : List (List Seen)). AreKept x kept) (sym seen_then_is ∙ seen_accepted new) after

-- ---- what a session holds then
-- all that is known of what a session holds
abbrev pub IsWhole : List Accepted → List EventId → Bool → Answers → Type 0
IsWhole accepted kept ready a =
    IsHeldInSession (held_parts (declared a) accepted kept (solver_of ready a)) × AreKept (seen_in accepted) kept × (ready ≡ true → AreAnswersOf (seen_in accepted) kept a)

-- answers of all events are of what is held
kept_up : (accepted : List Accepted) (kept : List EventId) (answers : Option SolverLists) (a : Answers) → AreAnswersOf (seen_in accepted) kept a → IsKeptUp (held_parts (declared a) accepted kept answers) a.graph.solver
kept_up accepted kept answers a are =
    let r = a.graph.roster in
    let s = a.graph.solver in
    let same : seen_in accepted ≡ seen_held (map under_of accepted) = sym (seen_accepted accepted) in
    let count : length r.came ≡ event_count (seen_held (map under_of accepted)) = came_count r are.lawful (seen_in accepted) are.graph.holds ∙ ap event_count same in
    record {
      roster = r;
      lawful = are.lawful;
      declared = refl;
      solution = subst (λ (x : List (List Seen)). IsSolutionBy (listed r) (problem_of_seen r.declaration x) s) same are.graph.solution;
      slots = are.slots;
      stamp = a.source;
      source = subst (λ (x : List (List Seen)). KeepsSource (listed r) (problem_of_seen r.declaration x) r.declaration.source a.source s) same are.source_slot;
      few = subst (λ (n : ℕ). length s.graph.arcs ≤ 8 * n) count are.graph.few;
    }

-- what stands ready is of all that is held
pub held_ready : (accepted : List Accepted) (kept : List EventId) (ready : Bool) (a : Answers) → IsWithinLimits (held_parts (declared a) accepted kept (solver_of ready a)) →
    (ready ≡ true → AreAnswersOf (seen_in accepted) kept a) → IsHeldInSession (held_parts (declared a) accepted kept (solver_of ready a))
held_ready accepted kept true a limits are =
    held_by limits (kept_up accepted kept (solver_of true a) a (are refl))
held_ready accepted kept false a limits are = held_by limits tt

pub never_ready : (ready : Bool) (P : Type 0) → ready ≡ false → ready ≡ true → P
never_ready ready P is not = let both : false ≡ true = sym is ∙ not in absurd cc

pub whole_same : (d : Declaration) (accepted new then : List Accepted) (kept : List EventId) (before : Option SolverLists) (ready : Bool) (a : Answers) → declared a ≡ d → then ≡ new →
    map under_of new ≡ map under_of accepted → IsWithinLimits (held_parts d accepted kept before) → AreKept (seen_in accepted) kept → ready ≡ false → IsWhole then kept ready a
whole_same d accepted new then kept before ready a declares is stays held lawful none =
    let seen : seen_in then ≡ seen_in accepted = ap seen_in is ∙ sym (seen_accepted new) ∙ ap seen_held stays ∙ seen_accepted accepted in
    let never = never_ready ready (AreAnswersOf (seen_in then) kept a) none in (
      held_ready then kept ready a (held_same (held_parts d accepted kept before) (held_parts (declared a) then kept (solver_of ready a)) held declares (ap (map under_of) is ∙ stays)) never,
      subst (λ (x : List (List Seen)). AreKept x kept) (sym seen) lawful,
      never,
    )

pub whole_grown : (d : Declaration) (accepted new then : List Accepted) (kept : List EventId) (before : Option SolverLists) (ready : Bool) (a : Answers) (held : Held) (k : ℕ) (events : List Seen) (size : ℕ) (stream : Stream) →
    Extended d accepted new kept before held k events size stream → declared a ≡ d → then ≡ new → IsWithinLimits (held_parts d accepted kept before) → AreKept (seen_in accepted) kept →
    (ready ≡ true → AreAnswersOf (seen_in then) kept a) → IsWhole then kept ready a
whole_grown d accepted new then kept before ready a held k events size stream e declares is was lawful answers =
    let more : IsWithinLimits (held_parts d new kept (solver_of ready a)) = held_extended d accepted new kept before held k events size stream e (solver_of ready a) was in
    let limits : IsWithinLimits (held_parts (declared a) then kept (solver_of ready a)) =
    subst (λ (x : Declaration). IsWithinLimits (held_parts x then kept (solver_of ready a))) (sym declares) (subst (λ (l : List Accepted). IsWithinLimits (held_parts d l kept (solver_of ready a))) (sym is) more) in (
      held_ready then kept ready a limits answers,
      subst (λ (l : List Accepted). AreKept (seen_in l) kept) (sym is) (kept_then accepted new k events size stream e.grew kept lawful),
      answers,
    )

-- and where other events are kept, or the solver changed
pub whole_kept : (d : Declaration) (accepted : List Accepted) (kept kept' : List EventId) (before : Option SolverLists) (ready : Bool) (a : Answers) → declared a ≡ d →
    IsWithinLimits (held_parts d accepted kept before) → AreKept (seen_in accepted) kept' → (ready ≡ true → AreAnswersOf (seen_in accepted) kept' a) → IsWhole accepted kept' ready a
whole_kept d accepted kept kept' before ready a declares held lawful answers = (
  held_ready accepted kept' ready a (held_same (held_parts d accepted kept before) (held_parts (declared a) accepted kept' (solver_of ready a)) held declares refl) answers,
  lawful,
  answers,
)

-- so there are no more events than a session has
whole_few : (d : Declaration) (accepted new : List Accepted) (kept : List EventId) (before : Option SolverLists) (held : Held) (k : ℕ) (events : List Seen) (size : ℕ) (stream : Stream) →
    Extended d accepted new kept before held k events size stream → IsWithinLimits (held_parts d accepted kept before) → event_count (seen_in new) ≤ most_events
whole_few d accepted new kept before held k events size stream e was = accepted_few d new kept None (held_extended d accepted new kept before held k events size stream e None was)

-- ---- what the graph is brought
brings : (accepted new : List Accepted) (k more : ℕ) (events : List Seen) (size : ℕ) (stream : Stream) → IsGrownAt (map under_of accepted) (map under_of new) k events size stream → more ≡ length events →
    BringsEvents (seen_in accepted) (seen_in new) k more
brings accepted new k more events size stream grew count =
    let before : seen_held (map under_of accepted) ≡ seen_in accepted = seen_accepted accepted in
    record {
      own = grew.at.events;
      events = events;
      count = sym count;
      was = subst (λ (x : List (List Seen)). slice_get x k ≡ Some grew.at.events) before (seen_then_at accepted new k events size stream grew);
      is = sym (seen_accepted new) ∙ seen_then_is accepted new k events size stream grew ∙ ap (λ (x : List (List Seen)). slice_set x k (grew.at.events ++ events)) before;
    }

-- ---- what is known once the label has the events
-- the events stand behind those of the label, in the vector too, and the graph is to be brought them
pub record HasExtended {Z : Type 0} (d : Declaration) (accepted : Vec Accepted Z) (new : List Accepted) (kept : List EventId) (before : Option SolverLists) (held : Held) (k n : ℕ) (events : List Seen) (size : ℕ)
    (stream : Stream) : Type 0 where
  pub is : Extended d accepted.items new kept before held k events size stream
  pub back : (with_items accepted new).items ≡ new
  pub count : n ≡ length events
  pub inside : k < length (with_items accepted new).items
  pub few : event_count (seen_in (with_items accepted new).items) ≤ most_events
  pub brought : BringsEvents (seen_in accepted.items) (seen_in (with_items accepted new).items) k n

pub has_extended : {Z : Type 0} (d : Declaration) (accepted : Vec Accepted Z) (taken new : List Accepted) (kept : List EventId) (before : Option SolverLists) (held : Held) (k n : ℕ) (events : List Event) (size : ℕ) (stream : Stream) →
    held_parts d accepted.items kept before ≡ held → k < length held.under → HasPlace held.under k size → IsStreamWithin held.under k size stream → n ≡ length events →
    event_count (seen_held held.under) + length events ≤ most_events → taken ≡ accepted.items → IsGrownAt (map under_of taken) (map under_of new) k (seen_events events) size stream → length new ≡ length taken →
    IsWithinLimits (held_parts d accepted.items kept before) → HasExtended d accepted new kept before held k n (seen_events events) size stream
has_extended d accepted taken new kept before held k n events size stream same inside place within n_is room taken_is grown_under long limits =
    let more = seen_events events in
    let held_count = event_count (seen_held held.under) in
    let count : n ≡ length more = n_is ∙ sym (length-map events seen_event) in
    let e : Extended d accepted.items new kept before held k more size stream =
    extended d accepted.items taken new kept before held k n held_count more size stream (nat_le (held_count + n) (most_events)) same inside place within count refl refl (fits held_count n (length events) n_is room) taken_is grown_under in
    let back = with_items_is accepted new (long ∙ ap length taken_is ∙ sym accepted.ok.0) in
    let under : k < length (map under_of accepted.items) = subst (λ (h : Held). k < length h.under) (sym same) inside in
    record {
      is = e;
      back = back;
      count = count;
      inside = omega (arith, under, length-map accepted.items under_of, ap length back, long, ap length taken_is);
      few = subst (λ (l : List Accepted). event_count (seen_in l) ≤ most_events) (sym back) (whole_few d accepted.items new kept before held k more size stream e limits);
      brought = subst (λ (l : List Accepted). BringsEvents (seen_in accepted.items) (seen_in l) k n) (sym back) (brings accepted.items new k n more size stream e.grew count);
    }
