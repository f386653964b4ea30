-- A line has one reply, but for which contradiction, which path of bounds and which smaller problem is printed.
use Rattle.std.proofs.Common.{◌≡◌, ◌≢◌, ◌⊎◌, inl, inr, ℕ, suc, ◌+◌, ◌<◌, List, [], ◌∷◌, ◌++◌, length, map, slice_get, slice_set, Option, Some, None, Bool, true, false, nat_le, MatchBool, All, Any, refl, sym, ◌∙◌, ap, subst, arith}
use Rattle.std.proofs.lemmas.List.{length-map}
use Rattle.std.proofs.lemmas.Option.{slice_get_within}
use Rattle.ports.specs.Files.{Content}
use Rattle.problem_model.specs.declared.items.Event.{Event}
use Rattle.problem_model.specs.Problem.{ProblemLists, IsProblem}
use Rattle.problem_model.specs.Bounds.{Times, IsExecution}
use Rattle.problem_model.specs.Limits.{most_events}
use Rattle.problem.specs.Line.{HasEvent, IsUnknown}
use Rattle.problem.proofs.Taking.{one_place}
use Rattle.event_log.specs.declared.errors.LogError.{LogError}
use Rattle.event_log.specs.declared.errors.LogError.TheVariants as faults
use Rattle.event_log.specs.declared.row.Row.{Row}
use Rattle.event_log.specs.Log.{records_of, AreRows, IsLogFault}
use Rattle.captures.specs.declared.errors.CaptureError.{CaptureError}
use Rattle.captures.specs.declared.errors.CaptureError.TheVariants as refused
use Rattle.captures.specs.Capture as captures
use Rattle.captures.specs.Capture.{Reads, IsFault}
use Rattle.decl.specs.declared.items.Label.{Label}
use Rattle.decl.specs.declared.items.TraceKind.{TraceKind}
use Rattle.decl.specs.declared.items.TraceKind.TheVariants.{Capture, Log}
use Rattle.decl.specs.Declaration.{Declaration, IsDeclaration}
use Rattle.traces.specs.Seen.{Seen}
use Rattle.traces.specs.declared.event_id.EventId.{EventId}
use Rattle.traces.specs.Traces.{Trace, Captured, Traces, Missed, missed_of, seen_under, seen_by}
use Rattle.traces.specs.Messages.{problem_of, problem_of_seen}
use Rattle.traces.proofs.Seen.{problem_lawful}
use Rattle.queries.specs.Consistent.{IsConsistent}
use Rattle.queries.specs.declared.comparison.Asked.{Asked}
use Rattle.queries.specs.declared.comparison.Asked.TheVariants as questions
use Rattle.queries.specs.Replies.{HasReading, IsIntervalLine, IsOrderLine, IsComparisonLine, IsProofText, IsTimeLine, Replies}
use Rattle.widen.specs.Blame.{IsBlameText}
use Rattle.thinning.specs.Named.{IsKnown, IsThinText}
use Rattle.replies.specs.Merged.{IsMergeText}
use Rattle.replies.specs.AllTimes.{AreTimesBy, AreEndsSince, IsTimesText}
use Rattle.report.specs.Reports.{report_text}
use Rattle.replies.specs.declared.outcome.Aside.{Aside}
use Rattle.replies.specs.declared.refusal.Refusal.{Refusal}
use Rattle.replies.specs.declared.refusal.Refusal.TheVariants.{NoCommand, UnknownLabel, UnreadFile, TooManyBytes, TooManyEvents}
use Rattle.replies.specs.Refusals.{log_refusal, capture_refusal}
use Rattle.replies.specs.Commands.{Command, Add, Keep, Ask, Question, Compare, Time, AllTimes, Merge, Prove, Problem, Report, Blame, Thin, Asks}
use Rattle.replies.specs.Reply.{State, Found, Unread, Bytes, Absent, Failed, Refuses, OfTwo, OfOne, OfEach, OfSource, IsTimeReply, IsTimesReply, IsSinceText, IsReport, IsAnswerTo, added_line, added_by, count_by, IsAdded, aside_of, AcceptReply, with_rows, IsLogRefusal, LogReply, bytes_of, IsCaptureRefusal, CaptureReply, KindReply, fits_label, PieceReply, label_at, AddReply, IsPlacedAt, kept_line, SlotReply, KeepReply, Reply, AreKept}
use Rattle.replies.specs.Sessions.{CommandReply, LineReply}
use Rattle.replies.specs.OneReply.{IsState, AreContradictions, MayDiffer, LineMayDiffer}
use Rattle.replies.proofs.Elements.{some_same}
use Rattle.replies.proofs.OneCommand.{command_one}
use Rattle.replies.proofs.OneProof.{proofs_one}

-- what the crates below say of their own answers
pub record Below : Type 0 where
  pub rows : (piece : List ℕ) (a : List Row) (b : List Row) → AreRows (records_of piece) a → AreRows (records_of piece) b → a ≡ b
  pub fault : (piece : List ℕ) (e : LogError) (f : LogError) → IsLogFault piece e → IsLogFault piece f → e ≢ faults.Memory → f ≢ faults.Memory → e ≡ f
  pub either : (piece : List ℕ) (rows : List Row) (e : LogError) → AreRows (records_of piece) rows → IsLogFault piece e → e ≡ faults.Memory
  pub interval : (p : ProblemLists) (from to : ℕ) (a b : List ℕ) → IsIntervalLine p from to a → IsIntervalLine p from to b → a ≡ b
  pub order : (p : ProblemLists) (from to : ℕ) (a b : List ℕ) → ((x : Times) × IsExecution p x) → IsOrderLine p from to a → IsOrderLine p from to b → a ≡ b
  pub time : (p : ProblemLists) (clock event : ℕ) (a b : List ℕ) → HasReading p clock → IsTimeLine p clock event a → IsTimeLine p clock event b → a ≡ b
  pub times : (p : ProblemLists) (clock : ℕ) (a b : List ℕ) → HasReading p clock → IsTimesText p (AreTimesBy p clock) a → IsTimesText p (AreTimesBy p clock) b → a ≡ b
  pub since : (p : ProblemLists) (first : ℕ) (a b : List ℕ) → IsTimesText p (AreEndsSince p first) a → IsTimesText p (AreEndsSince p first) b → a ≡ b
  pub merge : (d : Declaration) (seen : List (List Seen)) (a b : List ℕ) → IsMergeText d seen a → IsMergeText d seen b → a ≡ b
  pub blame : (p : ProblemLists) (a b : List ℕ) → IsBlameText p a → IsBlameText p b → a ≡ b
  pub capture : (s : List ℕ) (a b : captures.Capture) → Reads s a → Reads s b → a ≡ b
  pub capture_fault : (s : List ℕ) (e f : CaptureError) → IsFault s e → IsFault s f → e ≢ refused.Memory → f ≢ refused.Memory → e ≡ f
  pub judged : (s : List ℕ) (c : captures.Capture) (e : CaptureError) → Reads s c → IsFault s e → e ≢ refused.Memory → ⊥

-- how two texts may differ
abbrev Differences : Type 1
Differences = List ℕ → List ℕ → Type 0

-- they are one, or differ so
abbrev AreSame : Differences → List ℕ → List ℕ → Type 0
AreSame Differ a b = (a ≡ b) ⊎ Differ a b

-- any two replies of this kind are one, or differ so, and the state that follows is one
abbrev AreOne : Differences → (List ℕ → State → Type 0) → Type 0
AreOne Differ IsReply = (a b : List ℕ) (after other : State) → IsReply a after → IsReply b other → AreSame Differ a b × (after ≡ other)

one_refusal : (Differ : Differences) (s : State) (r : Refusal) → AreOne Differ (Refuses s r)
one_refusal Differ s r a b after other x y = (inl (x.0 ∙ sym y.0), x.1 ∙ sym y.1)

by_test : (Differ : Differences) (test : Bool) (Yes No : List ℕ → State → Type 0) → AreOne Differ Yes → AreOne Differ No → AreOne Differ (λ text s'. MatchBool test (Yes text s') (No text s'))
by_test Differ true Yes No one other = one
by_test Differ false Yes No one other = other

-- ---- additions
one_state : (p : ProblemLists) (a b : Bool) → IsConsistent p a → IsConsistent p b → a ≡ b
one_state p true true some some' = refl
one_state p true false some none = absurd (none some.0 some.1)
one_state p false true none some = absurd (none some.0 some.1)
one_state p false false none none' = refl

one_added : (d : Declaration) (old new : Traces) (aside : Aside) (a b : List ℕ) → IsAdded d old new aside a → IsAdded d old new aside b → a ≡ b
one_added d old new aside a b x y =
    x.2 ∙ ap (λ (consistent : Bool). added_line (added_by d old new aside consistent)) (one_state (problem_of d new) x.0 y.0 x.1 y.1) ∙ sym y.2

one_acceptance : (Differ : Differences) (d : Declaration) (s : State) (k : ℕ) (trace : Trace) → AreOne Differ (AcceptReply d s k trace)
one_acceptance Differ d s k trace =
    let traces = slice_set s.traces k trace in
    by_test Differ (nat_le (count_by d traces) (most_events)) (λ text s'. (s' ≡ record s { traces = traces }) × IsAdded d s.traces traces (aside_of trace) text) (Refuses s TooManyEvents)
    (λ a b after other x y. (inl (one_added d s.traces traces (aside_of trace) a b x.1 y.1), x.0 ∙ sym y.0)) (one_refusal Differ s TooManyEvents)

-- ---- pieces of logs
log_not_memory : (e : LogError) (r : Refusal) → log_refusal e ≡ Some r → e ≢ faults.Memory
log_not_memory e r is memory = let none : log_refusal faults.Memory ≡ Some r = sym (ap log_refusal memory) ∙ is in absurd cc

some_one : (a b : Refusal) → Some a ≡ Some b → a ≡ b
some_one a b is = cc

module _ (below : Below) where
  one_log_refusal : (bytes : List ℕ) (r r' : Refusal) → IsLogRefusal bytes r → IsLogRefusal bytes r' → r ≡ r'
  one_log_refusal bytes r r' (e, fault, is) (f, fault', is') =
      let same : e ≡ f = below.fault bytes e f fault fault' (log_not_memory e r is) (log_not_memory f r' is') in
      some_one r r' (sym is ∙ ap log_refusal same ∙ is')

  rows_no_fault : (bytes : List ℕ) (rows : List Row) (r : Refusal) → AreRows (records_of bytes) rows → IsLogRefusal bytes r → ⊥
  rows_no_fault bytes rows r are (e, fault, is) = log_not_memory e r is (below.either bytes rows e are fault)

  one_log : (Differ : Differences) (d : Declaration) (s : State) (k : ℕ) (trace : Trace) (bytes : List ℕ) → AreOne Differ (LogReply d s k trace bytes)
  one_log Differ d s k trace bytes a b after other (inl (rows, are, x)) (inl (rows', are', y)) =
      let same : rows' ≡ rows = below.rows bytes rows' rows are' are in
      one_acceptance Differ d s k (with_rows trace rows (length bytes)) a b after other x (subst (λ (all : List Row). AcceptReply d s k (with_rows trace all (length bytes)) b other) same y)
  one_log Differ d s k trace bytes a b after other (inl (rows, are, x)) (inr (r, fault, y)) = absurd (rows_no_fault bytes rows r are fault)
  one_log Differ d s k trace bytes a b after other (inr (r, fault, x)) (inl (rows, are, y)) = absurd (rows_no_fault bytes rows r are fault)
  one_log Differ d s k trace bytes a b after other (inr (r, fault, x)) (inr (r', fault', y)) =
      let same : r' ≡ r = one_log_refusal bytes r' r fault' fault in
      one_refusal Differ s r a b after other x (subst (λ (all : Refusal). Refuses s all b other) same y)

-- ---- questions
-- where there is an execution, two texts that say this are one, or differ so
abbrev AreOneText : ProblemLists → Differences → (List ℕ → Type 0) → Type 0
AreOneText p Differ Says = (a b : List ℕ) → ((x : Times) × IsExecution p x) → Says a → Says b → AreSame Differ a b

-- two contradictions differ so
abbrev MayContradict : ProblemLists → Differences → Type 0
MayContradict p Differ = (a b : List ℕ) → AreContradictions p a b → Differ a b

one_answer : (p : ProblemLists) (Differ : Differences) (Says : List ℕ → Type 0) (a b : List ℕ) → MayContradict p Differ → AreOneText p Differ Says → Replies p Says a → Replies p Says b → AreSame Differ a b
one_answer p Differ Says a b may one (inl x) (inl y) = one a b x.0 x.1 y.1
one_answer p Differ Says a b may one (inl x) (inr y) = absurd (y.2 x.0.0 x.0.1)
one_answer p Differ Says a b may one (inr x) (inl y) = absurd (x.2 y.0.0 y.0.1)
one_answer p Differ Says a b may one (inr x) (inr y) = inr (may a b (x, y))

known_both : (p : ProblemLists) (first second : List ℕ) (i j : ℕ) → HasEvent p i first → HasEvent p j second → IsUnknown p first ⊎ IsUnknown p second → ⊥
known_both p first second i j at at' (inl none) = none i at
known_both p first second i j at at' (inr none) = none j at'

one_of_two : (p : ProblemLists) (Differ : Differences) (first second : List ℕ) (Says : ℕ → ℕ → List ℕ → Type 0) → IsProblem p → MayContradict p Differ →
    ((i j : ℕ) → HasEvent p i first → HasEvent p j second → AreOneText p Differ (Says i j)) → (a b : List ℕ) → OfTwo p first second Says a → OfTwo p first second Says b → AreSame Differ a b
one_of_two p Differ first second Says lawful may one a b (inl (i, j, at_i, at_j, x)) (inl (k, l, at_k, at_l, y)) =
    let from : k ≡ i = one_place p k i first lawful at_k at_i in
    let to : l ≡ j = one_place p l j second lawful at_l at_j in
    let z : Replies p (Says i j) b = subst (λ (n : ℕ). Replies p (Says n j) b) from (subst (λ (n : ℕ). Replies p (Says k n) b) to y) in
    one_answer p Differ (Says i j) a b may (one i j at_i at_j) x z
one_of_two p Differ first second Says lawful may one a b (inl (i, j, at_i, at_j, x)) (inr (unknown, y)) = absurd (known_both p first second i j at_i at_j unknown)
one_of_two p Differ first second Says lawful may one a b (inr (unknown, x)) (inl (i, j, at_i, at_j, y)) = absurd (known_both p first second i j at_i at_j unknown)
one_of_two p Differ first second Says lawful may one a b (inr (unknown, x)) (inr (unknown', y)) = inl (x ∙ sym y)

known_each : (p : ProblemLists) (events : List (List ℕ)) → All (IsKnown p) events → Any (IsUnknown p) events → ⊥
known_each p events known (k, name, inside, is, unknown) = let at : IsKnown p name = subst (IsKnown p) is (known k name inside) in unknown at.0 at.1

-- answers about some events are one, or are both such texts
one_of_each : (p : ProblemLists) (Differ : Differences) (events : List (List ℕ)) (Says : List ℕ → Type 0) → ((a b : List ℕ) → Says a → Says b → AreSame Differ a b) →
    (a b : List ℕ) → OfEach p events Says a → OfEach p events Says b → AreSame Differ a b
one_of_each p Differ events Says one a b (inl x) (inl y) = one a b x.1 y.1
one_of_each p Differ events Says one a b (inl x) (inr y) = absurd (known_each p events x.0 y.0)
one_of_each p Differ events Says one a b (inr x) (inl y) = absurd (known_each p events y.0 x.0)
one_of_each p Differ events Says one a b (inr x) (inr y) = inl (x.1 ∙ sym y.1)

one_of_one : (p : ProblemLists) (Differ : Differences) (event : List ℕ) (Says : ℕ → List ℕ → Type 0) → IsProblem p → ((i : ℕ) (a b : List ℕ) → Says i a → Says i b → AreSame Differ a b) →
    (a b : List ℕ) → OfOne p event Says a → OfOne p event Says b → AreSame Differ a b
one_of_one p Differ event Says lawful one a b (inl (i, at, x)) (inl (j, at', y)) =
    let same : j ≡ i = one_place p j i event lawful at' at in
    one i a b x (subst (λ (n : ℕ). Says n b) same y)
one_of_one p Differ event Says lawful one a b (inl (i, at, x)) (inr (none, y)) = absurd (none i at)
one_of_one p Differ event Says lawful one a b (inr (none, x)) (inl (i, at, y)) = absurd (none i at)
one_of_one p Differ event Says lawful one a b (inr (none, x)) (inr (none', y)) = inl (x ∙ sym y)

one_of_source : (p : ProblemLists) (source : Option ℕ) (Says : ℕ → List ℕ → Type 0) → ((clock : ℕ) (a b : List ℕ) → HasReading p clock → Says clock a → Says clock b → a ≡ b) →
    (a b : List ℕ) → OfSource p source Says a → OfSource p source Says b → AreSame (AreContradictions p) a b
one_of_source p None Says one a b x y = inl (x ∙ sym y)
one_of_source p (Some clock) Says one a b (inl (has, x)) (inl (has', y)) =
    one_answer p (AreContradictions p) (Says clock) a b (λ first second are. are) (λ first second some is is'. inl (one clock first second has is is')) x y
one_of_source p (Some clock) Says one a b (inl (has, x)) (inr (none, y)) = absurd (none has)
one_of_source p (Some clock) Says one a b (inr (none, x)) (inl (has, y)) = absurd (none has)
one_of_source p (Some clock) Says one a b (inr (none, x)) (inr (none', y)) = inl (x ∙ sym y)

one_report : (d : Declaration) (seen : List (List Seen)) (missed : List Missed) (a b : List ℕ) → IsReport d seen missed a → IsReport d seen missed b → a ≡ b
one_report d seen missed a b (x, is_x, is) (y, is_y, is') = is ∙ ap (λ (consistent : Bool). report_text d seen missed consistent) (one_state (problem_of_seen d seen) x y is_x is_y) ∙ sym is'

-- ---- events that are kept
one_slot : (seen : List (List Seen)) (kept : List EventId) (event : EventId) → AreKept seen kept → (a b : List ℕ) (after other : List EventId) → SlotReply kept event a after →
    SlotReply kept event b other → (a ≡ b) × (after ≡ other)
one_slot seen kept event are a b after other (inl (j, at, x, stays)) (inl (k, at', y, stays')) =
    (x ∙ ap (λ (n : ℕ). kept_line (n + 1)) (are.differ j k event at at') ∙ sym y, stays ∙ sym stays')
one_slot seen kept event are a b after other (inl (j, at, x, stays)) (inr (inl (none, few, y, grows))) = absurd (none (j, at))
one_slot seen kept event are a b after other (inl (j, at, x, stays)) (inr (inr (none, full, y, stays'))) = absurd (none (j, at))
one_slot seen kept event are a b after other (inr (inl (none, few, x, grows))) (inl (k, at', y, stays')) = absurd (none (k, at'))
one_slot seen kept event are a b after other (inr (inl (none, few, x, grows))) (inr (inl (none', few', y, grows'))) = (x ∙ sym y, grows ∙ sym grows')
one_slot seen kept event are a b after other (inr (inl (none, few, x, grows))) (inr (inr (none', full, y, stays'))) = absurd (omega (arith, few, full))
one_slot seen kept event are a b after other (inr (inr (none, full, x, stays))) (inl (k, at', y, stays')) = absurd (none (k, at'))
one_slot seen kept event are a b after other (inr (inr (none, full, x, stays))) (inr (inl (none', few, y, grows))) = absurd (omega (arith, few, full))
one_slot seen kept event are a b after other (inr (inr (none, full, x, stays))) (inr (inr (none', full', y, stays'))) = (x ∙ sym y, stays ∙ sym stays')

one_keeping : (p : ProblemLists) (seen : List (List Seen)) (kept : List EventId) (name : List ℕ) → IsProblem p → AreKept seen kept → (a b : List ℕ) (after other : List EventId) →
    KeepReply p seen kept name a after → KeepReply p seen kept name b other → (a ≡ b) × (after ≡ other)
one_keeping p seen kept name lawful are a b after other (inl (i, event, at, here, x)) (inl (j, event', at', here', y)) =
    let place : j ≡ i = one_place p j i name lawful at' at in
    let there : IsPlacedAt seen i event' = subst (λ (n : ℕ). IsPlacedAt seen n event') place here' in
    let same : event' ≡ event = some_same event' event (sym there ∙ here) in
    one_slot seen kept event are a b after other x (subst (λ (e : EventId). SlotReply kept e b other) same y)
one_keeping p seen kept name lawful are a b after other (inl (i, event, at, here, x)) (inr (none, y, stays)) = absurd (none i at)
one_keeping p seen kept name lawful are a b after other (inr (none, x, stays)) (inl (j, event', at', here', y)) = absurd (none j at')
one_keeping p seen kept name lawful are a b after other (inr (none, x, stays)) (inr (none', y, stays')) = (x ∙ sym y, stays ∙ sym stays')

abbrev state_of : Traces → List EventId → State
state_of traces kept = record { traces = traces; kept = kept }

one_state_of : (a b : State) → a.traces ≡ b.traces → a.kept ≡ b.kept → a ≡ b
one_state_of a b traces kept = ap (λ (x : Traces). state_of x a.kept) traces ∙ ap (λ (x : List EventId). state_of b.traces x) kept

-- ---- the problem of a state
seen_length : (d : Declaration) (labels : List Label) (traces : Traces) → length traces ≡ length labels → length (seen_under d labels traces) ≡ length labels
seen_length d [] traces same = refl
seen_length d (label ∷ labels) [] same = absurd (omega (arith, same))
seen_length d (label ∷ labels) (trace ∷ traces) same = let more : length traces ≡ length labels = omega (arith, same) in ap suc (seen_length d labels traces more)

state_lawful : (d : Declaration) (s : State) → IsDeclaration d → IsState d s → IsProblem (problem_of d s.traces)
state_lawful d s declared state = problem_lawful d (seen_by d s.traces) declared (seen_length d d.labels s.traces state.labels) state.few state.stamps

-- ---- pieces of captures
pub capture_not_memory : (e : CaptureError) (r : Refusal) → capture_refusal e ≡ Some r → e ≢ refused.Memory
capture_not_memory e r is memory = let none : capture_refusal refused.Memory ≡ Some r = sym (ap capture_refusal memory) ∙ is in absurd cc

event_within : (p : ProblemLists) (i : ℕ) (name : List ℕ) → HasEvent p i name → i < length p.events
event_within p i name at =
    let within : i < length (map (λ (e : Event). e.name) p.events) = slice_get_within (map (λ (e : Event). e.name) p.events) i name at in
    omega (arith, within, length-map p.events (λ (e : Event). e.name))

-- replies to the command of a line are replies to the line
asked : (p : ProblemLists) (line : List ℕ) (c : Command) (a b : List ℕ) → Asks line (Some c) → AreSame (MayDiffer p c) a b → AreSame (LineMayDiffer p line) a b
asked p line c a b asks (inl same) = inl same
asked p line c a b asks (inr differ) = inr (c, asks, differ)

module _ (below : Below) where
  one_capture_refusal : (bytes : List ℕ) (r r' : Refusal) → IsCaptureRefusal bytes r → IsCaptureRefusal bytes r' → r ≡ r'
  one_capture_refusal bytes r r' (e, fault, is) (f, fault', is') =
      let same : e ≡ f = below.capture_fault bytes e f fault fault' (capture_not_memory e r is) (capture_not_memory f r' is') in
      some_one r r' (sym is ∙ ap capture_refusal same ∙ is')

  read_no_fault : (bytes : List ℕ) (c : captures.Capture) (r : Refusal) → Reads bytes c → IsCaptureRefusal bytes r → ⊥
  read_no_fault bytes c r reads (e, fault, is) = below.judged bytes c e reads fault (capture_not_memory e r is)

  one_capture : (Differ : Differences) (d : Declaration) (s : State) (k : ℕ) (trace : Trace) (piece : List ℕ) → AreOne Differ (CaptureReply d s k trace piece)
  one_capture Differ d s k trace piece a b after other (inl (c, reads, x)) (inl (c', reads', y)) =
      let bytes = bytes_of trace ++ piece in
      let same : c' ≡ c = below.capture bytes c' c reads' reads in
      one_acceptance Differ d s k (Captured bytes c) a b after other x (subst (λ (z : captures.Capture). AcceptReply d s k (Captured bytes z) b other) same y)
  one_capture Differ d s k trace piece a b after other (inl (c, reads, x)) (inr (r, fault, y)) = absurd (read_no_fault (bytes_of trace ++ piece) c r reads fault)
  one_capture Differ d s k trace piece a b after other (inr (r, fault, x)) (inl (c, reads, y)) = absurd (read_no_fault (bytes_of trace ++ piece) c r reads fault)
  one_capture Differ d s k trace piece a b after other (inr (r, fault, x)) (inr (r', fault', y)) =
      let same : r' ≡ r = one_capture_refusal (bytes_of trace ++ piece) r' r fault' fault in
      one_refusal Differ s r a b after other x (subst (λ (all : Refusal). Refuses s all b other) same y)

  -- ---- pieces
  one_of_kind : (Differ : Differences) (d : Declaration) (s : State) (k : ℕ) (trace : Trace) (kind : TraceKind) (bytes : List ℕ) → AreOne Differ (KindReply d s k trace kind bytes)
  one_of_kind Differ d s k trace Capture bytes = one_capture Differ d s k trace bytes
  one_of_kind Differ d s k trace Log bytes = one_log below Differ d s k trace bytes

  one_piece : (Differ : Differences) (d : Declaration) (s : State) (k : ℕ) (label : Option Label) (trace : Option Trace) (bytes : List ℕ) → AreOne Differ (PieceReply d s k label trace bytes)
  one_piece Differ d s k None trace bytes = λ a b after other x y. absurd x
  one_piece Differ d s k (Some label) None bytes = λ a b after other x y. absurd x
  one_piece Differ d s k (Some label) (Some trace) bytes =
      by_test Differ (fits_label trace bytes) (KindReply d s k trace label.kind bytes) (Refuses s TooManyBytes)
      (one_of_kind Differ d s k trace label.kind bytes) (one_refusal Differ s TooManyBytes)

  one_addition : (Differ : Differences) (d : Declaration) (s : State) (place : Option ℕ) (found : Found) → AreOne Differ (AddReply d s place found)
  one_addition Differ d s None Unread = one_refusal Differ s UnknownLabel
  one_addition Differ d s None (Bytes bytes) = λ a b after other x y. absurd x
  one_addition Differ d s None Absent = λ a b after other x y. absurd x
  one_addition Differ d s None Failed = λ a b after other x y. absurd x
  one_addition Differ d s (Some k) Unread = λ a b after other x y. absurd x
  one_addition Differ d s (Some k) (Bytes bytes) = one_piece Differ d s k (slice_get d.labels k) (slice_get s.traces k) bytes
  one_addition Differ d s (Some k) Absent = one_refusal Differ s UnreadFile
  one_addition Differ d s (Some k) Failed = one_refusal Differ s UnreadFile

  -- ---- times
  one_time : (p : ProblemLists) (source : Option ℕ) (i : ℕ) (a b : List ℕ) → IsTimeReply p source i a → IsTimeReply p source i b → AreSame (AreContradictions p) a b
  one_time p source i = one_of_source p source (λ clock. IsTimeLine p clock i) (λ clock. below.time p clock i)

  one_times : (p : ProblemLists) (source : Option ℕ) (a b : List ℕ) → IsTimesReply p source a → IsTimesReply p source b → AreSame (AreContradictions p) a b
  one_times p source = one_of_source p source (λ clock. IsTimesText p (AreTimesBy p clock)) (below.times p)

  one_since : (p : ProblemLists) (i : ℕ) (a b : List ℕ) → IsSinceText p i a → IsSinceText p i b → AreSame (AreContradictions p) a b
  one_since p i a b = one_answer p (AreContradictions p) (IsTimesText p (AreEndsSince p i)) a b (λ first second are. are) (λ first second some is is'. inl (below.since p i first second is is'))

  -- ---- questions
  one_compared : (what : Asked) (p : ProblemLists) (i j : ℕ) (a b : List ℕ) → ((x : Times) × IsExecution p x) → IsComparisonLine what p i j a → IsComparisonLine what p i j b → a ≡ b
  one_compared questions.Interval p i j a b some is is' = below.interval p i j a b is is'
  one_compared questions.Order p i j a b some is is' = below.order p i j a b some is is'

  one_answer_to : (q : Question) (d : Declaration) (seen : List (List Seen)) (missed : List Missed) → IsProblem (problem_of_seen d seen) → (a b : List ℕ) → IsAnswerTo q d seen missed a → IsAnswerTo q d seen missed b →
      AreSame (MayDiffer (problem_of_seen d seen) (Ask q)) a b
  one_answer_to (Compare what first second) d seen missed lawful a b x y =
      let p = problem_of_seen d seen in
      one_of_two p (AreContradictions p) first second (IsComparisonLine what p) lawful (λ one two are. are) (λ i j at at' one two some is is'. inl (one_compared what p i j one two some is is')) a b x y
  one_answer_to (Time event) d seen missed lawful a b x y =
      let p = problem_of_seen d seen in
      one_of_one p (AreContradictions p) event (IsTimeReply p d.source) lawful (one_time p d.source) a b x y
  one_answer_to (AllTimes None) d seen missed lawful a b x y = one_times (problem_of_seen d seen) d.source a b x y
  one_answer_to (AllTimes (Some event)) d seen missed lawful a b x y =
      let p = problem_of_seen d seen in
      one_of_one p (AreContradictions p) event (IsSinceText p) lawful (one_since p) a b x y
  one_answer_to Merge d seen missed lawful a b x y =
      let p = problem_of_seen d seen in
      one_answer p (AreContradictions p) (IsMergeText d seen) a b (λ one two are. are) (λ one two some is is'. inl (below.merge d seen one two is is')) x y
  one_answer_to (Prove first second) d seen missed lawful a b x y =
      let p = problem_of_seen d seen in
      one_of_two p (MayDiffer p (Ask (Prove first second))) first second (IsProofText p) lawful (λ one two are. inl are)
      (λ i j at at' one two some is is'. inr (inr (i, j, at, at', some, proofs_one p i j one two lawful (event_within p i first at) is is'))) a b x y
  one_answer_to Problem d seen missed lawful a b x y = inl (x ∙ sym y)
  one_answer_to Report d seen missed lawful a b x y = inl (one_report d seen missed a b x y)
  one_answer_to Blame d seen missed lawful a b x y = inl (below.blame (problem_of_seen d seen) a b x y)
  one_answer_to (Thin events) d seen missed lawful a b x y =
      let p = problem_of_seen d seen in
      one_of_each p (MayDiffer p (Ask (Thin events))) events (IsThinText p events) (λ one two is is'. inr (is, is')) a b x y

  -- ---- lines
  one_reply : (d : Declaration) (s : State) (c : Command) (found : Found) → IsProblem (problem_of d s.traces) → AreKept (seen_by d s.traces) s.kept →
      AreOne (MayDiffer (problem_of d s.traces) c) (Reply d s c found)
  one_reply d s (Add label path) found lawful kept = one_addition (λ a b. ⊥) d s (label_at d label) found
  one_reply d s (Keep event) found lawful kept = λ a b after other x y.
      let one = one_keeping (problem_of d s.traces) (seen_by d s.traces) s.kept event lawful kept a b after.kept other.kept x.2 y.2 in
      (inl one.0, one_state_of after other (x.1 ∙ sym y.1) one.1)
  one_reply d s (Ask question) found lawful kept = λ a b after other x y. (one_answer_to question d (seen_by d s.traces) (map missed_of s.traces) lawful a b x.2 y.2, x.1 ∙ sym y.1)

  one_of_command : (d : Declaration) (files : Content) (s : State) (line : List ℕ) (c : Option Command) (found : Found) → IsProblem (problem_of d s.traces) → AreKept (seen_by d s.traces) s.kept →
      Asks line c → AreOne (LineMayDiffer (problem_of d s.traces) line) (CommandReply d files s c found)
  one_of_command d files s line None found lawful kept asks = λ a b after other x y. one_refusal (LineMayDiffer (problem_of d s.traces) line) s NoCommand a b after other x.1 y.1
  one_of_command d files s line (Some c) found lawful kept asks = λ a b after other x y.
      let p = problem_of d s.traces in
      let one = one_reply d s c found lawful kept a b after other x.1 y.1 in
      (asked p line c a b asks one.0, one.1)

  pub one_line : (d : Declaration) (files : Content) (s : State) (line : List ℕ) (found : Found) → IsDeclaration d → IsState d s →
      AreOne (LineMayDiffer (problem_of d s.traces) line) (LineReply d files s line found)
  one_line d files s line found declared state =
      let Differ = LineMayDiffer (problem_of d s.traces) line in
      by_test Differ (nat_le (length line) 4096) (λ text s'. (c : Option Command) × Asks line c × CommandReply d files s c found text s') (λ text s'. (found ≡ Unread) × Refuses s NoCommand text s')
      (λ a b after other (c, asks, x) (c', asks', y).
      let same : c' ≡ c = command_one line c' c asks' asks in
      one_of_command d files s line c found (state_lawful d s declared state) state.kept asks a b after other x (subst (λ (o : Option Command). CommandReply d files s o found b other) same y))
      (λ a b after other x y. one_refusal Differ s NoCommand a b after other x.1 y.1)
