-- Traces with one piece more, and what answers it.
use Rattle.std.proofs.Common.{◌≡◌, inl, inr, ℕ, ◌<◌, List, [], ◌++◌, length, map, slice_get, Some, refl, sym, ◌∙◌, ap, subst, arith, length-append}
use Rattle.std.proofs.lemmas.List.{map-append}
use Rattle.std.proofs.lemmas.Option.{slice_get_within}
use Rattle.event_log.specs.declared.row.Row.{Row}
use Rattle.event_log.specs.Log.{records_of, AreRows}
use Rattle.captures.specs.Capture as captures
use Rattle.captures.specs.Capture.{Passed, passed_count}
use Rattle.captures.specs.Feeding as feeding
use Rattle.captures.specs.Feeding.{Tail, Grows}
use Rattle.captures.proofs.Standing.{stands_passed, stands_reads, stands_waiting}
use Rattle.decl.specs.declared.items.Label.{Label}
use Rattle.decl.specs.declared.items.TraceKind.{TraceKind}
use Rattle.decl.specs.declared.items.TraceKind.TheVariants.{Capture, Log}
use Rattle.decl.specs.Declaration.{Declaration}
use Rattle.traces.specs.Seen.{Seen, seen_row, event_of_packet}
use Rattle.traces.specs.declared.accepted.Stream.{Stream}
use Rattle.traces.specs.declared.accepted.Stream.TheVariants as streams
use Rattle.traces.specs.Traces.{Trace, Captured, Logged, IsOfKind}
use Rattle.replies.specs.declared.outcome.Aside.{Aside}
use Rattle.replies.specs.declared.refusal.Refusal.{Refusal}
use Rattle.replies.specs.Refusals.{refusal_line}
use Rattle.replies.specs.Reply.{State, LogReply, CaptureReply, KindReply, IsLogRefusal, with_rows}
use Rattle.session.specs.Stands.{Under, Held, StandsFor, IsStreamOf, kind_by_stream}
use Rattle.session.specs.Pieces.{IsFed, SaysEvents, IsRefusedAs}
use Rattle.session.specs.Inside.{AcceptAnswered, Answered, KindAnswered, IsGrownTrace}
use Rattle.replies.proofs.Elements.{some_same, there_some}

-- the label of a trace
label_of : (held : Held) (d : Declaration) (s : State) (k : ℕ) (trace : Trace) → StandsFor held d s → slice_get s.traces k ≡ Some trace → (label : Label) × (slice_get d.labels k ≡ Some label)
label_of held d s k trace stands at =
    let within : k < length s.traces = slice_get_within s.traces k trace at in
    let each : length s.traces ≡ length d.labels = stands.labels in
    there_some d.labels k (omega (arith, within, each))

-- it is the one that is held
own_label : (held : Held) (d : Declaration) (s : State) (k : ℕ) (own label : Label) → StandsFor held d s → slice_get d.labels k ≡ Some own → slice_get held.declaration.labels k ≡ Some label → label ≡ own
own_label held d s k own label stands at_own at_label =
    let there : slice_get d.labels k ≡ Some label = subst (λ (x : Declaration). slice_get x.labels k ≡ Some label) stands.declaration at_label in
    some_same label own (sym there ∙ at_own)

-- so events by the label and the declaration that are held are those by its own
events_by : (f : Declaration → Label → List Seen) (held : Held) (d : Declaration) (s : State) (k : ℕ) (own label : Label) (events : List Seen) → StandsFor held d s → slice_get d.labels k ≡ Some own →
    slice_get held.declaration.labels k ≡ Some label → events ≡ f held.declaration label → events ≡ f d own
events_by f held d s k own label events stands at_own at_label is =
    is ∙ ap (λ (x : Declaration). f x label) stands.declaration ∙ ap (λ (l : Label). f d l) (own_label held d s k own label stands at_own at_label)

-- ---- a piece of a log
-- rows as events under a label
rows_at : List Row → Declaration → Label → List Seen
rows_at rows d label = map (seen_row d label) rows

log_grown : (d : Declaration) (label : Label) (kind : TraceKind) (trace : Trace) (rows : List Row) (size : ℕ) → IsOfKind kind trace → IsOfKind Log trace →
    IsGrownTrace d label kind trace (with_rows trace rows size) (map (seen_row d label) rows) size streams.Log
log_grown d label kind (Captured bytes capture) rows size is is_log = absurd is_log
log_grown d label Capture (Logged old n) rows size is is_log = absurd is
log_grown d label Log (Logged old n) rows size is is_log = record { of_kind = tt; events = map-append (seen_row d label) old rows; size = refl; aside = refl; stream = tt }

log_accepted : (held held' : Held) (k : ℕ) (label : Label) (bytes : List ℕ) (rows : List Row) (events : List Seen) (next : Stream) (IsWritten : List ℕ → Type 0) → slice_get held.declaration.labels k ≡ Some label →
    AreRows (records_of bytes) rows → events ≡ map (seen_row held.declaration label) rows → next ≡ streams.Log → AcceptAnswered held held' k events (length bytes) next IsWritten →
    KindAnswered Log held held' k (λ d s trace. LogReply d s k trace bytes) IsWritten
unfolding rows_at
log_accepted held held' k label bytes rows events next IsWritten at_label are is kept answered d s trace stands at_trace of_kind =
    let own = label_of held d s k trace stands at_trace in
    let new = with_rows trace rows (length bytes) in
    let grown = log_grown d own.0 own.0.kind trace rows (length bytes) (stands.kinds k own.0 trace own.1 at_trace) of_kind in
    let also = subst (λ (x : Stream). IsGrownTrace d own.0 own.0.kind trace new (map (seen_row d own.0) rows) (length bytes) x) (sym kept) grown in
    let same : events ≡ map (seen_row d own.0) rows = events_by (rows_at rows) held d s k own.0 label events stands own.1 at_label is in
    let a = answered d s own.0 trace new stands own.1 at_trace
    (subst (λ (es : List Seen). IsGrownTrace d own.0 own.0.kind trace new es (length bytes) next) (sym same) also) in
    (a.0, a.1, inl (rows, are, a.2), a.3, a.4)

log_refused : (held : Held) (k : ℕ) (bytes : List ℕ) (r : Refusal) (IsWritten : List ℕ → Type 0) → IsLogRefusal bytes r → IsWritten (refusal_line r) →
    KindAnswered Log held held k (λ d s trace. LogReply d s k trace bytes) IsWritten
log_refused held k bytes r IsWritten why written d s trace stands at_trace of_kind = (refusal_line r, s, inr (r, why, (refl, refl)), written, stands)

-- ---- a piece of a capture
-- what gives no events, by the bytes that wait and the packets that were passed over
abbrev aside_with : ℕ → Passed → Aside
aside_with n p = record { pending = n; passed = passed_count p }

aside_is : {m n : ℕ} {p q : Passed} → m ≡ n → p ≡ q → aside_with m p ≡ aside_with n q
aside_is {n = n} {p = p} waits passed = ap (λ (k : ℕ). aside_with k p) waits ∙ ap (λ (x : Passed). aside_with n x) passed

module _ (d : Declaration) (label : Label) (bytes piece : List ℕ) (capture : captures.Capture) (tail : Tail) (packets : List captures.Seen) (grows : Grows tail (bytes ++ piece) capture [] packets) where
  more_events : map (event_of_packet d label) grows.then.packets ≡ map (event_of_packet d label) capture.packets ++ map (event_of_packet d label) packets
  more_events =
      ap (λ (ps : List captures.Seen). map (event_of_packet d label) ps) grows.more ∙ map-append (event_of_packet d label) capture.packets grows.added
      ∙ ap (λ (ps : List captures.Seen). map (event_of_packet d label) capture.packets ++ map (event_of_packet d label) ps) (sym grows.grown)

  pub capture_grown : (kind : TraceKind) → IsOfKind kind (Captured bytes capture) →
      IsGrownTrace d label kind (Captured bytes capture) (Captured (bytes ++ piece) grows.then) (map (event_of_packet d label) packets) (length piece) (streams.Capture tail)
  capture_grown Log is = absurd is
  capture_grown Capture is = record {
    of_kind = stands_reads tail (bytes ++ piece) grows.then grows.stands;
    events = more_events;
    size = length-append bytes piece;
    aside = aside_is (stands_waiting tail (bytes ++ piece) grows.then grows.stands) (stands_passed tail (bytes ++ piece) grows.then grows.stands);
    stream = grows.stands;
  }

-- packets as events under a label
packets_at : List captures.Seen → Declaration → Label → List Seen
packets_at packets d label = map (event_of_packet d label) packets

module _ (held held' : Held) (k : ℕ) (label : Label) (piece : List ℕ) (tail next : Tail) (packets : List captures.Seen) (events : List Seen) (IsWritten : List ℕ → Type 0)
    (stood : (d : Declaration) (s : State) (bytes : List ℕ) (capture : captures.Capture) → StandsFor held d s → slice_get s.traces k ≡ Some (Captured bytes capture) → feeding.StandsFor tail bytes capture)
    (at_label : slice_get held.declaration.labels k ≡ Some label) (fed : IsFed tail piece next packets) (is : events ≡ map (event_of_packet held.declaration label) packets)
    (answered : AcceptAnswered held held' k events (length piece) (streams.Capture next) IsWritten) where
  by_trace : (d : Declaration) (s : State) (trace : Trace) → StandsFor held d s → slice_get s.traces k ≡ Some trace → IsOfKind Capture trace → Answered held' d (CaptureReply d s k trace piece) IsWritten
  unfolding packets_at
  by_trace d s (Logged rows size) stands at_trace of_kind = absurd of_kind
  by_trace d s (Captured bytes capture) stands at_trace of_kind =
      let own = label_of held d s k (Captured bytes capture) stands at_trace in
      let grows = fed bytes capture (stood d s bytes capture stands at_trace) in
      let new = Captured (bytes ++ piece) grows.then in
      let grown = capture_grown d own.0 bytes piece capture next packets grows own.0.kind (stands.kinds k own.0 (Captured bytes capture) own.1 at_trace) in
      let same : events ≡ map (event_of_packet d own.0) packets = events_by (packets_at packets) held d s k own.0 label events stands own.1 at_label is in
      let a = answered d s own.0 (Captured bytes capture) new stands own.1 at_trace
      (subst (λ (es : List Seen). IsGrownTrace d own.0 own.0.kind (Captured bytes capture) new es (length piece) (streams.Capture next)) (sym same) grown) in
      (a.0, a.1, inl (grows.then, stands_reads next (bytes ++ piece) grows.then grows.stands, a.2), a.3, a.4)

  pub capture_accepted : KindAnswered Capture held held' k (λ d s trace. CaptureReply d s k trace piece) IsWritten
  capture_accepted d s trace stands at_trace of_kind = by_trace d s trace stands at_trace of_kind

capture_refused : (held : Held) (k : ℕ) (piece : List ℕ) (tail : Tail) (r : Refusal) (IsWritten : List ℕ → Type 0) →
    ((d : Declaration) (s : State) (bytes : List ℕ) (capture : captures.Capture) → StandsFor held d s → slice_get s.traces k ≡ Some (Captured bytes capture) → feeding.StandsFor tail bytes capture) →
    IsRefusedAs (streams.Capture tail) piece r → IsWritten (refusal_line r) → KindAnswered Capture held held k (λ d s trace. CaptureReply d s k trace piece) IsWritten
capture_refused held k piece tail r IsWritten stood why written d s trace stands at_trace of_kind = by_kind trace at_trace of_kind
  where
    by_kind : (t : Trace) → slice_get s.traces k ≡ Some t → IsOfKind Capture t → Answered held d (CaptureReply d s k t piece) IsWritten
    by_kind (Logged rows size) at kind = absurd kind
    by_kind (Captured bytes capture) at kind = (refusal_line r, s, inr (r, why bytes capture (stood d s bytes capture stands at), (refl, refl)), written, stands)

-- ---- a piece by what is kept of those before it
-- what is kept of a capture stands for it
stood_for : (held : Held) (k : ℕ) (u : Under) (tail : Tail) → slice_get held.under k ≡ Some u → u.stream ≡ streams.Capture tail →
    (d : Declaration) (s : State) (bytes : List ℕ) (capture : captures.Capture) → StandsFor held d s → slice_get s.traces k ≡ Some (Captured bytes capture) → feeding.StandsFor tail bytes capture
stood_for held k u tail at_under is d s bytes capture stands at_trace =
    let P = λ (x : Stream). IsStreamOf x (Captured bytes capture) in
    subst P is (stands.streams k u (Captured bytes capture) at_under at_trace)

module _ (held held' : Held) (k : ℕ) (label : Label) (piece : List ℕ) (u : Under) (events : List Seen) (next : Stream) (IsWritten : List ℕ → Type 0) (at_under : slice_get held.under k ≡ Some u)
    (at_label : slice_get held.declaration.labels k ≡ Some label) (answered : AcceptAnswered held held' k events (length piece) next IsWritten) where
  by_stream : (kept : Stream) → u.stream ≡ kept → SaysEvents held.declaration label kept piece events next → KindAnswered (kind_by_stream kept) held held' k (λ d s trace. KindReply d s k trace (kind_by_stream kept) piece) IsWritten
  by_stream streams.Log is says = log_accepted held held' k label piece says.rows events next IsWritten at_label says.are says.seen says.kept answered
  by_stream (streams.Capture tail) is says =
      capture_accepted held held' k label piece tail says.fed says.packets events IsWritten (stood_for held k u tail at_under is) at_label says.completes says.seen
      (subst (λ (x : Stream). AcceptAnswered held held' k events (length piece) x IsWritten) says.kept answered)

  -- what says these events, which were accepted, is answered
  pub says_answered : SaysEvents held.declaration label u.stream piece events next → KindAnswered (kind_by_stream u.stream) held held' k (λ d s trace. KindReply d s k trace (kind_by_stream u.stream) piece) IsWritten
  says_answered says = by_stream u.stream refl says

module _ (held : Held) (k : ℕ) (piece : List ℕ) (u : Under) (r : Refusal) (IsWritten : List ℕ → Type 0) (at_under : slice_get held.under k ≡ Some u) (written : IsWritten (refusal_line r)) where
  refused_by_stream : (kept : Stream) → u.stream ≡ kept → IsRefusedAs kept piece r → KindAnswered (kind_by_stream kept) held held k (λ d s trace. KindReply d s k trace (kind_by_stream kept) piece) IsWritten
  refused_by_stream streams.Log is why = log_refused held k piece r IsWritten why written
  refused_by_stream (streams.Capture tail) is why = capture_refused held k piece tail r IsWritten (stood_for held k u tail at_under is) why written

  -- and so is a refusal
  pub refusal_answered : IsRefusedAs u.stream piece r → KindAnswered (kind_by_stream u.stream) held held k (λ d s trace. KindReply d s k trace (kind_by_stream u.stream) piece) IsWritten
  refusal_answered why = refused_by_stream u.stream refl why
