-- What a session has is lawful when it starts, and behind each line.
use Rattle.std.proofs.Common.{◌≡◌, ◌≢◌, ◌⊎◌, inl, inr, ℕ, zero, suc, ◌+◌, ◌<◌, ◌≤◌, ◌^◌, List, [], ◌∷◌, ◌++◌, length, map, replicate, slice_get, slice_set, Option, Some, None, Bool, true, false, nat_le, MatchBool, All, refl, sym, ◌∙◌, ap, subst, arith, length-set}
use Rattle.std.proofs.lemmas.List.{length-map, map-append}
use Rattle.std.proofs.lemmas.List.Elements.{All-append, All-cons, All-head, All-map, All-nil, All-set, All-tail}
use Rattle.ports.specs.Files.{Content}
use Rattle.problem_model.specs.Problem.{ProblemLists}
use Rattle.problem_model.specs.Limits.{most_events}
use Rattle.event_log.specs.declared.row.Row.{Row}
use Rattle.event_log.specs.Row.{IsRowRecord}
use Rattle.event_log.specs.Log.{records_of, AreRows}
use Rattle.captures.specs.Capture as captures
use Rattle.captures.specs.Capture.{Reads, nothing}
use Rattle.captures.proofs.Bounds.{packets_stamped}
use Rattle.decl.specs.declared.items.Label.{Label}
use Rattle.decl.specs.declared.items.TraceKind.{TraceKind}
use Rattle.decl.specs.declared.items.TraceKind.TheVariants.{Capture, Log}
use Rattle.decl.specs.Declaration.{Declaration}
use Rattle.traces.specs.Seen.{Seen, seen_row, event_of_packet}
use Rattle.traces.specs.declared.event_id.EventId.{EventId}
use Rattle.traces.specs.Traces.{Trace, Captured, Logged, Traces, IsOfKind, event_count, nothing_for, seen_by, seen_of}
use Rattle.traces.specs.Messages.{problem_of}
use Rattle.traces.specs.Making.{StampsFit}
use Rattle.replies.specs.declared.refusal.Refusal.TheVariants.{NoCommand, TooManyBytes, TooManyEvents}
use Rattle.replies.specs.Commands.{Command, Add, Keep, Ask, Asks}
use Rattle.replies.specs.Reply.{State, Found, Unread, Bytes, Absent, Failed, count_by, IsAdded, aside_of, Refuses, AcceptReply, with_rows, bytes_of, KindReply, PieceReply, AddReply, fits_label, label_at, IsPlacedAt, SlotReply, KeepReply, Reply, AreKept}
use Rattle.replies.specs.Sessions.{CommandReply, LineReply, start}
use Rattle.replies.specs.OneReply.{IsState}
use Rattle.replies.specs.Lawful.{AreBytes, FindsBytes, IsOfBytes, IsLawful}
use Rattle.replies.proofs.SeenUnder.{seen_at, seen_set, events_start, kinds_start}
use Rattle.replies.proofs.Elements.{set_or_same, le_true, none_counted, some_same}
use Rattle.replies.proofs.KeptEvents.{kept_grown, kept_more, none_kept}

-- what the crates below say of captures
pub record Captures : Type 0 where
  pub none : Reads [] nothing
  pub stay : (s t : List ℕ) (a b : captures.Capture) → Reads s a → Reads (s ++ t) b → (more : List captures.Seen) × (b.packets ≡ a.packets ++ more)

-- an event's stamp is below 2^62
abbrev IsStamped : Seen → Type 0
IsStamped s = s.stamp < 2 ^ 62

-- ---- a session that starts
of_bytes : (kind : TraceKind) → IsOfBytes (nothing_for kind)
of_bytes Capture = All-nil (λ b. b < 256)
of_bytes Log = tt

-- nothing for each label
abbrev nothing_under : List Label → Traces
nothing_under labels = map (λ (l : Label). nothing_for l.kind) labels

no_stamps : (n : ℕ) → StampsFit (replicate n [])
no_stamps zero = All-nil (All IsStamped)
no_stamps (suc n) = All-cons (All IsStamped) [] (replicate n []) (All-nil IsStamped) (no_stamps n)

start_bytes : (labels : List Label) → All IsOfBytes (nothing_under labels)
start_bytes [] = All-nil IsOfBytes
start_bytes (l ∷ labels) = All-cons IsOfBytes (nothing_for l.kind) (nothing_under labels) (of_bytes l.kind) (start_bytes labels)

pub start_lawful : Captures → (d : Declaration) → IsLawful d (start d)
start_lawful below d =
    let none : seen_by d (start d).traces ≡ replicate (length d.labels) [] = events_start d d.labels in
    let count : count_by d (start d).traces ≡ 0 = ap event_count none ∙ none_counted (length d.labels) in
    let state : IsState d (start d) = record {
      labels = length-map d.labels (λ (l : Label). nothing_for l.kind);
      kinds = kinds_start below.none d.labels;
      few = omega (arith, count);
      stamps = subst (λ (seen : List (List Seen)). StampsFit seen) (sym none) (no_stamps (length d.labels));
      kept = none_kept (seen_by d (start d).traces);
    } in
    record { state = state; bytes = start_bytes d.labels }

-- ---- something more under one label
-- what was accepted under a label grew to this, which is of its kind, came of bytes, and has lawful stamps
pub record IsMore (d : Declaration) (label : Label) (old new : Trace) : Type 0 where
  pub kind : IsOfKind label.kind new
  pub bytes : IsOfBytes new
  pub events : (more : List Seen) × (seen_of d label new ≡ seen_of d label old ++ more)
  pub stamps : All IsStamped (seen_of d label new)

module _ (d : Declaration) (s : State) (k : ℕ) (label : Label) (old new : Trace) (lawful : IsLawful d s) (at_label : slice_get d.labels k ≡ Some label) (at_old : slice_get s.traces k ≡ Some old) (is : IsMore d label old new) where
  then_kinds : (j : ℕ) (l : Label) (trace : Trace) → slice_get d.labels j ≡ Some l → slice_get (slice_set s.traces k new) j ≡ Some trace → IsOfKind l.kind trace
  then_kinds j l trace at at' = by (set_or_same s.traces k j new trace at')
    where
      by : ((j ≡ k) × (trace ≡ new)) ⊎ ((j ≢ k) × (slice_get s.traces j ≡ Some trace)) → IsOfKind l.kind trace
      by (inl (here, same)) =
          let one : label ≡ l = some_same label l (sym at_label ∙ ap (slice_get d.labels) (sym here) ∙ at) in
          subst (λ (t : Trace). IsOfKind l.kind t) (sym same) (subst (λ (x : Label). IsOfKind x.kind new) one is.kind)
      by (inr was) = lawful.state.kinds j l trace at was.1

  then_seen : seen_by d (slice_set s.traces k new) ≡ slice_set (seen_by d s.traces) k (seen_of d label new)
  then_seen = seen_set d d.labels s.traces k label new at_label

  then_kept : AreKept (seen_by d (slice_set s.traces k new)) s.kept
  then_kept =
      let had : slice_get (seen_by d s.traces) k ≡ Some (seen_of d label old) = seen_at d d.labels s.traces k label old at_label at_old in
      let grown : AreKept (slice_set (seen_by d s.traces) k (seen_of d label old ++ is.events.0)) s.kept =
      kept_grown (seen_by d s.traces) s.kept k (seen_of d label old) is.events.0 had lawful.state.kept in
      let whole : slice_set (seen_by d s.traces) k (seen_of d label old ++ is.events.0) ≡ seen_by d (slice_set s.traces k new) =
      ap (slice_set (seen_by d s.traces) k) (sym is.events.1) ∙ sym then_seen in
      subst (λ (seen : List (List Seen)). AreKept seen s.kept) whole grown

  then_state : count_by d (slice_set s.traces k new) ≤ most_events → IsState d (record s { traces = slice_set s.traces k new })
  then_state few = record {
    labels = length-set s.traces k new ∙ lawful.state.labels;
    kinds = then_kinds;
    few = few;
    stamps = subst (λ (seen : List (List Seen)). StampsFit seen) (sym then_seen) (All-set (All IsStamped) (seen_by d s.traces) k (seen_of d label new) is.stamps lawful.state.stamps);
    kept = then_kept;
  }

  -- whether it is accepted or refused
  accept_lawful : (b : Bool) (text : List ℕ) (after : State) → nat_le (count_by d (slice_set s.traces k new)) (most_events) ≡ b →
      MatchBool b ((after ≡ record s { traces = slice_set s.traces k new }) × IsAdded d s.traces (slice_set s.traces k new) (aside_of new) text) (Refuses s TooManyEvents text after) → IsLawful d after
  accept_lawful true text after is_few reply =
      let few : count_by d (slice_set s.traces k new) ≤ most_events = le_true (count_by d (slice_set s.traces k new)) (most_events) is_few in
      subst (IsLawful d) (sym reply.0) (record { state = then_state few; bytes = All-set IsOfBytes s.traces k new is.bytes lawful.bytes })
  accept_lawful false text after is_many reply = subst (IsLawful d) (sym reply.1) lawful

  then_lawful : (text : List ℕ) (after : State) → AcceptReply d s k new text after → IsLawful d after
  then_lawful text after reply = accept_lawful (nat_le (count_by d (slice_set s.traces k new)) (most_events)) text after refl reply

-- ---- pieces
all_at : {A : Type 0} (P : A → Type 0) (xs : List A) (k : ℕ) (x : A) → All P xs → slice_get xs k ≡ Some x → P x
all_at P [] k x all at = absurd cc
all_at P (y ∷ xs) zero x all at = subst P (some_same y x at) (All-head P y xs all)
all_at P (y ∷ xs) (suc k) x all at = all_at P xs k x (All-tail P y xs all) at

row_stamped : (d : Declaration) (label : Label) (fields : List (List ℕ)) (row : Row) → IsRowRecord fields row → IsStamped (seen_row d label row)
row_stamped d label fields row is = subst (λ (r : Row). r.stamp < 2 ^ 62) (sym is.is) is.stamp.below

rows_stamped : (d : Declaration) (label : Label) (records : List (List (List ℕ))) (rows : List Row) → AreRows records rows → All IsStamped (map (seen_row d label) rows)
rows_stamped d label [] [] are = All-nil IsStamped
rows_stamped d label [] (row ∷ rows) are = absurd are
rows_stamped d label (fields ∷ records) [] are = absurd are
rows_stamped d label (fields ∷ records) (row ∷ rows) are =
    All-cons IsStamped (seen_row d label row) (map (seen_row d label) rows) (row_stamped d label fields row are.0) (rows_stamped d label records rows are.1)

log_more : (d : Declaration) (label : Label) (trace : Trace) (rows : List Row) (size : ℕ) → label.kind ≡ Log → IsOfKind label.kind trace → All IsStamped (seen_of d label trace) → All IsStamped (map (seen_row d label) rows) →
    IsMore d label trace (with_rows trace rows size)
log_more d label (Captured bytes capture) rows size log is stamps more = absurd (subst (λ (kind : TraceKind). IsOfKind kind (Captured bytes capture)) log is)
log_more d label (Logged old n) rows size log is stamps more =
    let seen : Row → Seen = seen_row d label in
    let joined : map seen (old ++ rows) ≡ map seen old ++ map seen rows = map-append seen old rows in
    record {
      kind = subst (λ (kind : TraceKind). IsOfKind kind (Logged (old ++ rows) (n + size))) (sym log) tt;
      bytes = tt;
      events = (map seen rows, joined);
      stamps = subst (All IsStamped) (sym joined) (All-append IsStamped (map seen old) (map seen rows) stamps more);
    }

capture_more : Captures → (d : Declaration) (label : Label) (trace : Trace) (piece : List ℕ) (capture : captures.Capture) → label.kind ≡ Capture → IsOfKind label.kind trace → IsOfBytes trace → AreBytes piece →
    Reads (bytes_of trace ++ piece) capture → IsMore d label trace (Captured (bytes_of trace ++ piece) capture)
capture_more below d label (Logged rows size) piece capture kind is has more reads = absurd (subst (λ (kind : TraceKind). IsOfKind kind (Logged rows size)) kind is)
capture_more below d label (Captured bytes old) piece capture kind is has more reads =
    let was : Reads bytes old = subst (λ (kind : TraceKind). IsOfKind kind (Captured bytes old)) kind is in
    let all : AreBytes (bytes ++ piece) = All-append (λ b. b < 256) bytes piece has more in
    let seen : captures.Seen → Seen = event_of_packet d label in
    let added = below.stay bytes piece old capture was reads in
    record {
      kind = subst (λ (kind : TraceKind). IsOfKind kind (Captured (bytes ++ piece) capture)) (sym kind) reads;
      bytes = all;
      events = (map seen added.0, ap (map seen) added.1 ∙ map-append seen old.packets added.0);
      stamps = All-map IsStamped seen capture.packets (packets_stamped (bytes ++ piece) capture all reads);
    }

module _ (below : Captures) (d : Declaration) (s : State) (lawful : IsLawful d s) where
  same_lawful : (after : State) → after ≡ s → IsLawful d after
  same_lawful after same = subst (IsLawful d) (sym same) lawful

  kind_lawful : (k : ℕ) (label : Label) (trace : Trace) (kind : TraceKind) (bytes text : List ℕ) (after : State) → slice_get d.labels k ≡ Some label → slice_get s.traces k ≡ Some trace → label.kind ≡ kind →
      AreBytes bytes → KindReply d s k trace kind bytes text after → IsLawful d after
  kind_lawful k label trace Capture bytes text after at at' kind are (inl (capture, reads, reply)) =
      let is : IsOfKind label.kind trace = lawful.state.kinds k label trace at at' in
      let has : IsOfBytes trace = all_at IsOfBytes s.traces k trace lawful.bytes at' in
      then_lawful d s k label trace (Captured (bytes_of trace ++ bytes) capture) lawful at at' (capture_more below d label trace bytes capture kind is has are reads) text after reply
  kind_lawful k label trace Capture bytes text after at at' kind are (inr (r, why, refused)) = same_lawful after refused.1
  kind_lawful k label trace Log bytes text after at at' kind are (inl (rows, are_rows, reply)) =
      let is : IsOfKind label.kind trace = lawful.state.kinds k label trace at at' in
      let stamps : All IsStamped (seen_of d label trace) = all_at (All IsStamped) (seen_by d s.traces) k (seen_of d label trace) lawful.state.stamps (seen_at d d.labels s.traces k label trace at at') in
      then_lawful d s k label trace (with_rows trace rows (length bytes)) lawful at at'
      (log_more d label trace rows (length bytes) kind is stamps (rows_stamped d label (records_of bytes) rows are_rows)) text after reply
  kind_lawful k label trace Log bytes text after at at' kind are (inr (r, why, refused)) = same_lawful after refused.1

  sized_lawful : (fits : Bool) (k : ℕ) (label : Label) (trace : Trace) (bytes text : List ℕ) (after : State) → slice_get d.labels k ≡ Some label → slice_get s.traces k ≡ Some trace → AreBytes bytes →
      MatchBool fits (KindReply d s k trace label.kind bytes text after) (Refuses s TooManyBytes text after) → IsLawful d after
  sized_lawful true k label trace bytes text after at at' are reply = kind_lawful k label trace label.kind bytes text after at at' refl are reply
  sized_lawful false k label trace bytes text after at at' are refused = same_lawful after refused.1

  piece_lawful : (k : ℕ) (label : Option Label) (trace : Option Trace) (bytes text : List ℕ) (after : State) → slice_get d.labels k ≡ label → slice_get s.traces k ≡ trace → AreBytes bytes →
      PieceReply d s k label trace bytes text after → IsLawful d after
  piece_lawful k None trace bytes text after at at' are reply = absurd reply
  piece_lawful k (Some label) None bytes text after at at' are reply = absurd reply
  piece_lawful k (Some label) (Some trace) bytes text after at at' are reply = sized_lawful (fits_label trace bytes) k label trace bytes text after at at' are reply

  add_lawful : (place : Option ℕ) (found : Found) (text : List ℕ) (after : State) → FindsBytes found → AddReply d s place found text after → IsLawful d after
  add_lawful None Unread text after are refused = same_lawful after refused.1
  add_lawful None (Bytes bytes) text after are reply = absurd reply
  add_lawful None Absent text after are reply = absurd reply
  add_lawful None Failed text after are reply = absurd reply
  add_lawful (Some k) Unread text after are reply = absurd reply
  add_lawful (Some k) (Bytes bytes) text after are reply = piece_lawful k (slice_get d.labels k) (slice_get s.traces k) bytes text after refl refl are reply
  add_lawful (Some k) Absent text after are refused = same_lawful after refused.1
  add_lawful (Some k) Failed text after are refused = same_lawful after refused.1

  -- ---- events that are kept
  slot_kept : (place : ℕ) (event : EventId) (text : List ℕ) (kept : List EventId) → IsPlacedAt (seen_by d s.traces) place event → SlotReply s.kept event text kept → AreKept (seen_by d s.traces) kept
  slot_kept place event text kept here (inl (k, at, told, same)) = subst (AreKept (seen_by d s.traces)) (sym same) lawful.state.kept
  slot_kept place event text kept here (inr (inl (none, few, told, more))) =
      subst (AreKept (seen_by d s.traces)) (sym more) (kept_more (seen_by d s.traces) s.kept event place lawful.state.kept none few here)
  slot_kept place event text kept here (inr (inr (none, full, told, same))) = subst (AreKept (seen_by d s.traces)) (sym same) lawful.state.kept

  keep_kept : (p : ProblemLists) (name text : List ℕ) (kept : List EventId) → KeepReply p (seen_by d s.traces) s.kept name text kept → AreKept (seen_by d s.traces) kept
  keep_kept p name text kept (inl (place, event, has, here, slot)) = slot_kept place event text kept here slot
  keep_kept p name text kept (inr (none, told, same)) = subst (AreKept (seen_by d s.traces)) (sym same) lawful.state.kept

  keep_lawful : (after : State) → after.traces ≡ s.traces → AreKept (seen_by d s.traces) after.kept → IsLawful d after
  keep_lawful after same are =
      let state : IsState d (record { traces = s.traces; kept = after.kept }) = record {
        labels = lawful.state.labels;
        kinds = lawful.state.kinds;
        few = lawful.state.few;
        stamps = lawful.state.stamps;
        kept = are;
      } in
      subst (λ (t : Traces). IsLawful d (record { traces = t; kept = after.kept })) (sym same) (record { state = state; bytes = lawful.bytes })

  -- ---- lines
  reply_lawful : (c : Command) (found : Found) (text : List ℕ) (after : State) → FindsBytes found → Reply d s c found text after → IsLawful d after
  reply_lawful (Add label path) found text after are reply = add_lawful (label_at d label) found text after are reply
  reply_lawful (Keep event) found text after are reply = keep_lawful after reply.1 (keep_kept (problem_of d s.traces) event text after.kept reply.2)
  reply_lawful (Ask question) found text after are reply = same_lawful after reply.1

  command_lawful : (files : Content) (c : Option Command) (found : Found) (text : List ℕ) (after : State) → FindsBytes found → CommandReply d files s c found text after → IsLawful d after
  command_lawful files None found text after are reply = same_lawful after reply.1.1
  command_lawful files (Some c) found text after are reply = reply_lawful c found text after are reply.1

  short_lawful : (short : Bool) (files : Content) (line : List ℕ) (found : Found) (text : List ℕ) (after : State) → FindsBytes found →
      MatchBool short ((c : Option Command) × Asks line c × CommandReply d files s c found text after) ((found ≡ Unread) × Refuses s NoCommand text after) → IsLawful d after
  short_lawful true files line found text after are reply = command_lawful files reply.0 found text after are reply.2
  short_lawful false files line found text after are reply = same_lawful after reply.1.1

  pub line_lawful : (files : Content) (line : List ℕ) (found : Found) (text : List ℕ) (after : State) → FindsBytes found → LineReply d files s line found text after → IsLawful d after
  line_lawful files line found text after are reply = short_lawful (nat_le (length line) 4096) files line found text after are reply
