-- What is told of captures, by what a session holds of them.
use Rattle.std.proofs.Common.{◌≡◌, ◌≤◌, ◌<◌, ◌+◌, ◌==◌, inl, inr, ℕ, suc, Bool, true, false, if◌then◌else◌, List, [], ◌∷◌, ◌++◌, length, map, drop, get_or, slice_get, Some, option_map, Result, Ok, Err, OnOk, refl, sym, ◌∙◌, ap, subst, arith}
use Rattle.std.specs.Prelude.{IsErr}
use Rattle.std.proofs.lemmas.List.{length-map}
use Rattle.std.proofs.lemmas.Option.{slice_get-map, slice_get_read}
use Rattle.ports.specs.declared.failed.Failed.{Failed}
use Rattle.ports.specs.Content.{SinkTold, Writes}
use Rattle.ports.proofs.Writing.{Leaves, leaves_as, leaves_cut, leaves_less, leaves_none, writes_as}
use Rattle.captures.specs.Capture.{Passed}
use Rattle.captures.specs.Feeding.{passed_of}
use Rattle.captures.proofs.Standing.{stands_passed, stands_waiting}
use Rattle.problem_model.proofs.Walking.{drop_all, drop_more}
use Rattle.decl.specs.declared.items.Label.{Label}
use Rattle.decl.specs.Declaration.{Declaration}
use Rattle.mergecap.specs.MergedCapture.{Timed}
use Rattle.traces.specs.declared.accepted.Accepted.{Accepted}
use Rattle.traces.specs.declared.accepted.Stream.{Stream}
use Rattle.traces.specs.declared.accepted.Stream.TheVariants as streams
use Rattle.traces.specs.Traces.{Trace, Captured, Logged, Traces, bytes_accepted}
use Rattle.replies.specs.Reply.{State}
use Rattle.session.specs.Stands.{Held, StandsFor, Under, IsStreamOf, under_of}
use Rattle.session.specs.Script.{Devices}
use Rattle.session.proofs.Places.{of_script}
use Rattle.merge_script.specs.Gathered.{AddsScript}
use Rattle.merge_script.specs.Turns.{GathersAll}
use Rattle.merge_script.specs.Notes.{AreNoted, IsToldNote, NotesAdded, capture_notes, is_nothing, notes_held, notes_kept, notes_on, notes_text, notes_under, passed_line, passed_note, pending_line, pending_note}

-- ---- one line
module _ (label : List ℕ) (n : ℕ) where
  pub no_pending : (n == 0) ≡ true → pending_note label n ≡ []
  no_pending is = ap (λ (b : Bool). if b then [] else pending_line label n) is

  pub some_pending : (n == 0) ≡ false → pending_note label n ≡ pending_line label n
  some_pending is = ap (λ (b : Bool). if b then [] else pending_line label n) is

module _ (label : List ℕ) (p : Passed) where
  pub no_passed : is_nothing p ≡ true → passed_note label p ≡ []
  no_passed is = ap (λ (b : Bool). if b then [] else passed_line label p) is

  pub some_passed : is_nothing p ≡ false → passed_note label p ≡ passed_line label p
  some_passed is = ap (λ (b : Bool). if b then [] else passed_line label p) is

-- ---- label by label
-- the notes from a place on begin with those on the label there
pub notes_more : (labels : List Label) (under : List Under) (k : ℕ) (label : Label) (u : Under) → slice_get labels k ≡ Some label → slice_get under k ≡ Some u →
    notes_held (drop k labels) (drop k under) ≡ notes_kept label.name u.stream ++ notes_held (drop (k + 1) labels) (drop (k + 1) under)
notes_more labels under k label u at at_under =
    ap (λ (ls : List Label). notes_held ls (drop k under)) (drop_more labels k label at) ∙ ap (λ (us : List Under). notes_held (label ∷ drop (k + 1) labels) us) (drop_more under k u at_under)

-- the same of the label and of what is held at a place
module _ (labels : List Label) (all : List Accepted) (k : ℕ) (label : Label) (a : Accepted) (inside : k < length labels) (each : length all ≡ length labels) (is : label ≡ get_or labels k label) (is' : a ≡ get_or all k a)
    {old now : SinkTold} {text : List ℕ} (left : Leaves old now (notes_held (drop k labels) (drop k (map under_of all))) text) where
  note_there : Leaves old now (notes_kept label.name a.stream ++ notes_held (drop (k + 1) labels) (drop (k + 1) (map under_of all))) text
  note_there =
      let at : slice_get labels k ≡ Some label = slice_get_read labels (length labels) k label refl inside is in
      let within : k < length all = omega (arith, inside, each) in
      let at_under : slice_get (map under_of all) k ≡ Some (under_of a) = slice_get-map under_of all k ∙ ap (option_map under_of) (slice_get_read all (length all) k a refl within is') in
      leaves_as (notes_more labels (map under_of all) k label (under_of a) at at_under) left

  note_read : notes_kept (get_or labels k label).name (get_or all k a).stream ≡ notes_kept label.name a.stream
  note_read = ap (λ (l : Label). notes_kept l.name (get_or all k a).stream) (sym is) ∙ ap (λ (x : Accepted). notes_kept label.name x.stream) (sym is')

  pub note_written : {A E : Type 0} {v : A} {mid : SinkTold} → Writes {A = A} {E = E} (notes_kept (get_or labels k label).name (get_or all k a).stream) now mid (Ok v) → Leaves old mid (notes_held (drop (k + 1) labels) (drop (k + 1) (map under_of all))) text
  note_written piece = leaves_less note_there (writes_as note_read piece)

  pub note_cut : {A E : Type 0} {e : E} {r : Result (Unit {0}) Failed} {new : SinkTold} → IsErr r → Writes {A = A} {E = E} (notes_kept (get_or labels k label).name (get_or all k a).stream) now new (Err e) → Writes text old new r
  note_cut failed front = leaves_cut (notes_held (drop (k + 1) labels) (drop (k + 1) (map under_of all))) note_there failed (writes_as note_read front)

-- behind the last label there are none
pub notes_none : (labels : List Label) (under : List Under) (k : ℕ) → length labels ≤ k → notes_held (drop k labels) under ≡ []
notes_none labels under k past = ap (λ (ls : List Label). notes_held ls under) (drop_all labels k past)

pub notes_written : (labels : List Label) (under : List Under) (k : ℕ) {old now : SinkTold} {text : List ℕ} → length labels ≤ k → Leaves old now (notes_held (drop k labels) (drop k under)) text →
    Writes {A = Unit {0}} {E = Failed} text old now (Ok tt)
notes_written labels under k past left = leaves_none (leaves_as (notes_none labels (drop k under) k past) left)

-- ---- what a session holds is what was accepted
kept_notes : (label : List ℕ) (stream : Stream) (trace : Trace) → IsStreamOf stream trace → notes_kept label stream ≡ notes_on label trace
kept_notes label streams.Log (Captured bytes capture) is = absurd is
kept_notes label streams.Log (Logged rows size) is = refl
kept_notes label (streams.Capture tail) (Captured bytes capture) is =
    ap (λ (n : ℕ). capture_notes label n (passed_of tail)) (stands_waiting tail bytes capture is)
    ∙ ap (λ (passed : Passed). capture_notes label (length capture.rest) passed) (stands_passed tail bytes capture is)
kept_notes label (streams.Capture tail) (Logged rows size) is = absurd is

held_notes : (labels : List Label) (under : List Under) (traces : Traces) → length under ≡ length traces →
    ((k : ℕ) (u : Under) (trace : Trace) → slice_get under k ≡ Some u → slice_get traces k ≡ Some trace → IsStreamOf u.stream trace) → notes_held labels under ≡ notes_under labels traces
held_notes [] under traces each kept = refl
held_notes (l ∷ labels) [] [] each kept = refl
held_notes (l ∷ labels) [] (t ∷ traces) each kept = absurd (omega (arith, each))
held_notes (l ∷ labels) (u ∷ under) [] each kept = absurd (omega (arith, each))
held_notes (l ∷ labels) (u ∷ under) (t ∷ traces) each kept =
    ap (λ (note : List ℕ). note ++ notes_held labels under) (kept_notes l.name u.stream t (kept 0 u t refl refl))
    ∙ ap (λ (more : List ℕ). notes_on l.name t ++ more) (held_notes labels under traces (omega (arith, each)) (λ k v s at at_trace. kept (suc k) v s at at_trace))

one_each : (h : Held) (d : Declaration) (s : State) → StandsFor h d s → length h.under ≡ length s.traces
one_each h d s stands = sym (length-map h.under (λ (u : Under). u.size)) ∙ ap length stands.sizes ∙ length-map s.traces bytes_accepted

-- ---- where they are told
pub told_so : {A E : Type 0} (r : Result A E) (text : List ℕ) (old new : SinkTold) → Writes text old new r → IsToldNote text old new
told_so (Ok a) text old new written = inl written.ok
told_so (Err e) text old new written = inr (written.cause, written.err)

pub on_ok : {A E : Type 0} (r : Result A E) (P Q : Type 0) → (P → Q) → OnOk r P → OnOk r Q
on_ok (Ok a) P Q turn p = turn p
on_ok (Err e) P Q turn p = tt

-- all lines of the script are added, and the notes on what the session holds are told
pub noted_all : (d : Declaration) (old new : Devices) (h : Held) (kept : List Timed) (before after : SinkTold) → GathersAll d old new h kept → IsToldNote (notes_held h.declaration.labels h.under) before after →
    AreNoted d old new before after
noted_all d old new h kept before after all told =
    let s = all.are.state in
    let same : notes_held h.declaration.labels h.under ≡ notes_text d s.traces =
    held_notes h.declaration.labels h.under s.traces (one_each h h.declaration s all.are.stands) all.are.stands.streams ∙ ap (λ (x : Declaration). notes_text x s.traces) all.declared in
    of_script old.input.left (AddsScript d old new s) (NotesAdded d old new before after)
    (λ script adds. record { state = s; adds = adds; told = subst (λ (text : List ℕ). IsToldNote text before after) same told }) all.adds
