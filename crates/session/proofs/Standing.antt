-- The replies to a piece.
use Rattle.std.proofs.Common.{◌≡◌, ℕ, ◌+◌, ◌<◌, ◌≤◌, List, length, map, slice_get, Option, Some, None, Bool, true, false, nat_le, ◌&&◌, option_map, refl, sym, ◌∙◌, ap, subst, arith, MatchBool}
use Rattle.std.proofs.lemmas.Option.{slice_get-map, slice_get_within}
use Rattle.captures.proofs.Standing.{stands_reads}
use Rattle.decl.specs.declared.items.Label.{Label}
use Rattle.decl.specs.declared.items.TraceKind.{TraceKind}
use Rattle.decl.specs.declared.items.TraceKind.TheVariants.{Capture, Log}
use Rattle.decl.specs.Declaration.{Declaration}
use Rattle.traces.specs.declared.accepted.Stream.{Stream}
use Rattle.traces.specs.declared.accepted.Stream.TheVariants as streams
use Rattle.traces.specs.Traces.{Trace, Captured, Logged, bytes_accepted, IsOfKind}
use Rattle.replies.specs.declared.refusal.Refusal.TheVariants.{TooManyBytes}
use Rattle.replies.specs.Refusals.{refusal_line}
use Rattle.replies.specs.Reply.{State, Refuses, PieceReply, KindReply, most_of_label, most_piece}
use Rattle.session.specs.Stands.{Under, Held, StandsFor, IsStreamOf, kind_by_stream}
use Rattle.session.specs.Inside.{PieceAnswered, KindAnswered, HasPlace, IsPiece}
use Rattle.replies.proofs.Elements.{some_same, there_some}
use Rattle.session.proofs.Accepting.{choose}

mapped : {A B : Type 0} (f : A → B) (o : Option A) (y : B) → option_map f o ≡ Some y → (x : A) × (o ≡ Some x) × (f x ≡ y)
mapped f None y e = absurd cc
mapped f (Some x) y e = (x, refl, some_same (f x) y e)

pub map_there : {A B : Type 0} (f : A → B) (xs : List A) (k : ℕ) (y : B) → slice_get (map f xs) k ≡ Some y → (x : A) × (slice_get xs k ≡ Some x) × (f x ≡ y)
map_there f xs k y e = mapped f (slice_get xs k) y (sym (slice_get-map f xs k) ∙ e)

-- ---- the label at a place
-- what the traces have at a place whose kind and size are known
record There (d : Declaration) (s : State) (k size : ℕ) (kind : TraceKind) : Type 0 where
  label : Label
  label_is : slice_get d.labels k ≡ Some label
  kind_is : label.kind ≡ kind
  trace : Trace
  trace_is : slice_get s.traces k ≡ Some trace
  size_is : bytes_accepted trace ≡ size
  of_kind : IsOfKind kind trace

-- what is kept is of the kind of the trace, and so is the label
stream_kind : (stream : Stream) (trace : Trace) → IsStreamOf stream trace → IsOfKind (kind_by_stream stream) trace
stream_kind streams.Log (Captured bytes capture) is = absurd is
stream_kind streams.Log (Logged rows size) is = tt
stream_kind (streams.Capture tail) (Captured bytes capture) is = stands_reads tail bytes capture is
stream_kind (streams.Capture tail) (Logged rows size) is = absurd is

one_kind : (a b : TraceKind) (trace : Trace) → IsOfKind a trace → IsOfKind b trace → a ≡ b
one_kind Capture Capture trace is is' = refl
one_kind Log Log trace is is' = refl
one_kind Capture Log (Captured bytes capture) is is' = absurd is'
one_kind Capture Log (Logged rows size) is is' = absurd is
one_kind Log Capture (Captured bytes capture) is is' = absurd is
one_kind Log Capture (Logged rows size) is is' = absurd is'

there : (held : Held) (d : Declaration) (s : State) (k : ℕ) (u : Under) → StandsFor held d s → slice_get held.under k ≡ Some u → There d s k u.size (kind_by_stream u.stream)
there held d s k u stands at_under =
    let sizes = λ (x : Under). x.size in
    let at_size : slice_get (map sizes held.under) k ≡ Some u.size = slice_get-map sizes held.under k ∙ ap (option_map sizes) at_under in
    let trace = map_there bytes_accepted s.traces k u.size (subst (λ (x : List ℕ). slice_get x k ≡ Some u.size) stands.sizes at_size) in
    let within : k < length s.traces = slice_get_within s.traces k trace.0 trace.1 in
    let each : length s.traces ≡ length d.labels = stands.labels in
    let label = there_some d.labels k (omega (arith, within, each)) in
    let of_kind : IsOfKind (kind_by_stream u.stream) trace.0 = stream_kind u.stream trace.0 (stands.streams k u trace.0 at_under trace.1) in
    record {
      label = label.0;
      label_is = label.1;
      kind_is = one_kind label.0.kind (kind_by_stream u.stream) trace.0 (stands.kinds k label.0 trace.0 label.1 trace.1) of_kind;
      trace = trace.0;
      trace_is = trace.1;
      size_is = trace.2;
      of_kind = of_kind;
    }

-- a piece of this length fits, by itself and with so many bytes
abbrev pub fits : ℕ → ℕ → Bool
fits size n = nat_le n most_piece && nat_le (size + n) most_of_label

by_label : (d : Declaration) (s : State) (k size : ℕ) (kind : TraceKind) (bytes text : List ℕ) (s' : State) (t : There d s k size kind) →
    MatchBool (fits size (length bytes)) (KindReply d s k t.trace kind bytes text s') (Refuses s TooManyBytes text s') →
    PieceReply d s k (slice_get d.labels k) (slice_get s.traces k) bytes text s'
by_label d s k size kind bytes text s' t reply = rw (t.label_is, t.trace_is, t.size_is, t.kind_is) reply

-- ---- a piece that is refused as a whole
too_long : (n most : ℕ) (b : Bool) → most < n → (nat_le n most && b) ≡ false
too_long n most true long = grind (arith, long)
too_long n most false long = grind (arith, long)

abbrev pub PieceAt : ℕ → List ℕ → Declaration → State → List ℕ → State → Type 0
PieceAt k bytes d s text s' = PieceReply d s k (slice_get d.labels k) (slice_get s.traces k) bytes text s'

pub piece_long : (held : Held) (k : ℕ) (bytes : List ℕ) (IsWritten : List ℕ → Type 0) → k < length held.declaration.labels → most_piece < length bytes → IsWritten (refusal_line TooManyBytes) → PieceAnswered held held (PieceAt k bytes) IsWritten
piece_long held k bytes IsWritten inside long written d s stands =
    let within : k < length d.labels = subst (λ (x : Declaration). k < length x.labels) stands.declaration inside in
    let label = there_some d.labels k within in
    let trace = there_some s.traces k (let e = stands.labels in omega (arith, within, e)) in
    let reply : MatchBool (fits (bytes_accepted trace.0) (length bytes)) (KindReply d s k trace.0 label.0.kind bytes (refusal_line TooManyBytes) s) (Refuses s TooManyBytes (refusal_line TooManyBytes) s) =
    choose _ false _ _ (too_long (length bytes) most_piece _ long) (refl, refl) in
    (_, s, rw (label.1, trace.1) reply, written, stands)

pub piece_full : (held : Held) (k : ℕ) (u : Under) (bytes : List ℕ) (IsWritten : List ℕ → Type 0) → slice_get held.under k ≡ Some u →
    fits u.size (length bytes) ≡ false → IsWritten (refusal_line TooManyBytes) → PieceAnswered held held (PieceAt k bytes) IsWritten
piece_full held k u bytes IsWritten at_under no_place written d s stands =
    let t = there held d s k u stands at_under in
    (_, s, by_label d s k u.size (kind_by_stream u.stream) bytes _ s t (choose _ false _ _ no_place (refl, refl)), written, stands)

-- ---- a piece that is read by the kind of its label
piece_by_kind : (held held' : Held) (k : ℕ) (u : Under) (bytes : List ℕ) (IsWritten : List ℕ → Type 0) → slice_get held.under k ≡ Some u → fits u.size (length bytes) ≡ true →
    KindAnswered (kind_by_stream u.stream) held held' k (λ d s trace. KindReply d s k trace (kind_by_stream u.stream) bytes) IsWritten → PieceAnswered held held' (PieceAt k bytes) IsWritten
piece_by_kind held held' k u bytes IsWritten at_under place answered d s stands =
    let t = there held d s k u stands at_under in
    let a = answered d s t.trace stands t.trace_is t.of_kind in
    (a.0, a.1, by_label d s k u.size (kind_by_stream u.stream) bytes a.0 a.1 t (choose _ true _ _ place a.2), a.3, a.4)

pub whole_piece : (more : Bool) (front bytes : List ℕ) → more ≡ false → IsPiece more front bytes → front ≡ bytes
whole_piece true front bytes e piece = absurd cc
whole_piece false front bytes e piece = sym piece

pub long_piece : (more : Bool) (front bytes : List ℕ) → more ≡ true → IsPiece more front bytes → most_piece < length bytes
long_piece true front bytes e piece = piece
long_piece false front bytes e piece = absurd cc

-- a front of which there is more
pub piece_more : (held : Held) (k : ℕ) (more : Bool) (front : List ℕ) (IsWritten : List ℕ → Type 0) → more ≡ true → k < length held.declaration.labels → IsWritten (refusal_line TooManyBytes) →
    (bytes : List ℕ) → IsPiece more front bytes → PieceAnswered held held (PieceAt k bytes) IsWritten
piece_more held k more front IsWritten is inside written bytes piece = piece_long held k bytes IsWritten inside (long_piece more front bytes is piece) written

pub piece_read : (held held' : Held) (k : ℕ) (u : Under) (more : Bool) (front : List ℕ) (IsWritten : List ℕ → Type 0) → more ≡ false → slice_get held.under k ≡ Some u →
    fits u.size (length front) ≡ true → KindAnswered (kind_by_stream u.stream) held held' k (λ d s trace. KindReply d s k trace (kind_by_stream u.stream) front) IsWritten →
    (bytes : List ℕ) → IsPiece more front bytes → PieceAnswered held held' (PieceAt k bytes) IsWritten
piece_read held held' k u more front IsWritten whole at_under place answered bytes piece =
    subst (λ (b : List ℕ). PieceAnswered held held' (PieceAt k b) IsWritten) (whole_piece more front bytes whole piece)
    (piece_by_kind held held' k u front IsWritten at_under place answered)

pub piece_without_place : (held : Held) (k : ℕ) (u : Under) (more : Bool) (front : List ℕ) (IsWritten : List ℕ → Type 0) → more ≡ false → slice_get held.under k ≡ Some u →
    fits u.size (length front) ≡ false → IsWritten (refusal_line TooManyBytes) → (bytes : List ℕ) → IsPiece more front bytes → PieceAnswered held held (PieceAt k bytes) IsWritten
piece_without_place held k u more front IsWritten whole at_under no_place written bytes piece =
    subst (λ (b : List ℕ). PieceAnswered held held (PieceAt k b) IsWritten) (whole_piece more front bytes whole piece) (piece_full held k u front IsWritten at_under no_place written)

and_left : (a b : Bool) → (a && b) ≡ true → a ≡ true
and_left true b e = refl
and_left false b e = absurd cc

and_right : (a b : Bool) → (a && b) ≡ true → b ≡ true
and_right true b e = e
and_right false b e = absurd cc

le_true : (n most : ℕ) → nat_le n most ≡ true → n ≤ most
le_true n most e = grind (arith, e)

pub fits_short : (size n : ℕ) → fits size n ≡ true → n ≤ most_piece
fits_short size n e = le_true n most_piece (and_left _ _ e)

pub fits_place : (under : List Under) (k n : ℕ) (u : Under) → slice_get under k ≡ Some u → fits u.size n ≡ true → HasPlace under k n
fits_place under k n u at_under e v at_v =
    subst (λ (x : Under). x.size + n ≤ most_of_label) (some_same u v (sym at_under ∙ at_v)) (le_true (u.size + n) most_of_label (and_right (nat_le n most_piece) _ e))
