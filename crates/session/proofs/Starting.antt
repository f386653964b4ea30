-- A session that begins.
use Rattle.std.proofs.Common.{◌≡◌, ◌≤◌, ℕ, zero, suc, List, [], ◌∷◌, length, map, replicate, slice_get, Some, All, refl, sym, ◌∙◌, ap, arith, subst}
use Rattle.std.proofs.lemmas.List.{length-map}
use Rattle.std.proofs.lemmas.List.Elements.{All-head, All-map, All-tail, All-weaker}
use Rattle.captures.specs.Capture.{Reads, nothing}
use Rattle.captures.specs.Feeding as feeding
use Rattle.captures.specs.Feeding.{Tail, IsNew, taken}
use Rattle.captures.proofs.Formats.{new_taken}
use Rattle.decl.specs.declared.items.Label.{Label}
use Rattle.decl.specs.declared.items.TraceKind.{TraceKind}
use Rattle.decl.specs.declared.items.TraceKind.TheVariants.{Capture, Log}
use Rattle.decl.specs.Declaration.{Declaration, IsDeclaration}
use Rattle.traces.specs.Seen.{Seen}
use Rattle.traces.specs.declared.accepted.Accepted.{Accepted}
use Rattle.traces.specs.declared.accepted.Stream.{Stream}
use Rattle.traces.specs.declared.accepted.Stream.TheVariants as streams
use Rattle.traces.specs.Held.{seen_in}
use Rattle.traces.specs.Traces.{Trace, bytes_accepted, nothing_for, event_count}
use Rattle.replies.specs.Sessions.{start}
use Rattle.session.specs.Stands.{Held, Under, IsLawfulUnder, IsStreamOf, IsReadWithin, StandsFor, kind_by_stream, seen_held, under_of}
use Rattle.session.specs.Inside.{HoldsNothing, AreEmpty, IsNewStream, kinds_held}
use Rattle.session.proofs.Holding.{IsWithinLimits, seen_accepted}
use Rattle.replies.proofs.Elements.{none_counted, some_same}
use Rattle.replies.proofs.SeenUnder.{events_start, kinds_start}

-- ---- a label by itself
no_size : (kind : TraceKind) → bytes_accepted (nothing_for kind) ≡ 0
no_size Capture = refl
no_size Log = refl

new_within : (stream : Stream) (n : ℕ) → IsNewStream stream → IsReadWithin stream n
new_within streams.Log n new = tt
new_within (streams.Capture tail) n new = let none : taken tail ≡ 0 = new_taken tail new in let within : taken tail ≤ n = omega (arith, none) in within

-- ---- all labels
sizes_start : (labels : List Label) → map bytes_accepted (map (λ (l : Label). nothing_for l.kind) labels) ≡ replicate (length labels) 0
sizes_start [] = refl
sizes_start (label ∷ labels) = rw (no_size label.kind, sizes_start labels) refl

-- ---- what is held
events_empty : (under : List Under) → All HoldsNothing under → seen_held under ≡ replicate (length under) []
events_empty [] all = refl
events_empty (u ∷ under) all = rw ((All-head HoldsNothing u under all).events, events_empty under (All-tail HoldsNothing u under all)) refl

sizes_empty : (under : List Under) → All HoldsNothing under → map (λ (u : Under). u.size) under ≡ replicate (length under) 0
sizes_empty [] all = refl
sizes_empty (u ∷ under) all = rw ((All-head HoldsNothing u under all).size, sizes_empty under (All-tail HoldsNothing u under all)) refl

fits_empty : (u : Under) → HoldsNothing u → IsLawfulUnder u
fits_empty u empty = let size : u.size ≡ 0 = empty.size in (omega (arith, size), new_within u.stream u.size empty.stream)

-- as many as there are labels
pub each_empty : (under : List Under) (labels : List Label) → AreEmpty under labels → length under ≡ length labels
each_empty under labels empty =
    sym (length-map under (λ (u : Under). kind_by_stream u.stream)) ∙ ap length empty.0 ∙ length-map labels (λ (l : Label). l.kind)

-- what is held at the start is within all limits
pub held_start : (held : Held) → IsDeclaration held.declaration → AreEmpty held.under held.declaration.labels → IsWithinLimits held
held_start held declared empty = record {
  declared = declared;
  each = each_empty held.under held.declaration.labels empty;
  fit = All-weaker HoldsNothing IsLawfulUnder fits_empty held.under empty.1;
  few = let e = ap event_count (events_empty held.under empty.1) ∙ none_counted (length held.under) in omega (arith, e);
}

-- there is no event under any label
pub nothing_seen : (accepted : List Accepted) (labels : List Label) → AreEmpty (map under_of accepted) labels → All (λ (events : List Seen). events ≡ []) (seen_in accepted)
nothing_seen accepted labels empty =
    let P = λ (events : List Seen). events ≡ [] in
    let none = All-weaker HoldsNothing (λ (u : Under). P u.events) (λ u is. is.events) (map under_of accepted) empty.1 in
    subst (λ (seen : List (List Seen)). All P seen) (seen_accepted accepted) (All-map P (λ (u : Under). u.events) (map under_of accepted) none)

cons_parts : {A : Type 0} (x y : A) (xs ys : List A) → x ∷ xs ≡ y ∷ ys → (x ≡ y) × (xs ≡ ys)
cons_parts x y xs ys is = (cc, cc)

-- ---- what it stands for, by what is true of captures of which nothing came yet
module _ (nothing_reads : Reads [] nothing) (new_stands : (t : Tail) → IsNew t → feeding.StandsFor t [] nothing) where
  new_stream : (kind : TraceKind) (stream : Stream) → IsNewStream stream → kind_by_stream stream ≡ kind → IsStreamOf stream (nothing_for kind)
  new_stream Capture streams.Log new is = absurd cc
  new_stream Capture (streams.Capture tail) new is = new_stands tail new
  new_stream Log streams.Log new is = tt
  new_stream Log (streams.Capture tail) new is = absurd cc

  streams_start : (labels : List Label) (under : List Under) → kinds_held under ≡ map (λ (l : Label). l.kind) labels → All HoldsNothing under → (k : ℕ) (u : Under) (trace : Trace) → slice_get under k ≡ Some u →
      slice_get (map (λ (l : Label). nothing_for l.kind) labels) k ≡ Some trace → IsStreamOf u.stream trace
  streams_start [] under same all k u trace at at' = absurd cc
  streams_start (l ∷ labels) [] same all k u trace at at' = absurd cc
  streams_start (l ∷ labels) (v ∷ under) same all zero u trace at at' =
      subst (λ (t : Trace). IsStreamOf u.stream t) (some_same (nothing_for l.kind) trace at')
      (subst (λ (x : Under). IsStreamOf x.stream (nothing_for l.kind)) (some_same v u at) (new_stream l.kind v.stream (All-head HoldsNothing v under all).stream (cons_parts (kind_by_stream v.stream) l.kind _ _ same).0))
  streams_start (l ∷ labels) (v ∷ under) same all (suc k) u trace at at' =
      streams_start labels under (cons_parts (kind_by_stream v.stream) l.kind _ _ same).1 (All-tail HoldsNothing v under all) k u trace at at'

  -- what is held at the start stands for it
  pub starts : (held : Held) (d : Declaration) → held.declaration ≡ d → AreEmpty held.under d.labels → held.kept ≡ [] → StandsFor held d (start d)
  starts held d same empty none = record {
    declaration = same;
    labels = length-map d.labels (λ (l : Label). nothing_for l.kind);
    kinds = kinds_start nothing_reads d.labels;
    events = events_empty held.under empty.1 ∙ ap (λ (n : ℕ). replicate {A = List Seen} n []) (each_empty held.under d.labels empty) ∙ sym (events_start d d.labels);
    sizes = sizes_empty held.under empty.1 ∙ ap (λ (n : ℕ). replicate n 0) (each_empty held.under d.labels empty) ∙ sym (sizes_start d.labels);
    streams = streams_start d.labels held.under empty.0 empty.1;
    kept = sym none;
  }
