-- Without a window each event is by itself as it is by its group.
use Rattle.std.proofs.Common.{◌≡◌, ◌+◌, ℕ, List, [], ◌∷◌, map, Option, Some, None, Bool, true, false, if◌then◌else◌, nat_lt, Result, Ok, Err, refl, ap, ◌∙◌}
use Rattle.std.specs.Prelude.{All}
use Rattle.std.proofs.lemmas.List.Elements.{All-append, All-cons, All-head, All-map, All-nil, All-tail}
use Rattle.event_log.specs.declared.row.Kind.{Kind}
use Rattle.event_log.specs.declared.row.Kind.TheVariants as kinds
use Rattle.headers.specs.declared.key.PacketKey.{PacketKey}
use Rattle.headers.specs.declared.key.Reason.{Reason}
use Rattle.headers.specs.Decoding.{decoded}
use Rattle.decl.specs.declared.items.Label.{Label}
use Rattle.decl.specs.Declaration.{Declaration, segment_of}
use Rattle.decl.specs.declared.items.Whereabouts.{Whereabouts}
use Rattle.traces.specs.Seen.{EventKey, Packet, SeenMark, Keyed, Unkeyed, Seen, SeenMoment, depth, ends_of, event_of_packet, mark_by, mark_of_packet, mark_of_row, moment_of, seen_key, seen_row, wanted_of}
use Rattle.traces.specs.declared.event.Side.TheVariants.{Send, Receive}
use Rattle.traces.specs.declared.event.NoKey.TheVariants as without
use Rattle.traces.specs.Traces.{Captured, Logged, Placed, Trace, Traces, events_from, events_of, numbered, seen_by, seen_of, seen_under}
use Rattle.traces.specs.Windows.{by_group, group_key, group_mark, keys_among}
use Rattle.traces.specs.Messages.{couples_of, messages_of}

-- a mark that tells no time
abbrev HasNoTime : SeenMark → Type 0
HasNoTime (Keyed key side) = key.moment ≡ None
HasNoTime (Unkeyed reason) = Unit {0}

-- ---- events without a window tell none
row_mark : (segment : ℕ) (moment : Option SeenMoment) (kind : Kind) (key : Option (List ℕ)) → moment ≡ None → HasNoTime (mark_of_row segment moment kind key)
row_mark segment moment kinds.Send None none = tt
row_mark segment moment kinds.Send (Some key) none = none
row_mark segment moment kinds.Receive None none = tt
row_mark segment moment kinds.Receive (Some key) none = none
row_mark segment moment kinds.Local key none = tt

way_mark : (key : EventKey) (outward inward : Bool) → key.moment ≡ None → HasNoTime (if outward then Keyed key Send else if inward then Keyed key Receive else Unkeyed without.Side)
way_mark key true inward none = none
way_mark key false true none = none
way_mark key false false none = tt

side_mark : (key : EventKey) (from to : Whereabouts) → key.moment ≡ None → HasNoTime (mark_by key from to)
side_mark key from to none = way_mark key (nat_lt (depth from) (depth to)) (nat_lt (depth to) (depth from)) none

packet_mark : (d : Declaration) (l : Label) (moment : Option SeenMoment) (key : Result PacketKey Reason) → moment ≡ None → HasNoTime (mark_of_packet d l moment key)
packet_mark d l moment (Ok key) none = let ends = ends_of d l key.network in side_mark (seen_key (segment_of d l) moment (Packet key)) ends.0 ends.1 none
packet_mark d l moment (Err reason) none = tt

other_mark : (elsewhere : Bool) (mark : SeenMark) → HasNoTime mark → HasNoTime (if elsewhere then Unkeyed without.Interface else mark)
other_mark true mark none = tt
other_mark false mark none = none

module _ (d : Declaration) (none : d.window ≡ None) where
  no_moment : (clock stamp : ℕ) → moment_of d clock stamp ≡ None
  no_moment clock stamp = rw none refl

  abbrev Timeless : Seen → Type 0
  Timeless s = HasNoTime s.mark

  trace_timeless : (l : Label) (t : Trace) → All Timeless (seen_of d l t)
  trace_timeless l (Captured bytes capture) =
      All-map Timeless (event_of_packet d l) capture.packets (λ k p within. other_mark _ _ (packet_mark d l _ (decoded _ _ (wanted_of d)) (no_moment l.clock _)))
  trace_timeless l (Logged rows size) = All-map Timeless (seen_row d l) rows (λ k r within. row_mark _ _ _ _ (no_moment l.clock _))

  seen_timeless : (labels : List Label) (traces : Traces) → All (All Timeless) (seen_under d labels traces)
  seen_timeless [] traces = All-nil (All Timeless)
  seen_timeless (label ∷ labels) [] = All-nil (All Timeless)
  seen_timeless (label ∷ labels) (trace ∷ traces) = All-cons (All Timeless) _ (seen_under d labels traces) (trace_timeless label trace) (seen_timeless labels traces)

-- ---- and so do all events
abbrev TellsNoTime : Placed → Type 0
TellsNoTime e = HasNoTime e.seen.mark

numbered_timeless : (label n : ℕ) (rows : List Seen) → All (λ s. HasNoTime s.mark) rows → All TellsNoTime (numbered label n rows)
numbered_timeless label n [] all = All-nil TellsNoTime
numbered_timeless label n (s ∷ more) all =
    let P : Seen → Type 0 = λ s. HasNoTime s.mark in
    All-cons TellsNoTime _ (numbered label (n + 1) more) (All-head P s more all) (numbered_timeless label (n + 1) more (All-tail P s more all))

all_timeless : (label : ℕ) (seen : List (List Seen)) → All (λ rows. All (λ s. HasNoTime s.mark) rows) seen → All TellsNoTime (events_from label seen)
all_timeless label [] all = All-nil TellsNoTime
all_timeless label (rows ∷ more) all =
    let P : List Seen → Type 0 = λ rows. All (λ s. HasNoTime s.mark) rows in
    All-append TellsNoTime (numbered label 1 rows) (events_from (label + 1) more) (numbered_timeless label 1 rows (All-head P rows more all)) (all_timeless (label + 1) more (All-tail P rows more all))

-- ---- so groups change nothing
same_key : (keys : List EventKey) (key : EventKey) → key.moment ≡ None → group_key keys key ≡ key
same_key keys key none = rw none refl

same_mark : (keys : List EventKey) (mark : SeenMark) → HasNoTime mark → group_mark keys mark ≡ mark
same_mark keys (Keyed key side) none = ap (λ (k : EventKey). Keyed k side) (same_key keys key none)
same_mark keys (Unkeyed reason) none = refl

same_event : (keys : List EventKey) (e : Placed) → HasNoTime e.seen.mark → by_group keys e ≡ e
same_event keys e none = rw (same_mark keys e.seen.mark none) refl

same_events : (keys : List EventKey) (events : List Placed) → All TellsNoTime events → map (by_group keys) events ≡ events
same_events keys [] all = refl
same_events keys (e ∷ more) all =
    ap (λ (x : Placed). x ∷ map (by_group keys) more) (same_event keys e (All-head TellsNoTime e more all)) ∙ ap (λ (xs : List Placed). e ∷ xs) (same_events keys more (All-tail TellsNoTime e more all))

-- without a window messages are the couples of events as they are
pub without_window : (d : Declaration) (traces : Traces) → d.window ≡ None → messages_of (events_of (seen_by d traces)) ≡ couples_of (events_of (seen_by d traces))
without_window d traces none =
    let events : List Placed = events_of (seen_by d traces) in
    ap couples_of (same_events (keys_among events) events (all_timeless 0 (seen_by d traces) (seen_timeless d none d.labels traces)))
