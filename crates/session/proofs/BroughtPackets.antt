-- The packets that an accepted addition brings.
use Rattle.std.proofs.Common.{◌≡◌, inl, inr, ℕ, suc, ◌+◌, ◌<◌, List, [], ◌∷◌, ◌++◌, length, slice_get, slice_set, Option, Some, Bool, true, false, nat_le, option_map, MatchBool, pos, length-append, append_assoc, sym, ◌∙◌, ap, subst, arith}
use Rattle.std.proofs.lemmas.List.{length-map, map-append}
use Rattle.std.proofs.lemmas.Option.{slice_get-map}
use Rattle.problem_model.specs.Limits.{most_events}
use Rattle.captures.specs.Capture as captures
use Rattle.captures.specs.Capture.{Reads}
use Rattle.captures.specs.Feeding.{Packet, seen_packet, seen_packets}
use Rattle.captures.proofs.Standing.{stands_reads}
use Rattle.decl.specs.declared.items.Label.{Label}
use Rattle.decl.specs.declared.items.TraceKind.{TraceKind}
use Rattle.decl.specs.declared.items.TraceKind.TheVariants.{Capture, Log}
use Rattle.decl.specs.Declaration.{Declaration}
use Rattle.mergecap.specs.declared.stored.Stored.{Stored}
use Rattle.mergecap.specs.MergedCapture.{Timed}
use Rattle.mergecap.specs.Packets.{timed, all_timed}
use Rattle.traces.specs.Seen.{Seen, event_of_packet}
use Rattle.traces.specs.declared.accepted.Stream.{Stream}
use Rattle.traces.specs.declared.accepted.Stream.TheVariants as streams
use Rattle.traces.specs.Traces.{Trace, Captured, Logged, IsOfKind, seen_of}
use Rattle.replies.specs.declared.refusal.Refusal.{Refusal}
use Rattle.replies.specs.declared.refusal.Refusal.TheVariants.{TooManyBytes, TooManyEvents}
use Rattle.replies.specs.Refusals.{refusal_line}
use Rattle.replies.specs.Reply.{State, Found, Unread, Bytes, Absent, Failed, Refuses, added_line, count_by, aside_of, IsAdded, AcceptReply, KindReply, PieceReply, AddReply, fits_label}
use Rattle.session.specs.Stands.{Held, Under, StandsFor, IsStreamOf, seen_held}
use Rattle.session.specs.Taken.{at_start, packets_from, packets_under, BringsPackets}
use Rattle.session.specs.Taking.{IsAddedLine}
use Rattle.session.specs.TakingInside.{Completes, CompletesFound}
use Rattle.replies.proofs.SeenUnder.{seen_at}
use Rattle.replies.proofs.Elements.{some_same, there_some}

-- ---- replies
first_of : List ℕ → ℕ
first_of [] = 0
first_of (b ∷ more) = b

-- no refusal says what was added
pub never_both : {P : Type 0} (text : List ℕ) (r : Refusal) → text ≡ refusal_line r → IsAddedLine text → P
unfolding first_of
never_both text r refused (a, added) =
    let lines : refusal_line r ≡ added_line a = sym refused ∙ added in
    let first : ◌≡◌ {A = ℕ} 114 97 = ap first_of lines in
    absurd (omega (arith, first))

-- ---- packets in a row
pub packets_split : (place n : ℕ) (a b : List captures.Seen) → packets_from place n (a ++ b) ≡ packets_from place n a ++ packets_from place (n + length a) b
packets_split place n [] b = let same : n ≡ n + 0 = omega arith in ap (λ (m : ℕ). packets_from place m b) same
packets_split place n (p ∷ a) b =
    let same : n + 1 + length a ≡ n + suc (length a) = omega arith in
    let head : Timed = record { key = record { value = pos 0; place = place; n = n }; packet = p } in
    ap (λ (more : List Timed). head ∷ more) (packets_split place (n + 1) a b ∙ ap (λ (m : ℕ). packets_from place (n + 1) a ++ packets_from place m b) same)

-- one packet more is stored
pub stored_then : (place before n : ℕ) (kept new : List Stored) (old : List Timed) (ys : List Packet) (stored : Stored) (packet : Packet) → n ≡ before + length ys →
    all_timed kept ≡ old ++ packets_from place (before + 1) (seen_packets ys) → timed stored ≡ at_start place (n + 1) (seen_packet packet) → new ≡ kept ++ stored ∷ [] →
    (n + 1 ≡ before + length (ys ++ packet ∷ [])) × (all_timed new ≡ old ++ packets_from place (before + 1) (seen_packets (ys ++ packet ∷ [])))
stored_then place before n kept new old ys stored packet count are is more =
    let long : length (ys ++ packet ∷ []) ≡ length ys + 1 = length-append ys (packet ∷ []) in
    let seen : length (seen_packets ys) ≡ length ys = length-map ys seen_packet in
    let number : n + 1 ≡ before + 1 + length (seen_packets ys) = omega (arith, count, seen) in
    let front = packets_from place (before + 1) (seen_packets ys) in
    let last : packets_from place (before + 1 + length (seen_packets ys)) (seen_packet packet ∷ []) ≡ timed stored ∷ [] =
    ap (λ (m : ℕ). at_start place m (seen_packet packet) ∷ []) (sym number) ∙ ap (λ (t : Timed). t ∷ []) (sym is) in
    let all : packets_from place (before + 1) (seen_packets (ys ++ packet ∷ [])) ≡ front ++ timed stored ∷ [] =
    ap (λ (ps : List captures.Seen). packets_from place (before + 1) ps) (map-append seen_packet ys (packet ∷ [])) ∙ packets_split place (before + 1) (seen_packets ys) (seen_packet packet ∷ [])
    ∙ ap (λ (ts : List Timed). front ++ ts) last in (
      omega (arith, count, long),
      ap all_timed more ∙ map-append timed kept (stored ∷ []) ∙ ap (λ (ts : List Timed). ts ++ timed stored ∷ []) are ∙ append_assoc old front (timed stored ∷ [])
          ∙ ap (λ (ts : List Timed). old ++ ts) (sym all),
    )

-- ---- an accepted trace
module _ (d : Declaration) (s s' : State) (k : ℕ) (text : List ℕ) (says : IsAddedLine text) where
  pub accept_brings : (old new : Trace) (packets : List Timed) → AcceptReply d s k new text s' → slice_get s.traces k ≡ Some old → packets_under k new ≡ packets_under k old ++ packets →
      BringsPackets s.traces s'.traces packets
  accept_brings old new packets reply at more = by_room (nat_le (count_by d (slice_set s.traces k new)) (most_events)) reply
    where
      by_room : (b : Bool) → MatchBool b ((s' ≡ record s { traces = slice_set s.traces k new }) × IsAdded d s.traces (slice_set s.traces k new) (aside_of new) text) (Refuses s TooManyEvents text s') →
          BringsPackets s.traces s'.traces packets
      by_room true (is, added) = record { place = k; before = old; after = new; was = at; is = ap (λ (x : State). x.traces) is; more = more }
      by_room false (refused, same) = never_both text TooManyEvents refused says

  module _ (one : (bytes : List ℕ) (a b : captures.Capture) → Reads bytes a → Reads bytes b → a ≡ b) (own : Label) (before : ℕ) (piece : List ℕ) (packets : List captures.Seen) where
    -- the packets behind those before
    behind : (capture then : captures.Capture) (added : List captures.Seen) → length capture.packets ≡ before → then.packets ≡ capture.packets ++ added → packets ≡ added →
        packets_from k 1 then.packets ≡ packets_from k 1 capture.packets ++ packets_from k (before + 1) packets
    behind capture then added count more is =
        let next : 1 + length capture.packets ≡ before + 1 = omega (arith, count) in
        ap (λ (ps : List captures.Seen). packets_from k 1 ps) more ∙ packets_split k 1 capture.packets added
        ∙ ap (λ (n : ℕ). packets_from k 1 capture.packets ++ packets_from k n added) next
        ∙ ap (λ (ps : List captures.Seen). packets_from k 1 capture.packets ++ packets_from k (before + 1) ps) (sym is)

    pub kind_brings : (kept : Stream) (trace : Trace) (kind : TraceKind) → IsStreamOf kept trace → IsOfKind kind trace → length (seen_of d own trace) ≡ before → Completes kept piece packets →
        KindReply d s k trace kind piece text s' → slice_get s.traces k ≡ Some trace → BringsPackets s.traces s'.traces (packets_from k (before + 1) packets)
    kind_brings streams.Log (Captured bytes capture) kind stream of_kind count completes reply at = absurd stream
    kind_brings streams.Log (Logged rows size) Capture stream of_kind count completes reply at = absurd of_kind
    kind_brings streams.Log (Logged rows size) Log stream of_kind count completes (inl (more, are, reply)) at =
        accept_brings (Logged rows size) (Logged (rows ++ more) (size + length piece)) (packets_from k (before + 1) packets) reply at (ap (λ (ps : List captures.Seen). packets_from k (before + 1) ps) (sym completes))
    kind_brings streams.Log (Logged rows size) Log stream of_kind count completes (inr (r, why, refused)) at = never_both text r refused.0 says
    kind_brings (streams.Capture tail) (Logged rows size) kind stream of_kind count completes reply at = absurd stream
    kind_brings (streams.Capture tail) (Captured bytes capture) Log stream of_kind count completes reply at = absurd of_kind
    kind_brings (streams.Capture tail) (Captured bytes capture) Capture stream of_kind count (fed, completes) (inl (then, reads, reply)) at =
        let grows = completes bytes capture stream in
        let same : then ≡ grows.then = one (bytes ++ piece) then grows.then reads (stands_reads fed (bytes ++ piece) grows.then grows.stands) in
        let many : length capture.packets ≡ before = sym (length-map capture.packets (event_of_packet d own)) ∙ count in
        accept_brings (Captured bytes capture) (Captured (bytes ++ piece) then) (packets_from k (before + 1) packets) reply at
        (behind capture then grows.added many (ap (λ (c : captures.Capture). c.packets) same ∙ grows.more) grows.grown)
    kind_brings (streams.Capture tail) (Captured bytes capture) Capture stream of_kind count completes (inr (r, why, refused)) at = never_both text r refused.0 says

    pub label_brings : (kept : Stream) (trace : Trace) (label : Label) → IsStreamOf kept trace → IsOfKind label.kind trace → length (seen_of d own trace) ≡ before → Completes kept piece packets →
        PieceReply d s k (Some label) (Some trace) piece text s' → slice_get s.traces k ≡ Some trace → BringsPackets s.traces s'.traces (packets_from k (before + 1) packets)
    label_brings kept trace label stream of_kind count completes reply at = by_size (fits_label trace piece) reply
      where
        by_size : (b : Bool) → MatchBool b (KindReply d s k trace label.kind piece text s') (Refuses s TooManyBytes text s') → BringsPackets s.traces s'.traces (packets_from k (before + 1) packets)
        by_size true here = kind_brings kept trace label.kind stream of_kind count completes here at
        by_size false (refused, same) = never_both text TooManyBytes refused says

-- ---- a piece for the label at a place
pub piece_brings : (one : (bytes : List ℕ) (a b : captures.Capture) → Reads bytes a → Reads bytes b → a ≡ b) (held : Held) (d : Declaration) (s s' : State) (k before : ℕ) (u : Under) (piece text : List ℕ)
    (packets : List captures.Seen) → StandsFor held d s → k < length d.labels → slice_get held.under k ≡ Some u → length u.events ≡ before → Completes u.stream piece packets → IsAddedLine text →
    PieceReply d s k (slice_get d.labels k) (slice_get s.traces k) piece text s' → BringsPackets s.traces s'.traces (packets_from k (before + 1) packets)
piece_brings one held d s s' k before u piece text packets stands inside at count completes says reply =
    let label = there_some d.labels k inside in
    let trace = there_some s.traces k (let e = stands.labels in omega (arith, inside, e)) in
    let here = subst (λ (o : Option Label). PieceReply d s k o (Some trace.0) piece text s') label.1 (subst (λ (o : Option Trace). PieceReply d s k (slice_get d.labels k) o piece text s') trace.1 reply) in
    let own : slice_get (seen_held held.under) k ≡ Some u.events = slice_get-map (λ (x : Under). x.events) held.under k ∙ ap (option_map (λ (x : Under). x.events)) at in
    let theirs : slice_get (seen_held held.under) k ≡ Some (seen_of d label.0 trace.0) = ap (λ (x : List (List Seen)). slice_get x k) stands.events ∙ seen_at d d.labels s.traces k label.0 trace.0 label.1 trace.1 in
    let many : length (seen_of d label.0 trace.0) ≡ before = ap length (some_same (seen_of d label.0 trace.0) u.events (sym theirs ∙ own)) ∙ count in
    label_brings d s s' k text says one label.0 before piece packets u.stream trace.0 label.0 (stands.streams k u trace.0 at trace.1) (stands.kinds k label.0 trace.0 label.1 trace.1) many completes here trace.1

pub found_brings : (one : (bytes : List ℕ) (a b : captures.Capture) → Reads bytes a → Reads bytes b → a ≡ b) (held : Held) (d : Declaration) (s s' : State) (k before : ℕ) (u : Under) (found : Found) (text : List ℕ)
    (packets : List captures.Seen) → StandsFor held d s → k < length held.declaration.labels → slice_get held.under k ≡ Some u → length u.events ≡ before → CompletesFound held k packets found → IsAddedLine text →
    AddReply d s (Some k) found text s' → BringsPackets s.traces s'.traces (packets_from k (before + 1) packets)
found_brings one held d s s' k before u Unread text packets stands inside at count completes says reply = absurd completes
found_brings one held d s s' k before u (Bytes bytes) text packets stands inside at count completes says reply =
    piece_brings one held d s s' k before u bytes text packets stands (subst (λ (x : Declaration). k < length x.labels) stands.declaration inside) at count (completes u at) says reply
found_brings one held d s s' k before u Absent text packets stands inside at count completes says reply = absurd completes
found_brings one held d s s' k before u Failed text packets stands inside at count completes says reply = absurd completes
