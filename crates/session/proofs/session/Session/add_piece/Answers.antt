use Rattle.std.proofs.Common.{◌≡◌, ◌∙◌, ◌<◌, ◌≤◌, ℕ, List, sym, ap, subst, refl, ◌+◌, ◌-◌, length, slice_get, Some, true, false, rules, arith}
use Rattle.std.proofs.lemmas.Result.{IfOk-weaker}
use Rattle.std.proofs.lemmas.List.{length-map}
use Rattle.problem_model.specs.Limits.{most_events}
use Rattle.decl.specs.declared.items.Label.{Label}
use Rattle.decl.specs.Declaration.{Declaration, IsDeclaration, declaration_of}
use Rattle.traces.specs.Seen.{seen_events}
use Rattle.replies.specs.declared.refusal.Refusal.TheVariants.{TooManyBytes, TooManyEvents}
use Rattle.replies.specs.declared.outcome.Outcome.TheVariants.{Refused}
use Rattle.replies.specs.Outcomes.{IsOutcomeLine}
use Rattle.captures.specs.Feeding.{Packet, seen_packet, seen_packets}
use Rattle.traces.specs.Traces.{event_count}
use Rattle.session.specs.declared.pieces.Piece.TheVariants as pieces
use Rattle.session.specs.Stands.{Held, Under, under_of, seen_held}
use Rattle.session.specs.TakingInside.{Completes, CompletesFront, HadRoom, HasPackets}
use Rattle.session.specs.Pieces.{SaysEvents, IsRead, IsRefusedAs}
use Rattle.session.specs.Inside.{FrontAnswered}
use Rattle.session.proofs.Accepting.{count_is, refused_in}
use Rattle.session.proofs.Extending.{under_at, inside_under, stream_fits, stream_within}
use Rattle.session.proofs.Growing.{says_answered, refusal_answered}
use Rattle.session.proofs.Standing.{piece_more, piece_read, piece_without_place, fits_short, fits_place}
use Rattle.session.proofs.Additions.{adds_nothing}
use Rattle.session.proofs.AddedThere.{where_weaker}
use Rattle.session.proofs.Holding.{IsWithinLimits, limits}
use Rattle.replies.proofs.Elements.{some_same}
use Rattle.session_answers.specs.Ready.{declared}
use Rattle.session.proofs.session.Session.add_piece.Goals as goal

pub returns-then-more-clause-answers : goal.returns-then-more-clause-answers
returns-then-more-clause-answers g c =
    let more : c.args.more ≡ true = search rules in
    piece_more c.args.self.now c.args.k c.args.more c.args.front.now (IsOutcomeLine (Refused TooManyBytes)) more c.requires.inside refl

pub returns-then-not-has_place-clause-answers : goal.returns-then-not-has_place-clause-answers
returns-then-not-has_place-clause-answers g c =
    let more : c.args.more ≡ false = search rules in
    let none : c.has_place.result ≡ false = search rules in
    let held = subst IsWithinLimits c.self.view_is (limits c.self.invariant.0) in
    let at_under = under_at (declared c.self.inside.answers) c.self.inside.accepted.items _ _ c.args.self.now c.args.k c.index-under.result.now c.self.view_is (inside_under c.args.self.now c.args.k held c.requires.inside) c.index-under.ensures in
    piece_without_place c.args.self.now c.args.k (under_of c.index-under.result.now) c.args.more c.args.front.now (IsOutcomeLine (Refused TooManyBytes)) more at_under (sym c.has_place.ensures ∙ none) refl

pub label_at-label-requires : goal.label_at-label-requires
label_at-label-requires g c =
    let inside : c.args.k < length c.args.self.now.declaration.labels = c.requires.inside in
    subst (λ (xs : List Label). c.args.k < length xs) (sym (ap (λ (d : Declaration). d.labels) (c.decl_of-decl.ensures.same ∙ ap (λ (h : Held). h.declaration) c.self.view_is)) ∙ sym c.deref.ensures.value) inside

pub read_piece-requires-clause-declared : goal.read_piece-requires-clause-declared
read_piece-requires-clause-declared g c = subst IsDeclaration (sym c.decl_of-decl.ensures.same) c.self.invariant.0.declared

pub read_piece-requires-clause-short : goal.read_piece-requires-clause-short
read_piece-requires-clause-short g c =
    let place : c.has_place.result ≡ true = search rules in
    fits_short c.index-under.result.now.size (length c.args.front.now) (sym c.has_place.ensures ∙ place)

pub read_piece-requires-clause-place : goal.read_piece-requires-clause-place
read_piece-requires-clause-place g c =
    let place : c.has_place.result ≡ true = search rules in
    let held = subst IsWithinLimits c.self.view_is (limits c.self.invariant.0) in
    let at_under = under_at (declared c.self.inside.answers) c.self.inside.accepted.items _ _ c.args.self.now c.args.k c.index-under.result.now c.self.view_is (inside_under c.args.self.now c.args.k held c.requires.inside) c.index-under.ensures in
    stream_fits c.args.self.now c.args.k (length c.args.front.now) (under_of c.index-under.result.now) held at_under
    (fits_place c.args.self.now.under c.args.k (length c.args.front.now) (under_of c.index-under.result.now) at_under (sym c.has_place.ensures ∙ place))

pub accept-requires-clause-place : goal.accept-requires-clause-place
accept-requires-clause-place g c =
    let place : c.has_place.result ≡ true = search rules in
    let held = subst IsWithinLimits c.self.view_is (limits c.self.invariant.0) in
    let at_under = under_at (declared c.self.inside.answers) c.self.inside.accepted.items _ _ c.args.self.now c.args.k c.index-under.result.now c.self.view_is (inside_under c.args.self.now c.args.k held c.requires.inside) c.index-under.ensures in
    fits_place c.args.self.now.under c.args.k (length c.args.front.now) (under_of c.index-under.result.now) at_under (sym c.has_place.ensures ∙ place)

pub accept-requires-clause-within : goal.accept-requires-clause-within
accept-requires-clause-within g c =
    let held = subst IsWithinLimits c.self.view_is (limits c.self.invariant.0) in
    let at_under = under_at (declared c.self.inside.answers) c.self.inside.accepted.items _ _ c.args.self.now c.args.k c.index-under.result.now c.self.view_is (inside_under c.args.self.now c.args.k held c.requires.inside) c.index-under.ensures in
    let says : SaysEvents (declaration_of c.decl_of-decl.result.now) c.label_at-label.result.now c.index-under.result.now.stream c.args.front.now (seen_events c.in-Read.events.items) c.in-Read.stream =
    rw c.in-Read.is at c.in_ok-read.ensures.read in
    stream_within c.args.self.now (declaration_of c.decl_of-decl.result.now) c.label_at-label.result.now c.args.k (under_of c.index-under.result.now) c.in-Read.stream c.args.front.now (seen_events c.in-Read.events.items)
    held at_under says

pub returns-in-Read-clause-answers : goal.returns-in-Read-clause-answers
returns-in-Read-clause-answers g c =
    let more : c.args.more ≡ false = search rules in
    let place : c.has_place.result ≡ true = search rules in
    let held = subst IsWithinLimits c.self.view_is (limits c.self.invariant.0) in
    let at_under = under_at (declared c.self.inside.answers) c.self.inside.accepted.items _ _ c.args.self.now c.args.k c.index-under.result.now c.self.view_is (inside_under c.args.self.now c.args.k held c.requires.inside) c.index-under.ensures in
    let says : SaysEvents (declaration_of c.decl_of-decl.result.now) c.label_at-label.result.now c.index-under.result.now.stream c.args.front.now (seen_events c.in-Read.events.items) c.in-Read.stream =
    rw c.in-Read.is at c.in_ok-read.ensures.read in
    let label : slice_get c.decl_of-decl.result.now.labels.items c.args.k ≡ Some c.label_at-label.result.now = rw (← c.deref.ensures.value) c.label_at-label.ensures in
    let declares = c.decl_of-decl.ensures.same ∙ ap (λ (h : Held). h.declaration) c.self.view_is in
    let at_label = subst (λ (d : Declaration). slice_get d.labels c.args.k ≡ Some c.label_at-label.result.now) declares label in
    let by_held = subst (λ (d : Declaration). SaysEvents d c.label_at-label.result.now c.index-under.result.now.stream c.args.front.now (seen_events c.in-Read.events.items) c.in-Read.stream) declares says in
    IfOk-weaker c.accept.result _ (λ outcome. FrontAnswered c.args.more c.args.front.now c.args.self.now c.accept.new.self c.args.k (IsOutcomeLine outcome))
    (λ outcome answered. piece_read c.args.self.now c.accept.new.self c.args.k (under_of c.index-under.result.now) c.args.more c.args.front.now (IsOutcomeLine outcome) more at_under (sym c.has_place.ensures ∙ place)
    (says_answered c.args.self.now c.accept.new.self c.args.k c.label_at-label.result.now c.args.front.now (under_of c.index-under.result.now) (seen_events c.in-Read.events.items) c.in-Read.stream (IsOutcomeLine outcome)
    at_under at_label answered by_held))
    c.accept.ensures.answers

pub accept-requires-clause-room : goal.accept-requires-clause-room
accept-requires-clause-room g c =
    let counted = count_is c.self.inside.accepted.items c.self.inside.kept.items c.self.inside.ready c.self.inside.answers c.args.self.now c.self.view_is c.requires.ready c.self.invariant.2 c.len-count.result c.len-count.ensures.count in
    let room : length c.in-Read.events.items ≤ c.room_left-room.result = rw c.in-Read.is at c.in_ok-read.ensures.room in
    omega (arith, room, c.room_left-room.ensures, counted, c.len-count.ensures.few)

pub returns-in-TooManyEvents-clause-answers : goal.returns-in-TooManyEvents-clause-answers
returns-in-TooManyEvents-clause-answers g c =
    let more : c.args.more ≡ false = search rules in
    let place : c.has_place.result ≡ true = search rules in
    let held = subst IsWithinLimits c.self.view_is (limits c.self.invariant.0) in
    let at_under = under_at (declared c.self.inside.answers) c.self.inside.accepted.items _ _ c.args.self.now c.args.k c.index-under.result.now c.self.view_is (inside_under c.args.self.now c.args.k held c.requires.inside) c.index-under.ensures in
    let counted = count_is c.self.inside.accepted.items c.self.inside.kept.items c.self.inside.ready c.self.inside.answers c.args.self.now c.self.view_is c.requires.ready c.self.invariant.2 c.len-count.result c.len-count.ensures.count in
    let read : IsRead (declaration_of c.decl_of-decl.result.now) c.label_at-label.result.now c.room_left-room.result c.index-under.result.now.stream c.args.front.now pieces.TooManyEvents =
    rw c.in-TooManyEvents.is at c.in_ok-read.ensures.read in
    let label : slice_get c.decl_of-decl.result.now.labels.items c.args.k ≡ Some c.label_at-label.result.now = rw (← c.deref.ensures.value) c.label_at-label.ensures in
    let declares = c.decl_of-decl.ensures.same ∙ ap (λ (h : Held). h.declaration) c.self.view_is in
    let at_label = subst (λ (d : Declaration). slice_get d.labels c.args.k ≡ Some c.label_at-label.result.now) declares label in
    let by_held = subst (λ (d : Declaration). SaysEvents d c.label_at-label.result.now c.index-under.result.now.stream c.args.front.now read.0 read.1) declares read.2 in
    let room = c.room_left-room.ensures ∙ ap (λ (n : ℕ). most_events - n) counted in
    let answered = refused_in c.args.self.now c.args.k c.room_left-room.result read.0 (length c.args.front.now) read.1 (IsOutcomeLine (Refused TooManyEvents)) (inside_under c.args.self.now c.args.k held c.requires.inside) room read.3 refl in
    piece_read c.args.self.now c.args.self.now c.args.k (under_of c.index-under.result.now) c.args.more c.args.front.now (IsOutcomeLine (Refused TooManyEvents)) more at_under (sym c.has_place.ensures ∙ place)
    (says_answered c.args.self.now c.args.self.now c.args.k c.label_at-label.result.now c.args.front.now (under_of c.index-under.result.now) read.0 read.1 (IsOutcomeLine (Refused TooManyEvents)) at_under at_label answered by_held)

pub returns-in-Refused-clause-answers : goal.returns-in-Refused-clause-answers
returns-in-Refused-clause-answers g c =
    let more : c.args.more ≡ false = search rules in
    let place : c.has_place.result ≡ true = search rules in
    let held = subst IsWithinLimits c.self.view_is (limits c.self.invariant.0) in
    let at_under = under_at (declared c.self.inside.answers) c.self.inside.accepted.items _ _ c.args.self.now c.args.k c.index-under.result.now c.self.view_is (inside_under c.args.self.now c.args.k held c.requires.inside) c.index-under.ensures in
    let why : IsRefusedAs c.index-under.result.now.stream c.args.front.now c.in-Refused.refusal = rw c.in-Refused.is at c.in_ok-read.ensures.read in
    piece_read c.args.self.now c.args.self.now c.args.k (under_of c.index-under.result.now) c.args.more c.args.front.now (IsOutcomeLine (Refused c.in-Refused.refusal)) more at_under (sym c.has_place.ensures ∙ place)
    (refusal_answered c.args.self.now c.args.k c.args.front.now (under_of c.index-under.result.now) c.in-Refused.refusal (IsOutcomeLine (Refused c.in-Refused.refusal)) at_under refl why)

pub returns-in-Read-clause-packets : goal.returns-in-Read-clause-packets
returns-in-Read-clause-packets g c = λ keeps.
    let more : c.args.more ≡ false = search rules in
    let held = subst IsWithinLimits c.self.view_is (limits c.self.invariant.0) in
    let at_under = under_at (declared c.self.inside.answers) c.self.inside.accepted.items _ _ c.args.self.now c.args.k c.index-under.result.now c.self.view_is (inside_under c.args.self.now c.args.k held c.requires.inside) c.index-under.ensures in
    let has : HasPackets c.index-under.result.now.stream c.args.front.now (seen_packets c.read_piece.new.packets.items) (pieces.Read c.in-Read.events c.in-Read.stream) = rw c.in-Read.is at c.in_ok-read.ensures.packets in
    let here : Completes c.index-under.result.now.stream c.args.front.now (seen_packets c.keep_only.new.completed.packets.items) =
    subst (λ (ps : List Packet). Completes c.index-under.result.now.stream c.args.front.now (seen_packets ps)) (sym (c.keep_only.ensures keeps)) has.0 in
    IfOk-weaker c.accept.result _ (CompletesFront c.args.more c.args.front.now c.args.self.now c.args.k (seen_packets c.keep_only.new.completed.packets.items))
    (λ outcome. where_weaker outcome (λ room. (more, λ u at. subst (λ (v : Under). Completes v.stream c.args.front.now (seen_packets c.keep_only.new.completed.packets.items)) (some_same (under_of c.index-under.result.now) u (sym at_under ∙ at)) here)))
    c.accept.ensures.room

pub returns-in-Read-clause-room : goal.returns-in-Read-clause-room
returns-in-Read-clause-room g c = λ keeps.
    let has : HasPackets c.index-under.result.now.stream c.args.front.now (seen_packets c.read_piece.new.packets.items) (pieces.Read c.in-Read.events c.in-Read.stream) = rw c.in-Read.is at c.in_ok-read.ensures.packets in
    let few : length (seen_packets c.read_piece.new.packets.items) ≤ length c.in-Read.events.items = has.1 in
    let count = length-map c.read_piece.new.packets.items seen_packet in
    let same : length c.keep_only.new.completed.packets.items ≡ length c.read_piece.new.packets.items = ap length (c.keep_only.ensures keeps) in
    let events : ℕ = event_count (seen_held c.args.self.now.under) in
    IfOk-weaker c.accept.result _ (HadRoom c.args.self.now (length c.keep_only.new.completed.packets.items))
    (λ outcome. where_weaker outcome (λ room. let all : events + length c.in-Read.events.items ≤ most_events = room in let less : events + length c.keep_only.new.completed.packets.items ≤ most_events = omega (arith, all, few, count, same) in less))
    c.accept.ensures.room

pub returns-then-more-clause-addition : goal.returns-then-more-clause-addition
returns-then-more-clause-addition g c = adds_nothing _ c.args.self.now c.args.steps.now c.self.view_is c.self.invariant.0
