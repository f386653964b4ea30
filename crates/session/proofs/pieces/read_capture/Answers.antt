use Rattle.std.proofs.Common.{◌≡◌, ◌∙◌, List, [], Some, refl, sym, ap, subst, rules, map, length, arith}
use Rattle.std.proofs.lemmas.List.{length-map}
use Rattle.packets.proofs.Collecting.{all_few, all_kept}
use Rattle.captures.specs.Capture as captures
use Rattle.captures.specs.Feeding.{seen_packets}
use Rattle.decl.specs.Declaration.{declaration_of}
use Rattle.traces.specs.Seen.{event_of_packet, seen_event, seen_events}
use Rattle.traces.specs.declared.accepted.Stream.TheVariants as streams
use Rattle.replies.specs.Refusals.{capture_refusal}
use Rattle.session.specs.Pieces.{IsFed}
use Rattle.replies.proofs.OneReply.{capture_not_memory}
use Rattle.session.proofs.pieces.read_capture.Goals as goal

pub returns-then-completed-clause-read : goal.returns-then-completed-clause-read
returns-then-completed-clause-read c =
    let adds = c.in-Ok.ensures.ok in
    let keeps = adds.keeps [] c.new-completed.ensures.none in
    let at_host = event_of_packet (declaration_of c.args.origin.now.decl.now) c.args.origin.now.label.now in
    let many = keeps.more.0 c.if-completed.true in (
      map at_host adds.added,
      streams.Capture c.in-Ok.next,
      record { fed = c.in-Ok.next; packets = adds.added; completes = adds.are; seen = refl; size = c.in-Ok.ensures.size; kept = refl },
      omega (arith, many, adds.most, c.new-completed.ensures.most, length-map adds.added at_host),
    )

pub returns-in-Ok-clause-read : goal.returns-in-Ok-clause-read
returns-in-Ok-clause-read c =
    let adds = c.in-Ok.ensures.ok in
    let keeps = adds.keeps [] c.new-completed.ensures.none in
    let at_host = event_of_packet (declaration_of c.args.origin.now.decl.now) c.args.origin.now.label.now in
    let kept : seen_packets c.feed_first.new.out.kept.items ≡ adds.added = all_kept c.feed_first.new.out adds.added keeps c.if-completed.false in
    let seen : seen_events c.in_ok-events-in-Ok.events.items ≡ map at_host (seen_packets c.feed_first.new.out.kept.items) = rw (← c.deref.ensures.value) c.in_ok-events-in-Ok.ensures in
    record { fed = c.in-Ok.next; packets = adds.added; completes = adds.are; seen = seen ∙ ap (map at_host) kept; size = c.in-Ok.ensures.size; kept = refl }

pub returns-in-Ok-clause-room : goal.returns-in-Ok-clause-room
returns-in-Ok-clause-room c =
    let adds = c.in-Ok.ensures.ok in
    let keeps = adds.keeps [] c.new-completed.ensures.none in
    let at_host = event_of_packet (declaration_of c.args.origin.now.decl.now) c.args.origin.now.label.now in
    let kept : seen_packets c.feed_first.new.out.kept.items ≡ adds.added = all_kept c.feed_first.new.out adds.added keeps c.if-completed.false in
    let few = all_few c.feed_first.new.out adds.added keeps c.if-completed.false in
    let seen : seen_events c.in_ok-events-in-Ok.events.items ≡ map at_host (seen_packets c.feed_first.new.out.kept.items) = rw (← c.deref.ensures.value) c.in_ok-events-in-Ok.ensures in
    let events : length (seen_events c.in_ok-events-in-Ok.events.items) ≡ length c.in_ok-events-in-Ok.events.items = length-map c.in_ok-events-in-Ok.events.items seen_event in
    let same : length (seen_events c.in_ok-events-in-Ok.events.items) ≡ length adds.added = ap length (seen ∙ ap (map at_host) kept) ∙ length-map adds.added at_host in
    omega (arith, events, same, few, adds.most, c.new-completed.ensures.most)

pub returns-in-Ok-clause-packets : goal.returns-in-Ok-clause-packets
returns-in-Ok-clause-packets c =
    let adds = c.in-Ok.ensures.ok in
    let keeps = adds.keeps [] c.new-completed.ensures.none in
    let at_host = event_of_packet (declaration_of c.args.origin.now.decl.now) c.args.origin.now.label.now in
    let kept : seen_packets c.feed_first.new.out.kept.items ≡ adds.added = all_kept c.feed_first.new.out adds.added keeps c.if-completed.false in
    let fed = subst (λ (packets : List captures.Seen). IsFed c.args.stream.now c.args.piece.now c.in-Ok.next packets) (sym kept) adds.are in
    let seen : seen_events c.in_ok-events-in-Ok.events.items ≡ map at_host (seen_packets c.feed_first.new.out.kept.items) = rw (← c.deref.ensures.value) c.in_ok-events-in-Ok.ensures in
    let events : length (seen_events c.in_ok-events-in-Ok.events.items) ≡ length c.in_ok-events-in-Ok.events.items = length-map c.in_ok-events-in-Ok.events.items seen_event in
    let same : length (seen_events c.in_ok-events-in-Ok.events.items) ≡ length (seen_packets c.feed_first.new.out.kept.items) = ap length seen ∙ length-map (seen_packets c.feed_first.new.out.kept.items) at_host in
    ((c.in-Ok.next, fed), omega (arith, events, same))

pub returns-in-Some-clause-read : goal.returns-in-Some-clause-read
returns-in-Some-clause-read c =
    let is : capture_refusal c.in-Err.e ≡ Some c.in-Some.refusal = search rules in
    λ s x stands. (c.in-Err.e, c.in-Err.ensures.fault (capture_not_memory c.in-Err.e c.in-Some.refusal is) s x stands, is)
