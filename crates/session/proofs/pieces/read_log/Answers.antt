use Rattle.std.proofs.Common.{◌≡◌, ◌∙◌, ◌≤◌, Some, length, map, refl, ap, arith, rules}
use Rattle.std.proofs.lemmas.List.{length-map, take_all}
use Rattle.decl.specs.Declaration.{declaration_of}
use Rattle.traces.specs.Seen.{seen_event, seen_events, seen_row}
use Rattle.traces.specs.declared.accepted.Stream.TheVariants as streams
use Rattle.replies.specs.Refusals.{log_refusal}
use Rattle.session.proofs.pieces.read_log.Goals as goal

pub returns-then-rows-room-clause-read : goal.returns-then-rows-room-clause-read
returns-then-rows-room-clause-read c =
    let first = c.in-Ok.ensures.rows in
    let seen = seen_row (declaration_of c.args.origin.now.decl.now) c.args.origin.now.label.now in
    (map seen first.all, streams.Log, record { rows = first.all; are = first.are; seen = refl; kept = refl }, omega (arith, length-map first.all seen, first.count, c.if-rows-room.true))

pub returns-in_ok-events-in-Ok-clause-read : goal.returns-in_ok-events-in-Ok-clause-read
returns-in_ok-events-in-Ok-clause-read c =
    let first = c.in-Ok.ensures.rows in
    let kept = first.kept ∙ take_all c.args.room first.all (omega (arith, first.count, c.if-rows-room.false)) in
    let seen = seen_row (declaration_of c.args.origin.now.decl.now) c.args.origin.now.label.now in
    record { rows = first.all; are = first.are; seen = c.in_ok-events-in-Ok.ensures ∙ ap (map seen) kept; kept = refl }

pub returns-in_ok-events-in-Ok-clause-room : goal.returns-in_ok-events-in-Ok-clause-room
returns-in_ok-events-in-Ok-clause-room c =
    let first = c.in-Ok.ensures.rows in
    let few : length first.all ≤ c.args.room = omega (arith, first.count, c.if-rows-room.false) in
    let kept = first.kept ∙ take_all c.args.room first.all few in
    let seen = seen_row (declaration_of c.args.origin.now.decl.now) c.args.origin.now.label.now in
    let events : length (seen_events c.in_ok-events-in-Ok.events.items) ≡ length c.in_ok-events-in-Ok.events.items = length-map c.in_ok-events-in-Ok.events.items seen_event in
    let same : length (seen_events c.in_ok-events-in-Ok.events.items) ≡ length first.all = ap length (c.in_ok-events-in-Ok.ensures ∙ ap (map seen) kept) ∙ length-map first.all seen in
    omega (arith, events, same, few)

pub returns-in-Some-clause-read : goal.returns-in-Some-clause-read
returns-in-Some-clause-read c =
    let is : log_refusal c.in-Err.e ≡ Some c.in-Some.refusal = search rules in
    (c.in-Err.e, c.in-Err.ensures.fault, is)
