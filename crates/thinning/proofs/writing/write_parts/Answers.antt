use Rattle.std.proofs.Common.{◌∷◌, [], codes}
use Rattle.std.specs.List.{flat_map}
use Rattle.line_format.specs.Words.{line_of}
use Rattle.problem_model.specs.ProblemText.{clock_line, event_line, follow_line, message_line}
use Rattle.ports.proofs.Writing.{writes_as, writes_then, writes_front, writes_failed}
use Rattle.thinning.specs.Thinned.{marked}
use Rattle.thinning.proofs.Printed.{whole_text}
use Rattle.thinning.proofs.writing.write_parts.Goals as goal

pub returns-in_err-write_head : goal.returns-in_err-write_head
returns-in_err-write_head g c =
    let p = c.args.p.now in
    let stays = c.args.stays.now in
    let keeps = c.args.keeps.now in
    let same = whole_text p c.events.ensures.lawful stays keeps c.requires.ends c.version_of.result c.version_of.ensures.head in
    writes_failed c.from_residual.ensures.0
    (writes_as same
    (writes_front (line_of (codes "end" ∷ [])) (writes_front (flat_map (message_line p.events) (marked p.messages keeps)) (writes_front (flat_map (event_line p.clocks) (marked p.events stays)) (writes_front (flat_map (follow_line p.clocks) p.follows) (writes_front (flat_map clock_line p.clocks) c.in_err-write_head.ensures))))))

pub returns-in_err-write_clocks : goal.returns-in_err-write_clocks
returns-in_err-write_clocks g c =
    let p = c.args.p.now in
    let stays = c.args.stays.now in
    let keeps = c.args.keeps.now in
    let same = whole_text p c.events.ensures.lawful stays keeps c.requires.ends c.version_of.result c.version_of.ensures.head in
    writes_failed c.from_residual-in_err-write_clocks.ensures.0
    (writes_as same
    (writes_front (line_of (codes "end" ∷ [])) (writes_front (flat_map (message_line p.events) (marked p.messages keeps)) (writes_front (flat_map (event_line p.clocks) (marked p.events stays)) (writes_front (flat_map (follow_line p.clocks) p.follows) (writes_then c.in_ok-write_head.ensures c.in_err-write_clocks.ensures))))))

pub returns-in_err-write_follows : goal.returns-in_err-write_follows
returns-in_err-write_follows g c =
    let p = c.args.p.now in
    let stays = c.args.stays.now in
    let keeps = c.args.keeps.now in
    let same = whole_text p c.events.ensures.lawful stays keeps c.requires.ends c.version_of.result c.version_of.ensures.head in
    writes_failed c.from_residual-in_err-write_follows.ensures.0
    (writes_as same
    (writes_front (line_of (codes "end" ∷ [])) (writes_front (flat_map (message_line p.events) (marked p.messages keeps)) (writes_front (flat_map (event_line p.clocks) (marked p.events stays)) (writes_then (writes_then c.in_ok-write_head.ensures c.in_ok-write_clocks.ensures) c.in_err-write_follows.ensures)))))

pub returns-in_err-write_events : goal.returns-in_err-write_events
returns-in_err-write_events g c =
    let p = c.args.p.now in
    let stays = c.args.stays.now in
    let keeps = c.args.keeps.now in
    let same = whole_text p c.events.ensures.lawful stays keeps c.requires.ends c.version_of.result c.version_of.ensures.head in
    writes_failed c.from_residual-in_err-write_events.ensures.0
    (writes_as same
    (writes_front (line_of (codes "end" ∷ [])) (writes_front (flat_map (message_line p.events) (marked p.messages keeps)) (writes_then (writes_then (writes_then c.in_ok-write_head.ensures c.in_ok-write_clocks.ensures) c.in_ok-write_follows.ensures) c.in_err-write_events.ensures))))

pub returns-in_err-write_messages : goal.returns-in_err-write_messages
returns-in_err-write_messages g c =
    let p = c.args.p.now in
    let stays = c.args.stays.now in
    let keeps = c.args.keeps.now in
    let same = whole_text p c.events.ensures.lawful stays keeps c.requires.ends c.version_of.result c.version_of.ensures.head in
    writes_failed c.from_residual-in_err-write_messages.ensures.0
    (writes_as same
    (writes_front (line_of (codes "end" ∷ [])) (writes_then (writes_then (writes_then (writes_then c.in_ok-write_head.ensures c.in_ok-write_clocks.ensures) c.in_ok-write_follows.ensures) c.in_ok-write_events.ensures) c.in_err-write_messages.ensures)))

pub returns : goal.returns
returns g c =
    let p = c.args.p.now in
    let stays = c.args.stays.now in
    let keeps = c.args.keeps.now in
    let same = whole_text p c.events.ensures.lawful stays keeps c.requires.ends c.version_of.result c.version_of.ensures.head in
    writes_as same
    (writes_then (writes_then (writes_then (writes_then (writes_then c.in_ok-write_head.ensures c.in_ok-write_clocks.ensures) c.in_ok-write_follows.ensures) c.in_ok-write_events.ensures) c.in_ok-write_messages.ensures) c.write_end.ensures)
