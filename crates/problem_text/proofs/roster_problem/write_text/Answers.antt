use Rattle.std.proofs.Common.{◌∷◌, [], ◌∙◌, ap}
use Rattle.std.specs.Prelude.{codes}
use Rattle.std.specs.List.{flat_map}
use Rattle.line_format.specs.Words.{line_of}
use Rattle.problem_model.specs.ProblemText.{clock_line, follow_line}
use Rattle.decl.specs.Declaration.{Declaration, follows_of, has_own_bounds}
use Rattle.ports.proofs.Writing.{writes_as, writes_then, writes_front, writes_failed}
use Rattle.problem_text.specs.RosterText.{came_lines, sent_lines}
use Rattle.problem_text.proofs.Follows.{head_line}
use Rattle.problem_text.proofs.roster_problem.write_text.Goals as goal

pub version_of-requires : goal.version_of-requires
version_of-requires g c = c.has_own_bounds-own.ensures ∙ ap has_own_bounds c.decl-decl.ensures.same

pub write_events-requires : goal.write_events-requires
write_events-requires g c = c.has_own_bounds-own.ensures ∙ ap has_own_bounds c.decl-decl.ensures.same

pub returns-in_err-write_head : goal.returns-in_err-write_head
returns-in_err-write_head g c =
    let r = c.args.roster.now in
    let d = r.declaration in
    let head = writes_as (head_line r c.version_of.result c.version_of.ensures.head) c.in_err-write_head.ensures in
    writes_failed c.from_residual.ensures.0
    (writes_front (line_of (codes "end" ∷ [])) (writes_front (sent_lines r) (writes_front (came_lines r) (writes_front (flat_map (follow_line d.clocks) (follows_of d))
    (writes_front (flat_map clock_line d.clocks) head)))))

pub returns-in_err-write_clocks : goal.returns-in_err-write_clocks
returns-in_err-write_clocks g c =
    let r = c.args.roster.now in
    let d = r.declaration in
    let same = ap (λ (d : Declaration). flat_map clock_line d.clocks) c.decl-decl.ensures.same in
    let head = writes_as (head_line r c.version_of.result c.version_of.ensures.head) c.in_ok-write_head.ensures in
    writes_failed c.from_residual-in_err-write_clocks.ensures.0
    (writes_front (line_of (codes "end" ∷ [])) (writes_front (sent_lines r) (writes_front (came_lines r) (writes_front (flat_map (follow_line d.clocks) (follows_of d))
    (writes_then head (writes_as same c.in_err-write_clocks.ensures))))))

pub returns-in_err-write_follows : goal.returns-in_err-write_follows
returns-in_err-write_follows g c =
    let r = c.args.roster.now in
    let d = r.declaration in
    let same = ap (λ (d : Declaration). flat_map clock_line d.clocks) c.decl-decl.ensures.same in
    let head = writes_as (head_line r c.version_of.result c.version_of.ensures.head) c.in_ok-write_head.ensures in
    writes_failed c.from_residual-in_err-write_follows.ensures.0
    (writes_front (line_of (codes "end" ∷ [])) (writes_front (sent_lines r) (writes_front (came_lines r)
    (writes_then (writes_then head (writes_as same c.in_ok-write_clocks.ensures)) c.in_err-write_follows.ensures))))

pub returns-in_err-write_events : goal.returns-in_err-write_events
returns-in_err-write_events g c =
    let r = c.args.roster.now in
    let same = ap (λ (d : Declaration). flat_map clock_line d.clocks) c.decl-decl.ensures.same in
    let head = writes_as (head_line r c.version_of.result c.version_of.ensures.head) c.in_ok-write_head.ensures in
    writes_failed c.from_residual-in_err-write_events.ensures.0
    (writes_front (line_of (codes "end" ∷ [])) (writes_front (sent_lines r)
    (writes_then (writes_then (writes_then head (writes_as same c.in_ok-write_clocks.ensures)) c.in_ok-write_follows.ensures) c.in_err-write_events.ensures)))

pub returns-in_err-write_messages : goal.returns-in_err-write_messages
returns-in_err-write_messages g c =
    let r = c.args.roster.now in
    let same = ap (λ (d : Declaration). flat_map clock_line d.clocks) c.decl-decl.ensures.same in
    let head = writes_as (head_line r c.version_of.result c.version_of.ensures.head) c.in_ok-write_head.ensures in
    writes_failed c.from_residual-in_err-write_messages.ensures.0
    (writes_front (line_of (codes "end" ∷ []))
    (writes_then (writes_then (writes_then (writes_then head (writes_as same c.in_ok-write_clocks.ensures)) c.in_ok-write_follows.ensures) c.in_ok-write_events.ensures) c.in_err-write_messages.ensures))

pub returns : goal.returns
returns g c =
    let r = c.args.roster.now in
    let same = ap (λ (d : Declaration). flat_map clock_line d.clocks) c.decl-decl.ensures.same in
    let head = writes_as (head_line r c.version_of.result c.version_of.ensures.head) c.in_ok-write_head.ensures in
    writes_then
    (writes_then (writes_then (writes_then (writes_then head (writes_as same c.in_ok-write_clocks.ensures)) c.in_ok-write_follows.ensures) c.in_ok-write_events.ensures) c.in_ok-write_messages.ensures)
    c.write_end.ensures
