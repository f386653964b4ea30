use Rattle.std.proofs.Common.{ℕ, List, ◌++◌, sym, ap, ◌∙◌, arith}
use Rattle.ports.proofs.Writing.{leaves_all, leaves_as, writes_as}
use Rattle.problem_text.proofs.Paging.{line_lost, line_put, lines_put, puts_as}
use Rattle.roster.specs.Roster.{listed}
use Rattle.problem_text.specs.RosterText.{came_line, came_lines}
use Rattle.problem_text.proofs.Ids.{named_came}
use Rattle.problem_text.proofs.roster_problem.write_events.Goals as goal

pub loop-place-init : goal.loop-place-init
loop-place-init g c =
    let all = came_lines c.args.roster.now in
    leaves_as (ap (λ (l : List ℕ). l ++ all) (sym c.new-page.ensures)) (leaves_all (g.O.Sink.told c.args.out.now) all)

pub came_line-requires-clause-came : goal.came_line-requires-clause-came
came_line-requires-clause-came g c = named_came c.args.roster.now c.event_at-v.result.0 c.event_at-v.ensures.named

pub returns-in_err-put : goal.returns-in_err-put
returns-in_err-put g c =
    let r = c.args.roster.now in
    let piece = puts_as (c.as_slice.ensures.value ∙ c.came_line.ensures) c.in_err-put.ensures in
    line_lost (λ (e : ℕ × ℕ). came_line r e.0) (listed r).events (came_lines r) _ _ c.loop-place.place c.event_at-v.result c.event_at-v.ensures.value c.loop-place.invariant c.from_residual.ensures.0 piece

pub loop-place-preserved : goal.loop-place-preserved
loop-place-preserved g c =
    let r = c.args.roster.now in
    let piece = puts_as (c.as_slice.ensures.value ∙ c.came_line.ensures) c.in_ok-put.ensures in
    line_put (λ (e : ℕ × ℕ). came_line r e.0) (listed r).events (came_lines r) _ _ c.loop-place.place c.event_at-v.result c.event_at-v.ensures.value c.loop-place.invariant piece

pub returns : goal.returns
returns g c =
    let r = c.args.roster.now in
    lines_put (λ (e : ℕ × ℕ). came_line r e.0) (listed r).events (came_lines r) _ c.loop-place.place (omega (arith, c.loop-place-test.false, c.event_count-place-end.ensures)) c.loop-place.invariant
    (writes_as c.as_slice-2.ensures.value c.write_whole.ensures)
