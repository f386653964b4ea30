use Rattle.std.proofs.Common.{ℕ, List, ◌++◌, sym, ap, ◌∙◌, arith}
use Rattle.ports.proofs.Writing.{leaves_all, leaves_as, writes_as}
use Rattle.problem.specs.Listing.{name_at}
use Rattle.session_answers.specs.Quantities.{ends_at}
use Rattle.replies.specs.AllTimes.{ends_line}
use Rattle.session_answers.specs.TimesTexts.{listed_lines}
use Rattle.problem_text.proofs.Paging.{line_lost, line_put, lines_put, puts_as}
use Rattle.session_answers.proofs.TimesTold.{line_is}
use Rattle.session_answers.proofs.times_lines.write_lines.Goals as goal

pub loop-place-init : goal.loop-place-init
loop-place-init g c =
    let all = listed_lines (g.N.Listing.listed c.args.names.now) (ends_at c.args.quantity.now) in
    leaves_as (ap (λ (l : List ℕ). l ++ all) (sym c.new-page.ensures)) (leaves_all (g.O.Sink.told c.args.out.now) all)

pub ends_at-requires : goal.ends_at-requires
ends_at-requires g c = c.requires c.loop-place.place c.event_at-event.result.1 (c.event_at-event.result.0, c.event_at-event.ensures.value)

pub returns-in_err-put : goal.returns-in_err-put
returns-in_err-put g c =
    let l = g.N.Listing.listed c.args.names.now in
    let q = c.args.quantity.now in
    let e = c.event_at-event.result in
    let piece = puts_as (c.as_slice.ensures.value ∙ c.event_line-line.ensures ∙ line_is l e _ _ _ c.event_name.ensures c.ends_at.ensures) c.in_err-put.ensures in
    line_lost (λ (e : ℕ × ℕ). ends_line (name_at l.event_names e.0) (ends_at q e.1)) l.events (listed_lines l (ends_at q)) _ _ c.loop-place.place e c.event_at-event.ensures.value c.loop-place.invariant c.from_residual.ensures.0 piece

pub loop-place-preserved : goal.loop-place-preserved
loop-place-preserved g c =
    let l = g.N.Listing.listed c.args.names.now in
    let q = c.args.quantity.now in
    let e = c.event_at-event.result in
    let piece = puts_as (c.as_slice.ensures.value ∙ c.event_line-line.ensures ∙ line_is l e _ _ _ c.event_name.ensures c.ends_at.ensures) c.in_ok-put.ensures in
    line_put (λ (e : ℕ × ℕ). ends_line (name_at l.event_names e.0) (ends_at q e.1)) l.events (listed_lines l (ends_at q)) _ _ c.loop-place.place e c.event_at-event.ensures.value c.loop-place.invariant piece

pub returns : goal.returns
returns g c =
    let l = g.N.Listing.listed c.args.names.now in
    let q = c.args.quantity.now in
    lines_put (λ (e : ℕ × ℕ). ends_line (name_at l.event_names e.0) (ends_at q e.1)) l.events (listed_lines l (ends_at q)) _ c.loop-place.place (omega (arith, c.loop-place-test.false, c.event_count-place-end.ensures)) c.loop-place.invariant
    (writes_as c.as_slice-2.ensures.value c.write_whole.ensures)
