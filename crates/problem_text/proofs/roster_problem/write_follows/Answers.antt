use Rattle.std.proofs.Common.{◌<◌, ℕ, length, ap, arith}
use Rattle.std.specs.List.{flat_map, range_with_len}
use Rattle.problem_model.specs.ProblemText.{follow_line}
use Rattle.decl.specs.Declaration.{Declaration, follows_of}
use Rattle.ports.proofs.Writing.{leaves_all, leaves_as}
use Rattle.problem_text.proofs.ListedLines.{line_written, line_cut, lines_written}
use Rattle.problem_text.specs.RosterText.{next_line}
use Rattle.problem_text.proofs.Follows.{by_place, few_owners, place_inside, place_is, places_end}
use Rattle.problem_text.proofs.roster_problem.write_follows.Goals as goal

pub loop-place-init : goal.loop-place-init
loop-place-init g c =
    let d : Declaration = c.args.roster.now.declaration in
    leaves_as (by_place d) (leaves_all (g.O.Sink.told c.args.out.now) (flat_map (follow_line d.clocks) (follows_of d)))

pub returns-in_err-write_next : goal.returns-in_err-write_next
returns-in_err-write_next g c =
    let d : Declaration = c.args.roster.now.declaration in
    let k : ℕ = c.loop-place.place in
    let inside : k < length d.owners = omega (arith, c.loop-place-test.true, c.len-place-end.ensures, ap (λ (d : Declaration). length d.owners) c.decl.ensures.same) in
    line_cut (next_line d) (range_with_len 0 (length d.owners)) k k (place_inside (length d.owners) k inside) (place_is (length d.owners) k inside) c.loop-place.invariant c.from_residual.ensures.0 c.in_err-write_next.ensures

pub loop-place-preserved : goal.loop-place-preserved
loop-place-preserved g c =
    let d : Declaration = c.args.roster.now.declaration in
    let k : ℕ = c.loop-place.place in
    let inside : k < length d.owners = omega (arith, c.loop-place-test.true, c.len-place-end.ensures, ap (λ (d : Declaration). length d.owners) c.decl.ensures.same) in
    line_written (next_line d) (range_with_len 0 (length d.owners)) k k (place_inside (length d.owners) k inside) (place_is (length d.owners) k inside) c.loop-place.invariant c.in_ok-write_next.ensures

pub returns : goal.returns
returns g c =
    let d : Declaration = c.args.roster.now.declaration in
    lines_written (next_line d) (range_with_len 0 (length d.owners)) c.loop-place.place
    (places_end (length d.owners) c.loop-place.place (omega (arith, c.loop-place-test.false, c.len-place-end.ensures, few_owners _ _ c.decl.ensures.same c.decl.ensures.lawful, ap (λ (d : Declaration). length d.owners) c.decl.ensures.same)))
    c.loop-place.invariant
