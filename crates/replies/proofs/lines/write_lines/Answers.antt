use Rattle.std.proofs.Common.{◌≡◌, ◌+◌, ℕ, List, drop, get_or, slice_get, Some}
use Rattle.std.specs.List.{flat_map}
use Rattle.std.proofs.lemmas.Option.{slice_get-get_or}
use Rattle.ports.proofs.Writing.{leaves_as, leaves_less, leaves_cut, leaves_none}
use Rattle.problem_model.proofs.Walking.{lines_more, lines_none}
use Rattle.decl.specs.Declaration.{declaration_of}
use Rattle.traces.specs.Held.{placed_in}
use Rattle.replies.specs.Merged.{line_at}
use Rattle.replies.specs.Writing.{times_by}
use Rattle.replies.proofs.lines.write_lines.Goals as goal

pub returns-in_err-write_line_at : goal.returns-in_err-write_line_at
returns-in_err-write_line_at g c =
    let line : ℕ → List ℕ = line_at (declaration_of c.args.decl.now) (times_by (g.N.Listing.listed c.args.names.now) c.args.e.now.values) (placed_in c.args.events.now) in
    let order : List ℕ = c.args.order.now in
    let k : ℕ = c.loop-place.place-index in
    let at : slice_get order k ≡ Some (get_or order k 0) = slice_get-get_or order k 0 c.loop-place-test.true in
    leaves_cut (flat_map line (drop (k + 1) order)) (leaves_as (lines_more line order k (get_or order k 0) at) c.loop-place.invariant) c.from_residual.ensures.0 c.in_err-write_line_at.ensures

pub loop-place-preserved : goal.loop-place-preserved
loop-place-preserved g c =
    let line : ℕ → List ℕ = line_at (declaration_of c.args.decl.now) (times_by (g.N.Listing.listed c.args.names.now) c.args.e.now.values) (placed_in c.args.events.now) in
    let order : List ℕ = c.args.order.now in
    let k : ℕ = c.loop-place.place-index in
    let at : slice_get order k ≡ Some (get_or order k 0) = slice_get-get_or order k 0 c.loop-place-test.true in
    leaves_less (leaves_as (lines_more line order k (get_or order k 0) at) c.loop-place.invariant) c.in_ok-write_line_at.ensures

pub returns : goal.returns
returns g c =
    let line : ℕ → List ℕ = line_at (declaration_of c.args.decl.now) (times_by (g.N.Listing.listed c.args.names.now) c.args.e.now.values) (placed_in c.args.events.now) in
    leaves_none (leaves_as (lines_none line c.args.order.now c.loop-place.place-index c.loop-place-test.false) c.loop-place.invariant)
