use Rattle.std.proofs.Common.{◌≡◌, ◌+◌, ◌++◌, ◌∙◌, ℕ, Bool, Option, None, Some, ap, sym, length, slice_get, arith}
use Rattle.std.specs.List.{flat_map}
use Rattle.ports.proofs.Writing.{leaves_as, leaves_less, leaves_cut, leaves_none}
use Rattle.attain.specs.Written.{written_inside}
use Rattle.attain.specs.RowLists.{cells_for}
use Rattle.attain.specs.Sides.{is_upper}
use Rattle.attain.specs.Cuts.{is_first, clock_if, last_behind}
use Rattle.attain.proofs.Cutting.{clocks_behind, inside_from, inside_more, inside_none, clocks_of, node_within}
use Rattle.attain.proofs.Parts.{readings_within}
use Rattle.attain.proofs.cut.write_cut.Goals as goal

pub is_known-requires : goal.is_known-requires
is_known-requires g c =
    let l = g.N.Listing.listed c.args.names.now in
    let n = length c.args.rows.now.graph.nodes in
    node_within l.readings c.loop-place.place c.reading_at-clock.result n (readings_within l n n c.requires.listed.nodes (omega arith)) c.reading_at-clock.ensures.value

pub returns-in_err-last : goal.returns-in_err-last
returns-in_err-last g c =
    let l = g.N.Listing.listed c.args.names.now in
    let cells = cells_for c.args.side c.args.rows.now in
    let up = is_upper c.args.side in
    let last = c.loop-place.last in
    let k = c.loop-place.place in
    let r = c.reading_at-clock.result in
    let at : slice_get l.readings k ≡ Some r = c.reading_at-clock.ensures.value in
    let first = c.is_first-first.result in
    let is : first ≡ is_first up (cells.known r.2) last r.0 = c.is_first-first.ensures ∙ ap (λ (known : Bool). is_first up known last r.0) c.is_known.ensures in
    let rest = inside_from l up cells (last_behind first last r.0) (k + 1) in (
      clocks_behind up cells None l.readings,
      clocks_of l cells up c.requires.listed.rising,
      leaves_cut rest (leaves_as (inside_more l up cells last k r first at is) c.loop-place.invariant) c.from_residual.ensures.0 c.in_err-last.ensures.written,
    )

pub loop-place-preserved : goal.loop-place-preserved
loop-place-preserved g c =
    let l = g.N.Listing.listed c.args.names.now in
    let cells = cells_for c.args.side c.args.rows.now in
    let up = is_upper c.args.side in
    let last = c.loop-place.last in
    let k = c.loop-place.place in
    let r = c.reading_at-clock.result in
    let at : slice_get l.readings k ≡ Some r = c.reading_at-clock.ensures.value in
    let first = c.is_first-first.result in
    let is : first ≡ is_first up (cells.known r.2) last r.0 = c.is_first-first.ensures ∙ ap (λ (known : Bool). is_first up known last r.0) c.is_known.ensures in
    let piece = flat_map (written_inside l) (clock_if first r.0) in
    let more = inside_more l up cells last k r first at is ∙ ap (λ (next : Option ℕ). piece ++ inside_from l up cells next (k + 1)) (sym c.in_ok-last.ensures.last) in
    leaves_less (leaves_as more c.loop-place.invariant) c.in_ok-last.ensures.written

pub returns : goal.returns
returns g c =
    let l = g.N.Listing.listed c.args.names.now in
    let cells = cells_for c.args.side c.args.rows.now in
    let up = is_upper c.args.side in (
      clocks_behind up cells None l.readings,
      clocks_of l cells up c.requires.listed.rising,
      leaves_none (leaves_as (inside_none l up cells c.loop-place.last c.loop-place.place (omega (arith, c.loop-place-test.false, c.reading_count-place-end.ensures.count))) c.loop-place.invariant),
    )
