use Rattle.std.proofs.Common.{◌≡◌, ◌<◌, ◌∷◌, [], ◌∙◌, ℕ, List, None, length, ap, sym, subst}
use Rattle.std.specs.Prelude.{ℤ, All}
use Rattle.std.specs.List.{flat_map}
use Rattle.line_format.specs.Words.{line_of}
use Rattle.problem_model.specs.Executions.{at}
use Rattle.problem.specs.Listing.{listed_nodes}
use Rattle.ports.proofs.Writing.{writes_as, writes_then, writes_front, writes_failed}
use Rattle.cert.specs.Listed.{listed_values}
use Rattle.attain.specs.Written.{written_inside}
use Rattle.attain.specs.RowLists.{cells_for}
use Rattle.attain.specs.Sides.{is_upper, part, unlimited}
use Rattle.attain.proofs.Cutting.{clocks_behind, clocks_of}
use Rattle.attain.proofs.RowFacts.{values_long}
use Rattle.attain.proofs.part.write_no_limit.Goals as goal

pub write_values-requires-clause-one_each : goal.write_values-requires-clause-one_each
write_values-requires-clause-one_each g c =
    let l = g.N.Listing.listed c.args.names.now in
    let long = ap (λ (values : List ℤ). length values) c.earliest.ensures.values ∙ values_long c.args.rows.now c.exact.ensures in
    subst (λ (n : ℕ). All (λ (k : ℕ). k < n) (listed_nodes l)) (sym long) c.requires.listed.nodes

pub returns-in_err-write_whole : goal.returns-in_err-write_whole
returns-in_err-write_whole g c =
    let l = g.N.Listing.listed c.args.names.now in
    let cells = cells_for c.args.side c.args.rows.now in
    let side = c.args.side in
    let up = is_upper side in
    let z = listed_values l (at c.args.rows.now.values) in
    let line : c.as_slice.result.now ≡ line_of (part side ∷ unlimited side ∷ []) = c.as_slice.ensures.value ∙ c.unlimited_line-line.ensures in
    let inside = clocks_behind up cells None l.readings in
    let y = flat_map (written_inside l) inside in
    (inside, clocks_of l cells up c.requires.listed.rising, writes_failed c.from_residual.ensures.0 (writes_front z (writes_front y (writes_as line c.in_err-write_whole.ensures))))

pub returns-in_err-write_cut : goal.returns-in_err-write_cut
returns-in_err-write_cut g c =
    let l = g.N.Listing.listed c.args.names.now in
    let side = c.args.side in
    let z = listed_values l (at c.args.rows.now.values) in
    let line : c.as_slice.result.now ≡ line_of (part side ∷ unlimited side ∷ []) = c.as_slice.ensures.value ∙ c.unlimited_line-line.ensures in
    let cut = c.in_err-write_cut.ensures in
    (cut.0, cut.1, writes_failed c.from_residual-in_err-write_cut.ensures.0 (writes_front z (writes_then (writes_as line c.in_ok-write_whole.ensures) cut.2)))

pub returns : goal.returns
returns g c =
    let l = g.N.Listing.listed c.args.names.now in
    let side = c.args.side in
    let line : c.as_slice.result.now ≡ line_of (part side ∷ unlimited side ∷ []) = c.as_slice.ensures.value ∙ c.unlimited_line-line.ensures in
    let cut = c.in_ok-write_cut.ensures in
    let same = ap (λ (values : List ℤ). listed_values l (at values)) c.earliest.ensures.values in
    (cut.0, cut.1, writes_then (writes_then (writes_as line c.in_ok-write_whole.ensures) cut.2) (writes_as same c.write_values.ensures))
