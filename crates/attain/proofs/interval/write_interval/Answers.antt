use Rattle.std.proofs.Common.{◌∷◌, [], refl}
use Rattle.std.specs.Prelude.{codes}
use Rattle.line_format.specs.Words.{line_of}
use Rattle.ports.proofs.Writing.{writes_then, writes_front, writes_failed}
use Rattle.cert.specs.Listed.{certified}
use Rattle.row_pool.specs.Row.{cells_of}
use Rattle.attain.proofs.Intervals.{interval_there}
use Rattle.attain.proofs.interval.write_interval.Goals as goal

pub returns-in_err-write_whole : goal.returns-in_err-write_whole
returns-in_err-write_whole g c =
    let l = g.N.Listing.listed c.args.names.now in
    let r = c.args.rows.now in
    let at = c.requires.events.2 in
    let at' = c.requires.events.3 in
    let some = interval_there l r.graph r.values (cells_of r.from) (cells_of r.to) r.node c.args.q c.exact.ensures.at_node.from_node c.exact.ensures.at_node.to_node c.requires.listed.rising
    (at.0, (c.requires.events.0, at.1)) (at'.0, (c.requires.events.1, at'.1)) in
    (certified some.0, (some.0, some.1, refl), writes_failed c.from_residual.ensures.0 (writes_front (line_of (codes "end" ∷ [])) (writes_front some.0 c.in_err-write_whole.ensures)))

pub returns-in_err-write_ends_lines : goal.returns-in_err-write_ends_lines
returns-in_err-write_ends_lines g c =
    let some = c.in_err-write_ends_lines.ensures in
    (certified some.0, (some.0, some.1, refl), writes_failed c.from_residual-in_err-write_ends_lines.ensures.0 (writes_front (line_of (codes "end" ∷ [])) (writes_then c.in_ok-write_whole.ensures some.2)))

pub returns : goal.returns
returns g c =
    let some = c.in_ok-write_ends_lines.ensures in
    (certified some.0, (some.0, some.1, refl), writes_then (writes_then c.in_ok-write_whole.ensures some.2) c.write_whole-2.ensures)
