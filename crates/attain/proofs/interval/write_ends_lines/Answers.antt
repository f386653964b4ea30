use Rattle.std.proofs.Common.{◌≡◌, ◌∷◌, [], ◌++◌, ◌∙◌, ℕ, length, subst, sym}
use Rattle.std.specs.Prelude.{codes}
use Rattle.line_format.specs.Words.{line_of}
use Rattle.ports.proofs.Writing.{writes_as, writes_then, writes_front, writes_failed}
use Rattle.problem.specs.Listing.{name_at}
use Rattle.row_pool.specs.Row.{cells_of}
use Rattle.attain.specs.declared.side.Side.TheVariants.{Upper, Lower}
use Rattle.attain.specs.Intervals.{IsEventOn}
use Rattle.attain.proofs.Events.{event_within}
use Rattle.attain.proofs.Intervals.{interval_is}
use Rattle.attain.proofs.Parts.{end_there}
use Rattle.attain.proofs.interval.write_ends_lines.Goals as goal

pub event_of-requires : goal.event_of-requires
event_of-requires g c =
    let at = c.requires.events.2 in
    subst (λ (p : ℕ). (event : ℕ) × IsEventOn (g.N.Listing.listed c.args.names.now) event p) (sym c.node.ensures) (at.0, (c.requires.events.0, at.1))

pub event_of-requires-2 : goal.event_of-requires-2
event_of-requires-2 g c =
    let at = c.requires.events.3 in
    (at.0, (c.requires.events.1, at.1))

pub write_end-requires-clause-node : goal.write_end-requires-clause-node
write_end-requires-clause-node g c =
    let at = c.requires.events.3 in
    event_within (g.N.Listing.listed c.args.names.now) c.args.q (length c.args.rows.now.graph.nodes) c.requires.listed.nodes (at.0, (c.requires.events.1, at.1))

pub write_end-requires-2-clause-node : goal.write_end-requires-2-clause-node
write_end-requires-2-clause-node g c =
    let at = c.requires.events.3 in
    event_within (g.N.Listing.listed c.args.names.now) c.args.q (length c.args.rows.now.graph.nodes) c.requires.listed.nodes (at.0, (c.requires.events.1, at.1))

pub returns-in_err-write_whole : goal.returns-in_err-write_whole
returns-in_err-write_whole g c =
    let l = g.N.Listing.listed c.args.names.now in
    let r = c.args.rows.now in
    let from = cells_of r.from in
    let to = cells_of r.to in
    let first = c.event_of.result in
    let second = c.event_of-2.result in
    let first_on : IsEventOn l first r.node = subst (IsEventOn l first) c.node.ensures c.event_of.ensures.event in
    let x = line_of (codes "ends" ∷ name_at l.event_names first ∷ name_at l.event_names second ∷ []) in
    let line : c.as_slice.result.now ≡ x = c.as_slice.ensures.value ∙ c.ends_line-line.ensures in
    let up = end_there Upper l r.graph r.values from r.node c.args.q c.exact.ensures.at_node.from_node c.requires.listed.rising in
    let down = end_there Lower l r.graph r.values to r.node c.args.q c.exact.ensures.at_node.to_node c.requires.listed.rising in
    let such = interval_is l r.graph r.values from to r.node c.args.q first second first_on c.event_of-2.ensures.event up.0 down.0 up.1 down.1 in
    (x ++ up.0 ++ down.0, such, writes_failed c.from_residual.ensures.0 (writes_front down.0 (writes_front up.0 (writes_as line c.in_err-write_whole.ensures))))

pub returns-in_err-write_end : goal.returns-in_err-write_end
returns-in_err-write_end g c =
    let l = g.N.Listing.listed c.args.names.now in
    let r = c.args.rows.now in
    let from = cells_of r.from in
    let to = cells_of r.to in
    let first = c.event_of.result in
    let second = c.event_of-2.result in
    let first_on : IsEventOn l first r.node = subst (IsEventOn l first) c.node.ensures c.event_of.ensures.event in
    let x = line_of (codes "ends" ∷ name_at l.event_names first ∷ name_at l.event_names second ∷ []) in
    let line : c.as_slice.result.now ≡ x = c.as_slice.ensures.value ∙ c.ends_line-line.ensures in
    let up = c.in_err-write_end.ensures in
    let down = end_there Lower l r.graph r.values to r.node c.args.q c.exact.ensures.at_node.to_node c.requires.listed.rising in
    let such = interval_is l r.graph r.values from to r.node c.args.q first second first_on c.event_of-2.ensures.event up.0 down.0 up.1 down.1 in
    (x ++ up.0 ++ down.0, such, writes_failed c.from_residual-in_err-write_end.ensures.0 (writes_front down.0 (writes_then (writes_as line c.in_ok-write_whole.ensures) up.2)))

pub returns : goal.returns
returns g c =
    let l = g.N.Listing.listed c.args.names.now in
    let r = c.args.rows.now in
    let from = cells_of r.from in
    let to = cells_of r.to in
    let first = c.event_of.result in
    let second = c.event_of-2.result in
    let first_on : IsEventOn l first r.node = subst (IsEventOn l first) c.node.ensures c.event_of.ensures.event in
    let x = line_of (codes "ends" ∷ name_at l.event_names first ∷ name_at l.event_names second ∷ []) in
    let line : c.as_slice.result.now ≡ x = c.as_slice.ensures.value ∙ c.ends_line-line.ensures in
    let up = c.in_ok-write_end.ensures in
    let down = c.write_end-2.ensures in
    let such = interval_is l r.graph r.values from to r.node c.args.q first second first_on c.event_of-2.ensures.event up.0 down.0 up.1 down.1 in
    (x ++ up.0 ++ down.0, such, writes_then (writes_then (writes_as line c.in_ok-write_whole.ensures) up.2) down.2)
