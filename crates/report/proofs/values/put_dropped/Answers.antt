use Rattle.std.proofs.Common.{◌≡◌, ◌≤◌, [], ap, length, map, arith}
use Rattle.std.proofs.lemmas.List.{length-map, nil_from_length}
use Rattle.report.specs.Report.{reported_drops}
use Rattle.report.proofs.Text.{none_dropped_put, some_dropped_put}
use Rattle.report.proofs.values.put_dropped.Goals as goal

pub returns-then-is_empty : goal.returns-then-is_empty
returns-then-is_empty c =
    let none : c.args.dropped.now ≡ [] = nil_from_length c.args.dropped.now (grind (arith, c.is_empty.ensures, c.if-is_empty.true)) in
    none_dropped_put (map reported_drops c.args.dropped.now) _ (ap (map reported_drops) none)

pub returns : goal.returns
returns c =
    let some : 1 ≤ length c.args.dropped.now = grind (arith, c.is_empty.ensures, c.if-is_empty.false) in
    some_dropped_put c.put.result _ (map reported_drops c.args.dropped.now) _ _ (omega (arith, some, length-map c.args.dropped.now reported_drops)) c.in_ok-dropped_value.ensures c.put.ensures.ok
