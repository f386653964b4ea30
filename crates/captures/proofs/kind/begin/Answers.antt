use Rattle.std.proofs.Common.{◌≡◌, [], arith}
use Rattle.std.proofs.lemmas.List.{nil_from_length}
use Rattle.packets.proofs.Collecting.{adds_none}
use Rattle.captures.proofs.Formats.{nothing_came}
use Rattle.captures.proofs.kind.begin.Goals as goal

pub returns-then-is_empty-clause-ok : goal.returns-then-is_empty-clause-ok
returns-then-is_empty-clause-ok c =
    let none : c.args.piece.now ≡ [] = nil_from_length c.args.piece.now (grind (arith, c.is_empty.ensures, c.if-is_empty.true)) in
    adds_none c.args.packets.now (nothing_came c.args.piece.now [] none)
