use Rattle.std.proofs.Common.{◌≡◌, ◌≢◌, ◌∷◌, [], Some, None, length, codes, refl, ap, arith}
use Rattle.std.proofs.lemmas.List.{nil_from_length}
use Rattle.line_format.proofs.Lacking.{lacks_test}
use Rattle.widen.specs.WideningFormat.WideningSaid.{Said}
use Rattle.widen.proofs.Reading.{only_line, only_end, end_found, end_more}
use Rattle.widen.proofs.read.read_end.Goals as goal

pub behind-requires : goal.behind-requires
behind-requires c = lacks_test 10 (codes "end") refl

pub returns-then-is_empty : goal.returns-then-is_empty
returns-then-is_empty c = λ p readings what values text b whole.
    let none : c.in-Some.rest.now ≡ [] = nil_from_length _ (grind (arith, c.is_empty.ensures, c.if-is_empty.true)) in
    end_found p readings text c.args.lines.now c.in-Some.rest.now (Said what (Some 0) values None) c.args.line b c.in-Some.ensures.some none (refl, whole)

pub returns-else-is_empty : goal.returns-else-is_empty
returns-else-is_empty c = λ p readings what values text b whole.
    let some : c.in-Some.rest.now ≢ [] = λ is. let none = ap length is in grind (arith, none, c.is_empty.ensures, c.if-is_empty.false) in
    end_more p readings text c.args.lines.now c.in-Some.rest.now (Said what (Some 0) values None) c.args.line b c.in-Some.ensures.some some (refl, whole)

pub returns-in-None : goal.returns-in-None
returns-in-None c = λ p readings what values text b whole.
    only_line p readings text c.args.lines.now (Said what (Some 0) values None) c.args.line (codes "end" ∷ []) b (only_end p readings what values whole) c.in-None.ensures.none
