use Rattle.std.proofs.Common.{◌≤◌, ℕ, List, length, codes, refl, sym, ap, subst, arith}
use Rattle.line_format.specs.Format.{most_text_bytes}
use Rattle.line_format.proofs.Lacking.{lacks_test}
use Rattle.line_format.proofs.Reading.{head_answers}
use Rattle.problem.specs.Listing.{all_readings}
use Rattle.widen.specs.WideningFormat.{widening_format}
use Rattle.widen.specs.ReadsWidening.{ReadsWideningOver}
use Rattle.widen.proofs.Lines.{widening_lacks}
use Rattle.widen.proofs.read.read_text.Goals as goal

pub behind-requires : goal.behind-requires
behind-requires c = lacks_test 10 (codes "widening 1") refl

pub read_lines-requires : goal.read_lines-requires
read_lines-requires c =
    let same = ap length c.in-Some.ensures.some in
    let short : length c.args.text.now ≤ most_text_bytes = omega arith in
    omega (arith, same, short)

pub returns-in-Some : goal.returns-in-Some
returns-in-Some c =
    let p = c.args.p.now in
    subst (λ (t : List ℕ). ReadsWideningOver p (all_readings p.events) t c.read_lines.result) (sym c.in-Some.ensures.some) c.read_lines.ensures

pub returns-in-None : goal.returns-in-None
returns-in-None c =
    let p = c.args.p.now in
    let short : length c.args.text.now ≤ most_text_bytes = omega arith in
    head_answers (widening_format p (all_readings p.events)) widening_lacks c.args.text.now short c.in-None.ensures.none
