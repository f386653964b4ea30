use Rattle.std.proofs.Common.{List, ℕ, codes, refl, sym, subst}
use Rattle.line_format.proofs.Lacking.{lacks_test}
use Rattle.cert.specs.ReadsExecution.{ReadsOver}
use Rattle.cert.proofs.read.read_text.Goals as goal

pub behind-requires : goal.behind-requires
behind-requires c = lacks_test 10 (codes "execution 1") refl

pub returns-in-Some : goal.returns-in-Some
returns-in-Some c =
    let n = c.args.nodes.now in
    subst (λ (t : List ℕ). ReadsOver n.problem n.readings t c.read_lines.result) (sym c.in-Some.ensures.some) c.read_lines.ensures
