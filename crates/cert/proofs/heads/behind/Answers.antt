use Rattle.std.proofs.Common.{◌≡◌, sym, rules}
use Rattle.cert.proofs.FirstLines.{behind_line, other_line, no_line}
use Rattle.cert.proofs.heads.behind.Goals as goal

pub returns-then-eq-clause-some : goal.returns-then-eq-clause-some
returns-then-eq-clause-some c =
    let is : c.in-Some.first.now ≡ c.args.line.now = search rules in
    behind_line _ _ _ _ (sym c.in-Some.ensures) is

pub returns-else-eq-clause-none : goal.returns-else-eq-clause-none
returns-else-eq-clause-none c =
    let other : c.in-Some.first.now ≡ c.args.line.now → ⊥ = search rules in
    other_line _ _ _ _ c.requires (sym c.in-Some.ensures) other

pub returns-in-None-clause-none : goal.returns-in-None-clause-none
returns-in-None-clause-none c = no_line _ _ c.requires (sym c.in-None.ensures)
