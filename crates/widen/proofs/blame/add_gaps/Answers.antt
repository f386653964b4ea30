use Rattle.std.proofs.Common.{List, subst, rules}
use Rattle.cert_check.specs.declared.what.What.{What}
use Rattle.widen.specs.Blame.{IsBlamedUpTo}
use Rattle.widen.proofs.Blaming.{no_gaps, some_gaps}
use Rattle.widen.proofs.blame.add_gaps.Goals as goal

pub returns-then-is_empty-clause-lines : goal.returns-then-is_empty-clause-lines
returns-then-is_empty-clause-lines g c = λ rest so_far. subst (λ (ws : List What). IsBlamedUpTo c.args.p.now ws c.args.lines.now.text.items) (no_gaps c.args.p.now.follows rest (search rules)) so_far

pub returns-clause-lines : goal.returns-clause-lines
returns-clause-lines g c = λ rest so_far.
    c.in_ok-add_found.ensures.lines rest (subst (λ (ws : List What). IsBlamedUpTo c.args.p.now ws c.args.lines.now.text.items) (some_gaps c.args.p.now.follows rest (search rules)) so_far)
