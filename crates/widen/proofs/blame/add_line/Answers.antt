use Rattle.std.proofs.Common.{◌≡◌, ◌++◌, ◌∙◌, ap, sym, subst, ℕ, List}
use Rattle.widen.specs.Blame.{blame_line, IsBlamedUpTo}
use Rattle.widen.proofs.Blaming.{line_more}
use Rattle.widen.proofs.blame.add_line.Goals as goal

pub returns-clause-lines : goal.returns-clause-lines
returns-clause-lines c = λ rest so_far.
    let p = c.args.p.now in
    let old : List ℕ = c.args.lines.now.text.items in
    let text : c.extend_from_slice.new.self.items ≡ old ++ blame_line p c.args.what c.args.extra = c.in_ok-extend_from_slice.ensures.items ∙ ap (λ (l : List ℕ). old ++ l) (c.as_slice.ensures.value ∙ c.blame_line-line.ensures) in
    subst (IsBlamedUpTo p rest) (sym text) (line_more p c.args.what rest old c.args.extra c.requires.healing so_far)
