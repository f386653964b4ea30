use Rattle.std.proofs.Common.{◌≡◌, ◌<◌, ◌∙◌, ℕ, List, length, sym, subst}
use Rattle.std.specs.Prelude.{All}
use Rattle.widen.specs.Blame.{links_of, link_candidates, IsBlamedUpTo}
use Rattle.widen.proofs.blame.add_others.Goals as goal

pub add_links-requires-clause-named : goal.add_links-requires-clause-named
add_links-requires-clause-named g c =
    subst (All (λ (l : ℕ × ℕ). (l.0 < length c.args.p.now.clocks) × (l.1 < length c.args.p.now.clocks))) (sym c.deref.ensures.value) c.in_ok-links.ensures.named

pub returns-clause-lines : goal.returns-clause-lines
returns-clause-lines g c = λ so_far.
    let p = c.args.p.now in
    let are : c.deref.result.now ≡ links_of p = c.deref.ensures.value ∙ c.in_ok-links.ensures.are in
    let clocks = c.in_ok-add_clocks.ensures.lines (link_candidates (links_of p)) (c.in_ok-add_kinds.ensures.lines so_far) in
    c.in_ok-add_links.ensures.lines (subst (λ (ls : List (ℕ × ℕ)). IsBlamedUpTo p (link_candidates ls) c.add_clocks.new.lines.text.items) (sym are) clocks)
