use Rattle.std.proofs.Common.{◌≡◌, ◌∙◌, ◌++◌, List, ℕ, ap, sym, subst}
use Rattle.std.specs.Prelude.{codes}
use Rattle.cert_check.specs.declared.what.Links.TheVariants as links
use Rattle.cert_check.specs.declared.what.What.TheVariants.{Delays}
use Rattle.widen.specs.Blame.{IsBlameText}
use Rattle.widen.proofs.Blaming.{none_text, blamed_text, by_none, by_other}
use Rattle.widen.proofs.blame.write_text.Goals as goal

pub returns-then-heals_by_none : goal.returns-then-heals_by_none
returns-then-heals_by_none g c =
    let p = c.args.p.now in
    let empty = c.find.ensures.text ∙ c.requires.empty in
    let all : c.extend_from_slice.new.self.items ≡ codes "blame none\n" = c.in_ok-extend_from_slice.ensures.items ∙ ap (λ (l : List ℕ). l ++ codes "blame none\n") empty in
    subst (IsBlameText p) (sym all) (none_text p (by_none (Delays links.All) p c.in_ok-delays.delays c.in_ok-delays.ensures.healing (c.heals_by_none.ensures.0 c.if-heals_by_none.true)))

pub returns : goal.returns
returns g c =
    let p = c.args.p.now in
    let none = by_other (Delays links.All) p c.in_ok-delays.delays c.in_ok-delays.ensures.healing (λ is. absurd (cc (c.heals_by_none.ensures.1 is, c.if-heals_by_none.false))) in
    blamed_text p _ none c.in_ok-add_all.ensures
