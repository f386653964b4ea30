use Rattle.std.proofs.Common.{List, sym, subst}
use Rattle.msg_match.specs.declared.change.Couple.{Couple}
use Rattle.msg_match.specs.Changes.{AreCouplesAnew}
use Rattle.msg_match.proofs.AllCouples.{left_anew}
use Rattle.msg_match.proofs.matcher.change_between.Goals as goal

pub returns-clause-added : goal.returns-clause-added
returns-clause-added c =
    let before = c.args.before.now in
    let after = c.args.after.now in
    subst (λ (l : List Couple). AreCouplesAnew before after l) (sym c.in_ok-added.ensures) (left_anew before after c.in_ok-olds.olds c.in_ok-news.news c.in_ok-olds.ensures c.in_ok-news.ensures)

pub returns-clause-withdrawn : goal.returns-clause-withdrawn
returns-clause-withdrawn c =
    let before = c.args.before.now in
    let after = c.args.after.now in
    subst (λ (l : List Couple). AreCouplesAnew after before l) (sym c.in_ok-withdrawn.ensures) (left_anew after before c.in_ok-news.news c.in_ok-olds.olds c.in_ok-news.ensures c.in_ok-olds.ensures)
