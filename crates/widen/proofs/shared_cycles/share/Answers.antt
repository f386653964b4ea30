use Rattle.std.proofs.Common.{List, Option, sym, subst}
use Rattle.std.specs.Prelude.{All, IfSome}
use Rattle.std.proofs.lemmas.List.Elements.{All-push}
use Rattle.cert.specs.declared.chain.Step.{Step}
use Rattle.widen.specs.Search.{IsCycleOf}
use Rattle.widen.proofs.shared_cycles.share.Goals as goal

pub returns-in_ok-push : goal.returns-in_ok-push
returns-in_ok-push c = λ p one_of all.
    let one : IsCycleOf p c.in-Some.cycle = subst (λ (o : Option (List Step)). IfSome o (IsCycleOf p)) c.in-Some.is one_of in
    subst (All (IsCycleOf p)) (sym c.in_ok-push.ensures.items) (All-push (IsCycleOf p) c.args.cycles.now.items c.in-Some.cycle all one)
