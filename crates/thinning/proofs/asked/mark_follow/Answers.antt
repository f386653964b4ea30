use Rattle.std.proofs.Common.{Option, Some, None, subst}
use Rattle.std.specs.Prelude.{IfSome}
use Rattle.std.proofs.lemmas.Option.{get_or_from_slice_get}
use Rattle.thinning.specs.declared.edges.ClockEdges.{ClockEdges}
use Rattle.thinning.specs.Thinned.{IsMarked}
use Rattle.thinning.proofs.asked.mark_follow.Goals as goal

pub returns-clause-edges : goal.returns-clause-edges
returns-clause-edges c =
    let edges = c.args.edges.now in
    let f = c.args.follow.now in (
      λ e at. c.mark_first.ensures.kept e.last
          (subst (λ (o : Option ClockEdges). IfSome o (λ (x : ClockEdges). IsMarked c.mark_last.new.marks x.last)) (get_or_from_slice_get edges f.earlier (Some e) None at) c.mark_last.ensures.last),
      λ e at.
          subst (λ (o : Option ClockEdges). IfSome o (λ (x : ClockEdges). IsMarked c.mark_first.new.marks x.first)) (get_or_from_slice_get edges f.later (Some e) None at) c.mark_first.ensures.first,
    )
