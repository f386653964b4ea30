use Rattle.problem_model.proofs.Following.{chained_by}
use Rattle.problem.proofs.Nearby.{bound_is, declared}
use Rattle.problem.proofs.nearest.nearest_follow.Goals as goal

pub returns-clause-bound : goal.returns-clause-bound
returns-clause-bound c =
    bound_is _ (chained_by _ c.in_ok-follow.ensures.lawful.formed) _ c.requires _ c.in_ok-follow.follow c.in_ok-last.last c.in_ok-first.first c.in_ok-follow.ensures.value c.in_ok-last.ensures c.in_ok-first.ensures

pub returns-clause-declared : goal.returns-clause-declared
returns-clause-declared c =
    declared _ (chained_by _ c.in_ok-follow.ensures.lawful.formed) _ c.requires _ c.in_ok-follow.follow c.in_ok-last.last c.in_ok-first.first c.in_ok-follow.ensures.value c.in_ok-last.ensures c.in_ok-first.ensures
