use Rattle.thinning.proofs.cover.has_near_ends.Goals as goal

pub returns-then-is_as_near : goal.returns-then-is_as_near
returns-then-is_as_near c = λ yes. (c.is_as_near.ensures c.if-is_as_near.true, c.is_as_near-then-is_as_near.ensures yes)
