use Rattle.thinning.proofs.cover.is_like.Goals as goal

pub returns-then-has_same_bounds : goal.returns-then-has_same_bounds
returns-then-has_same_bounds c = λ yes. (c.has_same_bounds.ensures c.if-has_same_bounds.true, c.has_near_ends.ensures yes)
