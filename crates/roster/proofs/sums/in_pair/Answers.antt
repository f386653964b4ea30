use Rattle.std.proofs.Common.{rules}
use Rattle.roster.proofs.PairSums.{pair_within, in_left, in_right}
use Rattle.roster.proofs.sums.in_pair.Goals as goal

pub overflow_mul-left : goal.overflow_mul-left
overflow_mul-left c = let inside = pair_within c.args.level.now c.args.pair c.args.rest c.requires in search rules

pub offset_bounds-level-pair : goal.offset_bounds-level-pair
offset_bounds-level-pair c = let inside = pair_within c.args.level.now c.args.pair c.args.rest c.requires in search rules

pub bounds-level-pair : goal.bounds-level-pair
bounds-level-pair c = pair_within c.args.level.now c.args.pair c.args.rest c.requires

pub overflow_mul-result-else-rest-left : goal.overflow_mul-result-else-rest-left
overflow_mul-result-else-rest-left c = let inside = pair_within c.args.level.now c.args.pair c.args.rest c.requires in search rules

pub overflow_add-result : goal.overflow_add-result
overflow_add-result c = let inside = pair_within c.args.level.now c.args.pair c.args.rest c.requires in search rules

pub returns-then-rest-left : goal.returns-then-rest-left
returns-then-rest-left c = in_left c.args.level.now c.args.pair c.args.rest c.if-rest-left.true

pub returns-else-rest-left : goal.returns-else-rest-left
returns-else-rest-left c = in_right c.args.level.now c.args.pair c.args.rest c.if-rest-left.false
