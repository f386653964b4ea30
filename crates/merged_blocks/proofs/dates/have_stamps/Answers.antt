use Rattle.std.proofs.Common.{Bool, MatchBool, subst}
use Rattle.mergecap.specs.Packets.{shift_of, timed}
use Rattle.merged_blocks.specs.MergedFile.{HasNoStamp, HasStamp}
use Rattle.merged_blocks.proofs.Stamping.{all_dated, one_undated}
use Rattle.merged_blocks.proofs.dates.have_stamps.Goals as goal

pub returns-then-not-has_stamp : goal.returns-then-not-has_stamp
returns-then-not-has_stamp c =
    let shift = shift_of c.args.start in
    let item = c.stored-item.result in
    one_undated shift c.args.kept.now c.loop-stored.stored-index item c.loop-stored-test.true c.stored-item.is
    (subst (λ (b : Bool). MatchBool b (HasStamp shift (timed item)) (HasNoStamp shift (timed item))) c.if-not-has_stamp.true c.has_stamp.ensures.stamp)

pub returns : goal.returns
returns c = all_dated (shift_of c.args.start) c.args.kept.now c.loop-stored.stored-index c.loop-stored-test.false c.loop-stored.invariant
