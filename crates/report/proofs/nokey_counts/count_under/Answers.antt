use Rattle.std.proofs.Common.{◌+◌, cond, Bool, ap, sym, ◌∙◌}
use Rattle.report.proofs.Counted.{one_more}
use Rattle.report.proofs.nokey_counts.count_under.Goals.{then-lacks_key, else-lacks_key}
use Rattle.report.proofs.nokey_counts.count_under.Goals as goal

pub loop-event-preserved : goal.loop-event-preserved
loop-event-preserved c =
    let n = c.loop-event.count in
    one_more c.args.events.now c.args.reason c.loop-event.event-index c.event-item.result c.lacks_key.result n c.if-lacks_key.count c.loop-event-test.true c.event-item.is c.lacks_key.ensures c.loop-event.invariant
    (elim c.if-lacks_key.branch [
      | then-lacks_key w ↦ w.count-is ∙ sym (ap (λ (b : Bool). cond b (n + 1) n) w.if-lacks_key.true)
      | else-lacks_key w ↦ w.count-is ∙ sym (ap (λ (b : Bool). cond b (n + 1) n) w.if-lacks_key.false)
    ])
