use Rattle.std.proofs.Common.{◌≡◌, ◌≤◌, ◌<◌, ◌+◌, ◌∙◌, ◌^◌, length, sym, arith, rules}
use Rattle.problem_model.specs.Limits.{most_events}
use Rattle.session.proofs.ToldMessages.{told, told_on, told_past, all_told}
use Rattle.session.proofs.counts.told_messages.Goals.{then-is_some, else-is_some}
use Rattle.session.proofs.counts.told_messages.Goals as goal

pub loop-v-init : goal.loop-v-init
loop-v-init c = (omega arith, let all : 0 + told c.args.roster.now.came ≡ told c.args.roster.now.came = omega arith in all)

pub overflow_add-count : goal.overflow_add-count
overflow_add-count c =
    let below : c.loop-v.count ≤ c.loop-v.v = c.loop-v.invariant.0 in
    let inside : c.loop-v.v < c.len-v-end.result = c.loop-v-test.true in
    let few : c.len-v-end.result ≤ most_events = c.len-v-end.ensures.few in
    let small : c.loop-v.count + 1 < 2 ^ 64 = omega (arith, below, inside, few) in
    search rules

pub loop-v-preserved : goal.loop-v-preserved
loop-v-preserved c =
    let below : c.loop-v.count ≤ c.loop-v.v = c.loop-v.invariant.0 in
    elim c.if-is_some.branch [
      | then-is_some w ↦ (
          let more : c.if-is_some.count ≡ c.loop-v.count + 1 = w.count-is in
          (omega (arith, below, more), told_on c.args.roster.now.came c.loop-v.v c.loop-v.count c.event.result c.event.ensures c.loop-v.invariant.1 c.if-is_some.count (sym c.is_some.ensures ∙ w.if-is_some.true) more))
      | else-is_some w ↦ (
          let same : c.if-is_some.count ≡ c.loop-v.count = w.count-is in
          (omega (arith, below, same), told_past c.args.roster.now.came c.loop-v.v c.loop-v.count c.event.result c.event.ensures c.loop-v.invariant.1 c.if-is_some.count (sym c.is_some.ensures ∙ w.if-is_some.false) same))
    ]

pub returns : goal.returns
returns c =
    let past : length c.args.roster.now.came ≤ c.loop-v.v = let over = c.loop-v-test.false in let many = c.len-v-end.ensures.count in omega (arith, over, many) in
    all_told c.args.roster.now.came c.loop-v.v c.loop-v.count past c.loop-v.invariant.1
