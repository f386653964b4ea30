use Rattle.std.proofs.Common.{◌≡◌, ◌<◌, ap, sym, ◌∙◌, subst, length, length-set}
use Rattle.std.specs.Prelude.{None, List, slice_set}
use Rattle.row_pool.specs.declared.cell.Cell.{Cell}
use Rattle.row_pool.specs.Row.{unknown}
use Rattle.distances.proofs.Puts.{none_waits, waits_true}
use Rattle.distances.proofs.Resting.{wiped_rests, wiped_value, waits_before, fewer_wait, rests_where_none, waiting_count}
use Rattle.distances.proofs.scratch.wipe_waiting.Goals as goal

pub loop-node-smaller : goal.loop-node-smaller
loop-node-smaller g c = subst (λ f. waiting_count f < waiting_count c.loop-node.front) (sym c.in-Some.ensures.taken) (fewer_wait c.loop-node.front c.in-Some.node c.in-Some.field-0-1 c.in-Some.ensures.least.waits)

pub loop-node-preserved : goal.loop-node-preserved
loop-node-preserved g c =
    let waits = c.in-Some.ensures.least.waits in
    let below : c.in-Some.node < length c.args.row.now = c.loop-node.invariant.within c.in-Some.node (waits_true c.loop-node.front c.in-Some.node c.in-Some.field-0-1 waits) in
    let within : c.in-Some.node < length c.loop-node.row = subst (λ n. c.in-Some.node < n) (sym c.loop-node.invariant.cells) below in
    let row : List Cell = slice_set c.loop-node.row c.in-Some.node c.unknown.result in
    let is : slice_set c.loop-node.row c.in-Some.node c.unknown.result ≡ slice_set c.loop-node.row c.in-Some.node unknown = ap (λ v. slice_set c.loop-node.row c.in-Some.node v) c.unknown.ensures in
    record {
      cells = length-set c.loop-node.row c.in-Some.node c.unknown.result ∙ c.loop-node.invariant.cells;
      room = ap length c.in-Some.ensures.taken ∙ length-set c.loop-node.front c.in-Some.node None ∙ c.loop-node.invariant.room;
      within = λ k w. c.loop-node.invariant.within k (waits_before c.loop-node.row row c.loop-node.front c.pop.new.self c.in-Some.node c.in-Some.field-0-1 waits within is c.in-Some.ensures.taken k w);
      known = λ k. wiped_rests c.loop-node.row row c.loop-node.front c.pop.new.self c.in-Some.node c.in-Some.field-0-1 waits within is c.in-Some.ensures.taken k ∙ c.loop-node.invariant.known k;
      same = λ k r. (let was = sym (wiped_rests c.loop-node.row row c.loop-node.front c.pop.new.self c.in-Some.node c.in-Some.field-0-1 waits within is c.in-Some.ensures.taken k) ∙ r in
          wiped_value c.loop-node.row row c.loop-node.front c.pop.new.self c.in-Some.node c.in-Some.field-0-1 waits within is c.in-Some.ensures.taken k was ∙ c.loop-node.invariant.same k was);
    }

pub returns-clause-known : goal.returns-clause-known
returns-clause-known g c = λ k. sym (rests_where_none c.loop-node.row c.loop-node.front k (none_waits c.loop-node.front c.in_default.ensures.none k)) ∙ c.loop-node.invariant.known k

pub returns-clause-same : goal.returns-clause-same
returns-clause-same g c = λ k h. c.loop-node.invariant.same k (rests_where_none c.loop-node.row c.loop-node.front k (none_waits c.loop-node.front c.in_default.ensures.none k) ∙ h)
