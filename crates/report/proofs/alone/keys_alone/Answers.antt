use Rattle.std.proofs.Common.{◌<◌, ◌^◌, List, ◌∙◌, arith, rules}
use Rattle.std.proofs.lemmas.List.{length-map}
use Rattle.traces.specs.Traces.{events_of}
use Rattle.traces.specs.Windows.{grouped}
use Rattle.msg_match.specs.Groups.{SeenItem}
use Rattle.msg_match.specs.Held.{seen_groups}
use Rattle.msg_match.specs.Windowed.{group_item, grouped_items, item_keys}
use Rattle.msg_match.specs.Ends.{End, ends_among}
use Rattle.msg_match.proofs.Gathered.{ends_rise}
use Rattle.msg_match.proofs.GroupedEnds.{ends_grouped}
use Rattle.report.specs.Alone.{alone_among}
use Rattle.report.proofs.Apart.{alone_fewer, groups_alone, none_counted, some_counted}
use Rattle.report.proofs.alone.keys_alone.Goals as goal

pub returns-then-is_none : goal.returns-then-is_none
returns-then-is_none c = λ ids seen are. none_counted c.args.decl.now.window (alone_among (ends_among (grouped (events_of seen)))) c.is_none.result c.is_none.ensures c.if-is_none.true

pub overflow_cast-result : goal.overflow_cast-result
overflow_cast-result c =
    let all : List SeenItem = c.args.matcher.now in
    let few = c.requires in
    let fewer = alone_fewer (grouped_items all) (seen_groups c.all_groups.result.now) c.all_groups.ensures in
    let small : c.in_ok-count.count < 2 ^ 32 = omega (arith, few, fewer, length-map all (group_item (item_keys all)), c.in_ok-count.ensures) in
    search rules

pub returns : goal.returns
returns c = λ ids seen are.
    let items : List SeenItem = grouped_items c.args.matcher.now in
    let ends : List End = ends_among (grouped (events_of seen)) in
    some_counted c.args.decl.now.window (alone_among ends) c.in_ok-count.count c.is_none.result c.is_none.ensures c.if-is_none.false
    (c.in_ok-count.ensures ∙ groups_alone ids items ends (seen_groups c.all_groups.result.now) (ends_rise seen) (ends_grouped ids c.args.matcher.now seen are) c.all_groups.ensures)
