use Rattle.std.proofs.Common.{take, get_or, ℕ, arith}
use Rattle.std.proofs.lemmas.List.{get_or_default}
use Rattle.std.specs.List.{flat_map}
use Rattle.problem_model.specs.Limits.{most_arcs}
use Rattle.problem_solver.specs.declared.items.Item.TheVariants.{Span}
use Rattle.problem_solver.specs.declared.items.Ranked.{Ranked}
use Rattle.problem_solver.specs.Items.{bounds_of, items_of}
use Rattle.problem_solver.proofs.Bringing.{adds_none, nodes_still}
use Rattle.problem_solver.proofs.PushedItems.{item_at, room_there, one_more_item, all_items}
use Rattle.problem_solver.proofs.pushes.push_items.Goals as goal

-- what stands where there is no item
abbrev none : Ranked
none = record { rank = 0; item = Span 0 }

pub loop-ranked-init : goal.loop-ranked-init
loop-ranked-init g c = adds_none c.args.p.now c.args.s.now c.requires.current

pub push_item-requires-clause-nodes : goal.push_item-requires-clause-nodes
push_item-requires-clause-nodes g c =
    nodes_still c.args.p.now (flat_map (bounds_of c.args.p.now c.args.readings.now) (items_of (take c.loop-ranked.ranked-index c.args.items.now))) c.args.s.now c.loop-ranked.s c.loop-ranked.invariant c.requires.nodes

pub push_item-requires-clause-item : goal.push_item-requires-clause-item
push_item-requires-clause-item g c =
    let k : ℕ = c.loop-ranked.ranked-index in
    let r : Ranked = get_or c.args.items.now k none in
    item_at c.args.p.now c.args.readings.now c.args.items.now k c.loop-ranked-test.true r c.requires.items (get_or_default c.args.items.now k none r c.loop-ranked-test.true)

pub push_item-requires-clause-room : goal.push_item-requires-clause-room
push_item-requires-clause-room g c =
    room_there c.args.p.now c.args.readings.now c.args.items.now c.loop-ranked.ranked-index c.loop-ranked-test.true c.args.s.now c.loop-ranked.s most_arcs c.loop-ranked.invariant c.requires.none c.requires.few

pub loop-ranked-preserved : goal.loop-ranked-preserved
loop-ranked-preserved g c =
    let k : ℕ = c.loop-ranked.ranked-index in
    let r : Ranked = get_or c.args.items.now k none in
    one_more_item c.args.p.now c.args.readings.now c.args.items.now k c.loop-ranked-test.true r c.args.s.now c.loop-ranked.s c.push_item.new.s (get_or_default c.args.items.now k none r c.loop-ranked-test.true)
    c.loop-ranked.invariant c.in_ok-push_item.ensures

pub returns : goal.returns
returns g c =
    all_items c.args.p.now c.args.readings.now c.args.items.now c.loop-ranked.ranked-index c.args.s.now c.loop-ranked.s (let past = c.loop-ranked-test.false in omega (arith, past)) c.loop-ranked.invariant
