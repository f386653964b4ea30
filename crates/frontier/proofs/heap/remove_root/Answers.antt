use Rattle.std.proofs.Common.{◌<◌, length, subst, rules}
use Rattle.frontier.specs.Heap.{waiting_keys, heap_node, HasHole}
use Rattle.frontier.proofs.Ends.{last_waits, shrunk}
use Rattle.frontier.proofs.heap.remove_root.Goals as goal

pub sift_down-requires-clause-waits : goal.sift_down-requires-clause-waits
sift_down-requires-clause-waits c =
    let seen = waiting_keys c.args.keys.now c.args.places.now in
    let some : 0 < length c.pop.new.self.items = search rules in
    last_waits seen c.pop.new.self.items c.args.places.now c.in-Some.last (heap_node c.args.heap.now.items 0)
    (subst (λ x. HasHole seen x c.args.places.now 0 (heap_node c.args.heap.now.items 0)) c.in-Some.ensures.items c.requires.hole) c.requires.gone some

pub sift_down-requires-clause-hole : goal.sift_down-requires-clause-hole
sift_down-requires-clause-hole c =
    let seen = waiting_keys c.args.keys.now c.args.places.now in
    let some : 0 < length c.pop.new.self.items = search rules in
    rw c.deref_mut.ensures.value
    (shrunk seen c.pop.new.self.items c.args.places.now c.in-Some.last (heap_node c.args.heap.now.items 0)
    (subst (λ x. HasHole seen x c.args.places.now 0 (heap_node c.args.heap.now.items 0)) c.in-Some.ensures.items c.requires.hole) c.requires.gone some)
