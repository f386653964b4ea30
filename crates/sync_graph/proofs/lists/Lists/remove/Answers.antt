use Rattle.std.proofs.Common.{◌+◌, ◌-◌, ℕ, List, ap, drop, take}
use Rattle.sync_graph.proofs.LaidOut.{taken_out}
use Rattle.sync_graph.proofs.lists.Lists.remove.Goals as goal

pub returns : goal.returns
returns c =
    let s = c.index-span.result.now in
    taken_out c.self.inside.spans.items c.self.inside.table.items c.args.self.now c.args.node s c.self.invariant c.self.view_is c.requires.node c.index-span.ensures
    (take (s.start + s.len - s.start) (drop s.start c.deref.result.now)) c.place_of.result c.index.result.now c.args.entry
    (ap (λ (v : List ℕ). take (s.start + s.len - s.start) (drop s.start v)) c.deref.ensures.value) c.place_of.ensures.within c.place_of.ensures.place c.index.ensures
