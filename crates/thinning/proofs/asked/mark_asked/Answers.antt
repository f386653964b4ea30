use Rattle.std.proofs.Common.{◌≡◌, length, All, subst, arith}
use Rattle.std.proofs.lemmas.List.Elements.{All-weaker}
use Rattle.thinning.specs.Edges.{AreEdgesWithin, HasEdgesMarked}
use Rattle.thinning.specs.Thinned.{IsMarked}
use Rattle.thinning.proofs.Edging.{edges_within, asked_by}
use Rattle.thinning.proofs.asked.mark_asked.Goals as goal

pub mark_edges-requires-clause-inside : goal.mark_edges-requires-clause-inside
mark_edges-requires-clause-inside c =
    let p = c.args.p.now in
    let n : length p.events ≡ length c.mark_places.new.marks = omega (arith, c.mark_places.auto.marks, c.requires.each) in
    subst (AreEdgesWithin c.args.edges.now) n (edges_within p.events (length p.events) c.args.edges.now c.requires.edges)

pub returns : goal.returns
returns c =
    let p = c.args.p.now in
    let n : length c.mark_edges.new.marks ≡ length p.events = omega (arith, c.mark_edges.auto.marks, c.mark_places.auto.marks, c.requires.each) in
    let asked : All (IsMarked c.mark_edges.new.marks) c.args.asked.now = All-weaker (IsMarked c.mark_places.new.marks) (IsMarked c.mark_edges.new.marks) c.mark_edges.ensures.kept c.args.asked.now c.mark_places.ensures in
    let follows : All (HasEdgesMarked c.mark_edges.new.marks c.args.edges.now) p.follows = subst (All (HasEdgesMarked c.mark_edges.new.marks c.args.edges.now)) c.follows.ensures.value c.mark_edges.ensures.edges in
    asked_by p c.args.asked.now c.args.edges.now c.mark_edges.new.marks c.follows.ensures.lawful n c.requires.clocks c.requires.edges asked follows
