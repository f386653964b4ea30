use Rattle.std.proofs.Common.{◌≡◌, length, max, subst, rules, arith}
use Rattle.repair.specs.Slots.{KeptRows, with_room, with_found}
use Rattle.repair.specs.contracts.kept.Kept.{the_view}
use Rattle.repair.proofs.Rooms.{room_stays, room_grows}
use Rattle.repair.proofs.kept.Kept.reserve.Goals as goal

pub returns-then-nodes-self-clause-ok : goal.returns-then-nodes-self-clause-ok
returns-then-nodes-self-clause-ok c =
    let kept : KeptRows = the_view c.self.inside in
    subst (λ (k : KeptRows). k ≡ with_room k (max k.room c.args.nodes)) c.self.view_is (room_stays kept c.args.nodes c.self.invariant.1 c.if-nodes-self.true)

pub returns-clause-ok : goal.returns-clause-ok
returns-clause-ok c =
    let kept : KeptRows = the_view c.self.inside in
    let len : c.self.inside.found.len ≡ length c.self.inside.found.items = search rules in
    subst (λ (k : KeptRows). with_found (with_room kept c.args.nodes) c.resize.new.self.items ≡ with_room k (max k.room c.args.nodes)) c.self.view_is
    (room_grows kept c.args.nodes c.self.inside.found.len c.resize.new.self.items c.self.invariant.1 len (omega (arith, c.if-nodes-self.false)) c.in_ok-resize.ensures.items)
