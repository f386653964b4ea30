use Rattle.std.proofs.Common.{◌≡◌, ◌==◌, ℕ, List, Option, Some, length, sym, ap, subst, ◌∙◌}
use Rattle.std.specs.Prelude.{find}
use Rattle.std.specs.Option.{option_copied}
use Rattle.sync_graph.specs.Graph.{table_of}
use Rattle.repair.specs.declared.slot.Slot.{Slot}
use Rattle.repair.specs.Slots.{KeptRows, slots_in, slot_of, HasRows, IsRowsOf}
use Rattle.repair.specs.Pairs.{IsPairIn}
use Rattle.repair.proofs.Found.{found, of_events}
use Rattle.repair.proofs.Looking.{pair_told}
use Rattle.repair.proofs.kept.Kept.look.Goals as goal

pub look_in-requires-clause-rows : goal.look_in-requires-clause-rows
look_in-requires-clause-rows c =
    let is : find (λ (s : Slot). s.node == c.args.p) c.args.self.now.slots ≡ Some c.in-Some.slot.now =
    ap (λ (k : KeptRows). slot_of k c.args.p) (sym c.self.view_is) ∙ ap (λ (xs : List (Option Slot)). find (λ s. s.node == c.args.p) (slots_in xs)) (sym c.deref.ensures.0)
    ∙ sym c.find_slot.ensures ∙ ap option_copied c.in-Some.is in
    (found (HasRows c.args.pool.now) c.args.p c.args.self.now.slots c.in-Some.slot.now is (of_events (HasRows c.args.pool.now) c.args.self.now.source c.args.self.now.slots c.requires.own.taken)).0

pub returns-in-Some : goal.returns-in-Some
returns-in-Some c =
    let is : find (λ (s : Slot). s.node == c.args.p) c.args.self.now.slots ≡ Some c.in-Some.slot.now =
    ap (λ (k : KeptRows). slot_of k c.args.p) (sym c.self.view_is) ∙ ap (λ (xs : List (Option Slot)). find (λ s. s.node == c.args.p) (slots_in xs)) (sym c.deref.ensures.0)
    ∙ sym c.find_slot.ensures ∙ ap option_copied c.in-Some.is in (
      c.in-Some.slot.now,
      is,
      λ g xs graph executes rows.
          let own = found (IsRowsOf (length g.nodes) (table_of g) c.args.pool.now) c.args.p c.args.self.now.slots c.in-Some.slot.now is
          (of_events (IsRowsOf (length g.nodes) (table_of g) c.args.pool.now) c.args.self.now.source c.args.self.now.slots rows) in
          subst (λ (n : ℕ). IsPairIn g n c.args.q c.look_in.result) own.1
          (subst (IsPairIn g c.in-Some.slot.now.node c.args.q) (sym c.look_in.ensures) (pair_told g graph xs executes c.args.pool.now c.in-Some.slot.now own.0 c.args.q)),
    )
