use Rattle.std.proofs.Common.{Some, length, refl, sym, ap, ◌∙◌}
use Rattle.std.proofs.lemmas.Bool.{eq-eqb}
use Rattle.std.proofs.lemmas.Option.{slice_get_read}
use Rattle.repair.proofs.Found.{take_hit}
use Rattle.repair.proofs.slot.place_of.Goals as goal

pub returns-then-slot-node-clause-place : goal.returns-then-slot-node-clause-place
returns-then-slot-node-clause-place c = (
  c.in-Some.slot,
  c.loop-before.before,
  sym c.loop-before.invariant
      ∙ take_hit c.args.node c.loop-before.before c.args.entries.now c.index-entries-before.result c.in-Some.slot c.loop-before-test.true c.index-entries-before.is c.in-Some.is (eq-eqb c.in-Some.slot.node c.args.node c.if-slot-node.true),
  refl,
  slice_get_read c.args.entries.now (length c.args.entries.now) c.loop-before.before c.index-entries-before.result refl c.loop-before-test.true c.index-entries-before.is ∙ ap Some c.in-Some.is,
)
