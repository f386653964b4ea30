use Rattle.std.proofs.Common.{◌≡◌}
use Rattle.toml.specs.View.{members_view}
use Rattle.decl.specs.Keys.{has_other_shape}
use Rattle.decl.proofs.keys.has_other_shape.Given as goal

abbrev pub invariant-loop-key : goal.invariant-loop-key
invariant-loop-key l = has_other_shape l.form (members_view l.table.entries) ≡ has_other_shape l.form (members_view l.key-iterator)
