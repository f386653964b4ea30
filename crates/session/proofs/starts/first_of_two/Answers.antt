use Rattle.std.proofs.Common.{inl, refl}
use Rattle.session.proofs.FirstEvents.{not_behind}
use Rattle.session.proofs.starts.first_of_two.Goals as goal

pub returns-in_default : goal.returns-in_default
returns-in_default c =
    inl (
      refl,
      not_behind c.args.names.now c.decl.ensures.lawful c.args.solver.now c.args.first c.args.second c.key_of.result c.key_of-2.result c.cmp.result c.key_of.ensures c.key_of-2.ensures c.cmp.ensures c.in_default.not-Less
          c.requires.first c.requires.second,
    )
