use Rattle.std.proofs.Common.{◌<◌, length, refl, sym, subst}
use Rattle.std.proofs.lemmas.Option.{slice_get_read}
use Rattle.roster.specs.Roster.{RosterLists}
use Rattle.roster.proofs.Telling.{retold_is, told_same}
use Rattle.roster.proofs.roster.Roster.set_partner.Goals as goal

pub invariant_of-self : goal.invariant_of-self
invariant_of-self c =
    let came = c.self.inside.came.items in
    let inside = subst (λ (r : RosterLists). c.args.v < length r.came) (sym c.self.view_is) c.requires in
    let there = slice_get_read came (length came) c.args.v c.index_mut.result.now refl inside c.index_mut.ensures.value in
    retold_is _ _ c.self.invariant (told_same came c.args.v c.index_mut.result.now (record c.index_mut.result.now { partner = c.args.partner }) there refl refl)
