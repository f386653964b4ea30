use Rattle.ports.proofs.Writing.{writes_as}
use Rattle.problem_text.proofs.Told.{partners_came, text_is}
use Rattle.problem_text.proofs.roster_problem.write_roster.Goals as goal

pub write_text-requires : goal.write_text-requires
write_text-requires g c =
    let (seen, holds, tells) = c.requires.told in
    partners_came c.args.roster.now c.decl.ensures.lawful seen holds tells

pub returns : goal.returns
returns g c = λ seen holds tells. writes_as (text_is c.args.roster.now c.decl.ensures.lawful seen holds tells) c.write_text.ensures
