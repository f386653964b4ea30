use Rattle.std.proofs.Common.{◌≡◌, ◌∙◌, map}
use Rattle.problem_model.specs.ProblemText.{clock_name}
use Rattle.problem.proofs.Naming.{name_found, clock_name_is}
use Rattle.problem_text.proofs.Follows.{has_clock}
use Rattle.problem_text.proofs.roster_lines.write_own_follow.Goals as goal

pub clock_name-earlier-requires : goal.clock_name-earlier-requires
clock_name-earlier-requires g c = has_clock c.args.roster.now c.args.follow.now.earlier c.requires.earlier

pub clock_name-later-requires : goal.clock_name-later-requires
clock_name-later-requires g c = has_clock c.args.roster.now c.args.follow.now.later c.requires.later

pub returns : goal.returns
returns g c =
    let clocks = c.args.roster.now.declaration.clocks in
    let j = c.args.follow.now.earlier in
    let k = c.args.follow.now.later in
    let earlier : c.clock_name-earlier.result ≡ clock_name clocks j = name_found (map (λ c. c.name) clocks) j _ c.clock_name-earlier.ensures ∙ clock_name_is clocks j in
    let later : c.clock_name-later.result ≡ clock_name clocks k = name_found (map (λ c. c.name) clocks) k _ c.clock_name-later.ensures ∙ clock_name_is clocks k in
    rw later at (rw earlier at c.write_follow.ensures)
