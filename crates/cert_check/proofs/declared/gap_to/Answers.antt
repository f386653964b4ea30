use Rattle.problem_model.proofs.Following.{chained_by, line_to}
use Rattle.cert_check.proofs.declared.gap_to.Goals as goal

pub returns : goal.returns
returns c = λ f leads.
    let found = c.follow_to.ensures in
    let one = line_to c.args.p.now (chained_by c.args.p.now c.follows.ensures.lawful.formed) f c.args.later leads.0 leads.1 in
    cc

pub unreachable-requires : goal.unreachable-requires
unreachable-requires c =
    let found = c.follow_to.ensures in
    let f = c.requires in
    let one = line_to c.args.p.now (chained_by c.args.p.now c.follows.ensures.lawful.formed) f.0 c.args.later f.1.0 f.1.1 in
    absurd cc
