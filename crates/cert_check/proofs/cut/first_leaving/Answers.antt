use Rattle.std.specs.List.{flat_map}
use Rattle.problem_model.specs.ShortList.{follow_bounds, message_bounds}
use Rattle.cert_check.proofs.Cutting.{leaving_on, leaving_first}
use Rattle.cert_check.proofs.cut.first_leaving.Goals as goal

pub returns-in-None : goal.returns-in-None
returns-in-None c = λ readings are.
    let p = c.args.p.now in
    leaving_on p c.args.inside.now (follow_bounds p.follows readings 0 p.clocks) (flat_map message_bounds p.messages) c.first_delay_leaving.result
    (rw c.in-None.is at (c.first_follow_leaving.ensures readings are)) c.first_delay_leaving.ensures

pub returns-in_default : goal.returns-in_default
returns-in_default c = λ readings are.
    let p = c.args.p.now in
    leaving_first p c.args.inside.now (follow_bounds p.follows readings 0 p.clocks) (flat_map message_bounds p.messages) c.first_follow_leaving.result c.in_default.not-None
    (c.first_follow_leaving.ensures readings are)
