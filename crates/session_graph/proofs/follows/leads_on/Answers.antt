use Rattle.std.proofs.Common.{ap, ◌∙◌, sym}
use Rattle.decl.specs.Declaration.{Declaration, follow_from}
use Rattle.session_graph.proofs.HostClocks.{one_host, two_hosts}
use Rattle.session_graph.proofs.follows.leads_on.Goals as goal

pub returns-clause-one : goal.returns-clause-one
returns-clause-one c = λ test.
    one_host c.args.roster.now.declaration c.args.clock c.follow_from.result
    (c.follow_from.ensures ∙ ap (λ (d : Declaration). follow_from d c.args.clock) c.decl.ensures.same) (sym c.is_some.ensures ∙ test)

pub returns-clause-not : goal.returns-clause-not
returns-clause-not c = λ test.
    two_hosts c.args.roster.now.declaration c.args.clock c.follow_from.result
    (c.follow_from.ensures ∙ ap (λ (d : Declaration). follow_from d c.args.clock) c.decl.ensures.same) (sym c.is_some.ensures ∙ test)
