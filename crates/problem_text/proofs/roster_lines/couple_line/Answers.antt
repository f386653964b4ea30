use Rattle.std.proofs.Common.{ℕ, ap, ◌∙◌}
use Rattle.decl.specs.Declaration.{Declaration, declaration_of, link_bounds}
use Rattle.traces.specs.Traces.{host_of}
use Rattle.roster.specs.Roster.{id_of}
use Rattle.problem_text.proofs.LineTexts.{couple_text}
use Rattle.problem_text.proofs.roster_lines.couple_line.Goals as goal

pub returns : goal.returns
returns c =
    let r = c.args.roster.now in
    let own = declaration_of c.decl-decl.result.now in
    let e = c.event.result in
    let f = c.event-2.result in
    let bounds = c.link_of-least.ensures
    ∙ ap (λ (n : ℕ). link_bounds own n c.host_of-to.result) c.host_of-from.ensures
    ∙ ap (λ (n : ℕ). link_bounds own (host_of own (id_of e)) n) c.host_of-to.ensures
    ∙ ap (λ (d : Declaration). link_bounds d (host_of d (id_of e)) (host_of d (id_of f))) c.decl-decl.ensures.same in
    c.message_line.ensures ∙ couple_text r c.decl-decl.ensures.lawful c.args.send c.args.receive e f c.event_name-send.result c.event_name-receive.result c.link_of-least.result c.event.ensures c.event-2.ensures c.event_name-send.ensures c.event_name-receive.ensures bounds
