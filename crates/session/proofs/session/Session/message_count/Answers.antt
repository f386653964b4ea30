use Rattle.std.proofs.Common.{◌≡◌, ◌∙◌, List, ap, length, sym, true}
use Rattle.traces.specs.Seen.{Seen}
use Rattle.traces.specs.Traces.{events_of}
use Rattle.traces.specs.Messages.{messages_of}
use Rattle.traces.specs.Held.{seen_in}
use Rattle.session.specs.Stands.{Held, seen_held}
use Rattle.session.proofs.Holding.{seen_accepted}
use Rattle.session.proofs.Standby.{ready_of}
use Rattle.session.proofs.ToldMessages.{told_all}
use Rattle.session.proofs.session.Session.message_count.Goals as goal

pub returns : goal.returns
returns c =
    let inside = c.self.inside in
    let seen = seen_in inside.accepted.items in
    let ready : inside.ready ≡ true = ready_of c.args.self.now inside.ready inside.answers (ap (λ (h : Held). h.answers) c.self.view_is) c.requires in
    let are = c.self.invariant.2 ready in
    let same : seen_held c.args.self.now.under ≡ seen = ap (λ (h : Held). seen_held h.under) (sym c.self.view_is) ∙ seen_accepted inside.accepted.items in
    c.told_messages.ensures ∙ told_all seen inside.answers.graph.roster inside.answers.graph.solver are.lawful are.graph ∙ ap (λ (s : List (List Seen)). length (messages_of (events_of s))) (sym same)
