use Rattle.std.proofs.Common.{◌≡◌, ◌≤◌, ◌-◌, ◌∙◌, List, length, drop, ap, rules, arith}
use Rattle.std.proofs.lemmas.List.{take_rest}
use Rattle.traces.specs.Seen.{seen_events}
use Rattle.traces.specs.declared.event.Event.{Event}
use Rattle.session_answers.proofs.Entering.{last_seen}
use Rattle.session_answers.proofs.answers.newest.Goals as goal

pub returns-clause-events : goal.returns-clause-events
returns-clause-events c = λ old events are many.
    let all = c.args.under.now.events.items in
    let n = c.len.result - c.args.more in
    let len : c.len.result ≡ length all = search rules in
    let enough : c.args.more ≤ length all = c.requires in
    ap seen_events (take_rest c.deref.result.now n) ∙ ap (λ (l : List Event). seen_events (drop n l)) c.deref.ensures.value ∙ last_seen all old events n c.args.more are many (omega (arith, len, enough))
