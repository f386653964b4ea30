use Rattle.replies.specs.Sessions.{start}
use Rattle.trial_session.proofs.Concluding.{concluded}
use Rattle.trial_session.proofs.outcome.conclude.Goals as goal

pub returns : goal.returns
returns g c = λ n d declares stands is has.
    let script = c.in_ok-replies_to.ensures.answers d (start d) stands in
    let asked = c.in_ok-replies.ensures.answers d script.state script.stands in
    concluded c.commands_are_one.ensures n d _ _ c.args.script.now _ _ _ c.args.files.now c.replies_to.new.files c.replies_to-2.new.files _ declares is has script c.event_count-events.ensures c.message_count-messages.ensures asked
