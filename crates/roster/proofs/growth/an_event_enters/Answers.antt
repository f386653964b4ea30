use Rattle.roster.proofs.Entry.{entered_now}
use Rattle.roster.proofs.growth.an_event_enters.Goals as goal

pub returns : goal.returns
returns c = λ p entered v e below above earlier later messages g h chains at nearest own enters grown.
    entered_now p entered v e at below above earlier later messages g chains nearest own grown h enters
