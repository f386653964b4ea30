use Rattle.problem.specs.Listing.{all_readings}
use Rattle.widen.specs.NamedWords.{stated_named}
use Rattle.widen.proofs.Looking.{states_what, states_none}
use Rattle.widen.proofs.Reading.{stated_in, not_named}
use Rattle.widen.proofs.read.read_stated.Goals as goal

pub returns-in-Some : goal.returns-in-Some
returns-in-Some c = λ extra body text second is states.
    let p = c.args.p.now in
    let r = all_readings p.events in
    c.read_of.ensures text
    (stated_in p r text second.0 body c.args.lines.now second.1 second.2 (stated_named c.args.stated.named) c.requires c.in-Some.what (states_what p c.args.stated.named c.in-Some.what c.in-Some.ensures.some) c.args.stated.extra extra is states)

pub returns-in-None : goal.returns-in-None
returns-in-None c = λ extra body text second is states.
    let p = c.args.p.now in
    let r = all_readings p.events in
    not_named p r text second.0 body c.args.lines.now second.1 second.2 (stated_named c.args.stated.named) extra c.requires (states_none p c.args.stated.named c.in-None.ensures.none) is
