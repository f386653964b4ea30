use Rattle.std.proofs.Common.{◌<◌, rules}
use Rattle.cert_check.proofs.Named.{most_named, least_named}
use Rattle.cert_tests.proofs.parts.has_span.Goals as goal

pub returns-then-has_reading-clause-most : goal.returns-then-has_reading-clause-most
returns-then-has_reading-clause-most c = λ yes.
    let less : c.args.s < c.args.t = search rules in
    most_named c.args.p.now c.clocks.ensures.lawful.formed c.args.clock c.args.s c.args.t (c.has_reading.ensures c.if-has_reading.true) (c.has_reading-then-has_reading.ensures yes) less

pub returns-then-has_reading-clause-least : goal.returns-then-has_reading-clause-least
returns-then-has_reading-clause-least c = λ yes.
    let less : c.args.s < c.args.t = search rules in
    least_named c.args.p.now c.clocks.ensures.lawful.formed c.args.clock c.args.s c.args.t (c.has_reading.ensures c.if-has_reading.true) (c.has_reading-then-has_reading.ensures yes) less
