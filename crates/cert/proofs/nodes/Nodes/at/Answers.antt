use Rattle.std.proofs.Common.{◌≡◌, ◌+◌, ◌-◌, [], length, arith}
use Rattle.cert.proofs.Places.{event_found, reading_found, end_found}
use Rattle.cert.proofs.nodes.Nodes.at.Goals as goal

pub returns-then-k-self-clause-stands : goal.returns-then-k-self-clause-stands
returns-then-k-self-clause-stands c = rw (← c.self.view_is) (event_found (record { problem = record { clocks = c.self.inside.clocks.now; follows = []; events = c.self.inside.events.now; messages = [] }; readings = c.self.inside.readings.now }) _ _ c.if-k-self.true)

pub returns-then-k-self-2-clause-stands : goal.returns-then-k-self-2-clause-stands
returns-then-k-self-2-clause-stands c =
    let m = c.args.k - length c.self.inside.events.now in
    let place : c.args.k ≡ length c.self.inside.events.now + m = omega (arith, c.if-k-self.false) in
    rw (← c.self.view_is) (reading_found (record { problem = record { clocks = c.self.inside.clocks.now; follows = []; events = c.self.inside.events.now; messages = [] }; readings = c.self.inside.readings.now }) c.args.k m _ _ _ c.self.invariant place c.if-k-self-2.true)

pub returns-clause-stands : goal.returns-clause-stands
returns-clause-stands c =
    let m = c.args.k - length c.self.inside.events.now in
    let place : c.args.k ≡ length c.self.inside.events.now + m = omega (arith, c.if-k-self.false) in
    rw (← c.self.view_is) (end_found (record { problem = record { clocks = c.self.inside.clocks.now; follows = []; events = c.self.inside.events.now; messages = [] }; readings = c.self.inside.readings.now }) c.args.k m place c.if-k-self-2.false)
