use Rattle.cert_tests.proofs.parts.has_reading.Given as goal

abbrev pub invariant-loop-event : goal.invariant-loop-event
invariant-loop-event l = Unit {0}
