use Rattle.cert_tests.proofs.parts.has_most.Given as goal

abbrev pub invariant-loop-message : goal.invariant-loop-message
invariant-loop-message l = Unit {0}
