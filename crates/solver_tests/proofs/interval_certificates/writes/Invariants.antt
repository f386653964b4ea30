use Rattle.solver_tests.proofs.interval_certificates.writes.Given as goal

abbrev pub ghosts-certify : goal.ghosts-certify
ghosts-certify a = record { name = a.blank.name; parts = a.blank.parts }
