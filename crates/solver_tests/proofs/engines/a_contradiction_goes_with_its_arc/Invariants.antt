use Rattle.solver_tests.proofs.engines.a_contradiction_goes_with_its_arc.Given as goal

abbrev pub ghosts-contradiction_goes : goal.ghosts-contradiction_goes
ghosts-contradiction_goes g a = record { name = a.blank.name; parts = a.blank.parts }
