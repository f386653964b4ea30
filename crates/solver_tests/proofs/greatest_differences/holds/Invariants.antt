use Rattle.solver_tests.proofs.greatest_differences.holds.Given as goal

abbrev pub ghosts-tells : goal.ghosts-tells
ghosts-tells a = record { name = a.blank.name; parts = a.blank.parts }
