use Rattle.report_tests.proofs.answers.consistent.Given as goal

abbrev pub ghosts-consistent_is : goal.ghosts-consistent_is
ghosts-consistent_is a = record { name = a.blank.name; parts = a.blank.parts }
