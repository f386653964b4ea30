use Rattle.report_tests.proofs.answers.time_so.Given as goal

abbrev pub ghosts-time_is : goal.ghosts-time_is
ghosts-time_is a = record { name = a.blank.name; parts = a.blank.parts }
