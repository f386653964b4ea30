use Rattle.report_tests.proofs.answers.pair_so.Given as goal

abbrev pub ghosts-pair_is : goal.ghosts-pair_is
ghosts-pair_is a = record { name = a.blank.name; parts = a.blank.parts }
