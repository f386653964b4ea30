use Rattle.graph_tests.proofs.insertions.values_are_made_anew.Given as goal

abbrev pub ghosts-both : goal.ghosts-both
ghosts-both g a = record { name = a.blank.name; parts = a.blank.parts }
