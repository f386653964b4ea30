use Rattle.graph_tests.proofs.insertions.values_fall_once_an_arc_is_withdrawn.Given as goal

abbrev pub ghosts-is_taken : goal.ghosts-is_taken
ghosts-is_taken g a = record { name = a.blank.name; parts = a.blank.parts }
