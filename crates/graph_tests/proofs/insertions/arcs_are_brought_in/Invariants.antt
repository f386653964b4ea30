use Rattle.graph_tests.proofs.insertions.arcs_are_brought_in.Given as goal

abbrev pub ghosts-is_taken : goal.ghosts-is_taken
ghosts-is_taken g a = record { name = a.blank.name; parts = a.blank.parts }
