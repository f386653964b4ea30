use Rattle.graph_tests.proofs.distance_rows.few_nodes_tell_of_near_ones.Given as goal

abbrev pub ghosts-three_are_near : goal.ghosts-three_are_near
ghosts-three_are_near g a = record { name = a.blank.name; parts = a.blank.parts }
