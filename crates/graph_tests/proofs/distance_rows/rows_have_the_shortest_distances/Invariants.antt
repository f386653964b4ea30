use Rattle.graph_tests.proofs.distance_rows.rows_have_the_shortest_distances.Given as goal

abbrev pub ghosts-three_have_rows : goal.ghosts-three_have_rows
ghosts-three_have_rows g a = record { name = a.blank.name; parts = a.blank.parts }
