use Rattle.graph_tests.proofs.kept_rows.an_arc_changes_two_cells_of_a_kept_row.Given as goal

abbrev pub ghosts-two_clocks_grow : goal.ghosts-two_clocks_grow
ghosts-two_clocks_grow g a = record { name = a.blank.name; parts = a.blank.parts }
