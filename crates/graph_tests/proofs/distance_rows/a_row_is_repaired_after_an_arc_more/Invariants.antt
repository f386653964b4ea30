use Rattle.graph_tests.proofs.distance_rows.a_row_is_repaired_after_an_arc_more.Given as goal

abbrev pub ghosts-two_clocks_repaired : goal.ghosts-two_clocks_repaired
ghosts-two_clocks_repaired g a = record { name = a.blank.name; parts = a.blank.parts }
