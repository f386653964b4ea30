use Rattle.graph_tests.proofs.graphs.lists_hold_the_arcs_in_force.Given as goal

abbrev pub ghosts-lists_are_kept : goal.ghosts-lists_are_kept
ghosts-lists_are_kept g a = record { name = a.blank.name; parts = a.blank.parts }
