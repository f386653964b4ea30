use Rattle.graph_tests.proofs.waiting_nodes.the_least_comes_first.Given as goal

abbrev pub ghosts-the_least_come : goal.ghosts-the_least_come
ghosts-the_least_come g a = record { name = a.blank.name; parts = a.blank.parts }
