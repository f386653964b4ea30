use Rattle.graph_tests.proofs.waiting_nodes.it_answers_as_a_table_of_keys.Given as goal

abbrev pub ghosts-table_agrees : goal.ghosts-table_agrees
ghosts-table_agrees g a = record { name = a.blank.name; parts = a.blank.parts }
