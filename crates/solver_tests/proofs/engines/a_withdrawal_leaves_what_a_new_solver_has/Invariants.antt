use Rattle.solver_tests.proofs.engines.a_withdrawal_leaves_what_a_new_solver_has.Given as goal

abbrev pub ghosts-right_arcs : goal.ghosts-right_arcs
ghosts-right_arcs g a = record { name = a.blank.name; parts = a.blank.parts }
