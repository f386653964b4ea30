use Rattle.solver_tests.proofs.event_orders.have_ranks.Given as goal

abbrev pub ghosts-are_ranked : goal.ghosts-are_ranked
ghosts-are_ranked a = record { name = a.blank.name; parts = a.blank.parts }
