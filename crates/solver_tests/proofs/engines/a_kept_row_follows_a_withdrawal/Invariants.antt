use Rattle.solver_tests.proofs.engines.a_kept_row_follows_a_withdrawal.Given as goal

abbrev pub ghosts-kept_row_follows : goal.ghosts-kept_row_follows
ghosts-kept_row_follows g a = record { name = a.blank.name; parts = a.blank.parts }
