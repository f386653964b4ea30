use Rattle.graph_tests.proofs.kept_rows.repaired_rows_are_those_made_anew.Given as goal

abbrev pub ghosts-right_cases : goal.ghosts-right_cases
ghosts-right_cases g a = record { name = a.blank.name; parts = a.blank.parts }
