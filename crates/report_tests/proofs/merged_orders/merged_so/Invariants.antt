use Rattle.report_tests.proofs.merged_orders.merged_so.Given as goal

abbrev pub ghosts-merge : goal.ghosts-merge
ghosts-merge a = record { name = a.blank.name; parts = a.blank.parts }
