use Rattle.session_tests.proofs.scripts.ended.Given as goal

abbrev pub ghosts-ended_counted : goal.ghosts-ended_counted
ghosts-ended_counted a = record { name = a.blank.name; parts = a.blank.parts }
