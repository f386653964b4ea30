use Rattle.cert_tests.proofs.kinds.is_found.Given as goal

abbrev pub ghosts-found_counted : goal.ghosts-found_counted
ghosts-found_counted a = record { name = a.blank.name; parts = a.blank.parts }
