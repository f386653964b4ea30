-- How many packets of a capture are passed over, by cause.
use Rattle.std.specs.Prelude.{ℕ, ◌+◌}
use Rattle.packets.specs.declared.passed.Passed.{Passed}

-- none at all
abbrev pub none_passed : Passed
none_passed = record { simple = 0; obsolete = 0; other = 0 }

-- how many they are in all
abbrev pub passed_count : Passed → ℕ
passed_count p = p.simple + p.obsolete + p.other

-- these and those
abbrev pub passed_with : Passed → Passed → Passed
passed_with p more = record { simple = p.simple + more.simple; obsolete = p.obsolete + more.obsolete; other = p.other + more.other }
