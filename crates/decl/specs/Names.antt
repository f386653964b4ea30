-- Names of hosts, clocks and labels.
use Rattle.std.specs.Prelude.{ℕ, Bool, ◌&&◌, nat_lt, nat_le, List, length}
use Rattle.std.specs.List.{list_all}
use Rattle.problem_model.specs.Name.{is_clock_byte}

-- the text is a clock name
abbrev pub is_clock_name : List ℕ → Bool
is_clock_name text = nat_lt 0 (length text) && nat_le (length text) 32 && list_all is_clock_byte text
