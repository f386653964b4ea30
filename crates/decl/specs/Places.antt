-- The places of hosts and of clocks.
use Rattle.std.specs.Prelude.{ℕ, List, Option}
use Rattle.std.specs.List.{position_from}
use Rattle.std.specs.Str.{bytes_eq}
use Rattle.problem_model.specs.declared.items.Clock.{Clock}

-- the place of the host of this name, from 0 on
abbrev pub host_place : List (List ℕ) → List ℕ → Option ℕ
host_place hosts name = position_from (λ host. bytes_eq host name) 0 hosts

-- the place of the clock of this name, from 0 on
abbrev pub clock_place : List Clock → List ℕ → Option ℕ
clock_place clocks name = position_from (λ c. bytes_eq c.name name) 0 clocks
