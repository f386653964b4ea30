-- How many packets of a capture were dropped before they came into it, by where.
use Rattle.std.specs.Prelude.{ℕ, ◌+◌, ◌-◌, ◌^◌, min}
use Rattle.packets.specs.declared.dropped.Dropped.{Dropped}

-- none at all
abbrev pub none_dropped : Dropped
none_dropped = record { interface = 0; system = 0 }

-- a count, where 2^64 - 1 stands for more as well
abbrev pub saturated : ℕ → ℕ
saturated n = min n (2 ^ 64 - 1)

-- these and those
abbrev pub dropped_with : Dropped → Dropped → Dropped
dropped_with d more = record { interface = saturated (d.interface + more.interface); system = saturated (d.system + more.system) }
