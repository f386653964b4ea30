-- The packets of the code.
use Rattle.std.specs.Prelude.{List, map, ℤ, ◌-ℤ◌}
use Rattle.packets.specs.Packets.{seen_packet}
use Rattle.mergecap.specs.declared.start.Start.{Start}
use Rattle.mergecap.specs.declared.stored.Stored.{Stored}
use Rattle.mergecap.specs.MergedCapture.{Timed}

-- a packet, and what it is merged by
abbrev pub timed : Stored → Timed
timed s = record { key = record { value = s.value; place = s.place; n = s.n }; packet = seen_packet s.packet }

-- all of them
abbrev pub all_timed : List Stored → List Timed
all_timed kept = map timed kept

-- how much more than times dates are, in units of 1e-9 ns
abbrev pub shift_of : Start → ℤ
shift_of start = start.date -ℤ start.time
