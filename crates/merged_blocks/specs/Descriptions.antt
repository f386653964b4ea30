-- The interface of each tap: its name, and what is said of its label.
use Rattle.std.specs.Prelude.{ℕ, List, [], ◌∷◌, slice_index_or, slice_get, Option, Some, None, option_map, codes}
use Rattle.atto.specs.Decimal.{decimal_of}
use Rattle.line_format.specs.Words.{words}
use Rattle.problem_model.specs.declared.items.Clock.{Clock}
use Rattle.decl.specs.declared.items.Label.{Label}
use Rattle.decl.specs.Declaration.{Declaration, bounds_with}
use Rattle.pcapng_blocks.specs.Bytes.{SaidInterface}
use Rattle.merged_blocks.specs.declared.taps.Tap.{Tap}

-- a host and a clock of it: by how many parts per billion its rate may be off, short and long, and by how many ns its stamps,
-- early and late
abbrev pub clock_words : List ℕ → Clock → List ℕ
clock_words host c = words (host ∷ codes "clock" ∷ c.name ∷ codes "short" ∷ decimal_of c.rate.short ∷ codes "ppb" ∷ codes "long" ∷ decimal_of c.rate.long
    ∷ codes "ppb" ∷ codes "early" ∷ decimal_of c.early ∷ codes "ns" ∷ codes "late" ∷ decimal_of c.late ∷ codes "ns" ∷ [])

-- a clock with the bounds of the stamps of a label's trace
abbrev pub clock_as : Label → Clock → Clock
clock_as l c = record { name = c.name; rate = c.rate; early = (bounds_with l c).early; late = (bounds_with l c).late }

-- this, of the clock of a label, if there is one
abbrev pub description_by : List ℕ → Option Clock → List ℕ
description_by host None = []
description_by host (Some c) = clock_words host c

-- the interface of a label for a link type
abbrev pub interface_by : Declaration → ℕ → Option Label → SaidInterface
interface_by d link None = record { link = link; name = []; description = [] }
interface_by d link (Some l) = record { link = link; name = l.name; description = description_by (slice_index_or d.hosts l.host []) (option_map (clock_as l) (slice_get d.clocks l.clock)) }

-- the interface of a tap: its link type, the name of its label, and what is said of that label's host and clock
abbrev pub tap_interface : Declaration → Tap → SaidInterface
tap_interface d tap = interface_by d tap.link (slice_get d.labels tap.place)
