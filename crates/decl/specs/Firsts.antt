-- What is found in a list of addresses or of links: what stands there first.
use Rattle.std.specs.Prelude.{ℕ, ◌==◌, ◌&&◌, if◌then◌else◌, List, [], ◌∷◌, Option, Some, None}
use Rattle.decl.specs.declared.items.Address.{Address}
use Rattle.decl.specs.declared.items.Link.{Link}

-- the host of the first of these addresses with this value
abbrev pub host_among : List Address → ℕ → Option ℕ
host_among [] address = None
host_among (a ∷ more) address = if a.address == address then Some a.host else host_among more address

-- the least and the greatest delay of the first of these links with these ends, or 0 and none
abbrev pub bounds_among : List Link → ℕ → ℕ → ℕ × Option ℕ
bounds_among [] from to = (0, None)
bounds_among (l ∷ more) from to = if l.from == from && l.to == to then (l.least, l.most) else bounds_among more from to
