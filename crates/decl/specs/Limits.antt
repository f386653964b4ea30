-- How much a declaration may say.
use Rattle.std.specs.Prelude.{ℕ, ◌-◌, ◌^◌}
use Rattle.problem_model.specs.Limits.{most_clocks}

-- the most bytes of a document, which is held in memory whole, beside its values
abbrev pub most_document_bytes : ℕ
most_document_bytes = 2 ^ 24

-- the most hosts, the most labels and the most links: as many as a problem has clocks, since each host has one or more
abbrev pub most_entries : ℕ
most_entries = most_clocks

-- the most bytes of a payload that belong to the key of a packet: as many as a key has room for
abbrev pub most_payload : ℕ
most_payload = 64

-- the most parts per billion by which a clock is short: real time never stands still
abbrev pub most_short : ℕ
most_short = 999999999

-- the most parts per billion by which it is long: real time is never more than twice what it shows
abbrev pub most_long : ℕ
most_long = 1000000000

-- the most subnets of a label, each of which is looked at for each address of a packet
abbrev pub most_subnets : ℕ
most_subnets = 256

-- the greatest number of an interface, which has four bytes
abbrev pub most_interface : ℕ
most_interface = 2 ^ 32 - 1

-- each number of nanoseconds is below this, as those of `Nano` are
abbrev pub nano_limit : ℕ
nano_limit = 2 ^ 62

-- each address is below this, for it has four bytes
abbrev pub address_limit : ℕ
address_limit = 2 ^ 32
