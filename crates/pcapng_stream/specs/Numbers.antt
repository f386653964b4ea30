-- Numbers in either order of their bytes.
use Rattle.std.specs.Prelude.{ℕ, ◌+◌, ◌*◌, ◌/◌, List, drop}
use Rattle.byteorder.specs.Endian.{big_number, little_number}
use Rattle.pcapng_stream.specs.declared.order.Order.{Order}
use Rattle.pcapng_stream.specs.declared.order.Order.TheVariants.{Big, Little}

-- the number in the first bytes
abbrev pub number_in : Order → ℕ → List ℕ → ℕ
number_in Big n bytes = big_number n bytes
number_in Little n bytes = little_number n bytes

-- the number in the two bytes from a place on
abbrev pub half_at : Order → ℕ → List ℕ → ℕ
half_at order place bytes = number_in order 2 (drop place bytes)

-- the number in the four bytes from a place on
abbrev pub word_at : Order → ℕ → List ℕ → ℕ
word_at order place bytes = number_in order 4 (drop place bytes)

-- the number in the eight bytes from a place on
abbrev pub double_at : Order → ℕ → List ℕ → ℕ
double_at order place bytes = number_in order 8 (drop place bytes)

-- so many bytes with those that fill them up to a multiple of four
abbrev pub padded : ℕ → ℕ
padded n = (n + 3) / 4 * 4
