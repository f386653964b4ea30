-- Numbers in a header, in network byte order: their highest byte comes first.
use Rattle.std.specs.Prelude.{ℕ, ◌/◌, List, drop, slice_index}
use Rattle.byteorder.specs.Endian.{big_number}

-- the byte at a place, counted from 0
abbrev pub byte_at : ℕ → List ℕ → ℕ
byte_at place bytes = slice_index bytes place

-- the number in the two bytes from a place on
abbrev pub half_at : ℕ → List ℕ → ℕ
half_at place bytes = big_number 2 (drop place bytes)

-- the number in the four bytes from a place on
abbrev pub word_at : ℕ → List ℕ → ℕ
word_at place bytes = big_number 4 (drop place bytes)

-- the number in the sixteen bytes from a place on
abbrev pub address_at : ℕ → List ℕ → ℕ
address_at place bytes = big_number 16 (drop place bytes)

-- the version of a packet, in the upper half of its first byte
abbrev pub version : List ℕ → ℕ
version packet = byte_at 0 packet / 16
