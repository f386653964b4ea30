-- The bytes of blocks of pcapng: every number stands with its least byte first, and all is filled up to a multiple of four.
use Rattle.std.specs.Prelude.{ℕ, ◌+◌, ◌-◌, ◌/◌, ◌%◌, ◌^◌, List, [], ◌∷◌, ◌++◌, length, replicate}
use Rattle.byteorder.specs.Endian.{little_bytes}
use Rattle.pcapng_stream.specs.Numbers.{padded}

-- ---- numbers and options
-- a number as two bytes
abbrev pub two_bytes : ℕ → List ℕ
two_bytes n = little_bytes 2 n

-- a number as four bytes
abbrev pub four_bytes : ℕ → List ℕ
four_bytes n = little_bytes 4 n

-- the zeros that fill so many bytes up to a multiple of four
abbrev pub filler : ℕ → List ℕ
filler n = replicate (padded n - n) 0

-- the bytes, filled up
abbrev pub filled : List ℕ → List ℕ
filled bytes = bytes ++ filler (length bytes)

-- an option: its code, how many bytes its value has, and the value
abbrev pub option_bytes : ℕ → List ℕ → List ℕ
option_bytes code value = two_bytes code ++ two_bytes (length value) ++ filled value

-- what stands behind options (opt_endofopt)
abbrev pub end_of_options : List ℕ
end_of_options = option_bytes 0 []

-- a comment as the one option (opt_comment); none where it has no byte
abbrev pub comment_options : List ℕ → List ℕ
comment_options [] = []
comment_options (c ∷ more) = option_bytes 1 (c ∷ more) ++ end_of_options

-- ---- blocks
-- a block: its type, its length, what it says, and its length once more
abbrev pub block_bytes : ℕ → List ℕ → List ℕ
block_bytes type says = four_bytes type ++ four_bytes (12 + length says) ++ says ++ four_bytes (12 + length says)

-- what a section header says: the magic number, version 1.0, no length, and a comment
abbrev pub section_says : List ℕ → List ℕ
section_says comment = four_bytes 0x1a2b3c4d ++ two_bytes 1 ++ two_bytes 0 ++ replicate 8 255 ++ comment_options comment

-- a section header
abbrev pub section_header : List ℕ → List ℕ
section_header comment = block_bytes 0x0a0d0d0a (section_says comment)

-- an interface: its link type, its name, and what there is to say of it
pub record SaidInterface : Type 0 where
  pub link : ℕ
  pub name : List ℕ
  pub description : List ℕ

-- the options of an interface: name (if_name), description (if_description), and that its stamps count ns (if_tsresol 9)
abbrev pub interface_options : SaidInterface → List ℕ
interface_options i = option_bytes 2 i.name ++ option_bytes 3 i.description ++ option_bytes 9 (9 ∷ []) ++ end_of_options

-- what the description of an interface says: its link type, no limit on how much of a packet is captured (snaplen 0), and options
abbrev pub interface_says : SaidInterface → List ℕ
interface_says i = two_bytes i.link ++ two_bytes 0 ++ four_bytes 0 ++ interface_options i

-- the description of an interface
abbrev pub interface_bytes : SaidInterface → List ℕ
interface_bytes i = block_bytes 1 (interface_says i)

-- a packet: the number of its interface, its stamp in ns, how long it was, what of it was captured, and a comment
pub record SaidPacket : Type 0 where
  pub interface : ℕ
  pub stamp : ℕ
  pub original : ℕ
  pub bytes : List ℕ
  pub comment : List ℕ

-- what an enhanced packet says: its interface, the upper and the lower half of its stamp, how much of it was captured, how long it
-- was, its bytes, and its comment
abbrev pub packet_says : SaidPacket → List ℕ
packet_says p = four_bytes p.interface ++ four_bytes (p.stamp / 2 ^ 32) ++ four_bytes (p.stamp % 2 ^ 32) ++ four_bytes (length p.bytes)
    ++ four_bytes p.original ++ filled p.bytes ++ comment_options p.comment

-- an enhanced packet
abbrev pub packet_bytes : SaidPacket → List ℕ
packet_bytes p = block_bytes 6 (packet_says p)
