-- The pieces in which blocks are written.
use Rattle.std.proofs.Common.{◌≡◌, ◌≤◌, ◌+◌, ◌-◌, ◌/◌, ◌%◌, ◌^◌, ℕ, false, nat_eq, List, [], ◌∷◌, ◌++◌, length, take, replicate, refl, sym, ap, ◌∙◌, arith, append_assoc, length-append}
use Rattle.std.proofs.lemmas.List.{take-replicate}
use Rattle.pcapng_stream.specs.Numbers.{padded}
use Rattle.pcapng_blocks.specs.Bytes.{SaidInterface, SaidPacket, comment_options, end_of_options, filled, filler, four_bytes, interface_bytes, interface_options, interface_says, option_bytes, packet_bytes, packet_says, section_header, section_says, two_bytes}
use Rattle.pcapng_blocks.proofs.Whole.{header_count, interface_count, packet_length}

-- ---- fillers and comments
pub filler_is : (n m : ℕ) → m ≡ padded n - n → m ≤ 3 → take m (0 ∷ 0 ∷ 0 ∷ []) ≡ filler n
filler_is n m is few = take-replicate m 3 0 few ∙ ap (λ (k : ℕ). replicate k 0) is

pub comment_some : (comment : List ℕ) → nat_eq (length comment) 0 ≡ false → comment_options comment ≡ option_bytes 1 comment ++ end_of_options
comment_some [] none = absurd (cc (none))
comment_some (c ∷ more) none = refl

pub comment_of : (comment : List ℕ) → nat_eq (length comment) 0 ≡ false → length (comment_options comment) ≡ length (option_bytes 1 comment) + 4
comment_of comment none =
    let four : length end_of_options ≡ 4 = refl in
    omega (arith, ap (λ (l : List ℕ). length l) (comment_some comment none), length-append (option_bytes 1 comment) end_of_options, four)

-- ---- section headers
abbrev pub section_front : ℕ → List ℕ
section_front n = four_bytes 0x0a0d0d0a ++ four_bytes n ++ four_bytes 0x1a2b3c4d ++ two_bytes 1 ++ two_bytes 0 ++ replicate 8 255

pub section_as : (comment : List ℕ) (n : ℕ) → n ≡ 12 + length (section_says comment) → section_front n ++ comment_options comment ++ four_bytes n ≡ section_header comment
section_as comment n is = ap (λ (m : ℕ). section_front m ++ comment_options comment ++ four_bytes m) is

pub section_length : (comment : List ℕ) (options size : ℕ) → options ≡ length (comment_options comment) → size ≡ 24 + options + 4 → size ≡ 12 + length (section_says comment)
section_length comment options size is sum = omega (arith, header_count comment, is, sum)

-- ---- interfaces
abbrev pub interface_front : ℕ → ℕ → List ℕ
interface_front link n = four_bytes 1 ++ four_bytes n ++ two_bytes link ++ two_bytes 0 ++ four_bytes 0

abbrev pub resolution_and_end : List ℕ
resolution_and_end = 9 ∷ 0 ∷ 1 ∷ 0 ∷ 9 ∷ 0 ∷ 0 ∷ 0 ∷ 0 ∷ 0 ∷ 0 ∷ 0 ∷ []

-- the last options are one piece
last_options : (name description : List ℕ) → name ++ description ++ option_bytes 9 (9 ∷ []) ++ end_of_options ≡ name ++ description ++ resolution_and_end
last_options name description = append_assoc (name ++ description) (option_bytes 9 (9 ∷ [])) end_of_options

front_joined : (link n : ℕ) (name description rest : List ℕ) → interface_front link n ++ name ++ description ++ rest ≡ interface_front link n ++ (name ++ description ++ rest)
front_joined link n name description rest =
    ap (λ (l : List ℕ). l ++ rest) (append_assoc (interface_front link n) name description) ∙ append_assoc (interface_front link n) (name ++ description) rest

pub interface_as : (i : SaidInterface) (n : ℕ) → n ≡ 12 + length (interface_says i)
    → interface_front i.link n ++ option_bytes 2 i.name ++ option_bytes 3 i.description ++ resolution_and_end ++ four_bytes n ≡ interface_bytes i
interface_as i n is =
    ap (λ (l : List ℕ). l ++ four_bytes n) (front_joined i.link n (option_bytes 2 i.name) (option_bytes 3 i.description) resolution_and_end
    ∙ ap (λ (l : List ℕ). interface_front i.link n ++ l) (sym (last_options (option_bytes 2 i.name) (option_bytes 3 i.description))))
    ∙ ap (λ (m : ℕ). interface_front i.link m ++ interface_options i ++ four_bytes m) is

pub interface_length : (i : SaidInterface) (name description size : ℕ) → name ≡ length (option_bytes 2 i.name) → description ≡ length (option_bytes 3 i.description) → size ≡ 16 + (name + description) + 12 + 4 → size ≡ 12 + length (interface_says i)
interface_length i name description size is is' sum =
    let twelve : length resolution_and_end ≡ 12 = refl in
    omega (
      arith,
      interface_count i,
      is,
      is',
      sum,
      twelve,
      ap (λ (l : List ℕ). length l) (last_options (option_bytes 2 i.name) (option_bytes 3 i.description)),
      length-append (option_bytes 2 i.name ++ option_bytes 3 i.description) resolution_and_end,
      length-append (option_bytes 2 i.name) (option_bytes 3 i.description),
    )

-- ---- packets
abbrev pub packet_front : SaidPacket → ℕ → List ℕ
packet_front p n = four_bytes 6 ++ four_bytes n ++ four_bytes p.interface ++ four_bytes (p.stamp / 2 ^ 32) ++ four_bytes (p.stamp % 2 ^ 32) ++ four_bytes (length p.bytes) ++ four_bytes p.original

pub packet_as : (p : SaidPacket) (n : ℕ) → n ≡ 12 + length (packet_says p) → packet_front p n ++ filled p.bytes ++ comment_options p.comment ++ four_bytes n ≡ packet_bytes p
packet_as p n is = ap (λ (m : ℕ). packet_front p m ++ filled p.bytes ++ comment_options p.comment ++ four_bytes m) is

pub packet_sum : (p : SaidPacket) (filling options size : ℕ) → filling ≡ length (filled p.bytes) → options ≡ length (comment_options p.comment) → size ≡ 28 + filling + options + 4 → size ≡ 12 + length (packet_says p)
packet_sum p filling options size is is' sum = omega (arith, packet_length p, is, is', sum)
