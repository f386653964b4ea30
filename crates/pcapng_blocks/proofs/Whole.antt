-- What a reader finds of each block that is written.
use Rattle.std.proofs.Common.{◌≡◌, ◌<◌, ◌≤◌, ◌+◌, ◌-◌, ◌*◌, ◌/◌, ◌%◌, ◌^◌, ℕ, suc, Bool, false, ◌==◌, List, [], ◌∷◌, ◌++◌, length, take, drop, replicate, map, get_or, Option, Some, None, pos, ◌+ℤ◌, ◌*ℤ◌, refl, sym, ap, subst, ◌∙◌, arith, append_assoc, length-append}
use Rattle.std.specs.Prelude.{is_none, option_to_list, unsigned_abs}
use Rattle.std.proofs.Math.Nat.{mul-div_cancel}
use Rattle.std.proofs.lemmas.Bool.{eq-eqb, le-ltb, lt-ltb, or_from, and_right, not_from_true}
use Rattle.std.proofs.lemmas.Int.{ints}
use Rattle.std.proofs.lemmas.List.{drop_at, get_or-map, length-map, length-take-le, take_at}
use Rattle.packets.specs.Dropped.{none_dropped}
use Rattle.packets.specs.Packets.{Seen}
use Rattle.pcapng_stream.specs.declared.order.Order.{Order}
use Rattle.pcapng_stream.specs.declared.order.Order.TheVariants.{Little}
use Rattle.pcapng_stream.specs.declared.head.Head.{Head}
use Rattle.pcapng_stream.specs.declared.flaw.Flaw.TheVariants.{Malformed, TooLong}
use Rattle.pcapng_stream.specs.declared.block_kind.BlockKind.{BlockKind}
use Rattle.pcapng_stream.specs.declared.section.Interface.{Interface}
use Rattle.pcapng_stream.specs.Numbers.{padded, word_at}
use Rattle.pcapng_stream.specs.Options.{Opt, options_among, options_in}
use Rattle.pcapng_stream.specs.Blocks.{Block, Section, before, captured_length, head_by, head_of, interface_at, interface_by, interface_for, interface_number, interface_of, is_stamp, kind_at, kind_of, last_length, nanos, options_of, order_of, packets_in, section_behind, stamp_of, stamp_on, time_of}
use Rattle.pcapng_stream.specs.Flaws.{Check, first_flaw, has_wrong_size, is_wrong_size, kind_checks, lacks_order, least_length, refuse}
use Rattle.pcapng_stream.specs.Pcapng.{IsBlock}
use Rattle.pcapng_blocks.specs.Bytes.{SaidInterface, SaidPacket, block_bytes, comment_options, end_of_options, filled, filler, four_bytes, interface_bytes, interface_options, interface_says, option_bytes, packet_bytes, packet_says, section_header, section_says, two_bytes}
use Rattle.pcapng_blocks.specs.File.{IsInterface, IsPacket, IsText}
use Rattle.pcapng_blocks.specs.Reading.{IsReadable, links_of, seen_interface, seen_packet}
use Rattle.pcapng_blocks.proofs.Numbers.{comment_short, comment_whole, filled_length, no_option, one_option, option_size, padded_most, padded_whole, read_four, read_two}

-- ---- whole blocks
abbrev pub little : List ℕ → Block
little bytes = record { order = Little; bytes = bytes }

-- what is said fits a block, and is a multiple of four
pub record Fits (says : List ℕ) : Type 0 where
  pub whole : length says % 4 ≡ 0
  pub short : length says ≤ 1000000

abbrev size_of : List ℕ → ℕ
size_of says = 12 + length says

-- what stands before the last length
abbrev front_of : ℕ → List ℕ → List ℕ
front_of type says = four_bytes type ++ four_bytes (size_of says) ++ says

front_length : (type : ℕ) (says : List ℕ) → length (front_of type says) ≡ 8 + length says
front_length type says =
    let eight : length (four_bytes type ++ four_bytes (size_of says)) ≡ 8 = refl in
    omega (arith, eight, length-append (four_bytes type ++ four_bytes (size_of says)) says)

pub block_length : (type : ℕ) (says : List ℕ) → length (block_bytes type says) ≡ 12 + length says
block_length type says =
    let four : length (four_bytes (size_of says)) ≡ 4 = refl in
    omega (arith, four, length-append (front_of type says) (four_bytes (size_of says)), front_length type says)

pub last_said : (type : ℕ) (says : List ℕ) → Fits says → last_length (little (block_bytes type says)) ≡ length (block_bytes type says)
last_said type says fits =
    let count : length (front_of type says) ≡ length (block_bytes type says) - 4 = omega (arith, block_length type says, front_length type says) in
    ap (λ (l : List ℕ). word_at Little 0 l) (drop_at (front_of type says) (four_bytes (size_of says)) (length (block_bytes type says) - 4) count)
    ∙ read_four (size_of says) [] (omega (arith, fits.short)) ∙ sym (block_length type says)

head_long : (begin : List ℕ) (order : Option Order) → order ≡ Some Little → 8 ≤ length begin → head_by order begin ≡ Some (record { order = Little; size = word_at Little 4 begin })
head_long begin order is long = rw (is, le-ltb (length begin) 8 long) refl

head_same : (a b : ℕ) → a ≡ b → ◌≡◌ {A = Option Head} (Some (record { order = Little; size = a })) (Some (record { order = Little; size = b }))
head_same a b e = cc

pub head_said : (order : Option Order) (type : ℕ) (says : List ℕ) → Fits says → order_of order (take 12 (block_bytes type says)) ≡ Some Little
    → head_of order (block_bytes type says) ≡ Some (record { order = Little; size = length (block_bytes type says) })
head_said order type says fits is =
    let size : ℕ = size_of says in
    let more : List ℕ = take 4 (says ++ four_bytes size) in
    let begin : List ℕ = take 12 (block_bytes type says) in
    let long : length begin ≡ 12 = length-take-le 12 (block_bytes type says) (omega (arith, block_length type says)) in
    let said : word_at Little 4 begin ≡ size = read_four size more (omega (arith, fits.short)) in
    head_long begin (order_of order begin) is (omega (arith, long)) ∙ head_same _ _ (said ∙ sym (block_length type says))

right_size : (kind : BlockKind) (n : ℕ) → 12 ≤ n → n % 4 ≡ 0 → n ≤ 1000012 → is_wrong_size kind n ≡ false
right_size kind n least whole most =
    or_from _ _ (or_from _ _ (le-ltb n 12 least) (not_from_true (n % 4 == 0) (eq-eqb (n % 4) 0 whole)))
    (and_right _ _ (le-ltb (2 ^ 24) n (omega (arith, most))))

pub size_right : (kind : BlockKind) (type : ℕ) (says : List ℕ) → Fits says → is_wrong_size kind (length (block_bytes type says)) ≡ false
size_right kind type says fits =
    right_size kind (length (block_bytes type says)) (omega (arith, block_length type says)) (omega (arith, block_length type says, fits.whole)) (omega (arith, block_length type says, fits.short))

-- ---- flaws
lead_so : (a b : Bool) (more : List Check) → a ≡ false → b ≡ false → first_flaw more ≡ None → first_flaw (refuse a Malformed ∷ refuse b Malformed ∷ more) ≡ None
lead_so a b more p q rest = rw (p, q, rest) refl

two_so : (a b : Bool) → a ≡ false → b ≡ false → first_flaw (refuse a Malformed ∷ refuse b Malformed ∷ []) ≡ None
two_so a b p q = rw (p, q) refl

four_so : (a b c d : Bool) → a ≡ false → b ≡ false → c ≡ false → d ≡ false → first_flaw (refuse a Malformed ∷ refuse b TooLong ∷ refuse c Malformed ∷ refuse d Malformed ∷ []) ≡ None
four_so a b c d p q r t = rw (p, q, r, t) refl

-- a block is lawful where its kind's checks find nothing
pub block_is : (s : Section) (type : ℕ) (says : List ℕ) → Fits says → order_of s.order (take 12 (block_bytes type says)) ≡ Some Little → lacks_order (take 12 (block_bytes type says)) ≡ false
    → least_length (kind_of (little (block_bytes type says))) ≤ 12 + length says → first_flaw (kind_checks (kind_of (little (block_bytes type says))) s (little (block_bytes type says))) ≡ None
    → IsBlock s (little (block_bytes type says))
block_is s type says fits order lacks least none =
    let bytes : List ℕ = block_bytes type says in
    let said = head_said s.order type says fits order in
    record {
      whole = record { said = said; long = omega (arith, block_length type says) };
      sound = or_from _ _ lacks (ap (λ (h : Option Head). has_wrong_size h (take 12 bytes)) said ∙ size_right (kind_at Little (take 12 bytes)) type says fits);
      flawless =
          lead_so _ _ (kind_checks (kind_of (little bytes)) s (little bytes)) (not_from_true _ (eq-eqb (last_length (little bytes)) (length bytes) (last_said type says fits)))
          (le-ltb (length bytes) (least_length (kind_of (little bytes))) (omega (arith, block_length type says, least))) none;
    }

-- ---- the section header
abbrev pub header_block : List ℕ → Block
header_block comment = little (section_header comment)

pub header_count : (comment : List ℕ) → length (section_says comment) ≡ 16 + length (comment_options comment)
header_count comment =
    let front : List ℕ = four_bytes 0x1a2b3c4d ++ two_bytes 1 ++ two_bytes 0 ++ replicate 8 255 in
    let sixteen : length front ≡ 16 = refl in
    omega (arith, sixteen, length-append front (comment_options comment))

header_fits : (comment : List ℕ) → IsText comment → Fits (section_says comment)
header_fits comment text = record { whole = omega (arith, header_count comment, comment_whole comment); short = omega (arith, header_count comment, comment_short comment text) }

pub header_is : (comment : List ℕ) → IsText comment → IsBlock before (header_block comment)
header_is comment text =
    block_is before 0x0a0d0d0a (section_says comment) (header_fits comment text) refl refl (omega (arith, header_count comment)) refl

-- ---- interfaces
abbrev pub section_with : List Interface → Section
section_with interfaces = record { order = Some Little; interfaces = interfaces; earlier = none_dropped }

abbrev pub interface_block : SaidInterface → Block
interface_block i = little (interface_bytes i)

abbrev name_option : SaidInterface → Opt
name_option i = record { code = 2; value = i.name }

abbrev description_option : SaidInterface → Opt
description_option i = record { code = 3; value = i.description }

abbrev resolution_option : Opt
resolution_option = record { code = 9; value = 9 ∷ [] }

options_count : (i : SaidInterface) → length (interface_options i) ≡ 24 + padded (length i.name) + padded (length i.description) - 4
options_count i =
    let name : List ℕ = option_bytes 2 i.name in
    let description : List ℕ = option_bytes 3 i.description in
    let resolution : List ℕ = option_bytes 9 (9 ∷ []) in
    let eight : length resolution ≡ 8 = refl in
    let four : length end_of_options ≡ 4 = refl in
    omega (
      arith,
      option_size 2 i.name,
      option_size 3 i.description,
      eight,
      four,
      length-append name description,
      length-append (name ++ description) resolution,
      length-append (name ++ description ++ resolution) end_of_options,
    )

pub interface_count : (i : SaidInterface) → length (interface_says i) ≡ 8 + length (interface_options i)
interface_count i =
    let front : List ℕ = two_bytes i.link ++ two_bytes 0 ++ four_bytes 0 in
    let eight : length front ≡ 8 = refl in
    omega (arith, eight, length-append front (interface_options i))

interface_fits : (i : SaidInterface) → IsInterface i → Fits (interface_says i)
interface_fits i is = record {
  whole = omega (arith, interface_count i, options_count i, padded_whole (length i.name), padded_whole (length i.description));
  short = omega (arith, interface_count i, options_count i, padded_most (length i.name), padded_most (length i.description), is.name, is.description);
}

-- the options are joined to the right
options_joined : (i : SaidInterface) → interface_options i ≡ option_bytes 2 i.name ++ (option_bytes 3 i.description ++ (option_bytes 9 (9 ∷ []) ++ end_of_options))
options_joined i =
    append_assoc (option_bytes 2 i.name ++ option_bytes 3 i.description) (option_bytes 9 (9 ∷ [])) end_of_options
    ∙ append_assoc (option_bytes 2 i.name) (option_bytes 3 i.description) (option_bytes 9 (9 ∷ []) ++ end_of_options)

options_found : (i : SaidInterface) → IsInterface i → (n : ℕ) → options_among (suc (suc (suc (suc n)))) Little (interface_options i) ≡ Some (name_option i ∷ description_option i ∷ resolution_option ∷ [])
options_found i is n =
    ap (options_among (suc (suc (suc (suc n)))) Little) (options_joined i)
    ∙ one_option 2 i.name _ (omega arith) (omega arith) is.name (suc (suc (suc n))) _
    (one_option 3 i.description _ (omega arith) (omega arith) is.description (suc (suc n)) _
    (one_option 9 (9 ∷ []) end_of_options (omega arith) (omega arith) (omega arith) (suc n) [] (no_option n)))

options_read : (i : SaidInterface) → IsInterface i → options_of (interface_block i) ≡ Some (name_option i ∷ description_option i ∷ resolution_option ∷ [])
options_read i is =
    let options : List ℕ = interface_options i in
    let size : List ℕ = four_bytes (size_of (interface_says i)) in
    let count : length options ≡ length (interface_bytes i) - 20 = omega (arith, block_length 1 (interface_says i), interface_count i) in
    let there : take (length (interface_bytes i) - 20) (options ++ size) ≡ options = take_at options size (length (interface_bytes i) - 20) count in
    let enough : length options ≡ suc (suc (suc (suc (length options - 4)))) = omega (arith, options_count i) in
    ap (options_in Little) there ∙ ap (λ (n : ℕ). options_among n Little options) enough ∙ options_found i is (length options - 4)

interface_same : (a b : ℕ) → a ≡ b → ◌≡◌ {A = Option Interface} (Some (record { link = a; resolution = 9; offset = pos 0; dropped = none_dropped })) (Some (record { link = b; resolution = 9; offset = pos 0; dropped = none_dropped }))
interface_same a b e = cc

pub interface_said : (i : SaidInterface) → IsInterface i → interface_of (interface_block i) ≡ Some (seen_interface i)
interface_said i is =
    ap (interface_by (interface_block i)) (options_read i is)
    ∙ interface_same _ i.link (read_two i.link (two_bytes 0 ++ four_bytes 0 ++ interface_options i ++ four_bytes (size_of (interface_says i))) is.link)

none_of_some : {A : Type 0} (o : Option A) (a : A) → o ≡ Some a → is_none o ≡ false
none_of_some o a e = rw e refl

pub interface_is : (known : List Interface) (i : SaidInterface) → IsInterface i → length known < 65536 → IsBlock (section_with known) (interface_block i)
interface_is known i is few =
    block_is (section_with known) 1 (interface_says i) (interface_fits i is) refl refl (omega (arith, interface_count i))
    (two_so _ _ (none_of_some _ _ (interface_said i is)) (not_from_true _ (lt-ltb (length known) 65536 few)))

pub interface_behind : (known : List Interface) (i : SaidInterface) → IsInterface i → section_behind (section_with known) (interface_block i) ≡ section_with (known ++ seen_interface i ∷ [])
interface_behind known i is = ap (λ (o : Option Interface). section_with (known ++ option_to_list o)) (interface_said i is)

-- ---- packets
abbrev pub packet_block : SaidPacket → Block
packet_block p = little (packet_bytes p)

pub packet_length : (p : SaidPacket) → length (packet_says p) ≡ 20 + length (filled p.bytes) + length (comment_options p.comment)
packet_length p =
    let front : List ℕ = four_bytes p.interface ++ four_bytes (p.stamp / 2 ^ 32) ++ four_bytes (p.stamp % 2 ^ 32) ++ four_bytes (length p.bytes) ++ four_bytes p.original in
    let twenty : length front ≡ 20 = refl in
    omega (arith, twenty, length-append front (filled p.bytes), length-append (front ++ filled p.bytes) (comment_options p.comment))

packet_count : (p : SaidPacket) → length (packet_says p) ≡ 20 + padded (length p.bytes) + length (comment_options p.comment)
packet_count p = omega (arith, packet_length p, filled_length p.bytes)

packet_fits : (p : SaidPacket) → IsPacket p → Fits (packet_says p)
packet_fits p is = record {
  whole = omega (arith, packet_count p, padded_whole (length p.bytes), comment_whole p.comment);
  short = omega (arith, packet_count p, padded_most (length p.bytes), is.captured, comment_short p.comment is.comment);
}

-- what stands behind the fields of a packet
abbrev behind_head : SaidPacket → List ℕ
behind_head p = filled p.bytes ++ comment_options p.comment ++ four_bytes (size_of (packet_says p))

pub number_said : (p : SaidPacket) → IsPacket p → interface_number (packet_block p) ≡ p.interface
number_said p is = read_four p.interface (four_bytes (p.stamp / 2 ^ 32) ++ four_bytes (p.stamp % 2 ^ 32) ++ four_bytes (length p.bytes) ++ four_bytes p.original ++ behind_head p) is.interface

pub captured_said : (p : SaidPacket) → IsPacket p → captured_length (packet_block p) ≡ length p.bytes
captured_said p is = read_four (length p.bytes) (four_bytes p.original ++ behind_head p) (omega (arith, is.captured))

original_said : (p : SaidPacket) → IsPacket p → word_at Little 24 (packet_bytes p) ≡ p.original
original_said p is = read_four p.original (behind_head p) is.original

halves : (n high low : ℕ) → high ≡ n / 2 ^ 32 → low ≡ n % 2 ^ 32 → high * 2 ^ 32 + low ≡ n
halves n high low is rest = omega (arith, is, rest)

upper_small : (n : ℕ) → n < 2 ^ 64 → n / 2 ^ 32 < 2 ^ 32
upper_small n small = omega (arith, small)

time_said : (p : SaidPacket) → IsPacket p → time_of (packet_block p) ≡ p.stamp
time_said p is =
    let more : List ℕ = four_bytes (length p.bytes) ++ four_bytes p.original ++ behind_head p in
    halves p.stamp _ _
    (read_four (p.stamp / 2 ^ 32) (four_bytes (p.stamp % 2 ^ 32) ++ more) (upper_small p.stamp is.stamp))
    (read_four (p.stamp % 2 ^ 32) more (omega arith))

nanos_said : (time : ℕ) → nanos 9 time ≡ time
nanos_said time = mul-div_cancel time (let some : 0 < 1000000000 = omega arith in some)

stamp_on_it : (i : SaidInterface) (b : Block) (time : ℕ) → time_of b ≡ time → stamp_on (seen_interface i) b ≡ pos time
stamp_on_it i b time is = ap (λ (n : ℕ). pos n +ℤ pos 0 *ℤ pos 1000000000) (ap (nanos 9) is ∙ nanos_said time) ∙ no_offset time
  where
    no_offset : (n : ℕ) → pos n +ℤ pos 0 *ℤ pos 1000000000 ≡ pos n
    no_offset n = omega (arith, ints)

module _ (is : List SaidInterface) (p : SaidPacket) (lawful : IsPacket p) (readable : IsReadable is p) where
  abbrev section : Section
  section = section_with (map seen_interface is)

  abbrev own : SaidInterface
  own = get_or is p.interface (record { link = 0; name = []; description = [] })

  own_is : interface_for section (packet_block p) ≡ seen_interface own
  own_is =
      ap (interface_at section) (number_said p lawful)
      ∙ get_or-map seen_interface is p.interface _ _ readable.interface

  stamp_is : stamp_of section (packet_block p) ≡ pos p.stamp
  stamp_is = ap (λ (i : Interface). stamp_on i (packet_block p)) own_is ∙ stamp_on_it own (packet_block p) p.stamp (time_said p lawful)

  pub packet_is : IsBlock section (packet_block p)
  packet_is =
      let count : length (map seen_interface is) ≡ length is = length-map is seen_interface in
      block_is section 6 (packet_says p) (packet_fits p lawful) refl refl (omega (arith, packet_count p))
      (four_so _ _ _ _ (not_from_true _ (lt-ltb (interface_number (packet_block p)) (length (map seen_interface is)) (omega (arith, number_said p lawful, count, readable.interface))))
      (le-ltb 262144 (captured_length (packet_block p)) (omega (arith, captured_said p lawful, lawful.captured)))
      (le-ltb (length (packet_bytes p)) (32 + padded (captured_length (packet_block p)))
      (subst (λ (n : ℕ). 32 + padded n ≤ length (packet_bytes p)) (sym (captured_said p lawful)) (omega (arith, block_length 6 (packet_says p), packet_count p))))
      (not_from_true _ (ap is_stamp stamp_is ∙ lt-ltb p.stamp (2 ^ 62) readable.stamp)))

  link_is : (interface_for section (packet_block p)).link ≡ get_or (links_of is) p.interface 0
  link_is = ap (λ (i : Interface). i.link) own_is ∙ sym (get_or-map (λ (i : SaidInterface). i.link) is p.interface _ 0 readable.interface)

  bytes_are : take (captured_length (packet_block p)) (drop 28 (packet_bytes p)) ≡ p.bytes
  bytes_are =
      let more : List ℕ = filler (length p.bytes) ++ (comment_options p.comment ++ four_bytes (size_of (packet_says p))) in
      let joined : drop 28 (packet_bytes p) ≡ p.bytes ++ more =
      append_assoc (filled p.bytes) (comment_options p.comment) (four_bytes (size_of (packet_says p)))
      ∙ append_assoc p.bytes (filler (length p.bytes)) (comment_options p.comment ++ four_bytes (size_of (packet_says p))) in
      ap (λ (n : ℕ). take n (drop 28 (packet_bytes p))) (captured_said p lawful) ∙ ap (take (length p.bytes)) joined ∙ take_at p.bytes more (length p.bytes) refl

  pub packet_seen : packets_in section (packet_block p) ≡ seen_packet is p ∷ []
  packet_seen = seen_same _ p.stamp _ _ _ p.interface _ p.original _ p.bytes (ap unsigned_abs stamp_is) link_is (number_said p lawful) (original_said p lawful) bytes_are
    where
      seen_same : (s stamp l link i interface o original : ℕ) (b bytes : List ℕ) → s ≡ stamp → l ≡ link → i ≡ interface → o ≡ original → b ≡ bytes →
          ◌≡◌ {A = List Seen} (record { stamp = s; link = l; interface = Some i; original_length = o; bytes = b } ∷ []) (record { stamp = stamp; link = link; interface = Some interface; original_length = original; bytes = bytes } ∷ [])
      seen_same s stamp l link i interface o original b bytes e f n h g = cc
