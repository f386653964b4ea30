-- The text of a key is ASCII.
use Rattle.std.proofs.Common.{◌≡◌, ◌<◌, ◌+◌, ◌/◌, ◌%◌, ◌^◌, ℕ, zero, suc, List, [], ◌∷◌, ◌++◌, map, Bool, true, ◌&&◌, refl, arith}
use Rattle.std.specs.Prelude.{Option, Some, None, nat_lt, codes}
use Rattle.std.specs.Str.{IsAscii}
use Rattle.std.specs.List.{AllByRecursion}
use Rattle.std.specs.Int.{IsInRange}
use Rattle.std.specs.Int.Digits.{digits_of}
use Rattle.std.proofs.lemmas.Bool.{and_parts}
use Rattle.std.proofs.lemmas.Bool.Decides.{nat_tests}
use Rattle.std.proofs.lemmas.Int.Digits.{all_below_base_digits_of}
use Rattle.std.proofs.lemmas.List.Elements.{All-from_recursion, All-weaker}
use Rattle.std.proofs.lemmas.Str.{IsAscii-append}
use Rattle.std.proofs.lemmas.Str.Ascii.{IsAscii-cons, IsAscii-from_all, IsAscii-nil}
use Rattle.atto.specs.Decimal.{decimal_of}
use Rattle.line_format.specs.Words.{words}
use Rattle.headers.specs.declared.key.Network.{Network}
use Rattle.headers.specs.declared.key.Network.TheVariants.{V4, V6}
use Rattle.headers.specs.declared.key.Piece.{Piece}
use Rattle.headers.specs.declared.key.Ports.{Ports}
use Rattle.headers.specs.declared.key.Segment.{Segment}
use Rattle.headers.specs.declared.key.Transport.TheVariants.{Fragment, Tcp, Udp}
use Rattle.headers.specs.declared.key.UserDatagram.{UserDatagram}
use Rattle.event_log.specs.Texts.{IsWordKey}
use Rattle.report.specs.KeyTexts.{address_words, datagram_words, dotted, endpoint, four_groups, groups, hex_digit, network_words, option_words, packet_words, payload_word, piece_words, port_words, quad, segment_words, wide_endpoint}

-- ---- by a test
abbrev all_low : List ℕ → Bool
all_low [] = true
all_low (b ∷ bs) = nat_lt b 128 && all_low bs

low_by : (b : ℕ) → nat_lt b 128 ≡ true → b < 128
low_by b test = grind (arith, nat_tests)

by_test : (bs : List ℕ) → all_low bs ≡ true → IsAscii bs
by_test [] test = IsAscii-nil
by_test (b ∷ bs) test =
    let both = and_parts (nat_lt b 128) (all_low bs) test in
    IsAscii-cons b bs (low_by b both.0) (by_test bs both.1)

-- ---- words
low_digits : (ds : List ℕ) → AllByRecursion (λ d. d < 10) ds → AllByRecursion (λ c. c < 128) (map (λ d. 48 + d) ds)
low_digits [] all = tt
low_digits (d ∷ ds) all = (omega (arith, all.0), low_digits ds all.1)

low_decimal : (n : ℕ) → AllByRecursion (λ c. c < 128) (decimal_of n)
low_decimal zero = (omega arith, tt)
low_decimal (suc n) = low_digits (digits_of 10 (suc n)) (all_below_base_digits_of 10 (suc n) (omega arith))

ascii_decimal : (n : ℕ) → IsAscii (decimal_of n)
ascii_decimal n = IsAscii-from_all (decimal_of n) (All-from_recursion (λ c. c < 128) (decimal_of n) (low_decimal n))

joined : (xs ys : List ℕ) (b : ℕ) → b < 128 → IsAscii xs → IsAscii ys → IsAscii (xs ++ b ∷ ys)
joined xs ys b low x y = IsAscii-append xs (b ∷ ys) x (IsAscii-cons b ys low y)

ascii_dotted : (a : ℕ) → IsAscii (dotted a)
ascii_dotted a =
    let b : ℕ = a / 2 ^ 24 in
    let c : ℕ = a / 2 ^ 16 % 256 in
    let d : ℕ = a / 2 ^ 8 % 256 in
    let two : IsAscii (decimal_of b ++ 46 ∷ decimal_of c) = joined (decimal_of b) (decimal_of c) 46 (omega arith) (ascii_decimal b) (ascii_decimal c) in
    let three : IsAscii (decimal_of b ++ 46 ∷ decimal_of c ++ 46 ∷ decimal_of d) = joined _ (decimal_of d) 46 (omega arith) two (ascii_decimal d) in
    joined _ (decimal_of (a % 256)) 46 (omega arith) three (ascii_decimal (a % 256))

ascii_endpoint : (address port : ℕ) → IsAscii (endpoint address port)
ascii_endpoint address port = joined (dotted address) (decimal_of port) 58 (omega arith) (ascii_dotted address) (ascii_decimal port)

low_hex : (n : ℕ) → hex_digit (n % 16) < 128
low_hex n = grind (arith, nat_tests)

ascii_quad : (n : ℕ) → IsAscii (quad n)
ascii_quad n =
    IsAscii-cons (hex_digit (n / 2 ^ 12 % 16)) (hex_digit (n / 2 ^ 8 % 16) ∷ hex_digit (n / 2 ^ 4 % 16) ∷ hex_digit (n % 16) ∷ []) (low_hex (n / 2 ^ 12))
    (IsAscii-cons (hex_digit (n / 2 ^ 8 % 16)) (hex_digit (n / 2 ^ 4 % 16) ∷ hex_digit (n % 16) ∷ []) (low_hex (n / 2 ^ 8))
    (IsAscii-cons (hex_digit (n / 2 ^ 4 % 16)) (hex_digit (n % 16) ∷ []) (low_hex (n / 2 ^ 4)) (IsAscii-cons (hex_digit (n % 16)) [] (low_hex n) IsAscii-nil)))

ascii_four : (n : ℕ) → IsAscii (four_groups n)
ascii_four n =
    let a : List ℕ = quad (n / 2 ^ 48) in
    let b : List ℕ = quad (n / 2 ^ 32) in
    let c : List ℕ = quad (n / 2 ^ 16) in
    let two : IsAscii (a ++ 58 ∷ b) = joined a b 58 (omega arith) (ascii_quad (n / 2 ^ 48)) (ascii_quad (n / 2 ^ 32)) in
    let three : IsAscii (a ++ 58 ∷ b ++ 58 ∷ c) = joined (a ++ 58 ∷ b) c 58 (omega arith) two (ascii_quad (n / 2 ^ 16)) in
    joined (a ++ 58 ∷ b ++ 58 ∷ c) (quad n) 58 (omega arith) three (ascii_quad n)

ascii_groups : (address : ℕ) → IsAscii (groups address)
ascii_groups address = joined (four_groups (address / 2 ^ 64)) (four_groups address) 58 (omega arith) (ascii_four (address / 2 ^ 64)) (ascii_four address)

ascii_wide_endpoint : (address port : ℕ) → IsAscii (wide_endpoint address port)
ascii_wide_endpoint address port =
    IsAscii-cons 91 (groups address ++ 93 ∷ 58 ∷ decimal_of port) (omega arith) (joined (groups address) (58 ∷ decimal_of port) 93 (omega arith) (ascii_groups address) (IsAscii-cons 58 (decimal_of port) (omega arith) (ascii_decimal port)))

ascii_words : (ws : List (List ℕ)) → AllByRecursion IsAscii ws → IsAscii (words ws)
ascii_words [] all = IsAscii-nil
ascii_words (w ∷ []) all = all.0
ascii_words (w ∷ v ∷ more) all = joined w (words (v ∷ more)) 32 (omega arith) all.0 (ascii_words (v ∷ more) all.1)

-- ---- keys
ascii_network : (n : Network) (from to : ℕ) (more : List (List ℕ)) → AllByRecursion IsAscii more → AllByRecursion IsAscii (network_words n from to ++ more)
ascii_network (V4 source target id) from to more rest = (ascii_endpoint source from, (ascii_endpoint target to, (by_test (codes "id") refl, (ascii_decimal id, rest))))
ascii_network (V6 source target) from to more rest = (ascii_wide_endpoint source from, (ascii_wide_endpoint target to, rest))

pub ascii_options : (options : List ℕ) → IsAscii (payload_word options) → AllByRecursion IsAscii (option_words options)
ascii_options [] is = tt
ascii_options (b ∷ more) is = (by_test (codes "options") refl, (is, tt))

pub ascii_tcp : (n : Network) (s : Segment) → IsAscii (payload_word s.payload.items) → AllByRecursion IsAscii (option_words s.options.items) → IsAscii (words (packet_words n (Tcp s)))
ascii_tcp n s payload options =
    let last : AllByRecursion IsAscii (codes "payload" ∷ payload_word s.payload.items ∷ option_words s.options.items) = (by_test (codes "payload") refl, (payload, options)) in
    let fields : AllByRecursion IsAscii (segment_words s) = (by_test (codes "seq") refl, (ascii_decimal s.sequence, (by_test (codes "ack") refl, (ascii_decimal s.acknowledged, (by_test (codes "flags") refl, (ascii_decimal s.flags, (by_test (codes "length") refl, (ascii_decimal s.length, last)))))))) in
    ascii_words (packet_words n (Tcp s)) (by_test (codes "tcp") refl, ascii_network n s.source_port s.target_port (segment_words s) fields)

pub ascii_udp : (n : Network) (d : UserDatagram) → IsAscii (payload_word d.payload.items) → IsAscii (words (packet_words n (Udp d)))
ascii_udp n d payload =
    let fields : AllByRecursion IsAscii (datagram_words d) = (by_test (codes "length") refl, (ascii_decimal d.length, (by_test (codes "payload") refl, (payload, tt)))) in
    ascii_words (packet_words n (Udp d)) (by_test (codes "udp") refl, ascii_network n d.source_port d.target_port (datagram_words d) fields)

ascii_addresses : (n : Network) (more : List (List ℕ)) → AllByRecursion IsAscii more → AllByRecursion IsAscii (address_words n ++ more)
ascii_addresses (V4 source target id) more rest = (ascii_dotted source, (ascii_dotted target, rest))
ascii_addresses (V6 source target) more rest = (ascii_groups source, (ascii_groups target, rest))

ascii_ports : (o : Option Ports) (more : List (List ℕ)) → AllByRecursion IsAscii more → AllByRecursion IsAscii (port_words o ++ more)
ascii_ports None more rest = rest
ascii_ports (Some p) more rest = (by_test (codes "from") refl, (ascii_decimal p.source, (by_test (codes "to") refl, (ascii_decimal p.target, rest))))

pub ascii_fragment : (n : Network) (p : Piece) → IsAscii (payload_word p.payload.items) → IsAscii (words (packet_words n (Fragment p)))
ascii_fragment n p payload =
    let bytes : List (List ℕ) = codes "payload" ∷ payload_word p.payload.items ∷ [] in
    let last : AllByRecursion IsAscii (port_words p.ports ++ bytes) = ascii_ports p.ports bytes (by_test (codes "payload") refl, (payload, tt)) in
    let fields : AllByRecursion IsAscii (piece_words p) = (by_test (codes "id") refl, (ascii_decimal p.id, (by_test (codes "protocol") refl, (ascii_decimal p.protocol, (by_test (codes "offset") refl, (ascii_decimal p.offset, (by_test (codes "length") refl, (ascii_decimal p.length, last)))))))) in
    ascii_words (packet_words n (Fragment p)) (by_test (codes "fragment") refl, ascii_addresses n (piece_words p) fields)

low_print : (c : ℕ) → IsInRange 33 126 c → c < 128
low_print c range = grind arith

pub ascii_log : (word : List ℕ) → IsWordKey word → IsAscii (words (codes "log" ∷ word ∷ []))
ascii_log word is = ascii_words (codes "log" ∷ word ∷ []) (
  by_test (codes "log") refl,
  (IsAscii-from_all word (All-weaker (λ c. IsInRange 33 126 c) (λ c. c < 128) low_print word is.message.bytes), tt),
)
