-- The addresses of hosts.
use Rattle.std.specs.Prelude.{◌≡◌, ℕ, Bool, true, false, ◌&&◌, ◌||◌, ◌==◌, if◌then◌else◌, List, [], ◌∷◌, ◌++◌, length, map, Option, Some, None, option_map, option_to_list, unwrap_or}
use Rattle.std.specs.List.{list_any}
use Rattle.std.specs.Int.{from_be_bytes, w32, w128}
use Rattle.std.specs.Net.Addr.{octets_of}
use Rattle.std.specs.Net.Grammar.{IsDotted, IsGroups}
use Rattle.std.specs.Net.Reader.{read_ipv4, read_ipv6, whole_value}
use Rattle.toml.specs.Data.{as_str, Items, no_items, item}
use Rattle.decl.specs.declared.items.Address.{Address}
use Rattle.decl.specs.declared.items.IpVersion.{IpVersion}
use Rattle.decl.specs.declared.items.IpVersion.TheVariants.{V4, V6}

-- the text is the dotted form of four octets, and the address is their number in network byte order
pub record IsAddress (text : List ℕ) (address : ℕ) : Type 0 where
  pub octets : List ℕ
  pub dotted : IsDotted text octets
  pub value : address ≡ from_be_bytes w32 octets

-- the address that a text writes, as std reads it; the law `addresses_are_dotted` says that this is `IsAddress`
abbrev pub address_of : List ℕ → Option ℕ
address_of text = option_map (from_be_bytes w32) (whole_value (read_ipv4 text))

-- the text is eight groups of one to four hexadecimal digits with colons between, and the address is their number in
-- network byte order
pub record IsAddress6 (text : List ℕ) (address : ℕ) : Type 0 where
  pub segments : List ℕ
  pub groups : IsGroups false text segments
  pub eight : length segments ≡ 8
  pub value : address ≡ from_be_bytes w128 (octets_of segments)

-- behind a byte, the text has a point in it, or two colons side by side: so the short forms of addresses are written
abbrev pub is_short_form : ℕ → List ℕ → Bool
is_short_form last [] = false
is_short_form last (c ∷ text) = (c == 46 || (c == 58 && last == 58)) || is_short_form c text

-- the address that a text writes in full, as std reads it; the law `addresses6_are_groups` says that this is `IsAddress6`
abbrev pub address6_of : List ℕ → Option ℕ
address6_of text = if is_short_form 0 text then None else option_map (λ segments. from_be_bytes w128 (octets_of segments)) (whole_value (read_ipv6 text))

-- the address of a version that a text writes
abbrev pub read_as : IpVersion → List ℕ → Option ℕ
read_as V4 = address_of
read_as V6 = address6_of

-- no address, or one of those before
abbrev pub is_bad_address : List ℕ → Option ℕ → Bool
is_bad_address before None = true
is_bad_address before (Some address) = list_any (λ b. address == b) before

-- the addresses that these texts write, each read so
abbrev pub written : (List ℕ → Option ℕ) → List (List ℕ) → List ℕ
written read [] = []
written read (text ∷ texts) = option_to_list (read text) ++ written read texts

-- some text writes no address, or one that stands before
abbrev pub has_bad_address : (List ℕ → Option ℕ) → List ℕ → List (List ℕ) → Bool
has_bad_address read before [] = false
has_bad_address read before (text ∷ texts) = is_bad_address before (read text) || has_bad_address read (before ++ option_to_list (read text)) texts

-- the texts of these items
abbrev pub texts_of : Items → List (List ℕ)
texts_of no_items = []
texts_of (item d ds) = unwrap_or (as_str d) [] ∷ texts_of ds

-- these numbers as addresses of a host
abbrev pub at_host : ℕ → List ℕ → List Address
at_host host addresses = map (λ a. record { address = a; host = host }) addresses

-- the numbers of these addresses
abbrev pub numbers_of : List Address → List ℕ
numbers_of addresses = map (λ a. a.address) addresses

-- the addresses of hosts so far, of IPv4 and of IPv6
pub record Known : Type 0 where
  pub narrow : List ℕ
  pub wide : List ℕ

-- none yet
abbrev pub none_known : Known
none_known = record { narrow = []; wide = [] }

-- these and more
abbrev pub known_with : Known → List ℕ → List ℕ → Known
known_with before narrow wide = record { narrow = before.narrow ++ narrow; wide = before.wide ++ wide }
