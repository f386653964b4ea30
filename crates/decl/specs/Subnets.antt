-- The subnets that a label gives: addresses that have their first bits in common, and on which side of the place where the
-- trace was taken they are.
use Rattle.std.specs.Prelude.{ℕ, ◌+◌, ◌-◌, ◌^◌, ◌%◌, Bool, true, false, ◌&&◌, ◌==◌, not, nat_lt, nat_le, if◌then◌else◌, List, [], ◌∷◌, ◌++◌, length, map, take, drop, position, find, codes, Option, Some, None, option_map, option_and_then, option_to_list}
use Rattle.std.specs.List.{flat_map, list_any, range_with_len}
use Rattle.std.specs.Str.{bytes_eq}
use Rattle.atto.specs.Decimal.{decimal_of}
use Rattle.toml.specs.Data.{Items, Members}
use Rattle.decl.specs.Addresses.{read_as, texts_of}
use Rattle.decl.specs.Limits.{most_subnets}
use Rattle.decl.specs.Values.{items_or_none}
use Rattle.decl.specs.declared.cause.Cause.{Cause}
use Rattle.decl.specs.declared.cause.Cause.TheVariants.{Address, Sides}
use Rattle.decl.specs.declared.items.IpVersion.{IpVersion}
use Rattle.decl.specs.declared.items.IpVersion.TheVariants.{V4, V6}
use Rattle.decl.specs.declared.items.Subnet.{Subnet}
use Rattle.decl.specs.declared.items.Whereabouts.{Whereabouts}
use Rattle.decl.specs.declared.items.Whereabouts.TheVariants.{Near, Unsaid, Beyond}

-- ---- the text of a subnet
-- how many bits an address has
abbrev pub bits_of : IpVersion → ℕ
bits_of V4 = 32
bits_of V6 = 128

-- how many bits a decimal says, if not more than there are
abbrev pub bits_in : IpVersion → List ℕ → Option ℕ
bits_in version text = find (λ n. bytes_eq (decimal_of n) text) (range_with_len 0 (bits_of version + 1))

-- the address of this text, of which so many bits count as that text says
abbrev pub prefix_by : IpVersion → List ℕ → List ℕ → Option (ℕ × ℕ)
prefix_by version address bits = option_and_then (λ a. option_map (λ n. (a, n)) (bits_in version bits)) (read_as version address)

-- an address, and how many of its bits count: as many as stand behind a slash, or all
abbrev pub prefix_in : IpVersion → List ℕ → Option (ℕ × ℕ)
prefix_in version text = elim (position (λ c. c == 47) text) [ None ↦ option_map (λ a. (a, bits_of version)) (read_as version text) | Some k ↦ prefix_by version (take k text) (drop (k + 1) text) ]

-- how many addresses have so many bits in common
abbrev pub size_of : IpVersion → ℕ → ℕ
size_of version bits = 2 ^ (bits_of version - bits)

-- the addresses that have so many first bits in common with this one, whose other bits are 0
abbrev pub subnet_by : IpVersion → Bool → ℕ × ℕ → Option Subnet
subnet_by version beyond (address, bits) = if address % size_of version bits == 0 then Some (record { version = version; beyond = beyond; first = address; spread = size_of version bits - 1 }) else None

-- ---- the subnets of a label
-- a text that is to write a subnet, with what its array says of it
pub record GivenSubnet : Type 0 where
  pub version : IpVersion
  pub beyond : Bool
  pub text : List ℕ

-- the subnet
abbrev pub subnet_of : GivenSubnet → Option Subnet
subnet_of g = option_and_then (subnet_by g.version g.beyond) (prefix_in g.version g.text)

-- the texts of an array, with what it says of them
abbrev pub given_by : IpVersion → Bool → Items → List GivenSubnet
given_by version beyond items = map (λ text. record { version = version; beyond = beyond; text = text }) (texts_of items)

-- the texts in the array at a key
abbrev pub given_at : IpVersion → Bool → List ℕ → Members → List GivenSubnet
given_at version beyond key ms = given_by version beyond (items_or_none key ms)

-- all texts of a label, in the order in which they are looked through
abbrev pub given_in : Members → List GivenSubnet
given_in ms = (given_at V4 false (codes "addresses") ms ++ given_at V6 false (codes "addresses6") ms) ++ (given_at V4 true (codes "beyond") ms ++ given_at V6 true (codes "beyond6") ms)

-- the subnets that these texts write
abbrev pub subnets_by : List GivenSubnet → List Subnet
subnets_by given = flat_map (λ g. option_to_list (subnet_of g)) given

-- the subnets that a label gives
abbrev pub subnets_in : Members → List Subnet
subnets_in ms = subnets_by (given_in ms)

-- there are too many
abbrev pub has_many_subnets : Members → Bool
has_many_subnets ms = nat_lt most_subnets (length (given_in ms))

-- ---- what is wrong with them
-- the two versions are one
abbrev pub is_same_version : IpVersion → IpVersion → Bool
is_same_version V4 V4 = true
is_same_version V4 V6 = false
is_same_version V6 V4 = false
is_same_version V6 V6 = true

-- two subnets have the same addresses
abbrev pub is_same_subnet : Subnet → Subnet → Bool
is_same_subnet a b = is_same_version a.version b.version && (a.first == b.first) && (a.spread == b.spread)

-- what is wrong where a subnet has the addresses of one before: it stands there once more, or it is on both sides
abbrev pub twin_cause : Bool → Bool → Cause
twin_cause true true = Address
twin_cause true false = Sides
twin_cause false true = Sides
twin_cause false false = Address

-- what is wrong with a subnet, by the first one before it that has the same addresses
abbrev pub causes_by : Subnet → Option Subnet → List Cause
causes_by s None = []
causes_by s (Some twin) = twin_cause twin.beyond s.beyond ∷ []

-- what is wrong with a text, behind these subnets: that it writes none, or what is wrong with its subnet
abbrev pub text_causes : List Subnet → Option Subnet → List Cause
text_causes before None = Address ∷ []
text_causes before (Some s) = causes_by s (find (is_same_subnet s) before)

-- what is wrong with these texts, behind these subnets
abbrev pub subnet_causes : List Subnet → List GivenSubnet → List Cause
subnet_causes before [] = []
subnet_causes before (g ∷ more) = text_causes before (subnet_of g) ++ subnet_causes (before ++ option_to_list (subnet_of g)) more

-- ---- where an address is
-- an address of a version is one of a subnet
abbrev pub is_in : IpVersion → ℕ → Subnet → Bool
is_in version address s = is_same_version s.version version && nat_le s.first address && nat_le address (s.first + s.spread)

-- the narrower one of two subnets; the first one where they are as wide
abbrev pub narrower : Subnet → Option Subnet → Subnet
narrower s None = s
narrower s (Some t) = if nat_lt t.spread s.spread then t else s

-- the narrowest of these subnets that has the address
abbrev pub narrowest : IpVersion → ℕ → List Subnet → Option Subnet
narrowest version address [] = None
narrowest version address (s ∷ more) = if is_in version address s then Some (narrower s (narrowest version address more)) else narrowest version address more

-- the side that a subnet is on
abbrev pub side_of : Subnet → Whereabouts
side_of s = if s.beyond then Beyond else Near

-- where an address is, by whether it is the host's own and by the narrowest subnet that has it: the host's own stands by itself, so
-- that only a subnet of one address goes before it
abbrev pub place_by : Bool → Option Subnet → Whereabouts
place_by own None = if own then Near else Unsaid
place_by own (Some s) = if own && nat_lt 0 s.spread then Near else side_of s

-- some of these subnets are near, and of this version
abbrev pub give_near : IpVersion → List Subnet → Bool
give_near version subnets = list_any (λ s. is_same_version s.version version && not s.beyond) subnets
