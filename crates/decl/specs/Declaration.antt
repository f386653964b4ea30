-- What a declaration says, and the rules that it meets.
use Rattle.std.specs.Prelude.{◌≡◌, ◌≢◌, ℕ, Bool, true, false, not, ◌&&◌, ◌+◌, ◌<◌, ◌≤◌, ◌==◌, if◌then◌else◌, List, length, take, drop, slice_get, position, Option, Some, None, is_some, ◌||◌, option_map, option_to_list, unwrap_or, IfSome, All, AllPairs, ℤ, pos, nat_abs}
use Rattle.std.specs.List.{flat_map, list_any, range_with_len}
use Rattle.std.specs.Ordering.{nat_cmp}
use Rattle.std.specs.Str.{bytes_eq}
use Rattle.std.specs.declared.cmp.Ordering.TheVariants.{Less}
use Rattle.std.specs.Cmp.Lexicographic.{slice_cmp}
use Rattle.problem_model.specs.declared.items.Clock.{Clock}
use Rattle.problem_model.specs.declared.items.Follow.{Follow}
use Rattle.problem_model.specs.declared.items.StampBounds.{StampBounds}
use Rattle.problem_model.specs.Name.{IsClockName}
use Rattle.problem_model.specs.Problem.{ClockFits}
use Rattle.problem_model.specs.Limits.{most_clocks}
use Rattle.decl.specs.Limits.{most_entries, most_payload, nano_limit, address_limit}
pub use Rattle.decl.specs.Firsts.{host_among, bounds_among}
use Rattle.decl.specs.declared.items.Decl.{Decl}
use Rattle.decl.specs.declared.items.Owner.{Owner}
use Rattle.decl.specs.declared.items.Address.{Address}
use Rattle.decl.specs.declared.items.IpVersion.{IpVersion}
use Rattle.decl.specs.declared.items.IpVersion.TheVariants.{V4, V6}
use Rattle.decl.specs.declared.items.Label.{Label}
use Rattle.decl.specs.declared.items.Link.{Link}
use Rattle.decl.specs.declared.items.Subnet.{Subnet}
use Rattle.decl.specs.declared.items.Whereabouts.{Whereabouts}
use Rattle.decl.specs.Subnets.{give_near, narrowest, place_by}

-- what a declaration says: the names of the hosts, their clocks, and whose each of these is; addresses, labels and links
-- name hosts by place, labels and the source name clocks by place, and labels their subnets
pub record Declaration : Type 0 where
  pub hosts : List (List ℕ)
  pub clocks : List Clock
  pub owners : List Owner
  pub addresses : List Address
  pub addresses6 : List Address
  pub labels : List Label
  pub subnets : List Subnet
  pub links : List Link
  pub payload_bytes : ℕ
  pub tcp_options : Bool
  pub fragments : Bool
  pub window : Option ℕ
  pub source : Option ℕ

-- what the code's own declaration says
abbrev pub declaration_of : Decl → Declaration
declaration_of d = record { hosts = d.hosts.items; clocks = d.clocks.items; owners = d.owners.items; addresses = d.addresses; addresses6 = d.addresses6; labels = d.labels.items; subnets = d.subnets.items; links = d.links; payload_bytes = d.payload_bytes; tcp_options = d.tcp_options; fragments = d.fragments; window = d.window; source = d.source }

-- a name comes before another in byte order
abbrev pub Precedes : List ℕ → List ℕ → Type 0
Precedes a b = slice_cmp nat_cmp a b ≡ Less

-- the numbers of a link are in their ranges
abbrev pub LinkFits : Link → Type 0
LinkFits l = (l.least < nano_limit) × IfSome l.most (λ most. most < nano_limit)

-- so are the bounds of a label's own stamps
abbrev pub LabelFits : Label → Type 0
LabelFits l = IfSome l.early (λ early. early < nano_limit) × IfSome l.late (λ late. late < nano_limit)

-- the clock at this place is never short or long
abbrev pub IsSource : List Clock → ℕ → Type 0
IsSource clocks place = (c : Clock) × (slice_get clocks place ≡ Some c) × (c.rate.short ≡ 0) × (c.rate.long ≡ 0)

-- the clock at this place is one of the host at that place
abbrev pub IsClockOf : List Owner → ℕ → ℕ → Type 0
IsClockOf owners host clock = (o : Owner) × (slice_get owners clock ≡ Some o) × (o.host ≡ host)

-- hosts rise by their names
pub record HasLawfulHosts (d : Declaration) : Type 0 where
  pub host_names : All IsClockName d.hosts
  pub hosts_rise : AllPairs Precedes d.hosts

-- clocks differ in their names, have numbers in their ranges and an owner each; one that is the source shows true time
pub record HasLawfulClocks (d : Declaration) : Type 0 where
  pub clock_names : All (λ c. IsClockName c.name) d.clocks
  pub clocks_differ : AllPairs (λ a b. a.name ≢ b.name) d.clocks
  pub clocks_fit : All ClockFits d.clocks
  pub clocks_owned : length d.owners ≡ length d.clocks
  pub source_true : IfSome d.source (IsSource d.clocks)

-- clocks stand in the order of their hosts, each host has one or more, and gaps and offsets are in their ranges
pub record HasLawfulOwners (d : Declaration) : Type 0 where
  pub owner_hosts : All (λ o. o.host < length d.hosts) d.owners
  pub owners_rise : AllPairs (λ a b. a.host ≤ b.host) d.owners
  pub every_host : (host : ℕ) → host < length d.hosts → (clock : ℕ) × IsClockOf d.owners host clock
  pub gaps_fit : All (λ o. o.gap < nano_limit) d.owners
  pub offsets_fit : All (λ o. nat_abs o.offset < nano_limit) d.owners

-- no two addresses are the same, and each is one of a host
pub record HasLawfulAddresses (d : Declaration) : Type 0 where
  pub address_hosts : All (λ a. a.host < length d.hosts) d.addresses
  pub addresses_fit : All (λ a. a.address < address_limit) d.addresses
  pub addresses_differ : AllPairs (λ a b. a.address ≢ b.address) d.addresses

-- those of IPv6 likewise
pub record HasLawfulAddresses6 (d : Declaration) : Type 0 where
  pub address6_hosts : All (λ a. a.host < length d.hosts) d.addresses6
  pub addresses6_differ : AllPairs (λ a b. a.address ≢ b.address) d.addresses6

-- labels rise by their names, each is of a host and of a clock of that host, and bounds are in their ranges
pub record HasLawfulLabels (d : Declaration) : Type 0 where
  pub label_names : All (λ l. IsClockName l.name) d.labels
  pub labels_rise : AllPairs (λ a b. Precedes a.name b.name) d.labels
  pub label_hosts : All (λ l. l.host < length d.hosts) d.labels
  pub label_clocks : All (λ l. IsClockOf d.owners l.host l.clock) d.labels
  pub labels_fit : All LabelFits d.labels

-- links join hosts, no two of them the same in the same order, and have numbers in their ranges
pub record HasLawfulLinks (d : Declaration) : Type 0 where
  pub link_starts : All (λ l. l.from < length d.hosts) d.links
  pub link_ends : All (λ l. l.to < length d.hosts) d.links
  pub links_differ : AllPairs (λ a b. (a.from ≡ b.from) → (a.to ≡ b.to) → ⊥) d.links
  pub links_fit : All LinkFits d.links

-- there is not too much of anything
pub record KeepsLimits (d : Declaration) : Type 0 where
  pub host_limit : length d.hosts ≤ most_entries
  pub clock_limit : length d.clocks ≤ most_clocks
  pub label_limit : length d.labels ≤ most_entries
  pub link_limit : length d.links ≤ most_entries
  pub payload_limit : d.payload_bytes ≤ most_payload
  pub window_limit : IfSome d.window (λ window. window < nano_limit)

-- a declaration: each part of it is lawful, and it is not too large
pub record IsDeclaration (d : Declaration) : Type 0 where
  pub hosts : HasLawfulHosts d
  pub clocks : HasLawfulClocks d
  pub owners : HasLawfulOwners d
  pub addresses : HasLawfulAddresses d
  pub addresses6 : HasLawfulAddresses6 d
  pub labels : HasLawfulLabels d
  pub links : HasLawfulLinks d
  pub limits : KeepsLimits d

-- what the clock at this place is roughly ahead of true time, in ns; 0 where there is none
abbrev pub offset_of : Declaration → ℕ → ℤ
offset_of d clock = unwrap_or (option_map (λ o. o.offset) (slice_get d.owners clock)) (pos 0)

-- the follow from the clock at place k to the next one, where both are of one host, with the gap of the later one
abbrev pub follow_between : ℕ → Option Owner → Option Owner → Option Follow
follow_between k None b = None
follow_between k (Some a) None = None
follow_between k (Some a) (Some b) = if a.host == b.host then Some (record { earlier = k; later = k + 1; gap = b.gap }) else None

abbrev pub follow_from : Declaration → ℕ → Option Follow
follow_from d k = follow_between k (slice_get d.owners k) (slice_get d.owners (k + 1))

-- for each clock that has one, the follow to the next clock of its host
abbrev pub follows_of : Declaration → List Follow
follows_of d = flat_map (λ k. option_to_list (follow_from d k)) (range_with_len 0 (length d.owners))

-- both clocks are of one host
abbrev pub AreOfOneHost : Declaration → ℕ → ℕ → Type 0
AreOfOneHost d b c = (host : ℕ) × IsClockOf d.owners host b × IsClockOf d.owners host c

-- the host that has an address of a version
abbrev pub host_at : Declaration → IpVersion → ℕ → Option ℕ
host_at d V4 address = host_among d.addresses address
host_at d V6 address = host_among d.addresses6 address

-- the subnets that a label gives
abbrev pub subnets_of : Declaration → Label → List Subnet
subnets_of d l = take l.subnet_count (drop l.first_subnet d.subnets)

-- the host that has an address is this one
abbrev pub is_host : Option ℕ → ℕ → Bool
is_host None host = false
is_host (Some other) host = other == host

-- an address is one of the host's own, which count where the label gives none of this version in their place
abbrev pub is_own : Declaration → Label → IpVersion → ℕ → Bool
is_own d l version address = not (give_near version (subnets_of d l)) && is_host (host_at d version address) l.host

-- where an address of a version is, as seen from where the trace of a label was taken: on the side of the narrowest of the
-- label's subnets that has it; and the host's own are near, each by itself
abbrev pub whereabouts : Declaration → Label → IpVersion → ℕ → Whereabouts
whereabouts d l version address = place_by (is_own d l version address) (narrowest version address (subnets_of d l))

-- two labels are of one segment
abbrev pub is_same_segment : Option (List ℕ) → Option (List ℕ) → Bool
is_same_segment None None = true
is_same_segment None (Some b) = false
is_same_segment (Some a) None = false
is_same_segment (Some a) (Some b) = bytes_eq a b

-- the number of a label's segment: the place of the first label of it
abbrev pub segment_of : Declaration → Label → ℕ
segment_of d l = unwrap_or (position (λ other. is_same_segment other.segment l.segment) d.labels) 0

-- a label gives a bound of its trace's own stamps
abbrev pub gives_bound : Label → Bool
gives_bound l = is_some l.early || is_some l.late

-- some label does
abbrev pub has_own_bounds : Declaration → Bool
has_own_bounds d = list_any gives_bound d.labels

-- the bounds of a trace's stamps: its label's own, and for one that this does not give that of the clock
abbrev pub bounds_with : Label → Clock → StampBounds
bounds_with l c = record { early = unwrap_or l.early c.early; late = unwrap_or l.late c.late }

-- the same by the label's clock; None where it has none
abbrev pub bounds_at : Declaration → Label → Option StampBounds
bounds_at d l = option_map (bounds_with l) (slice_get d.clocks l.clock)

-- the bounds that events of a label's trace have of their own: None where those of their clocks count for all traces
abbrev pub own_bounds : Declaration → Label → Option StampBounds
own_bounds d l = if has_own_bounds d then bounds_at d l else None

-- what a declaration says of the delay from one host to another
abbrev pub link_bounds : Declaration → ℕ → ℕ → ℕ × Option ℕ
link_bounds d from to = bounds_among d.links from to
