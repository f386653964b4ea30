-- What the parts of the code say to each other.
use Rattle.std.specs.Prelude.{◌≡◌, ◌<◌, ℕ, List, None, Some, codes}
use Rattle.toml.specs.Data.{Members}
use Rattle.decl.specs.Labels.{places_at, trace_kind_at}
use Rattle.decl.specs.Values.{optional_number, text_at}
use Rattle.decl.specs.declared.labels.Names.{Names}
use Rattle.decl.specs.declared.labels.Numbers.{Numbers}
use Rattle.decl.specs.declared.hosts.Books.{Books}
use Rattle.decl.specs.declared.hosts.Hosts.{Hosts}
use Rattle.decl.specs.declared.items.Owner.{Owner}
use Rattle.decl.specs.Addresses.{Known, numbers_of}
use Rattle.decl.specs.Clocks.{first_clock_place}
use Rattle.decl.specs.Hosts.{HostLists}

-- the addresses in the books
abbrev pub known_in : Books → Known
known_in books = record { narrow = numbers_of books.narrow; wide = numbers_of books.wide }

-- the hosts and clocks that were read
abbrev pub hosts_and_clocks : Hosts → HostLists
hosts_and_clocks hosts = record { names = hosts.names.items; clocks = hosts.clocks.clocks; owners = hosts.clocks.owners }

-- what the code read of a label's names
pub record NamesOf (hosts : HostLists) (given : List ℕ) (ms : Members) (names : Names) : Type 0 where
  pub name : names.name ≡ given
  pub places : Some (names.host, names.clock) ≡ places_at hosts ms
  pub kind : Some names.kind ≡ trace_kind_at ms
  pub segment : names.segment ≡ text_at (codes "segment") ms

-- what it read of its numbers
pub record NumbersOf (ms : Members) (numbers : Numbers) : Type 0 where
  pub interface : numbers.interface ≡ optional_number (codes "interface") ms
  pub early : numbers.early ≡ optional_number (codes "early") ms
  pub late : numbers.late ≡ optional_number (codes "late") ms

-- clocks of this host come next: each host before it has one, and none behind it
pub record IsTurnOf (owners : List Owner) (host : ℕ) : Type 0 where
  pub before : (other : ℕ) → other < host → first_clock_place owners other ≡ None → ⊥
  pub behind : (other : ℕ) → host < other → first_clock_place owners other ≡ None
