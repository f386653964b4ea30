-- What is wrong with hosts, and what they declare.
use Rattle.std.specs.Prelude.{ℕ, ◌+◌, Bool, not, ◌||◌, nat_lt, List, [], ◌∷◌, ◌++◌, codes}
use Rattle.problem_model.specs.declared.items.Clock.{Clock}
use Rattle.toml.specs.Data.{Data, as_table, Members, no_members, member}
use Rattle.decl.specs.Addresses.{Known, address_of, address6_of, at_host, has_bad_address, known_with, texts_of, written}
use Rattle.decl.specs.Causes.{when, at}
use Rattle.decl.specs.Clocks.{has_wild_number, has_wild_owner, clock_tables, clocks_by, owners_by, clocks_causes}
use Rattle.decl.specs.Keys.{table_causes, entry_causes, entry_table}
use Rattle.decl.specs.Limits.{most_entries}
use Rattle.decl.specs.Names.{is_clock_name}
use Rattle.decl.specs.Values.{items_or_none}
use Rattle.decl.specs.declared.cause.Cause.{Cause}
use Rattle.decl.specs.declared.cause.Cause.TheVariants.{Name, Number, Address}
use Rattle.decl.specs.declared.errors.DeclError.{DeclError}
use Rattle.decl.specs.declared.errors.Section.TheVariants.{Hosts}
use Rattle.decl.specs.declared.items.Address.{Address as HostAddress}
use Rattle.decl.specs.declared.items.Owner.{Owner}
use Rattle.decl.specs.declared.keys.Form.TheVariants as form

-- the texts of a host's addresses
abbrev pub address_texts : Members → List (List ℕ)
address_texts ms = texts_of (items_or_none (codes "addresses") ms)

abbrev pub address6_texts : Members → List (List ℕ)
address6_texts ms = texts_of (items_or_none (codes "addresses6") ms)

-- an address of a host is misspelled, or is one of those before; those of IPv4 and those of IPv6 are never the same
abbrev pub has_wrong_address : Known → Members → Bool
has_wrong_address before ms = has_bad_address address_of before.narrow (address_texts ms) || has_bad_address address6_of before.wide (address6_texts ms)

-- an entry of this index is one more than there may be
abbrev pub is_one_too_many : ℕ → Bool
is_one_too_many index = nat_lt most_entries index

-- what is wrong with a host itself, behind these addresses of hosts before; its own numbers are those of a clock whose
-- table is empty
abbrev pub own_causes : ℕ → Known → List ℕ → Members → List Cause
own_causes index before name ms = table_causes form.Host ms ++ when (not (is_clock_name name)) Name
    ++ when (is_one_too_many index || has_wild_number no_members ms || has_wild_owner no_members ms) Number ++ when (has_wrong_address before ms) Address

-- what is wrong with a host, and then with its clocks, behind these addresses and clocks of hosts before
abbrev pub host_causes : ℕ → Known → List Clock → List ℕ → Members → List Cause
host_causes index before clocks name ms = own_causes index before name ms ++ clocks_causes clocks name ms (clock_tables ms)

-- the addresses that a host writes
abbrev pub addresses_in : Data → List ℕ
addresses_in d = written address_of (address_texts (entry_table d))

abbrev pub addresses6_in : Data → List ℕ
addresses6_in d = written address6_of (address6_texts (entry_table d))

-- those of hosts before, and those that a host writes
abbrev pub known_behind : Known → Data → Known
known_behind before d = known_with before (addresses_in d) (addresses6_in d)

-- the clocks of a host
abbrev pub clocks_in : List ℕ → Data → List Clock
clocks_in name d = clocks_by name (entry_table d) (clock_tables (entry_table d))

-- what is wrong with hosts from an index on, behind these addresses and clocks
abbrev pub hosts_faults : ℕ → Known → List Clock → Members → List DeclError
hosts_faults index before clocks no_members = []
hosts_faults index before clocks (member name d ms) = at Hosts index (entry_causes (host_causes index before clocks name) (as_table d))
    ++ hosts_faults (index + 1) (known_behind before d) (clocks ++ clocks_in name d) ms

-- the names of hosts
abbrev pub hosts_of : Members → List (List ℕ)
hosts_of no_members = []
hosts_of (member name d ms) = name ∷ hosts_of ms

-- the clocks of hosts
abbrev pub clocks_of : Members → List Clock
clocks_of no_members = []
clocks_of (member name d ms) = clocks_in name d ++ clocks_of ms

-- whose the clocks of a host are
abbrev pub owners_in : ℕ → Data → List Owner
owners_in place d = owners_by place (entry_table d) (clock_tables (entry_table d))

-- the owners of the clocks of hosts whose places count from this one on
abbrev pub owners_from : ℕ → Members → List Owner
owners_from place no_members = []
owners_from place (member name d ms) = owners_in place d ++ owners_from (place + 1) ms

-- what labels may name: hosts, and their clocks
pub record HostLists : Type 0 where
  pub names : List (List ℕ)
  pub clocks : List Clock
  pub owners : List Owner

abbrev pub host_lists : Members → HostLists
host_lists ms = record { names = hosts_of ms; clocks = clocks_of ms; owners = owners_from 0 ms }

-- the addresses of hosts from a place on
abbrev pub addresses_from : ℕ → Members → List HostAddress
addresses_from place no_members = []
addresses_from place (member name d ms) = at_host place (addresses_in d) ++ addresses_from (place + 1) ms

abbrev pub addresses6_from : ℕ → Members → List HostAddress
addresses6_from place no_members = []
addresses6_from place (member name d ms) = at_host place (addresses6_in d) ++ addresses6_from (place + 1) ms
