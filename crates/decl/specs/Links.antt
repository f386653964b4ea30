-- What is wrong with links, and what they declare.
use Rattle.std.specs.Prelude.{ℕ, ◌+◌, ◌-◌, Bool, true, not, ◌&&◌, ◌||◌, ◌==◌, List, [], ◌∷◌, ◌++◌, codes, Option, Some, None, unwrap_or}
use Rattle.std.specs.List.{list_any}
use Rattle.toml.specs.Data.{as_table, Items, no_items, item, Members}
use Rattle.decl.specs.Causes.{when, at}
use Rattle.decl.specs.Hosts.{is_one_too_many}
use Rattle.decl.specs.Keys.{table_causes, entry_causes, entry_table}
use Rattle.decl.specs.Labels.{host_at_key}
use Rattle.decl.specs.Limits.{nano_limit}
use Rattle.decl.specs.Values.{whole_or_zero, number_at, optional_number, is_up_to}
use Rattle.decl.specs.declared.cause.Cause.{Cause}
use Rattle.decl.specs.declared.cause.Cause.TheVariants.{Name, Number}
use Rattle.decl.specs.declared.errors.DeclError.{DeclError}
use Rattle.decl.specs.declared.errors.Section.TheVariants.{Links}
use Rattle.decl.specs.declared.items.Link.{Link}
use Rattle.decl.specs.declared.keys.Form.TheVariants as form

-- one of these links goes from the one host to the other
abbrev pub has_link : List Link → ℕ → ℕ → Bool
has_link links from to = list_any (λ l. l.from == from && l.to == to) links

-- a host is unknown, or a link before goes from the one to the other
abbrev pub is_astray : List Link → Option ℕ → Option ℕ → Bool
is_astray before None to = true
is_astray before (Some from) None = true
is_astray before (Some from) (Some to) = has_link before from to

-- some delay of a link is out of its range
abbrev pub has_wild_delay : Members → Bool
has_wild_delay ms = not (is_up_to (nano_limit - 1) (whole_or_zero (codes "least") ms)) || not (is_up_to (nano_limit - 1) (whole_or_zero (codes "most") ms))

-- what is wrong with the table of a link, behind these links
abbrev pub link_causes : List (List ℕ) → ℕ → List Link → Members → List Cause
link_causes hosts index before ms = table_causes form.Link ms
    ++ when (is_astray before (host_at_key hosts (codes "from") ms) (host_at_key hosts (codes "to") ms)) Name
    ++ when (is_one_too_many index || has_wild_delay ms) Number

-- the greatest delay of a link, if it has one
abbrev pub most_at : Members → Option ℕ
most_at ms = optional_number (codes "most") ms

-- the link of a table
abbrev pub link_of : List (List ℕ) → Members → Link
link_of hosts ms = record {
  from = unwrap_or (host_at_key hosts (codes "from") ms) 0;
  to = unwrap_or (host_at_key hosts (codes "to") ms) 0;
  least = number_at (codes "least") ms;
  most = most_at ms;
}

-- what is wrong with links from an index on, behind these links
abbrev pub links_faults : List (List ℕ) → ℕ → List Link → Items → List DeclError
links_faults hosts index before no_items = []
links_faults hosts index before (item d ds) = at Links index (entry_causes (link_causes hosts index before) (as_table d))
    ++ links_faults hosts (index + 1) (before ++ link_of hosts (entry_table d) ∷ []) ds

-- the links of these items
abbrev pub links_of : List (List ℕ) → Items → List Link
links_of hosts no_items = []
links_of hosts (item d ds) = link_of hosts (entry_table d) ∷ links_of hosts ds
