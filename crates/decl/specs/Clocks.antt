-- What is wrong with the clocks of a host, and what they are.
use Rattle.std.specs.Prelude.{ℕ, ◌-◌, Bool, not, ◌||◌, ◌==◌, nat_le, is_some, if◌then◌else◌, List, [], ◌∷◌, ◌++◌, length, codes, slice_get, Option, Some, None, unwrap_or, option_and_then, ℤ, nat_abs}
use Rattle.std.specs.List.{position_from}
use Rattle.atto.specs.Span.{RateParts}
use Rattle.problem_model.specs.declared.items.Clock.{Clock}
use Rattle.problem_model.specs.Limits.{most_clocks}
use Rattle.toml.specs.Data.{as_table, Items, no_items, item, Members, no_members}
use Rattle.decl.specs.Causes.{when}
use Rattle.decl.specs.Keys.{table_causes, entry_causes, entry_table}
use Rattle.decl.specs.Limits.{most_short, most_long, nano_limit}
use Rattle.decl.specs.Names.{is_clock_name}
use Rattle.decl.specs.Places.{clock_place}
use Rattle.decl.specs.Values.{whole_at, whole_or_zero, number_at, is_up_to, is_within, items_or_none, text_or_empty}
use Rattle.decl.specs.declared.cause.Cause.{Cause}
use Rattle.decl.specs.declared.cause.Cause.TheVariants.{Name, Number}
use Rattle.decl.specs.declared.items.Owner.{Owner}
use Rattle.decl.specs.declared.keys.Form.TheVariants as form

-- ---- numbers
-- the whole number at a key of a clock's own table, or else of its host's, or else 0
abbrev pub own_or_host : List ℕ → Members → Members → ℤ
own_or_host key own host = unwrap_or (whole_at key own) (whole_or_zero key host)

-- the same without its sign
abbrev pub own_number : List ℕ → Members → Members → ℕ
own_number key own host = nat_abs (own_or_host key own host)

-- `short` or `long` of a clock is out of its range
abbrev pub has_wild_rate : Members → Members → Bool
has_wild_rate own host = not (is_up_to most_short (own_or_host (codes "short") own host)) || not (is_up_to most_long (own_or_host (codes "long") own host))

-- some number of a clock is out of its range
abbrev pub has_wild_number : Members → Members → Bool
has_wild_number own host =
    has_wild_rate own host || not (is_up_to (nano_limit - 1) (own_or_host (codes "early") own host)) || not (is_up_to (nano_limit - 1) (own_or_host (codes "late") own host))

-- the gap of a clock's table is out of its range
abbrev pub has_wild_gap : Members → Bool
has_wild_gap own = not (is_up_to (nano_limit - 1) (whole_or_zero (codes "gap") own))

-- the offset of a clock is out of its range
abbrev pub has_wild_offset : Members → Members → Bool
has_wild_offset own host = not (is_within (nano_limit - 1) (own_or_host (codes "offset") own host))

-- the gap or the offset of a clock is
abbrev pub has_wild_owner : Members → Members → Bool
has_wild_owner own host = has_wild_gap own || has_wild_offset own host

-- ---- one clock
-- the rate of a clock
abbrev pub rate_of : Members → Members → RateParts
rate_of own host = record { short = own_number (codes "short") own host; long = own_number (codes "long") own host }

-- the clock of this name, by its own table and its host's
abbrev pub clock_by_name : List ℕ → Members → Members → Clock
clock_by_name name own host = record {
  name = name;
  rate = rate_of own host;
  early = own_number (codes "early") own host;
  late = own_number (codes "late") own host;
}

-- whose the clock is: the host's at this place
abbrev pub owner_by : ℕ → Members → Members → Owner
owner_by place own host = record { host = place; gap = number_at (codes "gap") own; offset = own_or_host (codes "offset") own host }

-- the name that a clock's table gives it
abbrev pub name_in : Members → List ℕ
name_in own = text_or_empty (codes "name") own

-- one of these clocks has this name
abbrev pub is_taken : List Clock → List ℕ → Bool
is_taken clocks name = is_some (clock_place clocks name)

-- there is no room for one clock more
abbrev pub have_no_room : List Clock → Bool
have_no_room clocks = nat_le most_clocks (length clocks)

-- what is wrong with a clock's table, behind these clocks
abbrev pub clock_causes : Members → List Clock → Members → List Cause
clock_causes host before own = table_causes form.Clock own
    ++ when (not (is_clock_name (name_in own)) || is_taken before (name_in own)) Name
    ++ when (has_wild_number own host || has_wild_owner own host || have_no_room before) Number

-- ---- the clocks of a host
-- the tables of a host's clocks
abbrev pub clock_tables : Members → Items
clock_tables host = items_or_none (codes "clocks") host

-- the clocks of these tables
abbrev pub table_clocks : Members → Items → List Clock
table_clocks host no_items = []
table_clocks host (item d ds) = clock_by_name (name_in (entry_table d)) (entry_table d) host ∷ table_clocks host ds

-- what is wrong with these tables, behind these clocks
abbrev pub tables_causes : Members → List Clock → Items → List Cause
tables_causes host before no_items = []
tables_causes host before (item d ds) = entry_causes (clock_causes host before) (as_table d)
    ++ tables_causes host (before ++ clock_by_name (name_in (entry_table d)) (entry_table d) host ∷ []) ds

-- whose the clocks of these tables are
abbrev pub table_owners : ℕ → Members → Items → List Owner
table_owners place host no_items = []
table_owners place host (item d ds) = owner_by place (entry_table d) host ∷ table_owners place host ds

-- the clocks of a host: those of its tables, or where there are none one clock of the host's own name and numbers
abbrev pub clocks_by : List ℕ → Members → Items → List Clock
clocks_by name host no_items = clock_by_name name no_members host ∷ []
clocks_by name host (item d ds) = table_clocks host (item d ds)

-- whose they are
abbrev pub owners_by : ℕ → Members → Items → List Owner
owners_by place host no_items = owner_by place no_members host ∷ []
owners_by place host (item d ds) = table_owners place host (item d ds)

-- what is wrong with the clocks of a host, behind these clocks
abbrev pub clocks_causes : List Clock → List ℕ → Members → Items → List Cause
clocks_causes before name host no_items = when (is_taken before name) Name ++ when (have_no_room before) Number
clocks_causes before name host (item d ds) = tables_causes host before (item d ds)

-- ---- clocks by host
-- the place of a host's first clock
abbrev pub first_clock_place : List Owner → ℕ → Option ℕ
first_clock_place owners host = position_from (λ o. o.host == host) 0 owners

-- the clock at this place, if it is the host's
abbrev pub if_owned : List Owner → ℕ → ℕ → Option ℕ
if_owned owners host place = option_and_then (λ o. if o.host == host then Some place else None) (slice_get owners place)

-- the place of the host's clock of this name
abbrev pub own_clock_place : List Clock → List Owner → ℕ → List ℕ → Option ℕ
own_clock_place clocks owners host name = option_and_then (if_owned owners host) (clock_place clocks name)
