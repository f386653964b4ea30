-- What stands at the keys of a table.
use Rattle.std.specs.Prelude.{ℕ, Bool, false, not, ◌&&◌, nat_le, List, [], Option, unwrap_or, option_map, option_and_then, ℤ, pos, int_lt, nat_abs}
use Rattle.toml.specs.Data.{as_bool, as_str, as_integer, as_array, as_table, Items, no_items, Members, no_members, get_member}

-- the whole number at a key, if one is there
abbrev pub whole_at : List ℕ → Members → Option ℤ
whole_at key ms = option_and_then as_integer (get_member key ms)

-- the text at a key, if one is there
abbrev pub text_at : List ℕ → Members → Option (List ℕ)
text_at key ms = option_and_then as_str (get_member key ms)

-- the array at a key, if one is there
abbrev pub array_at : List ℕ → Members → Option Items
array_at key ms = option_and_then as_array (get_member key ms)

-- the table at a key, if one is there
abbrev pub table_at : List ℕ → Members → Option Members
table_at key ms = option_and_then as_table (get_member key ms)

-- the flag at a key; false where none is there
abbrev pub flag_at : List ℕ → Members → Bool
flag_at key ms = unwrap_or (option_and_then as_bool (get_member key ms)) false

-- the whole number at a key, or 0
abbrev pub whole_or_zero : List ℕ → Members → ℤ
whole_or_zero key ms = unwrap_or (whole_at key ms) (pos 0)

-- the text at a key, or the empty one
abbrev pub text_or_empty : List ℕ → Members → List ℕ
text_or_empty key ms = unwrap_or (text_at key ms) []

-- the items of the array at a key, or none
abbrev pub items_or_none : List ℕ → Members → Items
items_or_none key ms = unwrap_or (array_at key ms) no_items

-- the table at a key, or an empty one
abbrev pub table_or_empty : List ℕ → Members → Members
table_or_empty key ms = unwrap_or (table_at key ms) no_members

-- the number is 0 to a limit
abbrev pub is_up_to : ℕ → ℤ → Bool
is_up_to limit z = not (int_lt z (pos 0)) && nat_le (nat_abs z) limit

-- the number is no further from 0 than a limit
abbrev pub is_within : ℕ → ℤ → Bool
is_within limit z = nat_le (nat_abs z) limit

-- the number at a key, without its sign
abbrev pub number_at : List ℕ → Members → ℕ
number_at key ms = nat_abs (whole_or_zero key ms)

-- the same, if one is there
abbrev pub optional_number : List ℕ → Members → Option ℕ
optional_number key ms = option_map nat_abs (whole_at key ms)
