-- The keys of the tables of a declaration, and the shapes of their values.
use Rattle.std.specs.Prelude.{ℕ, Bool, true, false, not, ◌&&◌, ◌||◌, is_none, is_some, List, [], ◌∷◌, ◌++◌, Option, Some, None, unwrap_or, codes}
use Rattle.std.specs.Map.{lookup}
use Rattle.std.specs.Str.{bytes_eq}
use Rattle.toml.specs.Data.{Data, as_bool, as_str, as_integer, as_array, as_table, Items, no_items, item, Members, no_members, member, get_member}
use Rattle.decl.specs.Causes.{when}
use Rattle.decl.specs.declared.cause.Cause.{Cause}
use Rattle.decl.specs.declared.cause.Cause.TheVariants as cause
use Rattle.decl.specs.declared.keys.Form.{Form}
use Rattle.decl.specs.declared.keys.Form.TheVariants.{Document, Host, Clock, Label, Link}
use Rattle.decl.specs.declared.keys.Shape.{Shape}
use Rattle.decl.specs.declared.keys.Shape.TheVariants.{Whole, Text, Texts, Array, Table, Flag}

-- the keys that a table of each form may have, with what their values have to be
abbrev pub shapes : Form → List (List ℕ × Shape)
shapes Document = (codes "hosts", Table) ∷ (codes "labels", Table) ∷ (codes "links", Array) ∷ (codes "payload_bytes", Whole) ∷ (codes "source", Text) ∷ (codes "tcp_options", Flag) ∷ (codes "fragments", Flag) ∷ (codes "window", Whole) ∷ []
shapes Host = (codes "short", Whole) ∷ (codes "long", Whole) ∷ (codes "early", Whole) ∷ (codes "late", Whole) ∷ (codes "offset", Whole) ∷ (codes "addresses", Texts) ∷ (codes "addresses6", Texts) ∷ (codes "clocks", Array) ∷ []
shapes Clock = (codes "name", Text) ∷ (codes "short", Whole) ∷ (codes "long", Whole) ∷ (codes "early", Whole) ∷ (codes "late", Whole) ∷ (codes "gap", Whole) ∷ (codes "offset", Whole) ∷ []
shapes Label = (codes "host", Text) ∷ (codes "kind", Text) ∷ (codes "clock", Text) ∷ (codes "segment", Text) ∷ (codes "early", Whole) ∷ (codes "late", Whole) ∷ (codes "interface", Whole) ∷ (codes "addresses", Texts) ∷ (codes "addresses6", Texts) ∷ (codes "beyond", Texts) ∷ (codes "beyond6", Texts) ∷ []
shapes Link = (codes "from", Text) ∷ (codes "to", Text) ∷ (codes "least", Whole) ∷ (codes "most", Whole) ∷ []

-- what the value of a key has to be; None for another key
abbrev pub shape_of : Form → List ℕ → Option Shape
shape_of form key = lookup (bytes_eq key) (shapes form)

-- each item is a text
abbrev pub are_texts : Items → Bool
are_texts no_items = true
are_texts (item d ds) = is_some (as_str d) && are_texts ds

-- an array of texts
abbrev pub is_text_array : Option Items → Bool
is_text_array None = false
is_text_array (Some ds) = are_texts ds

-- the value is what it has to be
abbrev pub has_shape : Shape → Data → Bool
has_shape Whole d = is_some (as_integer d)
has_shape Text d = is_some (as_str d)
has_shape Texts d = is_text_array (as_array d)
has_shape Array d = is_some (as_array d)
has_shape Table d = is_some (as_table d)
has_shape Flag d = is_some (as_bool d)

-- a key that the form knows has another value than it has to have
abbrev pub misfits : Option Shape → Data → Bool
misfits None d = false
misfits (Some shape) d = not (has_shape shape d)

-- some key is another one
abbrev pub has_other_key : Form → Members → Bool
has_other_key form no_members = false
has_other_key form (member key d ms) = is_none (shape_of form key) || has_other_key form ms

-- some value has another shape
abbrev pub has_other_shape : Form → Members → Bool
has_other_shape form no_members = false
has_other_shape form (member key d ms) = misfits (shape_of form key) d || has_other_shape form ms

-- the key is not there
abbrev pub lacks_one : List ℕ → Members → Bool
lacks_one key ms = is_none (get_member key ms)

-- a key that the form wants is not there
abbrev pub lacks_key : Form → Members → Bool
lacks_key Document ms = false
lacks_key Host ms = false
lacks_key Clock ms = lacks_one (codes "name") ms
lacks_key Label ms = lacks_one (codes "host") ms || lacks_one (codes "kind") ms
lacks_key Link ms = lacks_one (codes "from") ms || lacks_one (codes "to") ms

-- what is wrong with the keys of a table, and then with their values' shapes
abbrev pub table_causes : Form → Members → List Cause
table_causes form ms = when (has_other_key form ms || lacks_key form ms) cause.Key ++ when (has_other_shape form ms) cause.Shape

-- what is wrong with an entry: that it is no table, or what is wrong with its table
abbrev pub entry_causes : (Members → List Cause) → Option Members → List Cause
entry_causes causes None = cause.Shape ∷ []
entry_causes causes (Some ms) = causes ms

-- the table of an entry; none counts as an empty one
abbrev pub entry_table : Data → Members
entry_table d = unwrap_or (as_table d) no_members
