-- What is wrong with labels, and what they declare.
use Rattle.std.specs.Prelude.{ℕ, ◌+◌, ◌-◌, Bool, true, false, not, ◌&&◌, ◌||◌, if◌then◌else◌, is_none, List, [], ◌∷◌, ◌++◌, length, codes, Option, Some, None, unwrap_or, option_map, option_and_then}
use Rattle.std.specs.Str.{bytes_eq}
use Rattle.toml.specs.Data.{as_table, Members, no_members, member}
use Rattle.decl.specs.Causes.{when, at}
use Rattle.decl.specs.Clocks.{first_clock_place, own_clock_place}
use Rattle.decl.specs.Hosts.{HostLists, is_one_too_many}
use Rattle.decl.specs.Limits.{most_interface, nano_limit}
use Rattle.decl.specs.Subnets.{given_in, has_many_subnets, subnet_causes, subnets_in}
use Rattle.decl.specs.Keys.{table_causes, entry_causes, entry_table, lacks_one}
use Rattle.decl.specs.Names.{is_clock_name}
use Rattle.decl.specs.Places.{host_place}
use Rattle.decl.specs.Values.{is_up_to, optional_number, text_at, text_or_empty, whole_or_zero}
use Rattle.decl.specs.declared.cause.Cause.{Cause}
use Rattle.decl.specs.declared.cause.Cause.TheVariants.{Key, Name, Number}
use Rattle.decl.specs.declared.errors.DeclError.{DeclError}
use Rattle.decl.specs.declared.errors.Section.TheVariants.{Labels}
use Rattle.decl.specs.declared.items.Label.{Label}
use Rattle.decl.specs.declared.items.Subnet.{Subnet}
use Rattle.decl.specs.declared.items.TraceKind.{TraceKind}
use Rattle.decl.specs.declared.items.TraceKind.TheVariants.{Capture, Log}
use Rattle.decl.specs.declared.keys.Form.TheVariants as form

-- the kind of trace of a word
abbrev pub trace_kind_of : List ℕ → Option TraceKind
trace_kind_of word = if bytes_eq word (codes "capture") then Some Capture else if bytes_eq word (codes "log") then Some Log else None

-- the place of the host that an entry names at a key
abbrev pub host_at_key : List (List ℕ) → List ℕ → Members → Option ℕ
host_at_key hosts key ms = host_place hosts (text_or_empty key ms)

-- the kind of trace of a label
abbrev pub trace_kind_at : Members → Option TraceKind
trace_kind_at ms = trace_kind_of (text_or_empty (codes "kind") ms)

-- the place of the clock that the label names, which must be this host's; where it names none, of the host's first clock
abbrev pub clock_at_key : HostLists → ℕ → Members → Option ℕ
clock_at_key hosts host ms = elim (text_at (codes "clock") ms) [ None ↦ first_clock_place hosts.owners host | Some name ↦ own_clock_place hosts.clocks hosts.owners host name ]

-- the places of a label's host and of its clock
abbrev pub places_at : HostLists → Members → Option (ℕ × ℕ)
places_at hosts ms = option_and_then (λ host. option_map (λ clock. (host, clock)) (clock_at_key hosts host ms)) (host_at_key hosts.names (codes "host") ms)

-- a segment is named, and the name is misspelled
abbrev pub is_no_segment : Option (List ℕ) → Bool
is_no_segment None = false
is_no_segment (Some name) = not (is_clock_name name)

-- the label's name or that of its segment is misspelled, its host or its kind is unknown, or it names no clock of its host
abbrev pub is_misnamed : HostLists → List ℕ → Members → Bool
is_misnamed hosts name ms = not (is_clock_name name) || is_none (places_at hosts ms) || is_none (trace_kind_at ms) || is_no_segment (text_at (codes "segment") ms)

-- a trace of this kind is a log
abbrev pub is_log : Option TraceKind → Bool
is_log None = false
is_log (Some Capture) = false
is_log (Some Log) = true

-- the label says what a capture alone has
abbrev pub speaks_of_packets : Members → Bool
speaks_of_packets ms = not (lacks_one (codes "interface") ms && lacks_one (codes "addresses") ms && lacks_one (codes "addresses6") ms && lacks_one (codes "beyond") ms && lacks_one (codes "beyond6") ms)

-- the number of the interface is out of its range
abbrev pub has_wild_interface : Members → Bool
has_wild_interface ms = not (is_up_to most_interface (whole_or_zero (codes "interface") ms))

-- a bound of the trace's own stamps is out of its range
abbrev pub has_wild_bound : Members → Bool
has_wild_bound ms = not (is_up_to (nano_limit - 1) (whole_or_zero (codes "early") ms)) || not (is_up_to (nano_limit - 1) (whole_or_zero (codes "late") ms))

-- what is wrong with the table of a label, beside its subnets
abbrev pub said_causes : HostLists → ℕ → List ℕ → Members → List Cause
said_causes hosts index name ms = table_causes form.Label ms ++ when (is_misnamed hosts name ms) Name ++ when (is_log (trace_kind_at ms) && speaks_of_packets ms) Key
    ++ when (is_one_too_many index || has_wild_interface ms || has_many_subnets ms || has_wild_bound ms) Number

-- what is wrong with the table of a label
abbrev pub label_causes : HostLists → ℕ → List ℕ → Members → List Cause
label_causes hosts index name ms = said_causes hosts index name ms ++ subnet_causes [] (given_in ms)

-- the label of a table, before which labels give so many subnets
abbrev pub label_of : HostLists → ℕ → List ℕ → Members → Label
label_of hosts before name ms = record {
  name = name;
  host = (unwrap_or (places_at hosts ms) (0, 0)).0;
  clock = (unwrap_or (places_at hosts ms) (0, 0)).1;
  kind = unwrap_or (trace_kind_at ms) Capture;
  interface = optional_number (codes "interface") ms;
  segment = text_at (codes "segment") ms;
  early = optional_number (codes "early") ms;
  late = optional_number (codes "late") ms;
  first_subnet = before;
  subnet_count = length (subnets_in ms);
}

-- what is wrong with labels from an index on
abbrev pub labels_faults : HostLists → ℕ → Members → List DeclError
labels_faults hosts index no_members = []
labels_faults hosts index (member name d ms) = at Labels index (entry_causes (label_causes hosts index name) (as_table d)) ++ labels_faults hosts (index + 1) ms

-- the labels of these entries, before which labels give so many subnets
abbrev pub labels_of : HostLists → ℕ → Members → List Label
labels_of hosts before no_members = []
labels_of hosts before (member name d ms) = label_of hosts before name (entry_table d) ∷ labels_of hosts (before + length (subnets_in (entry_table d))) ms

-- the subnets that these entries give
abbrev pub label_subnets : Members → List Subnet
label_subnets no_members = []
label_subnets (member name d ms) = subnets_in (entry_table d) ++ label_subnets ms
