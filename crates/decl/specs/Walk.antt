-- What a document declares, and its first fault.
use Rattle.std.specs.Prelude.{◌≡◌, ℕ, ◌-◌, nat_lt, Bool, false, not, ◌&&◌, ◌||◌, ◌==◌, if◌then◌else◌, List, [], ◌∷◌, ◌++◌, length, codes, slice_get, Option, Some, None, option_and_then, option_map}
use Rattle.std.specs.Str.{is_utf8}
use Rattle.problem_model.specs.declared.items.Clock.{Clock}
use Rattle.toml.specs.Data.{Items, Members}
use Rattle.toml.specs.Parse.{parse_document}
use Rattle.decl.specs.Addresses.{none_known}
use Rattle.decl.specs.Causes.{when, at, fault_of_entry, IsFirstOf}
use Rattle.decl.specs.Declaration.{Declaration}
use Rattle.decl.specs.Hosts.{hosts_of, clocks_of, owners_from, host_lists, addresses_from, addresses6_from, hosts_faults}
use Rattle.decl.specs.Keys.{table_causes}
use Rattle.decl.specs.Labels.{label_subnets, labels_of, labels_faults}
use Rattle.decl.specs.Limits.{most_document_bytes, most_payload, nano_limit}
use Rattle.decl.specs.Links.{links_of, links_faults}
use Rattle.decl.specs.Places.{clock_place}
use Rattle.decl.specs.Values.{flag_at, whole_or_zero, number_at, optional_number, is_up_to, text_at, table_or_empty, items_or_none}
use Rattle.decl.specs.declared.cause.Cause.{Cause}
use Rattle.decl.specs.declared.cause.Cause.TheVariants.{Document, Number, Source, Size}
use Rattle.decl.specs.declared.errors.DeclError.{DeclError}
use Rattle.decl.specs.declared.errors.Section.TheVariants.{Top}
use Rattle.decl.specs.declared.keys.Form.TheVariants as form

-- the table of a document's hosts
abbrev pub hosts_in : Members → Members
hosts_in ms = table_or_empty (codes "hosts") ms

-- the table of its labels
abbrev pub labels_in : Members → Members
labels_in ms = table_or_empty (codes "labels") ms

-- its array of links
abbrev pub links_in : Members → Items
links_in ms = items_or_none (codes "links") ms

-- the clock is there, and never short or long
abbrev pub shows_true : Option Clock → Bool
shows_true None = false
shows_true (Some c) = c.rate.short == 0 && c.rate.long == 0

-- the place is that of a clock that shows true time
abbrev pub is_true_at : List Clock → Option ℕ → Bool
is_true_at clocks None = false
is_true_at clocks (Some place) = shows_true (slice_get clocks place)

-- what is wrong with the source, if one is named
abbrev pub source_causes : List Clock → Option (List ℕ) → List Cause
source_causes clocks None = []
source_causes clocks (Some name) = when (not (is_true_at clocks (clock_place clocks name))) Source

-- some number at the document's own keys is out of its range
abbrev pub has_wild_top : Members → Bool
has_wild_top ms = not (is_up_to most_payload (whole_or_zero (codes "payload_bytes") ms)) || not (is_up_to (nano_limit - 1) (whole_or_zero (codes "window") ms))

-- what is wrong with the document's own keys
abbrev pub top_causes : Members → List Cause
top_causes ms = table_causes form.Document ms ++ when (has_wild_top ms) Number

-- all that is wrong with a document, in the order in which it is looked through
abbrev pub faults : Members → List DeclError
faults ms = at Top 0 (top_causes ms)
    ++ (hosts_faults 1 none_known [] (hosts_in ms)
    ++ (labels_faults (host_lists (hosts_in ms)) 1 (labels_in ms)
    ++ (links_faults (hosts_of (hosts_in ms)) 1 [] (links_in ms)
    ++ at Top 0 (source_causes (clocks_of (hosts_in ms)) (text_at (codes "source") ms)))))

-- what a document declares
abbrev pub declared : Members → Declaration
declared ms = record {
  hosts = hosts_of (hosts_in ms);
  clocks = clocks_of (hosts_in ms);
  owners = owners_from 0 (hosts_in ms);
  addresses = addresses_from 0 (hosts_in ms);
  addresses6 = addresses6_from 0 (hosts_in ms);
  labels = labels_of (host_lists (hosts_in ms)) 0 (labels_in ms);
  subnets = label_subnets (labels_in ms);
  links = links_of (hosts_of (hosts_in ms)) (links_in ms);
  payload_bytes = number_at (codes "payload_bytes") ms;
  tcp_options = flag_at (codes "tcp_options") ms;
  fragments = flag_at (codes "fragments") ms;
  window = optional_number (codes "window") ms;
  source = option_and_then (clock_place (clocks_of (hosts_in ms))) (text_at (codes "source") ms);
}

-- the document in these bytes, as `toml` reads it, if they are one
abbrev pub document_of : List ℕ → Option Members
document_of bytes = if is_utf8 bytes then parse_document bytes else None

-- all that is wrong with what was read
abbrev pub faults_read : Option Members → List DeclError
faults_read None = fault_of_entry Top 0 Document ∷ []
faults_read (Some document) = faults document

-- all that is wrong with bytes: they are too many, or no document, or one with these faults
abbrev pub faults_in : List ℕ → List DeclError
faults_in bytes = if nat_lt most_document_bytes (length bytes) then fault_of_entry Top 0 Size ∷ [] else faults_read (document_of bytes)

-- the bytes are a document without a fault, which declares this
abbrev pub IsDocumentOf : List ℕ → Declaration → Type 0
IsDocumentOf bytes d = (faults_in bytes ≡ []) × (option_map declared (document_of bytes) ≡ Some d)

-- the first fault of bytes; of want of memory nothing is said
abbrev pub IsFirstFault : List ℕ → DeclError → Type 0
IsFirstFault bytes e = IsFirstOf (faults_in bytes) e
