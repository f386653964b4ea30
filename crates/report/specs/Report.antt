-- What is reported, as data of JSON (RFC 8259), and its line. An object's keys stand in byte order. A key of a message may
-- have a quotation mark or a backslash in it: how JSON escapes it is a matter of `compact_text`.
use Rattle.std.specs.Prelude.{ℕ, Bool, cond, ◌==◌, ◌&&◌, List, [], ◌∷◌, ◌++◌, map, codes, Option, Some, None}
use Rattle.std.specs.Str.{IsAscii}
use Rattle.serde_json.specs.Data.{Data, Members, boolean, number, unsigned, string, array, object, member, no_members}
use Rattle.serde_json.specs.View.{items_of}
use Rattle.serde_json.specs.Written.{compact_text}
use Rattle.captures.specs.Capture.{Dropped}
use Rattle.report.specs.declared.view.LabelDrops.{LabelDrops}
use Rattle.report.specs.declared.view.NoKeys.{NoKeys}
use Rattle.report.specs.declared.view.NamedGroup.{NamedGroup}
use Rattle.report.specs.declared.view.PassedSums.{PassedSums}
use Rattle.report.specs.declared.view.View.{View}

-- an ambiguous key: its text, and the names of its events
pub record ReportedKey : Type 0 where
  pub key : List ℕ
  pub sends : List (List ℕ)
  pub receives : List (List ℕ)

-- a label under which packets were dropped before they were captured, and how many
pub record ReportedDrops : Type 0 where
  pub label : List ℕ
  pub dropped : Dropped

-- all that is reported; keys that stand alone are counted where a window is declared
pub record Reported : Type 0 where
  pub alone : Option ℕ
  pub events : ℕ
  pub messages : ℕ
  pub unmatched : ℕ
  pub consistent : Bool
  pub dropped : List ReportedDrops
  pub nokeys : NoKeys
  pub passed : PassedSums
  pub groups : List ReportedKey

-- a number
abbrev pub count : ℕ → Data
count n = number (unsigned n)

-- an array of texts
abbrev pub texts : List (List ℕ) → Data
texts ts = array (items_of (map string ts))

-- an ambiguous key, with the names of its events
abbrev pub group_data : ReportedKey → Data
group_data g = object (
    member (codes "key") (string g.key) (
    member (codes "receives") (texts g.receives) (
    member (codes "sends") (texts g.sends)
    no_members)))

-- all of them, in their order
abbrev pub groups_data : List ReportedKey → Data
groups_data gs = array (items_of (map group_data gs))

-- how many are of another interface, if any are, before these
abbrev pub with_interface : ℕ → Members → Members
with_interface n more = cond (n == 0) more (member (codes "interface") (count n) more)

-- how many events have no key, by reason
abbrev pub nokey_data : NoKeys → Data
nokey_data n = object (
    member (codes "fragment") (count n.fragment) (
    member (codes "header") (count n.header) (
    with_interface n.interface (
    member (codes "length") (count n.length) (
    member (codes "link") (count n.link) (
    member (codes "local") (count n.local) (
    member (codes "other") (count n.other) (
    member (codes "short") (count n.short) (
    member (codes "side") (count n.side)
    no_members)))))))))

-- how many packets were dropped under a label, by where
abbrev pub drops_data : ReportedDrops → Data
drops_data d = object (
    member (codes "interface") (count d.dropped.interface) (
    member (codes "label") (string d.label) (
    member (codes "system") (count d.dropped.system)
    no_members)))

-- the same for each of these labels
abbrev pub dropped_data : List ReportedDrops → Data
dropped_data ds = array (items_of (map drops_data ds))

-- their member and more members; where there are none, these alone
abbrev pub with_dropped : List ReportedDrops → Members → Members
with_dropped [] more = more
with_dropped (d ∷ ds) more = member (codes "dropped") (dropped_data (d ∷ ds)) more

-- how many packets were passed over, by cause
abbrev pub passed_data : PassedSums → Data
passed_data p = object (
    member (codes "obsolete") (count p.obsolete) (
    member (codes "other") (count p.other) (
    member (codes "simple") (count p.simple)
    no_members)))

-- whether none were
abbrev pub passes_none : PassedSums → Bool
passes_none p = (p.obsolete == 0) && (p.other == 0) && (p.simple == 0)

-- their member and more members; where none were passed over, these alone
abbrev pub with_passed : PassedSums → Members → Members
with_passed p more = cond (passes_none p) more (member (codes "passed") (passed_data p) more)

-- a count and more members; where nothing is counted, these alone
abbrev pub with_alone : Option ℕ → Members → Members
with_alone None more = more
with_alone (Some n) more = member (codes "alone") (count n) more

-- the members of a report, its keys in the order of their bytes
abbrev pub report_members : Reported → Members
report_members v =
    with_alone v.alone (
    member (codes "ambiguous") (groups_data v.groups) (
    member (codes "consistent") (boolean v.consistent) (
    with_dropped v.dropped (
    member (codes "events") (count v.events) (
    member (codes "messages") (count v.messages) (
    member (codes "nokey") (nokey_data v.nokeys) (
    with_passed v.passed (
    member (codes "unmatched") (count v.unmatched)
    no_members))))))))

-- the whole report
abbrev pub report_data : Reported → Data
report_data v = object (report_members v)

-- its text, without spaces, and a line feed
abbrev pub report_line : Reported → List ℕ
report_line v = compact_text (report_data v) ++ 10 ∷ []

-- ---- the code's view
-- a key with its events
abbrev pub reported_key : NamedGroup → ReportedKey
reported_key g = record { key = g.key.items; sends = g.sends.items; receives = g.receives.items }

-- a label with its packets that were dropped
abbrev pub reported_drops : LabelDrops → ReportedDrops
reported_drops d = record { label = d.label; dropped = d.dropped }

-- all of it
abbrev pub reported : View → Reported
reported v = record {
  alone = v.alone;
  events = v.events;
  messages = v.messages;
  unmatched = v.unmatched;
  consistent = v.consistent;
  dropped = map reported_drops v.dropped.items;
  nokeys = v.nokeys;
  passed = v.passed;
  groups = map reported_key v.groups.items;
}

-- the text of the key is ASCII
abbrev pub HasAsciiKey : NamedGroup → Type 0
HasAsciiKey g = IsAscii g.key.items
