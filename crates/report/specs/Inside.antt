-- What the parts of a report promise each other.
use Rattle.std.specs.Prelude.{ℕ, ◌+◌, ◌*◌, ◌^◌, ◌<◌, ◌≤◌, List, [], ◌∷◌, length, map, count_by, cond, ◌==◌, codes, All, Option, Some, None}
use Rattle.captures.specs.Capture.{Passed}
use Rattle.serde_json.specs.Data.{Members, boolean, member, no_members, put}
use Rattle.decl.specs.Declaration.{Declaration}
use Rattle.traces.specs.declared.event.NoKey.{NoKey}
use Rattle.traces.specs.Seen.{Seen, key_of}
use Rattle.traces.specs.declared.event_id.EventId.{EventId}
use Rattle.roster.specs.Roster.{RosterLists, id_of}
use Rattle.msg_match.specs.Ambiguous.{EndGroup}
use Rattle.report.specs.declared.ambiguous.Ambiguous.{Ambiguous}
use Rattle.report.specs.declared.view.NoKeys.{NoKeys}
use Rattle.report.specs.declared.view.PassedSums.{PassedSums}
use Rattle.report.specs.Report.{Reported, ReportedDrops, count, dropped_data, groups_data, nokey_data, passed_data, passes_none}
use Rattle.report.specs.Reports.{has_no_key_for}

-- the names of all events, as they came
abbrev pub ids_in : RosterLists → List EventId
ids_in r = map id_of r.came

-- an ambiguous key, by what is seen of it
abbrev pub seen_ambiguous : Ambiguous → EndGroup
seen_ambiguous a = record { key = key_of a.key.now; sends = a.sends.items; receives = a.receives.items }

-- the same, behind the first of its events
abbrev pub led : Ambiguous → EventId × EndGroup
led a = (a.first, seen_ambiguous a)

-- each of these events has a label of the declaration
abbrev pub AreLabelled : Declaration → List EventId → Type 0
AreLabelled d ids = All (λ (id : EventId). id.label < length d.labels) ids

-- so has each event of a key
abbrev pub HasLabels : Declaration → EndGroup → Type 0
HasLabels d g = AreLabelled d g.sends × AreLabelled d g.receives

-- how many events of a label have no key for this reason
abbrev pub lacking : NoKey → List Seen → ℕ
lacking reason seen = count_by (λ (s : Seen). has_no_key_for reason s.mark) seen

-- these and those of one label more
abbrev pub sums_with : PassedSums → Passed → PassedSums
sums_with s p = record { simple = s.simple + p.simple; obsolete = s.obsolete + p.obsolete; other = s.other + p.other }

-- there are no more by any cause than under so many labels, each with fewer than 2^32
pub record AreOfLabels (labels : ℕ) (s : PassedSums) : Type 0 where
  pub simple : s.simple ≤ labels * 2 ^ 32
  pub obsolete : s.obsolete ≤ labels * 2 ^ 32
  pub other : s.other ≤ labels * 2 ^ 32

-- ---- the members of what has no key
-- those that it always has
abbrev pub nokey_members : NoKeys → Members
nokey_members n =
    member (codes "fragment") (count n.fragment) (
    member (codes "header") (count n.header) (
    member (codes "length") (count n.length) (
    member (codes "link") (count n.link) (
    member (codes "local") (count n.local) (
    member (codes "other") (count n.other) (
    member (codes "short") (count n.short) (
    member (codes "side") (count n.side)
    no_members)))))))

-- these with the packets of another interface, if there are any
abbrev pub put_interface : ℕ → Members → Members
put_interface n members = cond (n == 0) members (put (codes "interface") (count n) members)

-- ---- the members of a report
-- those that every report has
abbrev pub all_members : Reported → Members
all_members v =
    member (codes "ambiguous") (groups_data v.groups) (
    member (codes "consistent") (boolean v.consistent) (
    member (codes "events") (count v.events) (
    member (codes "messages") (count v.messages) (
    member (codes "nokey") (nokey_data v.nokeys) (
    member (codes "unmatched") (count v.unmatched)
    no_members)))))

-- these with a count of keys, where there is one
abbrev pub put_alone : Option ℕ → Members → Members
put_alone None members = members
put_alone (Some n) members = put (codes "alone") (count n) members

-- these with the labels under which packets were dropped, if there are any
abbrev pub put_dropped : List ReportedDrops → Members → Members
put_dropped [] members = members
put_dropped (d ∷ ds) members = put (codes "dropped") (dropped_data (d ∷ ds)) members

-- these with the packets that were passed over, if there are any
abbrev pub put_passed : PassedSums → Members → Members
put_passed p members = cond (passes_none p) members (put (codes "passed") (passed_data p) members)
