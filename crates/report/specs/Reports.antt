-- What is reported of the events of all labels, and of the packets that have none.
use Rattle.std.specs.Prelude.{ℕ, List, [], ◌∷◌, ◌++◌, length, map, count_by, sum_by, option_map, Bool, true, false, cond, ◌==◌, ◌&&◌}
use Rattle.captures.specs.Capture.{Dropped}
use Rattle.decl.specs.declared.items.Label.{Label}
use Rattle.decl.specs.Declaration.{Declaration}
use Rattle.traces.specs.declared.event.NoKey.{NoKey}
use Rattle.traces.specs.declared.event.NoKey.TheVariants as without
use Rattle.traces.specs.Seen.{SeenMark, Keyed, Unkeyed, Seen}
use Rattle.traces.specs.Traces.{Missed, Placed, events_of, name_of}
use Rattle.traces.specs.Windows.{grouped}
use Rattle.traces.specs.Messages.{messages_of}
use Rattle.msg_match.specs.Ends.{ends_among}
use Rattle.msg_match.specs.Ambiguous.{EndGroup, ambiguous_ends, tallies_of}
use Rattle.report.specs.Alone.{alone_among}
use Rattle.report.specs.declared.view.NoKeys.{NoKeys}
use Rattle.report.specs.declared.view.PassedSums.{PassedSums}
use Rattle.report.specs.Report.{Reported, ReportedDrops, ReportedKey, report_line}
use Rattle.report.specs.KeyTexts.{key_text}

-- ---- events with keys
-- a key by its text, and the names of its events
abbrev pub named_key : Declaration → EndGroup → ReportedKey
named_key d g = record { key = key_text g.key.message; sends = map (name_of d) g.sends; receives = map (name_of d) g.receives }

-- ---- events without keys
-- whether it is the same reason
abbrev pub is_reason : NoKey → NoKey → Bool
is_reason without.Link without.Link = true
is_reason without.Other without.Other = true
is_reason without.Short without.Short = true
is_reason without.Header without.Header = true
is_reason without.Fragment without.Fragment = true
is_reason without.Length without.Length = true
is_reason without.Side without.Side = true
is_reason without.Local without.Local = true
is_reason without.Interface without.Interface = true
is_reason _ _ = false

-- whether an event with this mark has no key, for this reason
abbrev pub has_no_key_for : NoKey → SeenMark → Bool
has_no_key_for reason (Keyed key side) = false
has_no_key_for reason (Unkeyed other) = is_reason reason other

-- how many events have no key for this reason
abbrev pub count_without : List Placed → NoKey → ℕ
count_without events reason = count_by (λ (e : Placed). has_no_key_for reason e.seen.mark) events

-- the same for each reason
abbrev pub nokeys_of : List Placed → NoKeys
nokeys_of events = record {
  link = count_without events without.Link;
  other = count_without events without.Other;
  short = count_without events without.Short;
  header = count_without events without.Header;
  fragment = count_without events without.Fragment;
  length = count_without events without.Length;
  side = count_without events without.Side;
  local = count_without events without.Local;
  interface = count_without events without.Interface;
}

-- ---- packets that were passed over
-- how many there are by cause, by how many there are under each label
abbrev pub passed_sums : List Missed → PassedSums
passed_sums labels = record {
  simple = sum_by (λ (m : Missed). m.passed.simple) labels;
  obsolete = sum_by (λ (m : Missed). m.passed.obsolete) labels;
  other = sum_by (λ (m : Missed). m.passed.other) labels;
}

-- ---- packets that were dropped
-- none were
abbrev pub drops_none : Dropped → Bool
drops_none d = d.interface == 0 && d.system == 0

-- a label, if packets were dropped under it
abbrev pub drops_under : Label → Dropped → List ReportedDrops
drops_under label d = cond (drops_none d) [] (record { label = label.name; dropped = d } ∷ [])

-- the labels under which packets were dropped, by how many there are under each
abbrev pub drops_of : List Label → List Missed → List ReportedDrops
drops_of [] missed = []
drops_of (label ∷ labels) [] = []
drops_of (label ∷ labels) (m ∷ missed) = drops_under label m.dropped ++ drops_of labels missed

-- ---- the report
-- what is reported of the events of all labels and of the packets under each that have none, by whether the problem has an
-- execution; the ambiguous keys, one for each group of events where a window is declared, stand in the order of their first
-- events, and the events of each in theirs
abbrev pub report_of : Declaration → List (List Seen) → List Missed → Bool → Reported
report_of d seen missed consistent =
    let events = events_of seen in
    let ends = ends_among (grouped events) in
    record {
      alone = option_map (λ window. alone_among ends) d.window;
      events = length events;
      messages = length (messages_of events);
      unmatched = (tallies_of ends).unmatched;
      consistent = consistent;
      dropped = drops_of d.labels missed;
      nokeys = nokeys_of events;
      passed = passed_sums missed;
      groups = map (named_key d) (ambiguous_ends ends);
    }

-- its line
abbrev pub report_text : Declaration → List (List Seen) → List Missed → Bool → List ℕ
report_text d seen missed consistent = report_line (report_of d seen missed consistent)
