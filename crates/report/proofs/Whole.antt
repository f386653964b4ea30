-- A report by its parts.
use Rattle.std.proofs.Common.{◌-◌, ◌≡◌, ◌≤◌, ◌^◌, ℕ, List, length, map, Option, Bool, refl, arith}
use Rattle.std.specs.Prelude.{min, option_map}
use Rattle.problem_model.specs.Limits.{most_events}
use Rattle.decl.specs.Declaration.{Declaration}
use Rattle.traces.specs.Seen.{Seen}
use Rattle.traces.specs.Traces.{Missed, events_of, event_count}
use Rattle.traces.specs.Windows.{grouped}
use Rattle.traces.specs.Messages.{messages_of}
use Rattle.traces.proofs.Ids.{length_events}
use Rattle.msg_match.specs.Ends.{ends_among}
use Rattle.msg_match.specs.Ambiguous.{ambiguous_ends, tallies_of}
use Rattle.report.specs.Alone.{alone_among}
use Rattle.report.specs.declared.view.NoKeys.{NoKeys}
use Rattle.report.specs.declared.view.PassedSums.{PassedSums}
use Rattle.report.specs.Report.{Reported, ReportedDrops, ReportedKey}
use Rattle.report.specs.Reports.{drops_of, named_key, nokeys_of, passed_sums, report_of}

-- a report of these parts
abbrev pub made : Option ℕ → ℕ → ℕ → ℕ → Bool → List ReportedDrops → NoKeys → PassedSums → List ReportedKey → Reported
made alone events messages unmatched consistent dropped nokeys passed groups =
    record { alone = alone; events = events; messages = messages; unmatched = unmatched; consistent = consistent; dropped = dropped; nokeys = nokeys; passed = passed; groups = groups }

-- is that of all events
pub made_is : (d : Declaration) (seen : List (List Seen)) (labels : List Missed) (consistent : Bool) (a : Option ℕ) (n m u : ℕ) (dropped : List ReportedDrops) (nokeys : NoKeys) (passed : PassedSums) (groups : List ReportedKey)
    → a ≡ option_map (λ window. alone_among (ends_among (grouped (events_of seen)))) d.window → n ≡ length (events_of seen) → m ≡ length (messages_of (events_of seen)) → u ≡ (tallies_of (ends_among (grouped (events_of seen)))).unmatched
    → dropped ≡ drops_of d.labels labels → nokeys ≡ nokeys_of (events_of seen) → passed ≡ passed_sums labels → groups ≡ map (named_key d) (ambiguous_ends (ends_among (grouped (events_of seen))))
    → made a n m u consistent dropped nokeys passed groups ≡ report_of d seen labels consistent
made_is d seen labels consistent a n m u dropped nokeys passed groups ea en em eu ed ek ep eg = rw (ea, en, em, eu, ed, ek, ep, eg) refl

-- the count is that of all events, where there are not too many
pub counted : (seen : List (List Seen)) (n : ℕ) → n ≡ min (event_count seen) (2 ^ 64 - 1) → event_count seen ≤ most_events → n ≡ length (events_of seen)
counted seen n is few = grind (arith, is, few, length_events seen)
