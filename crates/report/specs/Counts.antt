-- That the counts of a report make up its events.
use Rattle.std.specs.Prelude.{◌≡◌, ℕ, ◌+◌, ◌*◌, length, sum_by}
use Rattle.report.specs.declared.view.NoKeys.{NoKeys}
use Rattle.report.specs.Report.{Reported, ReportedKey}

-- how many events are listed with a key
abbrev pub listed_with_key : ReportedKey → ℕ
listed_with_key g = length g.sends + length g.receives

-- how many events have no key, whatever the reason
abbrev pub all_without : NoKeys → ℕ
all_without n = n.link + n.other + n.short + n.header + n.fragment + n.length + n.side + n.local + n.interface

-- each event is an end of a message, unmatched, listed with a key, or without one
abbrev pub AddUp : Reported → Type 0
AddUp r = r.events ≡ 2 * r.messages + r.unmatched + sum_by listed_with_key r.groups + all_without r.nokeys
