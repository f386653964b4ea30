use Rattle.std.proofs.Common.{ℕ, ◌++◌, drop}
use Rattle.std.specs.List.{flat_map}
use Rattle.ports.proofs.Writing.{Leaves}
use Rattle.problem.specs.Listing.{name_at}
use Rattle.session_answers.specs.Quantities.{ends_at}
use Rattle.replies.specs.AllTimes.{ends_line}
use Rattle.session_answers.specs.TimesTexts.{listed_lines}
use Rattle.session_answers.proofs.times_lines.write_lines.Given as goal

-- the lines of the events from this place on are left behind those of the page
abbrev pub invariant-loop-place : goal.invariant-loop-place
invariant-loop-place g l =
    let names = g.N.Listing.listed l.names in
    Leaves (g.O.Sink.told l.initial.out) (g.O.Sink.told l.out)
    (l.page.items ++ flat_map (λ (e : ℕ × ℕ). ends_line (name_at names.event_names e.0) (ends_at l.quantity e.1)) (drop l.place names.events)) (listed_lines names (ends_at l.quantity))
