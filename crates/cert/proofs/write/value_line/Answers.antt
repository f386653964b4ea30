use Rattle.std.proofs.Common.{◌≡◌, ◌∙◌, ◌+◌, ◌-◌, ℕ, length, ap, arith}
use Rattle.std.proofs.lemmas.Int.{to_z-of_z}
use mir.Syntax.{w128}
use mir.Val.{SFits}
use Rattle.cert.specs.Listed.{timed_line, words_at}
use Rattle.cert.proofs.write.value_line.Goals as goal

pub returns-then-place-events : goal.returns-then-place-events
returns-then-place-events g c =
    let fits : SFits w128 c.args.value = c.ranges.value in
    simp to_z-of_z at c.event_line.ensures

pub returns-else-place-events : goal.returns-else-place-events
returns-else-place-events g c =
    let l = g.N.Listing.listed c.args.names.now in
    let fits : SFits w128 c.args.value = c.ranges.value in
    let m = c.args.place - c.event_count-events.result in
    let place : length l.events + m ≡ c.args.place = omega (arith, c.if-place-events.false, c.event_count-events.ensures) in
    (simp to_z-of_z at c.reading_line.ensures) ∙ ap (λ (k : ℕ). timed_line (words_at l k, c.args.value)) place
