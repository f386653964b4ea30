use Rattle.std.proofs.Common.{◌≡◌, ◌∷◌, [], ◌++◌, ◌∙◌, sym, ap, ℕ, List, map}
use Rattle.std.specs.Prelude.{codes}
use Rattle.std.proofs.lemmas.Int.{to_z-of_z}
use mir.Syntax.{w128}
use mir.Val.{SFits}
use Rattle.cert.specs.Listed.{name_at, timed_line, words_at, listed_event, listed_reading}
use Rattle.cert.proofs.Lines.{found_in_front}
use Rattle.cert.proofs.write.event_line.Goals as goal

pub returns : goal.returns
returns g c =
    let l = g.N.Listing.listed c.args.names.now in
    let event : ℕ × ℕ = c.event_at-event.result in
    let fits : SFits w128 c.args.value = c.ranges.value in
    let listed : words_at l c.args.place ≡ listed_event l event =
    found_in_front {A = ℕ × ℕ} {B = List (List ℕ)} (listed_event l) l.events (map (listed_reading l) l.readings) c.args.place event [] c.event_at-event.ensures.value in
    let name = c.push_event.ensures.appended (codes "event") [] c.first_word-line.ensures in
    let value = simp to_z-of_z at (c.push_ns.ensures.appended (codes "event") (name_at l.event_names event.0 ∷ []) name) in
    c.push.ensures.items ∙ ap (λ (line : List ℕ). line ++ 10 ∷ []) value ∙ ap (λ (ws : List (List ℕ)). timed_line (ws, c.args.value)) (sym listed)
