use Rattle.std.proofs.Common.{◌≡◌, ◌∷◌, [], ◌++◌, ◌∙◌, ◌+◌, sym, refl, ap, ℕ, List, length}
use Rattle.std.specs.Prelude.{codes}
use Rattle.std.proofs.lemmas.Int.{to_z-of_z}
use mir.Syntax.{w128}
use mir.Val.{SFits}
use Rattle.atto.specs.Decimal.{decimal_of}
use Rattle.cert.specs.Listed.{name_at, timed_line, words_at, listed_event, listed_reading}
use Rattle.cert.proofs.Lines.{found_behind}
use Rattle.cert.proofs.write.reading_line.Goals as goal

pub returns : goal.returns
returns g c =
    let l = g.N.Listing.listed c.args.names.now in
    let reading : ℕ × ℕ × ℕ = c.reading_at-clock.result in
    let fits : SFits w128 c.args.value = c.ranges.value in
    let listed : words_at l (length l.events + c.args.place) ≡ listed_reading l reading =
    found_behind {A = ℕ × ℕ} {B = List (List ℕ)} {C = ℕ × ℕ × ℕ} (listed_event l) (listed_reading l) l.events l.readings _ c.args.place reading [] refl c.reading_at-clock.ensures.value in
    let name = name_at l.clock_names reading.0 in
    let clock = c.push_clock.ensures.appended (codes "reading") [] c.first_word-line.ensures in
    let stamp = c.push_decimal.ensures.appended (codes "reading") (name ∷ []) clock in
    let value = simp to_z-of_z at (c.push_ns.ensures.appended (codes "reading") (name ∷ decimal_of c.get.result ∷ []) stamp) in
    c.push.ensures.items ∙ ap (λ (line : List ℕ). line ++ 10 ∷ []) value ∙ ap (λ (n : ℕ). timed_line (codes "reading" ∷ name ∷ decimal_of n ∷ [], c.args.value)) c.get.ensures.value
    ∙ ap (λ (ws : List (List ℕ)). timed_line (ws, c.args.value)) (sym listed)
