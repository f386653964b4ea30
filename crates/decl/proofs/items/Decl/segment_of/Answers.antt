use Rattle.std.proofs.Common.{ℕ, ◌<◌, ◌≤◌, Fits, w32, sym, arith}
use Rattle.std.proofs.lemmas.List.Quantifiers.{position-Some}
use Rattle.decl.specs.Declaration.{is_same_segment}
use Rattle.decl.specs.Limits.{most_entries}
use Rattle.decl.specs.declared.items.Label.{Label}
use Rattle.decl.proofs.items.Decl.segment_of.Goals as goal

place_fits : (place many : ℕ) → place < many → many ≤ most_entries → Fits w32 place
place_fits place many below few = omega (arith, below, few)

pub overflow_cast-result : goal.overflow_cast-result
overflow_cast-result c =
    let found = position-Some (λ (other : Label). is_same_segment other.segment c.args.label.now.segment) c.deref.result.now c.in-Some.place c.args.label.now (sym c.in-Some.ensures) in
    place_fits c.in-Some.place _ found.0 (rw (← c.deref.ensures.value) at c.requires)
