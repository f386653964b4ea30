use Rattle.std.proofs.Common.{◌≡◌, ◌<◌, ◌-◌, ℕ, suc, zero, length, arith, refl}
use Rattle.std.proofs.lemmas.Option.{slice_get-get_or}
use Rattle.roster.proofs.event_names.numbered.Goals as goal

some : (n : ℕ) → (n ≡ 0 → ⊥) → 0 < n
some zero none = absurd (none refl)
some (suc n) none = omega arith

pub returns-clause-some : goal.returns-clause-some
returns-clause-some c =
    let first : 0 < c.args.number = some c.args.number c.if-number-eq0.false in
    let past = c.if-number-numbers.false in
    let inside : c.args.number - 1 < length c.args.numbers.now = omega (arith, first, past) in
    (c.args.number - 1, omega (arith, first), slice_get-get_or c.args.numbers.now (c.args.number - 1) 0 inside)
