-- A text that is no clock name is the name of no clock.
use Rattle.std.proofs.Common.{◌≡◌, ℕ, suc, ◌+◌, Bool, true, false, if◌then◌else◌, List, [], ◌∷◌, Some, None, refl, sym, ◌∙◌, subst, arith}
use Rattle.std.specs.Prelude.{All}
use Rattle.std.specs.List.{position_from}
use Rattle.std.specs.Str.{bytes_eq}
use Rattle.std.proofs.lemmas.Bool.{false≢true}
use Rattle.std.proofs.lemmas.Slice.Eq.{bytes_eq-Decides}
use Rattle.problem_model.specs.Name.{IsClockName}
use Rattle.problem_model.specs.declared.items.Clock.{Clock}
use Rattle.decl.specs.Names.{is_clock_name}
use Rattle.decl.specs.Places.{clock_place}
use Rattle.decl.proofs.ClockNames.{clock_name_tested}
use Rattle.decl.proofs.Faults.{none_if}

nowhere : (name : List ℕ) → is_clock_name name ≡ false → (i : ℕ) (clocks : List Clock) → All (λ (c : Clock). IsClockName c.name) clocks → None ≡ position_from (λ (c : Clock). bytes_eq c.name name) i clocks
nowhere name other i [] named = refl
nowhere name other i (c ∷ clocks) named =
    go (bytes_eq c.name name) refl (nowhere name other (i + 1) clocks (λ k d inside. named (suc k) d (omega (arith, inside))))
  where
    go : (b : Bool) → bytes_eq c.name name ≡ b → None ≡ position_from (λ (v : Clock). bytes_eq v.name name) (i + 1) clocks → None ≡ position_from (λ (v : Clock). bytes_eq v.name name) i (c ∷ clocks)
    go true is more =
        let lawful : IsClockName name = subst IsClockName ((bytes_eq-Decides c.name name).0 is) (named 0 c (omega arith)) in
        absurd (false≢true (sym other ∙ clock_name_tested name lawful))
    go false is more = rw is more

pub no_clock : (clocks : List Clock) (name : List ℕ) → All (λ (c : Clock). IsClockName c.name) clocks → None ≡ (if is_clock_name name then Some name else None) → None ≡ clock_place clocks name
no_clock clocks name named unread = nowhere name (none_if (is_clock_name name) name unread) 0 clocks named
