-- A number of ns that may be left out.
use Rattle.std.proofs.Common.{◌≡◌, ℕ, ◌-◌, Bool, true, if◌then◌else◌, unwrap_or, option_map, nat_abs, List, Option, Some, None, ℤ, pos, refl, ap}
use Rattle.toml.specs.Data.{Members}
use Rattle.decl.specs.Limits.{nano_limit}
use Rattle.decl.specs.Values.{whole_at, whole_or_zero, number_at, optional_number, is_up_to}
use Rattle.decl.proofs.Faults.{some_if}

module _ (key : List ℕ) (ms : Members) (number : ℕ) (fits : Some number ≡ (if is_up_to (nano_limit - 1) (whole_or_zero key ms) then Some (number_at key ms) else None)) where
  -- a number that is there
  pub number_there : (z : ℤ) → whole_at key ms ≡ Some z → Some number ≡ optional_number key ms
  number_there z there =
      let (_, number_is) = some_if (is_up_to (nano_limit - 1) (whole_or_zero key ms)) number (number_at key ms) fits in
      go (whole_at key ms) there number_is
    where
      go : (o : Option ℤ) → o ≡ Some z → number ≡ nat_abs (unwrap_or o (pos 0)) → Some number ≡ option_map nat_abs o
      go None e h = cc
      go (Some y) e h = ap Some h

  -- what was read is what is there
  pub optional_made : (read : Option ℕ) → read ≡ optional_number key ms
      → ◌≡◌ {A = Option (Option ℕ)} (Some read) (if is_up_to (nano_limit - 1) (whole_or_zero key ms) then Some (optional_number key ms) else None)
  optional_made read e =
      let (tame, _) = some_if (is_up_to (nano_limit - 1) (whole_or_zero key ms)) number (number_at key ms) fits in
      made _ _ _ tame e
    where
      made : (b : Bool) (m m' : Option ℕ) → b ≡ true → m ≡ m' → ◌≡◌ {A = Option (Option ℕ)} (Some m) (if b then Some m' else None)
      made b m m' h i = rw (h, i) refl
