-- The test of clock names.
use Rattle.std.proofs.Common.{◌≡◌, ℕ, ◌<◌, ◌≤◌, Bool, true, false, ◌&&◌, ◌||◌, nat_lt, nat_le, List, length, refl, arith}
use Rattle.std.specs.List.{list_all}
use Rattle.std.proofs.lemmas.List.Sums.{AllPass-from_list_all, list_all-from_AllPass}
use Rattle.problem_model.specs.Name.{IsClockName, IsEventName, is_clock_byte}
use Rattle.decl.specs.Names.{is_clock_name}

parts : (a b : Bool) → (a && b) ≡ true → (a ≡ true) × (b ≡ true)
parts true true e = (refl, refl)
parts true false e = cc
parts false b e = cc

pub clock_name_is : (text : List ℕ) → is_clock_name text ≡ true → IsClockName text
clock_name_is text e =
    let (sizes, bytes) = parts (nat_lt 0 (length text) && nat_le (length text) 32) (list_all is_clock_byte text) e in
    let (some, short) = parts (nat_lt 0 (length text)) (nat_le (length text) 32) sizes in
    record { some = grind (arith, some); short = grind (arith, short); bytes = AllPass-from_list_all is_clock_byte text bytes }

pub clock_name_tested : (text : List ℕ) → IsClockName text → is_clock_name text ≡ true
clock_name_tested text named =
    let some : 0 < length text = named.some in
    let short : length text ≤ 32 = named.short in
    let bytes : list_all is_clock_byte text ≡ true = list_all-from_AllPass is_clock_byte text named.bytes in
    rw bytes (grind (arith, some, short))

either : (a b : Bool) → a ≡ true → (a || b) ≡ true
either true b e = refl
either false b e = cc

pub clock_name_event : (text : List ℕ) → is_clock_name text ≡ true → IsEventName text
clock_name_event text e =
    let named = clock_name_is text e in
    record { some = named.some; short = omega (arith, named.short); bytes = λ k d below. either _ _ (named.bytes k d below) }
