-- Names and numbers lack spaces and line feeds.
use Rattle.std.proofs.Common.{◌<◌, ◌≤◌, ◌%◌, ◌/◌, ℕ, suc, List, ◌∷◌, IsTrue, arith, ℤ, pos, negsuc}
use Rattle.std.specs.Int.{IsInRange}
use Rattle.std.proofs.lemmas.List.Elements.{recursion_from_All}
use Rattle.atto.specs.Decimal.{decimal_of}
use Rattle.atto.specs.NsText.{last_digits, ns_text, unsigned_ns_text}
use Rattle.atto.proofs.Reading.{decimal_of-digits}
use Rattle.atto.proofs.NsReading.{last_digits-digits}
use Rattle.line_format.specs.Cut.{Lacks}
use Rattle.line_format.proofs.Lacking.{lacks_low, all_high, lacks_append}
use Rattle.problem_model.specs.Name.{IsEventName, IsClockName, is_event_byte, is_clock_byte}

clock_byte_high : (c : ℕ) → IsTrue (is_clock_byte c) → 32 < c
clock_byte_high c h = grind (arith, h)

event_byte_high : (c : ℕ) → IsTrue (is_event_byte c) → 32 < c
event_byte_high c h = grind (arith, h)

pub clock_name_lacks : (d : ℕ) (name : List ℕ) → d ≤ 32 → IsClockName name → Lacks d name
clock_name_lacks d name low named = all_high (λ c. IsTrue (is_clock_byte c)) d name low clock_byte_high (recursion_from_All (λ c. IsTrue (is_clock_byte c)) name named.bytes)

pub event_name_lacks : (d : ℕ) (name : List ℕ) → d ≤ 32 → IsEventName name → Lacks d name
event_name_lacks d name low named = all_high (λ c. IsTrue (is_event_byte c)) d name low event_byte_high (recursion_from_All (λ c. IsTrue (is_event_byte c)) name named.bytes)

pub decimal_lacks : (d n : ℕ) → d ≤ 32 → Lacks d (decimal_of n)
decimal_lacks d n low = lacks_low d (decimal_of n) low (λ k inside. let h = decimal_of-digits n k inside in omega (arith, h.0))

last_digits_lack : (d k n : ℕ) → d ≤ 32 → Lacks d (last_digits k n)
last_digits_lack d k n low = all_high (λ c. IsInRange 48 57 c) d (last_digits k n) low (λ c h. omega (arith, h.0)) (recursion_from_All (λ c. IsInRange 48 57 c) (last_digits k n) (last_digits-digits k n))

unsigned_lacks : (d n : ℕ) → d ≤ 32 → Lacks d (unsigned_ns_text n)
unsigned_lacks d n low =
    lacks_append d (decimal_of (n / 1000000000)) (46 ∷ last_digits 9 (n % 1000000000)) (decimal_lacks d (n / 1000000000) low) (omega (arith, low), last_digits_lack d 9 (n % 1000000000) low)

pub ns_lacks : (d : ℕ) (z : ℤ) → d ≤ 32 → Lacks d (ns_text z)
ns_lacks d (pos n) low = unsigned_lacks d n low
ns_lacks d (negsuc n) low = (omega (arith, low), unsigned_lacks d (suc n) low)
