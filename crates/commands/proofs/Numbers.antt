-- Texts that are no number of a trial.
use Rattle.std.proofs.Common.{◌≡◌, ℕ, ◌<◌, ◌^◌, List, sym, ◌∙◌, arith}
use Rattle.atto.specs.Decimal.{decimal_of}
use Rattle.atto.specs.Number.{IsFault}
use Rattle.atto.specs.declared.text.NumFault.{NumFault}
use Rattle.atto.specs.declared.text.NumFault.TheVariants.{Spelling, Range}
use Rattle.atto.proofs.OneSpelling.{decimal_of_injective}
use Rattle.commands.specs.Trials.{IsNumber}

-- a number that is too large, and a text that is refused
pub large_no_number : (text : List ℕ) (m : ℕ) → text ≡ decimal_of m → (m < 2 ^ 32 → ⊥) → (n : ℕ) → IsNumber n text → ⊥
large_no_number text m is large n (below, other) =
    let same : m ≡ n = decimal_of_injective m n (sym is ∙ other) in
    large (omega (arith, same, below))

pub fault_no_number : (text : List ℕ) (e : NumFault) → IsFault decimal_of (λ n. n < 2 ^ 64) text e → (n : ℕ) → IsNumber n text → ⊥
fault_no_number text Spelling none n (below, is) = none n is
fault_no_number text Range large n (below, is) = large_no_number text large.0 large.1 (λ less. large.2 (omega (arith, less))) n (below, is)
