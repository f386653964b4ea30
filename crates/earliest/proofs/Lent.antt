-- A list that is lent whole.
use Rattle.std.proofs.Common.{◌≡◌, ℕ, List, ◌++◌, length, take, ap, ◌∙◌}
use Rattle.std.proofs.Math.Seq.{take-append_seam}

-- is given back whole
pub whole_again : {A : Type 0} (len : ℕ) (now past : List A) → len ≡ length now → take len (now ++ past) ≡ now
whole_again len now past same = ap (λ (n : ℕ). take n (now ++ past)) same ∙ take-append_seam now past
