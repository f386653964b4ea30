-- Names of events as they are taken apart.
use Rattle.std.specs.Prelude.{◌≡◌, ◌≢◌, ℕ, List, ◌∷◌, ◌++◌, take, All}
use Rattle.atto.specs.Decimal.{decimal_of}

-- the first `#` of a name stands at this place, and behind it this number is spelled
pub record IsCutAt (name : List ℕ) (place number : ℕ) : Type 0 where
  pub is : name ≡ take place name ++ 35 ∷ decimal_of number
  pub first : All (λ (b : ℕ). b ≢ 35) (take place name)
