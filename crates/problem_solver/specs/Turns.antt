-- Things that come up one after another, each once.
use Rattle.std.specs.Prelude.{ℕ}

-- how many things there are that come up once each, and how many of them have not come up
pub record Turns : Type 0 where
  pub all : ℕ
  pub left : ℕ
