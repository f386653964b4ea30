-- What a book of clocks holds.
use Rattle.std.specs.Prelude.{List}
use Rattle.problem_model.specs.declared.items.Clock.{Clock}
use Rattle.decl.specs.declared.items.Owner.{Owner}

-- clocks, and whose each is
pub record Booked : Type 0 where
  pub clocks : List Clock
  pub owners : List Owner
