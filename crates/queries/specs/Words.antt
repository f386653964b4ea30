-- The words of a line.
use Rattle.std.specs.Prelude.{ℕ, List, codes}
use Rattle.atto.specs.NsText.{ns_text}
use Rattle.intervals.specs.declared.ends.End.{End}
use Rattle.intervals.specs.declared.ends.End.TheVariants.{At, Unbounded}
use Rattle.intervals.specs.declared.order.Order.{Order}
use Rattle.intervals.specs.declared.order.Order.TheVariants.{Before, After, Same, Undecided}

-- an end of an interval, or the word for none
abbrev pub end_word : List ℕ → End → List ℕ
end_word unlimited (At units) = ns_text units
end_word unlimited Unbounded = unlimited

-- the word of an order
abbrev pub order_word : Order → List ℕ
order_word Before = codes "before"
order_word After = codes "after"
order_word Same = codes "same"
order_word Undecided = codes "open"
