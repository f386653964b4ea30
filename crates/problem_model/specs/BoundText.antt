-- How a bound is printed.
use Rattle.std.specs.Prelude.{ℕ, List, [], ◌∷◌, ◌++◌, codes, ℤ}
use Rattle.atto.specs.Decimal.{decimal_of}
use Rattle.atto.specs.NsText.{ns_text}
use Rattle.line_format.specs.Words.{line_of}
use Rattle.problem_model.specs.declared.items.Bound.{Bound}
use Rattle.problem_model.specs.declared.items.Bound.TheVariants.{SpanMost, SpanLeast, Late, Early, Follow, DelayMost, DelayLeast}
use Rattle.problem_model.specs.Problem.{ProblemLists}
use Rattle.problem_model.specs.ProblemText.{clock_name, event_name}

-- a bound over a span, by its kind and the name of the clock
abbrev pub span_words : List ℕ → List ℕ → ℕ → ℕ → List (List ℕ)
span_words kind clock s t = kind ∷ clock ∷ decimal_of s ∷ decimal_of t ∷ []

-- a bound on an event's stamp, by its kind and the name of the event
abbrev pub stamp_words : List ℕ → List ℕ → List (List ℕ)
stamp_words kind event = kind ∷ event ∷ []

-- a bound between clocks that follow each other, by their names
abbrev pub follow_words : List ℕ → ℕ → List ℕ → ℕ → List (List ℕ)
follow_words earlier s later t = codes "follow" ∷ earlier ∷ decimal_of s ∷ later ∷ decimal_of t ∷ []

-- a bound on a message's delay, by its kind and the names of both events
abbrev pub delay_words : List ℕ → List ℕ → List ℕ → List (List ℕ)
delay_words kind send receive = kind ∷ send ∷ receive ∷ []

-- the words that name a bound, where these functions give the names of clocks and of events by their places
abbrev pub named_bound : (ℕ → List ℕ) → (ℕ → List ℕ) → Bound → List (List ℕ)
named_bound clock event (SpanMost k s t) = span_words (codes "span-most") (clock k) s t
named_bound clock event (SpanLeast k s t) = span_words (codes "span-least") (clock k) s t
named_bound clock event (Late e) = stamp_words (codes "late") (event e)
named_bound clock event (Early e) = stamp_words (codes "early") (event e)
named_bound clock event (Follow c s d t) = follow_words (clock c) s (clock d) t
named_bound clock event (DelayMost send receive) = delay_words (codes "delay-most") (event send) (event receive)
named_bound clock event (DelayLeast send receive) = delay_words (codes "delay-least") (event send) (event receive)

-- the words that name a bound of a problem
abbrev pub bound_words : ProblemLists → Bound → List (List ℕ)
bound_words p b = named_bound (clock_name p.clocks) (event_name p.events) b

-- the line that names a broken bound, with its weight and the difference
abbrev pub broken_line : ProblemLists → Bound → ℤ → ℤ → List ℕ
broken_line p b weight difference = line_of (codes "broken" ∷ bound_words p b ++ ns_text weight ∷ ns_text difference ∷ [])
