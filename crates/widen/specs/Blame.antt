-- By how much each candidate must be widened, so that it heals a contradiction by itself, and the text that says so.
use Rattle.std.specs.Prelude.{◌≡◌, ◌⊎◌, ℕ, ◌+◌, Bool, List, [], ◌∷◌, ◌++◌, length, map, filter, slice_get, codes, Option, Some, None}
use Rattle.std.specs.List.{flat_map, list_any, range_with_len}
use Rattle.atto.specs.Decimal.{decimal_of}
use Rattle.line_format.specs.Words.{line_of}
use Rattle.problem_model.specs.declared.items.Clock.{Clock}
use Rattle.problem_model.specs.declared.items.Event.{Event}
use Rattle.problem_model.specs.declared.items.Follow.{Follow}
use Rattle.problem_model.specs.declared.items.Message.{Message}
use Rattle.problem_model.specs.Problem.{ProblemLists}
use Rattle.problem_model.specs.Bounds.{Times, IsExecution}
use Rattle.cert_check.specs.declared.what.Clocks.TheVariants as clocks
use Rattle.cert_check.specs.declared.what.Links.TheVariants as links
use Rattle.cert_check.specs.declared.what.What.{What}
use Rattle.cert_check.specs.declared.what.What.TheVariants.{Delays, Least, Stamps, Rates, Gaps}
use Rattle.cert_check.specs.Widened.{joins}
use Rattle.widen.specs.Named.{what_words}
use Rattle.widen.specs.Least.{IsLeastWidening, HasNoWidening}

-- ---- candidates
-- of each clock from place k on: its stamps, then its rate
abbrev pub clock_candidates : ℕ → List Clock → List What
clock_candidates k [] = []
clock_candidates k (c ∷ cs) = Stamps (clocks.One k) ∷ Rates (clocks.One k) ∷ clock_candidates (k + 1) cs

-- the place of the clock that an event has its stamp from
abbrev pub clock_of : List Event → ℕ → ℕ
clock_of events event = elim (slice_get events event) [ None ↦ 0 | Some v ↦ v.clock ]

-- those of the events that a message joins
abbrev pub link_of : List Event → Message → ℕ × ℕ
link_of events m = (clock_of events m.send, clock_of events m.receive)

-- a message goes from one clock's event to the other's
abbrev pub is_used : ProblemLists → ℕ × ℕ → Bool
is_used p l = list_any (joins (links.Between l.0 l.1) p.events) p.messages

-- all pairs of so many clocks, by the first and then by the second
abbrev pub pairs_of : ℕ → List (ℕ × ℕ)
pairs_of n = flat_map (λ from. map (λ to. (from, to)) (range_with_len 0 n)) (range_with_len 0 n)

-- the links: each clock with each that a message goes to
abbrev pub links_of : ProblemLists → List (ℕ × ℕ)
links_of p = filter (is_used p) (pairs_of (length p.clocks))

-- of each link: its greatest delays, then its least ones
abbrev pub link_candidates : List (ℕ × ℕ) → List What
link_candidates ls = flat_map (λ (l : ℕ × ℕ). Delays (links.Between l.0 l.1) ∷ Least (links.Between l.0 l.1) ∷ []) ls

-- all gaps, where a clock follows another one
abbrev pub gap_candidates : List Follow → List What
gap_candidates [] = []
gap_candidates (f ∷ fs) = Gaps ∷ []

-- those of single clocks and of single links
abbrev pub single_candidates : ProblemLists → List What
single_candidates p = clock_candidates 0 p.clocks ++ link_candidates (links_of p)

-- all least delays, all stamps, all rates, all gaps; then single ones
abbrev pub other_kinds : ProblemLists → List What
other_kinds p = Least links.All ∷ Stamps clocks.All ∷ Rates clocks.All ∷ gap_candidates p.follows ++ single_candidates p

-- what may be to blame: all greatest delays first
abbrev pub candidates : ProblemLists → List What
candidates p = Delays links.All ∷ other_kinds p

-- ---- lines
-- what a widening of it is counted in
abbrev pub unit_of : What → List ℕ
unit_of (Rates which) = codes "ppb"
unit_of (Delays which) = codes "ns"
unit_of (Least which) = codes "ns"
unit_of (Stamps which) = codes "ns"
unit_of Gaps = codes "ns"

-- the least widening that heals, or that none does
abbrev pub healing_words : What → Option ℕ → List (List ℕ)
healing_words what None = codes "none" ∷ []
healing_words what (Some e) = decimal_of e ∷ unit_of what ∷ []

-- the line of a candidate
abbrev pub blame_line : ProblemLists → What → Option ℕ → List ℕ
blame_line p what answer = line_of (codes "blame" ∷ what_words p what ++ healing_words what answer)

-- ---- what is printed
-- the candidate heals by itself, with this least widening, or does not
abbrev pub IsHealing : ProblemLists → What → Option ℕ → Type 0
IsHealing p what None = HasNoWidening what p
IsHealing p what (Some e) = IsLeastWidening what p e

-- a line for each candidate, in their order, and the end
abbrev pub Blames : ProblemLists → List What → List ℕ → Type 0
Blames p [] text = text ≡ codes "end\n"
Blames p (what ∷ rest) text = (answer : Option ℕ) × (more : List ℕ) × IsHealing p what answer × Blames p rest more × (text ≡ blame_line p what answer ++ more)

-- the text so far has the lines of all candidates but for these, the last ones
abbrev pub IsBlamedUpTo : ProblemLists → List What → List ℕ → Type 0
IsBlamedUpTo p rest text = (more : List ℕ) → Blames p rest more → Blames p (candidates p) (text ++ more)

-- that nothing is to blame where there is an execution, else what every candidate has to do with it
abbrev pub IsBlameText : ProblemLists → List ℕ → Type 0
IsBlameText p text = ((x : Times) × IsExecution p x × (text ≡ codes "blame none\n")) ⊎ (((x : Times) → IsExecution p x → ⊥) × Blames p (candidates p) text)
