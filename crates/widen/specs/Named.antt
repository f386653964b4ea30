-- What of a problem is widened, by words.
use Rattle.std.specs.Prelude.{◌≡◌, ◌⊎◌, ℕ, ◌<◌, List, [], ◌∷◌, length, codes, ⊤}
use Rattle.problem_model.specs.Name.{IsClockName}
use Rattle.problem_model.specs.Problem.{ProblemLists}
use Rattle.problem.specs.Listing.{listing_of, name_at}
use Rattle.cert_check.specs.declared.what.Clocks.{Clocks}
use Rattle.cert_check.specs.declared.what.Clocks.TheVariants as clocks
use Rattle.cert_check.specs.declared.what.Links.{Links}
use Rattle.cert_check.specs.declared.what.Links.TheVariants as links
use Rattle.cert_check.specs.declared.what.What.{What}
use Rattle.cert_check.specs.declared.what.What.TheVariants.{Delays, Least, Stamps, Rates, Gaps}

-- ---- clocks of the problem
-- the clocks that are meant are clocks of the problem
abbrev pub NamesClocks : ProblemLists → Clocks → Type 0
NamesClocks p clocks.All = ⊤
NamesClocks p (clocks.One k) = k < length p.clocks

abbrev pub NamesLinks : ProblemLists → Links → Type 0
NamesLinks p links.All = ⊤
NamesLinks p (links.Between from to) = (from < length p.clocks) × (to < length p.clocks)

abbrev pub NamesWhat : ProblemLists → What → Type 0
NamesWhat p (Delays which) = NamesLinks p which
NamesWhat p (Least which) = NamesLinks p which
NamesWhat p (Stamps which) = NamesClocks p which
NamesWhat p (Rates which) = NamesClocks p which
NamesWhat p Gaps = ⊤

-- ---- words
-- the names of the clocks that are meant, where those of one clock or of one link are
abbrev pub clocks_words : ProblemLists → Clocks → List (List ℕ)
clocks_words p clocks.All = []
clocks_words p (clocks.One k) = name_at (listing_of p).clock_names k ∷ []

abbrev pub links_words : ProblemLists → Links → List (List ℕ)
links_words p links.All = []
links_words p (links.Between from to) = name_at (listing_of p).clock_names from ∷ name_at (listing_of p).clock_names to ∷ []

-- the words that name what is widened: the kind of its numbers, and the names
abbrev pub what_words : ProblemLists → What → List (List ℕ)
what_words p (Delays which) = codes "delays" ∷ links_words p which
what_words p (Least which) = codes "least" ∷ links_words p which
what_words p (Stamps which) = codes "stamps" ∷ clocks_words p which
what_words p (Rates which) = codes "rates" ∷ clocks_words p which
what_words p Gaps = codes "gaps" ∷ []

-- the words name this, which is of the problem
abbrev pub SaysWhat : ProblemLists → List (List ℕ) → What → Type 0
SaysWhat p ws what = NamesWhat p what × (ws ≡ what_words p what)

-- ---- words on the line of a widening
-- the same; none where all greatest delays are widened
abbrev pub stated_words : ProblemLists → What → List (List ℕ)
stated_words p (Delays links.All) = []
stated_words p (Delays (links.Between from to)) = what_words p (Delays (links.Between from to))
stated_words p (Least which) = what_words p (Least which)
stated_words p (Stamps which) = what_words p (Stamps which)
stated_words p (Rates which) = what_words p (Rates which)
stated_words p Gaps = what_words p Gaps

-- the words on the line name this, which is of the problem
abbrev pub StatesWhat : ProblemLists → List (List ℕ) → What → Type 0
StatesWhat p ws what = NamesWhat p what × (ws ≡ stated_words p what)

-- the kinds that are of clocks, and those of links
abbrev pub IsKindOfClocks : List ℕ → Type 0
IsKindOfClocks kind = (kind ≡ codes "stamps") ⊎ (kind ≡ codes "rates")

abbrev pub IsKindOfLinks : List ℕ → Type 0
IsKindOfLinks kind = (kind ≡ codes "delays") ⊎ (kind ≡ codes "least")

-- the words are a kind, of all, with a name, or with two, each spelled as a clock's; or none
abbrev pub AreStated : List (List ℕ) → Type 0
AreStated [] = Unit {0}
AreStated (kind ∷ []) = IsKindOfClocks kind ⊎ (kind ≡ codes "least") ⊎ (kind ≡ codes "gaps")
AreStated (kind ∷ clock ∷ []) = IsKindOfClocks kind × IsClockName clock
AreStated (kind ∷ from ∷ to ∷ []) = IsKindOfLinks kind × IsClockName from × IsClockName to
AreStated (kind ∷ from ∷ to ∷ other ∷ more) = ⊥
