-- The words that name what is to be widened.
use Rattle.std.specs.Prelude.{ℕ, List, [], ◌∷◌, codes}
use Rattle.problem_model.specs.Problem.{ProblemLists}
use Rattle.cert_check.specs.declared.what.What.{What}
use Rattle.widen.specs.Named.{SaysWhat}
use Rattle.problem_commands.specs.declared.what_words.KindOfLinks.{KindOfLinks}
use Rattle.problem_commands.specs.declared.what_words.KindOfLinks.TheVariants.{Delays, Least}
use Rattle.problem_commands.specs.declared.what_words.KindOfClocks.{KindOfClocks}
use Rattle.problem_commands.specs.declared.what_words.KindOfClocks.TheVariants.{Stamps, Rates}
use Rattle.problem_commands.specs.declared.what_words.WhatWords.{WhatWords}
use Rattle.problem_commands.specs.declared.what_words.WhatWords.TheVariants.{Links, Clocks, Gaps, Link, Clock}

-- the word of a kind
abbrev pub links_kind : KindOfLinks → List ℕ
links_kind Delays = codes "delays"
links_kind Least = codes "least"

abbrev pub clocks_kind : KindOfClocks → List ℕ
clocks_kind Stamps = codes "stamps"
clocks_kind Rates = codes "rates"

-- the words
abbrev pub asked_words : WhatWords → List (List ℕ)
asked_words (Links kind) = links_kind kind ∷ []
asked_words (Clocks kind) = clocks_kind kind ∷ []
asked_words Gaps = codes "gaps" ∷ []
asked_words (Link kind from to) = links_kind kind ∷ from.now ∷ to.now ∷ []
asked_words (Clock kind clock) = clocks_kind kind ∷ clock.now ∷ []

-- the words name nothing of the problem: a name in them is no clock's
abbrev pub SaysNothing : ProblemLists → List (List ℕ) → Type 0
SaysNothing p ws = (what : What) → SaysWhat p ws what → ⊥
