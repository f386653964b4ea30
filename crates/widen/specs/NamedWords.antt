-- The words of what is named.
use Rattle.std.specs.Prelude.{ℕ, List, [], ◌∷◌, codes}
use Rattle.widen.specs.declared.named.NamedClocks.{NamedClocks}
use Rattle.widen.specs.declared.named.NamedClocks.TheVariants as clocks
use Rattle.widen.specs.declared.named.NamedLinks.{NamedLinks}
use Rattle.widen.specs.declared.named.NamedLinks.TheVariants as links
use Rattle.widen.specs.declared.named.NamedWhat.{NamedWhat}
use Rattle.widen.specs.declared.named.NamedWhat.TheVariants.{Delays, Least, Stamps, Rates, Gaps}

-- the names
abbrev pub clock_names : NamedClocks → List (List ℕ)
clock_names clocks.All = []
clock_names (clocks.One name) = name ∷ []

abbrev pub link_names : NamedLinks → List (List ℕ)
link_names links.All = []
link_names (links.Between from to) = from ∷ to ∷ []

-- the kind and the names
abbrev pub named_words : NamedWhat → List (List ℕ)
named_words (Delays which) = codes "delays" ∷ link_names which
named_words (Least which) = codes "least" ∷ link_names which
named_words (Stamps which) = codes "stamps" ∷ clock_names which
named_words (Rates which) = codes "rates" ∷ clock_names which
named_words Gaps = codes "gaps" ∷ []

-- the same on the line of a widening
abbrev pub stated_named : NamedWhat → List (List ℕ)
stated_named (Delays links.All) = []
stated_named (Delays (links.Between from to)) = named_words (Delays (links.Between from to))
stated_named (Least which) = named_words (Least which)
stated_named (Stamps which) = named_words (Stamps which)
stated_named (Rates which) = named_words (Rates which)
stated_named Gaps = named_words Gaps
