-- What words name, and how they are spelled.
use Rattle.std.proofs.Common.{◌≡◌, ◌⊎◌, ◌<◌, inl, inr, ℕ, zero, suc, List, [], ◌∷◌, length, map, get_or, slice_get, Some, codes, refl, sym, ◌∙◌, ap, arith}
use Rattle.std.specs.List.{AllByRecursion, slice_index_or}
use Rattle.std.proofs.lemmas.List.{length-map}
use Rattle.std.proofs.lemmas.List.Elements.{recursion_from_All}
use Rattle.std.proofs.lemmas.Option.{slice_get_within}
use Rattle.line_format.specs.Cut.{Lacks}
use Rattle.line_format.proofs.Lacking.{lacks_test}
use Rattle.problem_model.specs.Name.{IsClockName}
use Rattle.problem_model.specs.declared.items.Clock.{Clock}
use Rattle.problem_model.specs.Problem.{ProblemLists, IsProblem}
use Rattle.problem.specs.Line.{HasClock}
use Rattle.problem.specs.Listing.{listing_of, name_at}
use Rattle.problem.proofs.Naming.{name_found}
use Rattle.cert.proofs.CertGrowing.{clock_one}
use Rattle.cert.proofs.CertLines.{AllLack}
use Rattle.cert.proofs.Lacking.{clock_name_lacks}
use Rattle.cert_check.specs.declared.what.Clocks.{Clocks}
use Rattle.cert_check.specs.declared.what.Clocks.TheVariants as clocks
use Rattle.cert_check.specs.declared.what.Links.{Links}
use Rattle.cert_check.specs.declared.what.Links.TheVariants as links
use Rattle.cert_check.specs.declared.what.What.{What}
use Rattle.cert_check.specs.declared.what.What.TheVariants.{Delays, Least, Stamps, Rates, Gaps}
use Rattle.widen.specs.Named.{NamesClocks, NamesLinks, NamesWhat, clocks_words, links_words, what_words, stated_words, StatesWhat, IsKindOfClocks, IsKindOfLinks, AreStated}

-- ---- the name of a clock, and its place
named_in : (p : ProblemLists) (k : ℕ) (name : List ℕ) → HasClock p k name → k < length p.clocks
named_in p k name at = let within = slice_get_within (map (λ (c : Clock). c.name) p.clocks) k name at in omega (arith, within, length-map p.clocks (λ (c : Clock). c.name))

name_is : (p : ProblemLists) (k : ℕ) (name : List ℕ) → HasClock p k name → name ≡ name_at (listing_of p).clock_names k
name_is p k name at = name_found (map (λ (c : Clock). c.name) p.clocks) k name at

found_at : (names : List (List ℕ)) (k : ℕ) → k < length names → slice_get names k ≡ Some (slice_index_or names k [])
found_at [] k inside = absurd (omega (arith, inside))
found_at (n ∷ names) zero inside = refl
found_at (n ∷ names) (suc k) inside = found_at names k (omega (arith, inside))

has_clock : (p : ProblemLists) (k : ℕ) (name : List ℕ) → k < length p.clocks → name ≡ name_at (listing_of p).clock_names k → HasClock p k name
has_clock p k name inside is =
    let names = map (λ (c : Clock). c.name) p.clocks in
    found_at names k (omega (arith, inside, length-map p.clocks (λ (c : Clock). c.name))) ∙ ap Some (sym is)

first_of : List (List ℕ) → List ℕ
first_of ws = get_or ws 0 []

second_of : List (List ℕ) → List ℕ
second_of ws = get_or ws 1 []

-- ---- looking up
pub clock_says : (p : ProblemLists) (k : ℕ) (name : List ℕ) → HasClock p k name → NamesClocks p (clocks.One k) × (name ∷ [] ≡ clocks_words p (clocks.One k))
clock_says p k name at = (named_in p k name at, ap (λ (n : List ℕ). n ∷ []) (name_is p k name at))

pub no_clock : (p : ProblemLists) (name : List ℕ) → ((k : ℕ) → HasClock p k name → ⊥) → (which : Clocks) → NamesClocks p which → name ∷ [] ≡ clocks_words p which → ⊥
unfolding first_of
no_clock p name none clocks.All named is = cc
no_clock p name none (clocks.One k) named is = none k (has_clock p k name named (ap first_of is))

pub link_says : (p : ProblemLists) (j k : ℕ) (from to : List ℕ) → HasClock p j from → HasClock p k to → NamesLinks p (links.Between j k) × (from ∷ to ∷ [] ≡ links_words p (links.Between j k))
link_says p j k from to at at' =
    ((named_in p j from at, named_in p k to at'), ap (λ (n : List ℕ). n ∷ to ∷ []) (name_is p j from at) ∙ ap (λ (n : List ℕ). name_at (listing_of p).clock_names j ∷ n ∷ []) (name_is p k to at'))

pub no_first : (p : ProblemLists) (from to : List ℕ) → ((k : ℕ) → HasClock p k from → ⊥) → (which : Links) → NamesLinks p which → from ∷ to ∷ [] ≡ links_words p which → ⊥
unfolding first_of
no_first p from to none links.All named is = cc
no_first p from to none (links.Between j k) named is = none j (has_clock p j from named.0 (ap first_of is))

pub no_second : (p : ProblemLists) (from to : List ℕ) → ((k : ℕ) → HasClock p k to → ⊥) → (which : Links) → NamesLinks p which → from ∷ to ∷ [] ≡ links_words p which → ⊥
unfolding second_of
no_second p from to none links.All named is = cc
no_second p from to none (links.Between j k) named is = none k (has_clock p k to named.1 (ap second_of is))

-- ---- the words tell what is named
byte_of : ℕ → List (List ℕ) → ℕ
byte_of n ws = get_or (get_or ws 0 []) n 0

behind_kind : List (List ℕ) → List (List ℕ)
behind_kind [] = []
behind_kind (w ∷ ws) = ws

-- all greatest delays have no words on the line of a widening; all else has the same there
module _ (p : ProblemLists) where
  pub some_words : (a : What) → [] ≡ what_words p a → ⊥
  some_words (Delays v) is = cc
  some_words (Least v) is = cc
  some_words (Stamps v) is = cc
  some_words (Rates v) is = cc
  some_words Gaps is = cc

  abbrev pub IsOther : List (List ℕ) → Type 0
  IsOther ws = ws ≡ codes "delays" ∷ [] → ⊥

  pub stated_cases : (a : What) → ((a ≡ Delays links.All) × (stated_words p a ≡ [])) ⊎ ((stated_words p a ≡ what_words p a) × IsOther (what_words p a))
  unfolding byte_of
  stated_cases (Delays links.All) = inl (refl, refl)
  stated_cases (Delays (links.Between f t)) = inr (refl, (λ is. let h = ap length is in omega (arith, h)))
  stated_cases (Least v) = inr (refl, (λ is. let h = ap (byte_of 0) is in omega (arith, h)))
  stated_cases (Stamps v) = inr (refl, (λ is. let h = ap (byte_of 0) is in omega (arith, h)))
  stated_cases (Rates v) = inr (refl, (λ is. let h = ap (byte_of 0) is in omega (arith, h)))
  stated_cases Gaps = inr (refl, (λ is. let h = ap (byte_of 0) is in omega (arith, h)))

module _ (p : ProblemLists) (lawful : IsProblem p) where
  place_one : (j k : ℕ) → j < length p.clocks → k < length p.clocks → name_at (listing_of p).clock_names j ≡ name_at (listing_of p).clock_names k → j ≡ k
  place_one j k inside inside' is = clock_one p lawful j k (name_at (listing_of p).clock_names j) (has_clock p j _ inside refl) (has_clock p k _ inside' is)

  clocks_one : (a b : Clocks) → NamesClocks p a → NamesClocks p b → clocks_words p a ≡ clocks_words p b → a ≡ b
  unfolding first_of
  clocks_one clocks.All clocks.All x y is = refl
  clocks_one clocks.All (clocks.One k) x y is = absurd cc
  clocks_one (clocks.One k) clocks.All x y is = absurd cc
  clocks_one (clocks.One j) (clocks.One k) x y is = ap clocks.One (place_one j k x y (ap first_of is))

  links_one : (a b : Links) → NamesLinks p a → NamesLinks p b → links_words p a ≡ links_words p b → a ≡ b
  unfolding first_of second_of
  links_one links.All links.All x y is = refl
  links_one links.All (links.Between f t) x y is = absurd cc
  links_one (links.Between f t) links.All x y is = absurd cc
  links_one (links.Between f t) (links.Between g u) x y is =
      ap (λ (k : ℕ). links.Between k t) (place_one f g x.0 y.0 (ap first_of is)) ∙ ap (λ (k : ℕ). links.Between g k) (place_one t u x.1 y.1 (ap second_of is))

  words_one : (a b : What) → NamesWhat p a → NamesWhat p b → what_words p a ≡ what_words p b → a ≡ b
  unfolding byte_of behind_kind
  words_one (Delays v) (Delays w) x y is = ap Delays (links_one v w x y (ap behind_kind is))
  words_one (Least v) (Least w) x y is = ap Least (links_one v w x y (ap behind_kind is))
  words_one (Stamps v) (Stamps w) x y is = ap Stamps (clocks_one v w x y (ap behind_kind is))
  words_one (Rates v) (Rates w) x y is = ap Rates (clocks_one v w x y (ap behind_kind is))
  words_one Gaps Gaps x y is = refl
  words_one (Delays v) (Least w) x y is = absurd (let h = ap (byte_of 0) is in omega (arith, h))
  words_one (Delays v) (Stamps w) x y is = absurd (let h = ap (byte_of 0) is in omega (arith, h))
  words_one (Delays v) (Rates w) x y is = absurd (let h = ap (byte_of 0) is in omega (arith, h))
  words_one (Least v) (Delays w) x y is = absurd (let h = ap (byte_of 0) is in omega (arith, h))
  words_one (Least v) (Stamps w) x y is = absurd (let h = ap (byte_of 0) is in omega (arith, h))
  words_one (Least v) (Rates w) x y is = absurd (let h = ap (byte_of 0) is in omega (arith, h))
  words_one (Stamps v) (Delays w) x y is = absurd (let h = ap (byte_of 0) is in omega (arith, h))
  words_one (Stamps v) (Least w) x y is = absurd (let h = ap (byte_of 0) is in omega (arith, h))
  words_one (Stamps v) (Rates w) x y is = absurd (let h = ap (byte_of 0) is in omega (arith, h))
  words_one (Rates v) (Delays w) x y is = absurd (let h = ap (byte_of 0) is in omega (arith, h))
  words_one (Rates v) (Least w) x y is = absurd (let h = ap (byte_of 0) is in omega (arith, h))
  words_one (Rates v) (Stamps w) x y is = absurd (let h = ap (byte_of 0) is in omega (arith, h))
  words_one (Delays v) Gaps x y is = absurd (let h = ap (byte_of 0) is in omega (arith, h))
  words_one (Least v) Gaps x y is = absurd (let h = ap (byte_of 0) is in omega (arith, h))
  words_one (Stamps v) Gaps x y is = absurd (let h = ap (byte_of 0) is in omega (arith, h))
  words_one (Rates v) Gaps x y is = absurd (let h = ap (byte_of 0) is in omega (arith, h))
  words_one Gaps (Delays w) x y is = absurd (let h = ap (byte_of 0) is in omega (arith, h))
  words_one Gaps (Least w) x y is = absurd (let h = ap (byte_of 0) is in omega (arith, h))
  words_one Gaps (Stamps w) x y is = absurd (let h = ap (byte_of 0) is in omega (arith, h))
  words_one Gaps (Rates w) x y is = absurd (let h = ap (byte_of 0) is in omega (arith, h))

  pub what_one : (a b : What) (ws : List (List ℕ)) → StatesWhat p ws a → StatesWhat p ws b → a ≡ b
  what_one a b ws x y = elim (stated_cases p a) [
    | inl none ↦ elim (stated_cases p b) [
      | inl none' ↦ none.0 ∙ sym none'.0
      | inr some ↦ absurd (some_words p b (sym none.1 ∙ sym x.1 ∙ y.1 ∙ some.0))
    ]
    | inr some ↦ elim (stated_cases p b) [
      | inl none ↦ absurd (some_words p a (sym none.1 ∙ sym y.1 ∙ x.1 ∙ some.0))
      | inr some' ↦ words_one a b x.0 y.0 (sym some.0 ∙ sym x.1 ∙ y.1 ∙ some'.0)
    ]
  ]

  -- ---- they are spelled as such words
  spelled_at : (cs : List Clock) (k : ℕ) → AllByRecursion (λ (c : Clock). IsClockName c.name) cs → k < length cs → IsClockName (slice_index_or (map (λ (c : Clock). c.name) cs) k [])
  spelled_at [] k all inside = absurd (omega (arith, inside))
  spelled_at (c ∷ cs) zero all inside = all.0
  spelled_at (c ∷ cs) (suc k) all inside = spelled_at cs k all.1 (omega (arith, inside))

  pub clock_spelled : (k : ℕ) → k < length p.clocks → IsClockName (name_at (listing_of p).clock_names k)
  clock_spelled k inside = spelled_at p.clocks k (recursion_from_All (λ (c : Clock). IsClockName c.name) p.clocks lawful.formed.clock_names) inside

  pub what_spelled : (a : What) → NamesWhat p a → AreStated (stated_words p a)
  what_spelled (Delays links.All) named = tt
  what_spelled (Delays (links.Between f t)) named = (inl refl, clock_spelled f named.0, clock_spelled t named.1)
  what_spelled (Least links.All) named = inr (inl refl)
  what_spelled (Least (links.Between f t)) named = (inr refl, clock_spelled f named.0, clock_spelled t named.1)
  what_spelled (Stamps clocks.All) named = inl (inl refl)
  what_spelled (Stamps (clocks.One k)) named = (inl refl, clock_spelled k named)
  what_spelled (Rates clocks.All) named = inl (inr refl)
  what_spelled (Rates (clocks.One k)) named = (inr refl, clock_spelled k named)
  what_spelled Gaps named = inr (inr refl)

-- ---- they lack spaces and line feeds
abbrev IsBlank : ℕ → Type 0
IsBlank d = (d ≡ 10) ⊎ (d ≡ 32)

clocks_kind_lacks : (d : ℕ) (kind : List ℕ) → IsBlank d → IsKindOfClocks kind → Lacks d kind
clocks_kind_lacks d kind (inl is) (inl k) = rw (is, k) (lacks_test 10 (codes "stamps") refl)
clocks_kind_lacks d kind (inr is) (inl k) = rw (is, k) (lacks_test 32 (codes "stamps") refl)
clocks_kind_lacks d kind (inl is) (inr k) = rw (is, k) (lacks_test 10 (codes "rates") refl)
clocks_kind_lacks d kind (inr is) (inr k) = rw (is, k) (lacks_test 32 (codes "rates") refl)

least_kind_lacks : (d : ℕ) (kind : List ℕ) → IsBlank d → kind ≡ codes "least" → Lacks d kind
least_kind_lacks d kind (inl is) k = rw (is, k) (lacks_test 10 (codes "least") refl)
least_kind_lacks d kind (inr is) k = rw (is, k) (lacks_test 32 (codes "least") refl)

gaps_kind_lacks : (d : ℕ) (kind : List ℕ) → IsBlank d → kind ≡ codes "gaps" → Lacks d kind
gaps_kind_lacks d kind (inl is) k = rw (is, k) (lacks_test 10 (codes "gaps") refl)
gaps_kind_lacks d kind (inr is) k = rw (is, k) (lacks_test 32 (codes "gaps") refl)

links_kind_lacks : (d : ℕ) (kind : List ℕ) → IsBlank d → IsKindOfLinks kind → Lacks d kind
links_kind_lacks d kind (inl is) (inl k) = rw (is, k) (lacks_test 10 (codes "delays") refl)
links_kind_lacks d kind (inr is) (inl k) = rw (is, k) (lacks_test 32 (codes "delays") refl)
links_kind_lacks d kind blank (inr k) = least_kind_lacks d kind blank k

name_lacks : (d : ℕ) (name : List ℕ) → IsBlank d → IsClockName name → Lacks d name
name_lacks d name (inl is) spelled = clock_name_lacks d name (omega (arith, is)) spelled
name_lacks d name (inr is) spelled = clock_name_lacks d name (omega (arith, is)) spelled

pub stated_lacks : (d : ℕ) (ws : List (List ℕ)) → IsBlank d → AreStated ws → AllLack d ws
stated_lacks d [] blank stated = tt
stated_lacks d (kind ∷ []) blank (inl k) = (clocks_kind_lacks d kind blank k, tt)
stated_lacks d (kind ∷ []) blank (inr (inl k)) = (least_kind_lacks d kind blank k, tt)
stated_lacks d (kind ∷ []) blank (inr (inr k)) = (gaps_kind_lacks d kind blank k, tt)
stated_lacks d (kind ∷ clock ∷ []) blank stated = (clocks_kind_lacks d kind blank stated.0, (name_lacks d clock blank stated.1, tt))
stated_lacks d (kind ∷ from ∷ to ∷ []) blank stated = (links_kind_lacks d kind blank stated.0, (name_lacks d from blank stated.1, (name_lacks d to blank stated.2, tt)))
stated_lacks d (kind ∷ from ∷ to ∷ other ∷ more) blank stated = absurd stated
