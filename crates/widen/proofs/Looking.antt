-- From the words of what is named to those on the line of a widening.
use Rattle.std.proofs.Common.{◌≡◌, ◌⊎◌, inl, inr, ℕ, List, [], ◌∷◌, length, get_or, codes, refl, sym, ◌∙◌, ap, arith}
use Rattle.problem_model.specs.Problem.{ProblemLists}
use Rattle.cert_check.specs.declared.what.What.{What}
use Rattle.widen.specs.declared.named.NamedLinks.TheVariants as named_links
use Rattle.widen.specs.declared.named.NamedWhat.{NamedWhat}
use Rattle.widen.specs.declared.named.NamedWhat.TheVariants.{Delays, Least, Stamps, Rates, Gaps}
use Rattle.widen.specs.Named.{what_words, stated_words, SaysWhat, StatesWhat}
use Rattle.widen.specs.NamedWords.{named_words, stated_named}
use Rattle.widen.proofs.Naming.{IsOther, some_words, stated_cases}

byte_of : ℕ → List (List ℕ) → ℕ
byte_of n ws = get_or (get_or ws 0 []) n 0

some_named : (n : NamedWhat) → [] ≡ named_words n → ⊥
some_named (Delays v) is = cc
some_named (Least v) is = cc
some_named (Stamps v) is = cc
some_named (Rates v) is = cc
some_named Gaps is = cc

module _ (p : ProblemLists) where
  named_cases : (n : NamedWhat) → ((named_words n ≡ codes "delays" ∷ []) × (stated_named n ≡ [])) ⊎ ((stated_named n ≡ named_words n) × IsOther p (named_words n))
  unfolding byte_of
  named_cases (Delays named_links.All) = inl (refl, refl)
  named_cases (Delays (named_links.Between f t)) = inr (refl, (λ is. let h = ap length is in omega (arith, h)))
  named_cases (Least v) = inr (refl, (λ is. let h = ap (byte_of 0) is in omega (arith, h)))
  named_cases (Stamps v) = inr (refl, (λ is. let h = ap (byte_of 0) is in omega (arith, h)))
  named_cases (Rates v) = inr (refl, (λ is. let h = ap (byte_of 0) is in omega (arith, h)))
  named_cases Gaps = inr (refl, (λ is. let h = ap (byte_of 0) is in omega (arith, h)))

  words_on : (n : NamedWhat) (what : What) → named_words n ≡ what_words p what → stated_named n ≡ stated_words p what
  words_on n what is = elim (named_cases n) [
    | inl none ↦ elim (stated_cases p what) [
      | inl none' ↦ none.1 ∙ sym none'.1
      | inr some ↦ absurd (some.1 (sym is ∙ none.0))
    ]
    | inr some ↦ elim (stated_cases p what) [
      | inl none ↦ absurd (some.1 (is ∙ ap (what_words p) none.0))
      | inr some' ↦ some.0 ∙ is ∙ sym some'.0
    ]
  ]

  words_back : (n : NamedWhat) (what : What) → stated_named n ≡ stated_words p what → named_words n ≡ what_words p what
  words_back n what is = elim (named_cases n) [
    | inl none ↦ elim (stated_cases p what) [
      | inl none' ↦ none.0 ∙ sym (ap (what_words p) none'.0)
      | inr some ↦ absurd (some_words p what (sym none.1 ∙ is ∙ some.0))
    ]
    | inr some ↦ elim (stated_cases p what) [
      | inl none ↦ absurd (some_named n (sym none.1 ∙ sym is ∙ some.0))
      | inr some' ↦ sym some.0 ∙ is ∙ some'.0
    ]
  ]

  pub states_what : (n : NamedWhat) (what : What) → SaysWhat p (named_words n) what → StatesWhat p (stated_named n) what
  states_what n what says = (says.0, words_on n what says.1)

  pub states_none : (n : NamedWhat) → ((what : What) → SaysWhat p (named_words n) what → ⊥) → (what : What) → StatesWhat p (stated_named n) what → ⊥
  states_none n none what states = none what (states.0, words_back n what states.1)
