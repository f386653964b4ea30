-- Flags of arcs that are taken out of force.
use Rattle.std.proofs.Common.{◌≡◌, ◌⊎◌, ℕ, Bool, true, false, List, [], ◌∷◌, get_or, set, length, Contains, sym, ◌∙◌, ap, subst, arith, inl, inr}
use Rattle.std.proofs.lemmas.Bool.{cases_eq, cases_lt}
use Rattle.std.proofs.lemmas.List.{length-set, get_or-set_same, get_or-set_other, get_or_past}
use Rattle.traces.proofs.Members.{here, there, none_in, head_or_tail}
use Rattle.solver.specs.Changes.{withdrawn}

pub stays_off : (flags : List Bool) (numbers : List ℕ) (k : ℕ) → get_or flags k false ≡ false → get_or (withdrawn flags numbers) k false ≡ false
stays_off flags [] k off = off
stays_off flags (j ∷ numbers) k off = stays_off (set flags j false) numbers k (elim (cases_eq k j) [
  | inl same ↦ set_off flags j k same
  | inr other ↦ get_or-set_other flags j k false false other ∙ off
])
  where
    set_off : (flags : List Bool) (j k : ℕ) → k ≡ j → get_or (set flags j false) k false ≡ false
    set_off flags j k same = elim (cases_lt j (length flags)) [
      | inl inside ↦ ap (λ (n : ℕ). get_or (set flags j false) n false) same ∙ get_or-set_same flags j false false inside
      | inr past ↦ get_or_past (set flags j false) k false (let long = length-set flags j false in omega (arith, past, same, long))
    ]

pub off_in : (flags : List Bool) (numbers : List ℕ) (k : ℕ) → Contains numbers k → get_or (withdrawn flags numbers) k false ≡ false
off_in flags [] k has = absurd (none_in k has)
off_in flags (j ∷ numbers) k has = elim (head_or_tail j k numbers has) [
  | inl same ↦ stays_off (set flags j false) numbers k (set_off flags j k (sym same))
  | inr more ↦ off_in (set flags j false) numbers k more
]
  where
    set_off : (flags : List Bool) (j k : ℕ) → k ≡ j → get_or (set flags j false) k false ≡ false
    set_off flags j k same = elim (cases_lt j (length flags)) [
      | inl inside ↦ ap (λ (n : ℕ). get_or (set flags j false) n false) same ∙ get_or-set_same flags j false false inside
      | inr past ↦ get_or_past (set flags j false) k false (let long = length-set flags j false in omega (arith, past, same, long))
    ]

pub on_or_in : (flags : List Bool) (numbers : List ℕ) (k : ℕ) → get_or flags k false ≡ true → Contains numbers k ⊎ (get_or (withdrawn flags numbers) k false ≡ true)
on_or_in flags [] k on = inr on
on_or_in flags (j ∷ numbers) k on = elim (cases_eq k j) [
  | inl same ↦ inl (subst (λ (n : ℕ). Contains (j ∷ numbers) n) (sym same) (here j numbers))
  | inr other ↦ elim (on_or_in (set flags j false) numbers k (get_or-set_other flags j k false false other ∙ on)) [ inl more ↦ inl (there j k numbers more) | inr still ↦ inr still ]
]
