-- What is held of one clock.
use Rattle.std.proofs.Common.{◌≡◌, ◌⊎◌, ◌<◌, ◌≤◌, ◌+◌, ℕ, List, [], ◌∷◌, ◌++◌, length, length-append, nat_eq, true, false, Some, None, refl, sym, ◌∙◌, ap, arith, inl, inr}
use Rattle.std.specs.Prelude.{slice_set}
use Rattle.std.proofs.lemmas.Bool.{cases_lt, cases_eq}
use Rattle.std.proofs.lemmas.List.{get_or_append_left, get_or-append-add, get_or_past, get_or-set_same, get_or-set_other}
use Rattle.problem_model.specs.declared.items.Follow.{Follow}
use Rattle.problem.specs.declared.chains.Link.{Link}
use Rattle.problem.specs.Inside.{link_at}

-- a clock without follows
abbrev pub lone : ℕ → Link
lone k = record { before = None; after = None; number = k; size = 1 }

-- what is held past the last one
abbrev pub nothing : Link
nothing = record { before = None; after = None; number = 0; size = 0 }

pub test_true : (a b : ℕ) → a ≡ b → nat_eq a b ≡ true
test_true a b is = grind (arith, is)

pub test_false : (a b : ℕ) → (a ≡ b → ⊥) → nat_eq a b ≡ false
test_false a b differ = grind (arith, differ)

-- ---- one link is written
pub written_at : (ls : List Link) (i k : ℕ) (l : Link) → i < length ls → ((k ≡ i) × (link_at (slice_set ls i l) k ≡ l)) ⊎ ((k ≡ i → ⊥) × (link_at (slice_set ls i l) k ≡ link_at ls k))
written_at ls i k l inside = elim (cases_eq k i) [
  | inl is ↦ inl (is, rw is (get_or-set_same ls i l nothing inside))
  | inr differ ↦ inr (differ, get_or-set_other ls i k l nothing differ)
]

-- the follow that leads on from a clock is told, then the one that leads to a clock
abbrev pub told_after : List Link → ℕ → Follow → List Link
told_after ls k f = slice_set ls k (record (link_at ls k) { after = Some f })

abbrev pub told_before : List Link → ℕ → Follow → List Link
told_before ls k f = slice_set ls k (record (link_at ls k) { before = Some f })

module _ (ls : List Link) (i : ℕ) (inside : i < length ls) where
  pub by_write : {A : Type 0} (part : Link → A) (l : Link) (k : ℕ) → part l ≡ part (link_at ls i) → part (link_at (slice_set ls i l) k) ≡ part (link_at ls k)
  by_write part l k same = elim (written_at ls i k l inside) [
    | inl here ↦ ap part here.1 ∙ same ∙ ap (λ (j : ℕ). part (link_at ls j)) (sym here.0)
    | inr other ↦ ap part other.1
  ]

  pub written_here : {A : Type 0} (part : Link → A) (l : Link) → part (link_at (slice_set ls i l) i) ≡ part l
  written_here part l = elim (written_at ls i i l inside) [
    | inl here ↦ ap part here.1
    | inr other ↦ absurd (other.0 refl)
  ]

  pub written_else : {A : Type 0} (part : Link → A) (l : Link) (k : ℕ) → (k ≡ i → ⊥) → part (link_at (slice_set ls i l) k) ≡ part (link_at ls k)
  written_else part l k differ = elim (written_at ls i k l inside) [
    | inl here ↦ absurd (differ here.0)
    | inr other ↦ ap part other.1
  ]

-- ---- a clock more
pub more_at : (ls : List Link) (n k : ℕ) → length ls ≡ n → (k ≡ n × (link_at ls k ≡ nothing) × (link_at (ls ++ lone n ∷ []) k ≡ lone n)) ⊎ ((k ≡ n → ⊥) × (link_at (ls ++ lone n ∷ []) k ≡ link_at ls k))
more_at ls n k count = elim (cases_lt k n) [
  | inl below ↦ inr ((λ is. omega (arith, below, is)), get_or_append_left ls (lone n ∷ []) nothing k (omega (arith, below, count)))
  | inr above ↦ elim (cases_eq k n) [
    | inl is ↦
        let past : length ls ≤ k = omega (arith, count, is) in
        let sum : k ≡ length ls + 0 = omega (arith, count, is) in
        inl (is, get_or_past ls k nothing past, rw sum (get_or-append-add ls (lone n ∷ []) 0 nothing))
    | inr differ ↦
        let past : length (ls ++ lone n ∷ []) ≤ k = rw length-append (omega (arith, count, above, differ)) in
        inr (differ, get_or_past (ls ++ lone n ∷ []) k nothing past ∙ sym (get_or_past ls k nothing (omega (arith, count, above))))
  ]
]
