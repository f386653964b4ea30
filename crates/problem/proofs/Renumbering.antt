-- The clocks of a chain are given a number, one after the other.
use Rattle.std.proofs.Common.{◌≡◌, ◌≢◌, ◌⊎◌, ◌<◌, ◌≤◌, ℕ, List, length, get_or, Option, Some, None, refl, sym, ◌∙◌, ap, arith, inl, inr, ext_get_or}
use Rattle.std.specs.Prelude.{slice_set}
use Rattle.std.proofs.Math.ListN.{length-set}
use Rattle.std.proofs.lemmas.Bool.{cases_lt, cases_eq}
use Rattle.std.proofs.lemmas.List.{get_or-map, length-map}
use Rattle.problem_model.specs.declared.items.Follow.{Follow}
use Rattle.problem.specs.declared.chains.Link.{Link}
use Rattle.problem.specs.Inside.{link_at, LeadInOrder, renumber, renumbered}
use Rattle.problem.proofs.OneLink.{nothing, test_true, test_false, written_at}

abbrev pub with_number : Link → ℕ → Link
with_number l n = record l { number = n }

-- the clocks of the number have the new one, but for those that are left; this one comes next
pub record IsUnderWay (old now : List Link) (from to clock : ℕ) (Left : ℕ → Type 0) : Type 0 where
  pub count : length now ≡ length old
  pub inside : clock < length old
  pub here : (link_at old clock).number ≡ from
  pub done : (k : ℕ) → k < length old → (link_at old k).number ≡ from → (link_at now k ≡ with_number (link_at old k) to) ⊎ (Left k × (link_at now k ≡ link_at old k))
  pub others : (k : ℕ) → (link_at old k).number ≢ from → link_at now k ≡ link_at old k

pub starts : (old : List Link) (to clock : ℕ) (Left : ℕ → Type 0) → clock < length old
    → ((k : ℕ) → k < length old → (link_at old k).number ≡ (link_at old clock).number → Left k) → IsUnderWay old old (link_at old clock).number to clock Left
starts old to clock Left inside all = record {
  count = refl;
  inside = inside;
  here = refl;
  done = λ k within same. inr (all k within same, refl);
  others = λ k differ. refl;
}

module _ (old now new : List Link) (from to clock : ℕ) (Left : ℕ → Type 0) (way : IsUnderWay old now from to clock Left)
    (is : new ≡ slice_set now clock (with_number (link_at now clock) to)) where
  inside_now : clock < length now
  inside_now = let count = way.count in let inside = way.inside in omega (arith, count, inside)

  part_kept : {A : Type 0} (part : Link → A) → ((l : Link) → part (with_number l to) ≡ part l) → part (link_at now clock) ≡ part (link_at old clock)
  part_kept part same = elim (way.done clock way.inside way.here) [
    | inl done ↦ ap part done ∙ same (link_at old clock)
    | inr left ↦ ap part left.1
  ]

  pub after_known : (o : Option Follow) → o ≡ (link_at now clock).after → (link_at old clock).after ≡ o
  after_known o is = sym (part_kept (λ l. l.after) (λ l. refl)) ∙ sym is

  pub before_known : (o : Option Follow) → o ≡ (link_at now clock).before → (link_at old clock).before ≡ o
  before_known o is = sym (part_kept (λ l. l.before) (λ l. refl)) ∙ sym is

  at : (k : ℕ) → ((k ≡ clock) × (link_at new k ≡ with_number (link_at now clock) to)) ⊎ ((k ≡ clock → ⊥) × (link_at new k ≡ link_at now k))
  at k = rw is (written_at now clock k (with_number (link_at now clock) to) inside_now)

  pub count_kept : length new ≡ length old
  count_kept = ap length is ∙ length-set now clock (with_number (link_at now clock) to) ∙ way.count

  number_here : (k : ℕ) → k < length old → k ≡ clock → link_at new k ≡ with_number (link_at old k) to
  number_here k within same = elim (at k) [
    | inl here ↦ here.1 ∙ ap (λ (j : ℕ). with_number (link_at now j) to) (sym same) ∙ by_now (way.done k within (ap (λ (j : ℕ). (link_at old j).number) same ∙ way.here))
    | inr other ↦ absurd (other.0 same)
  ]
    where
      by_now : (link_at now k ≡ with_number (link_at old k) to) ⊎ (Left k × (link_at now k ≡ link_at old k)) → with_number (link_at now k) to ≡ with_number (link_at old k) to
      by_now (inl is) = ap (λ (l : Link). with_number l to) is
      by_now (inr is) = ap (λ (l : Link). with_number l to) is.1

  number_still : (k : ℕ) → k < length old → link_at now k ≡ with_number (link_at old k) to → link_at new k ≡ with_number (link_at old k) to
  number_still k within before = elim (at k) [
    | inl here ↦ number_here k within here.0
    | inr other ↦ other.1 ∙ before
  ]

  left_still : (k : ℕ) → (k ≡ clock → ⊥) → link_at now k ≡ link_at old k → link_at new k ≡ link_at old k
  left_still k differ before = elim (at k) [
    | inl here ↦ absurd (differ here.0)
    | inr other ↦ other.1 ∙ before
  ]

  number_else : (k : ℕ) → (link_at old k).number ≢ from → link_at new k ≡ link_at old k
  number_else k differ = left_still k (λ same. differ (ap (λ (j : ℕ). (link_at old j).number) same ∙ way.here)) (way.others k differ)

  pub goes_on : (next : ℕ) (Still : ℕ → Type 0) → next < length old → (link_at old next).number ≡ from
      → ((k : ℕ) → k < length old → (link_at old k).number ≡ from → Left k → (k ≡ clock) ⊎ Still k) → IsUnderWay old new from to next Still
  goes_on next Still inside here rest = record {
    count = count_kept;
    inside = inside;
    here = here;
    done = λ k within same. elim (way.done k within same) [
      | inl done ↦ inl (number_still k within done)
      | inr left ↦ elim (cases_eq k clock) [
        | inl one ↦ inl (number_here k within one)
        | inr differ ↦ elim (rest k within same left.0) [
          | inl one ↦ absurd (differ one)
          | inr still ↦ inr (still, left_still k differ left.1)
        ]
      ]
    ];
    others = number_else;
  }

  pub ends : ((k : ℕ) → k < length old → (link_at old k).number ≡ from → Left k → k ≡ clock) → new ≡ renumbered old from to
  ends none = ext_get_or nothing new (renumbered old from to) (count_kept ∙ sym (length-map old (renumber from to))) each
    where
      yes : (l : Link) → l.number ≡ from → renumber from to l ≡ with_number l to
      yes l same = rw (test_true l.number from same) refl

      other : (l : Link) → l.number ≢ from → renumber from to l ≡ l
      other l differ = rw (test_false l.number from differ) refl

      given : (k : ℕ) → k < length old → link_at new k ≡ renumber from to (link_at old k)
      given k within = elim (cases_eq (link_at old k).number from) [
        | inl same ↦ elim (way.done k within same) [
          | inl done ↦ number_still k within done
          | inr left ↦ number_here k within (none k within same left.0)
        ] ∙ sym (yes (link_at old k) same)
        | inr differ ↦ number_else k differ ∙ sym (other (link_at old k) differ)
      ]

      each : (k : ℕ) → k < length new → get_or new k nothing ≡ get_or (renumbered old from to) k nothing
      each k within =
          let count = count_kept in
          let here : k < length old = omega (arith, count, within) in
          given k here ∙ sym (get_or-map (renumber from to) old k nothing nothing here)

-- ---- which clocks are left, from the first one on and from the last one back
module _ (old : List Link) (order : LeadInOrder old) where
  pub left_onward : (first k : ℕ) → first < length old → (link_at old first).before ≡ None → (link_at old k).number ≡ (link_at old first).number → first ≤ k
  left_onward first k inside none same = elim (cases_lt k first) [
    | inl below ↦ absurd (order.first k first none below inside same)
    | inr above ↦ above
  ]

  pub left_back : (last k : ℕ) → k < length old → (link_at old last).after ≡ None → (link_at old k).number ≡ (link_at old last).number → k ≤ last
  left_back last k within none same = elim (cases_lt last k) [
    | inl above ↦ absurd (order.last last k none above within same)
    | inr below ↦ below
  ]

  pub next_onward : (clock k : ℕ) (f : Follow) → (link_at old clock).after ≡ Some f → (link_at old k).number ≡ (link_at old clock).number → clock ≤ k → (k ≡ clock) ⊎ (f.later ≤ k)
  next_onward clock k f is same from = elim (cases_eq k clock) [
    | inl one ↦ inl one
    | inr differ ↦ elim (cases_lt k f.later) [
      | inl below ↦ absurd ((order.onward clock f is).nearest k (omega (arith, differ, from)) below same)
      | inr above ↦ inr above
    ]
  ]

  pub next_back : (clock k : ℕ) (f : Follow) → (link_at old clock).before ≡ Some f → (link_at old k).number ≡ (link_at old clock).number → k ≤ clock → (k ≡ clock) ⊎ (k ≤ f.earlier)
  next_back clock k f is same to = elim (cases_eq k clock) [
    | inl one ↦ inl one
    | inr differ ↦ elim (cases_lt f.earlier k) [
      | inl above ↦ absurd ((order.back clock f is).nearest k above (omega (arith, differ, to)) (same ∙ (order.back clock f is).one_number))
      | inr below ↦ inr below
    ]
  ]

  pub end_onward : (clock k : ℕ) → k < length old → (link_at old clock).after ≡ None → (link_at old k).number ≡ (link_at old clock).number → clock ≤ k → k ≡ clock
  end_onward clock k within none same from = let to = left_back clock k within none same in omega (arith, from, to)

  pub end_back : (clock k : ℕ) → clock < length old → (link_at old clock).before ≡ None → (link_at old k).number ≡ (link_at old clock).number → k ≤ clock → k ≡ clock
  end_back clock k inside none same to = let from = left_onward clock k inside none same in omega (arith, from, to)
