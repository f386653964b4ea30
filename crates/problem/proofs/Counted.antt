-- The clocks of a number are counted, as numbers change.
use Rattle.std.proofs.Common.{◌≡◌, ◌≢◌, ◌<◌, ◌≤◌, ◌+◌, ℕ, suc, zero, List, [], ◌∷◌, ◌++◌, length, Bool, true, false, cond, nat_eq, refl, sym, ◌∙◌, ap, subst, arith, inl, inr, length-append}
use Rattle.std.specs.Prelude.{slice_set}
use Rattle.std.proofs.Math.ListN.{length-set}
use Rattle.std.proofs.lemmas.Bool.{cases_lt, cases_eq}
use Rattle.std.proofs.lemmas.List.{get_or-map, get_or_past, length-map}
use Rattle.std.proofs.lemmas.List.Sums.{sum_by-cons, sum_by_push, sum_by-set}
use Rattle.problem.specs.declared.chains.Link.{Link}
use Rattle.problem.specs.Inside.{link_at, chain_size, AreChainCounts, renumber, renumbered, merged}
use Rattle.problem.proofs.OneLink.{lone, nothing, test_true, test_false, by_write, written_here, written_else, more_at}

-- whether a clock has the number, as 1 or 0
abbrev has : ℕ → Link → ℕ
has n l = cond (nat_eq l.number n) 1 0

has_it : (n : ℕ) (l : Link) → l.number ≡ n → has n l ≡ 1
has_it n l is = rw (test_true l.number n is) refl

has_other : (n : ℕ) (l : Link) → (l.number ≡ n → ⊥) → has n l ≡ 0
has_other n l differ = rw (test_false l.number n differ) refl

size_behind : (l : Link) (ls : List Link) (n : ℕ) → chain_size (l ∷ ls) n ≡ has n l + chain_size ls n
size_behind l ls n = sum_by-cons (has n) l ls

size_more : (ls : List Link) (l : Link) (n : ℕ) → chain_size (ls ++ l ∷ []) n ≡ chain_size ls n + has n l
size_more ls l n = sum_by_push (has n) ls l

size_none : (ls : List Link) (n : ℕ) → ((k : ℕ) → k < length ls → (link_at ls k).number ≡ n → ⊥) → chain_size ls n ≡ 0
size_none [] n none = refl
size_none (l ∷ ls) n none =
    let first = has_other n l (none zero (omega arith)) in
    let rest = size_none ls n (λ k inside. none (suc k) (omega (arith, inside))) in
    let sum = size_behind l ls n in omega (arith, first, rest, sum)

size_written : (ls : List Link) (i : ℕ) (l : Link) (n : ℕ) → i < length ls → l.number ≡ (link_at ls i).number → chain_size (slice_set ls i l) n ≡ chain_size ls n
size_written ls i l n inside same =
    let one : has n l ≡ has n (link_at ls i) = ap (λ (m : ℕ). cond (nat_eq m n) 1 0) same in
    let sums = sum_by-set (has n) ls i l nothing inside in omega (arith, one, sums)

-- ---- two numbers
one_of_two : (a b : ℕ) (l : Link) → a ≢ b → has a l + has b l ≤ 1
one_of_two a b l differ = elim (cases_eq l.number a) [
  | inl is ↦ (let one = has_it a l is in let two = has_other b l (λ e. differ (sym is ∙ e)) in omega (arith, one, two))
  | inr other ↦ (let one = has_other a l other in elim (cases_eq l.number b) [
    | inl is ↦ (let two = has_it b l is in omega (arith, one, two))
    | inr none ↦ (let two = has_other b l none in omega (arith, one, two))
  ])
]

pub sizes_fit : (ls : List Link) (a b : ℕ) → a ≢ b → chain_size ls a + chain_size ls b ≤ length ls
sizes_fit [] a b differ = omega arith
sizes_fit (l ∷ ls) a b differ =
    let first = one_of_two a b l differ in
    let rest = sizes_fit ls a b differ in
    let one = size_behind l ls a in
    let two = size_behind l ls b in omega (arith, first, rest, one, two)

-- the one number in the place of the other
pub renumber_yes : (a b : ℕ) (l : Link) → l.number ≡ a → renumber a b l ≡ record l { number = b }
renumber_yes a b l is = rw (test_true l.number a is) refl

pub renumber_no : (a b : ℕ) (l : Link) → (l.number ≡ a → ⊥) → renumber a b l ≡ l
renumber_no a b l differ = rw (test_false l.number a differ) refl

pub renumber_number : (a b : ℕ) (l : Link) → (renumber a b l).number ≡ cond (nat_eq l.number a) b l.number
renumber_number a b l = by (nat_eq l.number a)
  where
    by : (test : Bool) → (let r : Link = cond test (record l { number = b }) l in r.number) ≡ cond test b l.number
    by true = refl
    by false = refl

has_both : (a b : ℕ) (l : Link) → a ≢ b → has b (renumber a b l) ≡ has a l + has b l
has_both a b l differ = elim (cases_eq l.number a) [
  | inl is ↦ (let one = has_it a l is in let two = has_other b l (λ e. differ (sym is ∙ e)) in
      let new = has_it b (renumber a b l) (ap (λ (v : Link). v.number) (renumber_yes a b l is)) in omega (arith, one, two, new))
  | inr other ↦ (let one = has_other a l other in let new = ap (has b) (renumber_no a b l other) in omega (arith, one, new))
]

has_still : (a b n : ℕ) (l : Link) → (n ≡ a → ⊥) → (n ≡ b → ⊥) → has n (renumber a b l) ≡ has n l
has_still a b n l first second = elim (cases_eq l.number a) [
  | inl is ↦ has_other n (renumber a b l) (λ e. second (sym e ∙ ap (λ (v : Link). v.number) (renumber_yes a b l is))) ∙ sym (has_other n l (λ e. first (sym e ∙ is)))
  | inr other ↦ ap (has n) (renumber_no a b l other)
]

size_both : (ls : List Link) (a b : ℕ) → a ≢ b → chain_size (renumbered ls a b) b ≡ chain_size ls a + chain_size ls b
size_both [] a b differ = refl
size_both (l ∷ ls) a b differ =
    let first = has_both a b l differ in
    let rest = size_both ls a b differ in
    let new = size_behind (renumber a b l) (renumbered ls a b) b in
    let one = size_behind l ls a in
    let two = size_behind l ls b in omega (arith, first, rest, new, one, two)

size_still : (ls : List Link) (a b n : ℕ) → (n ≡ a → ⊥) → (n ≡ b → ⊥) → chain_size (renumbered ls a b) n ≡ chain_size ls n
size_still [] a b n first second = refl
size_still (l ∷ ls) a b n first second =
    let one = has_still a b n l first second in
    let rest = size_still ls a b n first second in
    let new = size_behind (renumber a b l) (renumbered ls a b) n in
    let old = size_behind l ls n in omega (arith, one, rest, new, old)

-- ---- a clock's number and its size stay
pub counted_written : (ls : List Link) (i : ℕ) (l : Link) → i < length ls → l.number ≡ (link_at ls i).number → l.size ≡ (link_at ls i).size → AreChainCounts ls → AreChainCounts (slice_set ls i l)
counted_written ls i l inside number size counted = record {
  places = λ k within.
      let old = counted.places k (within_old k within) in
      let same = same_number k in
      let count = length-set ls i l in omega (arith, old, same, count);
  sizes = λ k within.
      ap (λ (n : ℕ). (link_at (slice_set ls i l) n).size) (same_number k) ∙ by_write ls i inside (λ v. v.size) l (link_at ls k).number size
      ∙ counted.sizes k (within_old k within) ∙ sym (size_written ls i l (link_at ls k).number inside number) ∙ ap (chain_size (slice_set ls i l)) (sym (same_number k));
}
  where
    same_number : (k : ℕ) → (link_at (slice_set ls i l) k).number ≡ (link_at ls k).number
    same_number k = by_write ls i inside (λ v. v.number) l k number

    within_old : (k : ℕ) → k < length (slice_set ls i l) → k < length ls
    within_old k within = let count = length-set ls i l in omega (arith, within, count)

-- ---- a clock more
module _ (ls : List Link) (counted : AreChainCounts ls) where
  abbrev more : List Link
  more = ls ++ lone (length ls) ∷ []

  count_more : length more ≡ length ls + 1
  count_more = length-append ls (lone (length ls) ∷ [])

  link_still : (k : ℕ) → k < length ls → link_at more k ≡ link_at ls k
  link_still k inside = elim (more_at ls (length ls) k refl) [
    | inl last ↦ absurd (let is = last.0 in omega (arith, inside, is))
    | inr other ↦ other.1
  ]

  link_last : link_at more (length ls) ≡ lone (length ls)
  link_last = elim (more_at ls (length ls) (length ls) refl) [
    | inl last ↦ last.2
    | inr other ↦ absurd (other.0 refl)
  ]

  size_last : chain_size more (length ls) ≡ 1
  size_last =
      let none = size_none ls (length ls) (λ k inside is. let place = counted.places k inside in omega (arith, place, is)) in
      let one = has_it (length ls) (lone (length ls)) refl in
      let sum = size_more ls (lone (length ls)) (length ls) in omega (arith, none, one, sum)

  size_else : (n : ℕ) → n < length ls → chain_size more n ≡ chain_size ls n
  size_else n inside =
      let none = has_other n (lone (length ls)) (λ is. omega (arith, inside, is)) in
      let sum = size_more ls (lone (length ls)) n in omega (arith, none, sum)

  counts : (k : ℕ) → k < length more → ((link_at more k).number < length more)
      × ((link_at more (link_at more k).number).size ≡ chain_size more (link_at more k).number)
  counts k within = elim (cases_eq k (length ls)) [
    | inl is ↦
        let number : (link_at more k).number ≡ length ls =
        ap (λ (j : ℕ). (link_at more j).number) is ∙ ap (λ (l : Link). l.number) link_last in (
          (let longer = count_more in omega (arith, number, longer)),
          ap (λ (n : ℕ). (link_at more n).size) number ∙ ap (λ (l : Link). l.size) link_last ∙ sym size_last ∙ ap (chain_size more) (sym number),
        )
    | inr differ ↦
        let inside : k < length ls = (let longer = count_more in omega (arith, within, longer, differ)) in
        let number : (link_at more k).number ≡ (link_at ls k).number = ap (λ (l : Link). l.number) (link_still k inside) in
        let place = counted.places k inside in (
          (let longer = count_more in omega (arith, number, place, longer)),
          ap (λ (n : ℕ). (link_at more n).size) number ∙ ap (λ (l : Link). l.size) (link_still (link_at ls k).number place) ∙ counted.sizes k inside
              ∙ sym (size_else (link_at ls k).number place) ∙ ap (chain_size more) (sym number),
        )
  ]

  pub counted_more : AreChainCounts (ls ++ lone (length ls) ∷ [])
  counted_more = record { places = λ k within. (counts k within).0; sizes = λ k within. (counts k within).1 }

-- ---- one number for two
module _ (ls : List Link) (a b : ℕ) (differ : a ≢ b) (place : b < length ls) where
  abbrev both : Link
  both = record (link_at (renumbered ls a b) b) { size = chain_size ls a + chain_size ls b }

  pub count_merged : length (merged ls a b) ≡ length ls
  count_merged = length-set (renumbered ls a b) b both ∙ length-map ls (renumber a b)

  place_in : b < length (renumbered ls a b)
  place_in = let same = length-map ls (renumber a b) in omega (arith, place, same)

  renumbered_at : (k : ℕ) → k < length ls → link_at (renumbered ls a b) k ≡ renumber a b (link_at ls k)
  renumbered_at k inside = get_or-map (renumber a b) ls k nothing nothing inside

  part_merged : {A : Type 0} (part : Link → A) → ((l : Link) (n : ℕ) → part (record l { size = n }) ≡ part l) → (k : ℕ) → k < length ls → part (link_at (merged ls a b) k) ≡ part (renumber a b (link_at ls k))
  part_merged part same k inside =
      by_write (renumbered ls a b) b place_in part both k (same (link_at (renumbered ls a b) b) (chain_size ls a + chain_size ls b))
      ∙ ap part (renumbered_at k inside)

  pub number_merged : (k : ℕ) → k < length ls → (link_at (merged ls a b) k).number ≡ (renumber a b (link_at ls k)).number
  number_merged k inside = part_merged (λ l. l.number) (λ l n. refl) k inside

  pub kept_merged : {A : Type 0} (part : Link → A) → ((l : Link) (n : ℕ) → part (record l { size = n }) ≡ part l) → ((l : Link) (n : ℕ) → part (record l { number = n }) ≡ part l)
      → (k : ℕ) → part (link_at (merged ls a b) k) ≡ part (link_at ls k)
  kept_merged part by_size by_number k = elim (cases_lt k (length ls)) [
    | inl inside ↦ part_merged part by_size k inside ∙ elim (cases_eq (link_at ls k).number a) [
      | inl is ↦ ap part (renumber_yes a b (link_at ls k) is) ∙ by_number (link_at ls k) b
      | inr other ↦ ap part (renumber_no a b (link_at ls k) other)
    ]
    | inr past ↦ ap part (get_or_past (merged ls a b) k nothing (let count = count_merged in omega (arith, count, past)) ∙ sym (get_or_past ls k nothing past))
  ]

  size_merged : (n : ℕ) → chain_size (merged ls a b) n ≡ chain_size (renumbered ls a b) n
  size_merged n = size_written (renumbered ls a b) b both n place_in refl

  -- a clock of the one number or the other, or of neither
  abbrev WellCounted : ℕ → Type 0
  WellCounted n = (n < length (merged ls a b)) × ((link_at (merged ls a b) n).size ≡ chain_size (merged ls a b) n)

  counted_both : (n : ℕ) → n ≡ b → WellCounted n
  counted_both n is = (
    (let count = count_merged in let here = place in omega (arith, is, here, count)),
    ap (λ (m : ℕ). (link_at (merged ls a b) m).size) is
        ∙ written_here (renumbered ls a b) b place_in (λ l. l.size) both
        ∙ sym (size_merged b ∙ size_both ls a b differ) ∙ ap (chain_size (merged ls a b)) (sym is),
  )

  counted_neither : (n : ℕ) → (n ≡ a → ⊥) → (n ≡ b → ⊥) → n < length ls → (link_at ls n).size ≡ chain_size ls n → WellCounted n
  counted_neither n first second inside size = (
    (let count = count_merged in omega (arith, inside, count)),
    else_size ∙ size ∙ sym (size_merged n ∙ size_still ls a b n first second),
  )
    where
      kept_size : (l : Link) → (renumber a b l).size ≡ l.size
      kept_size l = elim (cases_eq l.number a) [
        | inl is ↦ ap (λ (v : Link). v.size) (renumber_yes a b l is)
        | inr other ↦ ap (λ (v : Link). v.size) (renumber_no a b l other)
      ]

      else_size : (link_at (merged ls a b) n).size ≡ (link_at ls n).size
      else_size =
          written_else (renumbered ls a b) b place_in (λ l. l.size) both n second
          ∙ ap (λ (l : Link). l.size) (renumbered_at n inside) ∙ kept_size (link_at ls n)

  well_counted : AreChainCounts ls → (k : ℕ) → k < length ls → WellCounted (link_at (merged ls a b) k).number
  well_counted counted k inside = elim (cases_eq (link_at ls k).number a) [
    | inl is ↦ counted_both (link_at (merged ls a b) k).number (number_merged k inside ∙ ap (λ (l : Link). l.number) (renumber_yes a b (link_at ls k) is))
    | inr other ↦
        let number : (link_at (merged ls a b) k).number ≡ (link_at ls k).number = number_merged k inside ∙ ap (λ (l : Link). l.number) (renumber_no a b (link_at ls k) other) in
        elim (cases_eq (link_at ls k).number b) [
          | inl is ↦ counted_both (link_at (merged ls a b) k).number (number ∙ is)
          | inr none ↦ subst WellCounted (sym number) (counted_neither (link_at ls k).number other none (counted.places k inside) (counted.sizes k inside))
        ]
  ]

  pub counted_merged : AreChainCounts ls → AreChainCounts (merged ls a b)
  counted_merged counted = record {
    places = λ k within. (well_counted counted k (omega (arith, count_merged, within))).0;
    sizes = λ k within. (well_counted counted k (omega (arith, count_merged, within))).1;
  }
