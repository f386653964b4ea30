-- Levels of sums, as they are made, read and written.
use Rattle.std.proofs.Common.{◌≡◌, ℕ, ◌+◌, ◌-◌, ◌/◌, ◌<◌, ◌≤◌, zero, suc, List, [], ◌∷◌, ◌++◌, length, take, drop, replicate, get_or, set, refl, sym, ◌∙◌, ap, subst, arith}
use Rattle.std.specs.Global.{Vec}
use Rattle.std.proofs.lemmas.List.{length-set, length-map, length-replicate, map-append}
use Rattle.roster.specs.Groups.{total, IsPlaceOf, lists_of}
use Rattle.roster.specs.Sums.{pair_sums, AreLevelsTo, first_of}
use Rattle.roster.proofs.PairSums.{total_pairs, pairs_of_zeros, place_alone, exchanged, pairs_exchanged, pair_inside, part_of_pair, part_of_total, total_set}
use Rattle.roster.proofs.GroupSizes.{list_at, lists_set}

abbrev pub last_of : List (List ℕ) → List ℕ
last_of [] = []
last_of (level ∷ []) = level
last_of (level ∷ above ∷ levels) = last_of (above ∷ levels)

pub some_level : (most : ℕ) (ls : List (List ℕ)) → AreLevelsTo most ls → 1 ≤ length ls
some_level most [] are = absurd are
some_level most (l ∷ ls) are = omega arith

pub last_at : (ls : List (List ℕ)) → get_or ls (length ls - 1) [] ≡ last_of ls
last_at [] = refl
last_at (l ∷ []) = refl
last_at (l ∷ m ∷ ls) =
    let on : suc (suc (length ls)) - 1 ≡ suc (suc (length ls) - 1) = omega arith in
    ap (λ (k : ℕ). get_or (l ∷ m ∷ ls) k []) on ∙ last_at (m ∷ ls)

pub last_few : (most : ℕ) (ls : List (List ℕ)) → AreLevelsTo most ls → length (last_of ls) ≤ most
last_few most [] are = absurd are
last_few most (l ∷ []) are = are
last_few most (l ∷ m ∷ ls) are = last_few most (m ∷ ls) are.1

pub total_last : (most : ℕ) (ls : List (List ℕ)) → AreLevelsTo most ls → total (last_of ls) ≡ total (first_of ls)
total_last most [] are = absurd are
total_last most (l ∷ []) are = refl
total_last most (l ∷ m ∷ ls) are = total_last most (m ∷ ls) are.1 ∙ ap total are.0 ∙ total_pairs l

pub level_above : (most : ℕ) (ls : List (List ℕ)) (k : ℕ) → AreLevelsTo most ls → suc k < length ls → get_or ls (suc k) [] ≡ pair_sums (get_or ls k [])
level_above most [] k are inside = absurd are
level_above most (l ∷ []) k are inside = absurd (omega (arith, inside))
level_above most (l ∷ m ∷ ls) zero are inside = are.0
level_above most (l ∷ m ∷ ls) (suc k) are inside = level_above most (m ∷ ls) k are.1 (omega (arith, inside))

-- ---- one level more
pub one_more : (most more : ℕ) (ls : List (List ℕ)) (level : List ℕ) → AreLevelsTo most ls → level ≡ pair_sums (last_of ls) → length level ≤ more → AreLevelsTo more (ls ++ level ∷ [])
one_more most more [] level are is few = absurd are
one_more most more (l ∷ []) level are is few = (is, few)
one_more most more (l ∷ m ∷ ls) level are is few = (are.0, one_more most more (m ∷ ls) level are.1 is few)

pub last_more : (ls : List (List ℕ)) (level : List ℕ) → last_of (ls ++ level ∷ []) ≡ level
last_more [] level = refl
last_more (l ∷ []) level = refl
last_more (l ∷ m ∷ ls) level = last_more (m ∷ ls) level

pub first_more : (most : ℕ) (ls : List (List ℕ)) (level : List ℕ) → AreLevelsTo most ls → first_of (ls ++ level ∷ []) ≡ first_of ls
first_more most [] level are = absurd are
first_more most (l ∷ ls) level are = refl

pub fewer : (most more : ℕ) (ls : List (List ℕ)) → AreLevelsTo most ls → most ≤ more → AreLevelsTo more ls
fewer most more [] are le = absurd are
fewer most more (l ∷ []) are le = omega (arith, are, le)
fewer most more (l ∷ m ∷ ls) are le = (are.0, fewer most more (m ∷ ls) are.1 le)

-- ---- a number written anew, and the sums that it is in
abbrev pub changed : List (List ℕ) → ℕ → ℕ → ℕ → List (List ℕ)
changed [] k old new = []
changed (l ∷ ls) k old new = exchanged l k old new ∷ changed ls (k / 2) old new

half_below : (k : ℕ) → k / 2 + k / 2 ≤ k
half_below k = omega arith

half_above : (k : ℕ) → k ≤ k / 2 + k / 2 + 1
half_above k = omega arith

pub levels_changed : (most : ℕ) (ls : List (List ℕ)) (k old new : ℕ) → AreLevelsTo most ls → k < length (first_of ls) → old ≤ get_or (first_of ls) k 0 → AreLevelsTo most (changed ls k old new)
levels_changed most [] k old new are inside part = absurd are
levels_changed most (l ∷ []) k old new are inside part = let long = length-set l k (get_or l k 0 - old + new) in omega (arith, are, long)
levels_changed most (l ∷ m ∷ ls) k old new are inside part = (
  ap (λ (x : List ℕ). exchanged x (k / 2) old new) are.0 ∙ sym (pairs_exchanged l k (k / 2) old new (half_below k) (half_above k) inside part),
  levels_changed most (m ∷ ls) (k / 2) old new are.1
      (subst (λ (x : List ℕ). k / 2 < length x) (sym are.0) (pair_inside l k (k / 2) (half_below k) inside))
      (subst (λ (x : List ℕ). old ≤ get_or x (k / 2) 0) (sym are.0) (let more = part_of_pair l k (k / 2) (half_below k) (half_above k) in omega (arith, more, part))),
)

pub first_changed : (most : ℕ) (ls : List (List ℕ)) (k old new : ℕ) → AreLevelsTo most ls → get_or (first_of ls) k 0 ≡ old → first_of (changed ls k old new) ≡ set (first_of ls) k new
first_changed most [] k old new are is = absurd are
first_changed most (l ∷ ls) k old new are is = let on : get_or l k 0 - old + new ≡ new = omega (arith, is) in ap (λ (n : ℕ). set l k n) on

-- the levels that are left to be written have the number at k, and all of them fit
abbrev pub AreLeft : List (List ℕ) → ℕ → ℕ → ℕ → ℕ → Type 0
AreLeft [] k old new most = Unit {0}
AreLeft (l ∷ ls) k old new most = AreLevelsTo 1 (l ∷ ls) × (k < length l) × (old ≤ get_or l k 0) × (total l + new < most + old)

left_next : (l : List ℕ) (ls : List (List ℕ)) (k old new most : ℕ) → AreLeft (l ∷ ls) k old new most → AreLeft ls (k / 2) old new most
left_next l [] k old new most left = tt
left_next l (m ∷ ls) k old new most left =
    let is : m ≡ pair_sums l = left.0.0 in
    let fits : total l + new < most + old = left.3 in
    let part : old ≤ get_or l k 0 = left.2 in (
      left.0.1,
      subst (λ (x : List ℕ). k / 2 < length x) (sym is) (pair_inside l k (k / 2) (half_below k) left.1),
      subst (λ (x : List ℕ). old ≤ get_or x (k / 2) 0) (sym is) (let more = part_of_pair l k (k / 2) (half_below k) (half_above k) in omega (arith, more, part)),
      let same : total m ≡ total l = ap total is ∙ total_pairs l in omega (arith, same, fits),
    )

pub left_first : (ls : List (List ℕ)) (k old new most : ℕ) → AreLevelsTo 1 ls → k < length (first_of ls) → get_or (first_of ls) k 0 ≡ old → total (first_of ls) + new < most + old → AreLeft ls k old new most
left_first [] k old new most are inside is fits = tt
left_first (l ∷ ls) k old new most are inside is fits = (are, inside, omega (arith, is), fits)

-- where the loop is, at level i: the levels before are written
pub record IsWriting (initial ls : List (List ℕ)) (i place at old new most : ℕ) : Type 0 where
  pub becomes : take i ls ++ changed (drop i ls) at old new ≡ changed initial place old new
  pub left : AreLeft (drop i ls) at old new most

here_is : (ls : List (List ℕ)) (i : ℕ) → i < length ls → drop i ls ≡ get_or ls i [] ∷ drop (suc i) ls
here_is [] i inside = absurd (omega (arith, inside))
here_is (l ∷ ls) zero inside = refl
here_is (l ∷ ls) (suc i) inside = here_is ls i (omega (arith, inside))

drop_behind : (ls : List (List ℕ)) (i : ℕ) (l : List ℕ) → drop (suc i) (set ls i l) ≡ drop (suc i) ls
drop_behind [] i l = refl
drop_behind (m ∷ ls) zero l = refl
drop_behind (m ∷ ls) (suc i) l = drop_behind ls i l

one_written : (ls : List (List ℕ)) (i at old new : ℕ) → i < length ls →
    take (suc i) (set ls i (exchanged (get_or ls i []) at old new)) ++ changed (drop (suc i) (set ls i (exchanged (get_or ls i []) at old new))) (at / 2) old new ≡ take i ls ++ changed (drop i ls) at old new
one_written [] i at old new inside = absurd (omega (arith, inside))
one_written (l ∷ ls) zero at old new inside = refl
one_written (l ∷ ls) (suc i) at old new inside = ap (λ (x : List (List ℕ)). l ∷ x) (one_written ls i at old new (omega (arith, inside)))

pub writing_here : (initial ls : List (List ℕ)) (i place at old new most : ℕ) → IsWriting initial ls i place at old new most → i < length ls → AreLeft (get_or ls i [] ∷ drop (suc i) ls) at old new most
writing_here initial ls i place at old new most w inside = subst (λ (x : List (List ℕ)). AreLeft x at old new most) (here_is ls i inside) w.left

pub writing_next : (initial ls : List (List ℕ)) (i place at old new most : ℕ) → IsWriting initial ls i place at old new most → i < length ls →
    IsWriting initial (set ls i (exchanged (get_or ls i []) at old new)) (suc i) place (at / 2) old new most
writing_next initial ls i place at old new most w inside = record {
  becomes = one_written ls i at old new inside ∙ w.becomes;
  left = subst (λ (x : List (List ℕ)). AreLeft x (at / 2) old new most) (sym (drop_behind ls i (exchanged (get_or ls i []) at old new)))
      (left_next (get_or ls i []) (drop (suc i) ls) at old new most (writing_here initial ls i place at old new most w inside));
}

-- ---- in lists of the code
length-lists : (ls : List (Vec ℕ)) → length (lists_of ls) ≡ length ls
length-lists ls = length-map ls (λ (l : Vec ℕ). l.items)

pub level_is : (ls : List (Vec ℕ)) (k : ℕ) (v : Vec ℕ) → v ≡ get_or ls k v → k < length ls → v.items ≡ get_or (lists_of ls) k []
level_is ls k v is inside = ap (λ (l : Vec ℕ). l.items) is ∙ list_at ls k v inside

pub levels_inside : (ls : List (Vec ℕ)) → AreLevelsTo 1 (lists_of ls) → 1 ≤ length ls
levels_inside ls are = let some = some_level 1 (lists_of ls) are in omega (arith, some, length-lists ls)

pub top_is : (ls : List (Vec ℕ)) → get_or (lists_of ls) (length ls - 1) [] ≡ last_of (lists_of ls)
top_is ls = ap (λ (n : ℕ). get_or (lists_of ls) (n - 1) []) (sym (length-lists ls)) ∙ last_at (lists_of ls)

pub top_total : (ls : List (Vec ℕ)) → AreLevelsTo 1 (lists_of ls) → total (get_or (lists_of ls) (length ls - 1) []) ≡ total (first_of (lists_of ls))
top_total ls are = ap total (top_is ls) ∙ total_last 1 (lists_of ls) are

pub top_few : (ls : List (Vec ℕ)) → AreLevelsTo 1 (lists_of ls) → length (get_or (lists_of ls) (length ls - 1) []) ≤ 1
top_few ls are = subst (λ (l : List ℕ). length l ≤ 1) (sym (top_is ls)) (last_few 1 (lists_of ls) are)

-- the only number of the top, or none
pub nothing : (l : List ℕ) → length l ≡ 0 → 0 ≡ total l
nothing [] none = refl
nothing (a ∷ l) none = absurd (omega (arith, none))

pub only : (l : List ℕ) (n : ℕ) → length l ≤ 1 → 0 < length l → n ≡ get_or l 0 n → n ≡ total l
only [] n few some is = absurd (omega (arith, some))
only (a ∷ []) n few some is = omega (arith, is)
only (a ∷ b ∷ l) n few some is = absurd (omega (arith, few))

pub top_place : (ls : List (Vec ℕ)) (sum : ℕ) → AreLevelsTo 1 (lists_of ls) → sum < total (first_of (lists_of ls)) → IsPlaceOf (get_or (lists_of ls) (length ls - 1) []) sum 0 sum
top_place ls sum are less = place_alone (get_or (lists_of ls) (length ls - 1) []) sum (top_few ls are) (omega (arith, less, top_total ls are))

-- from a level to the one below
pub below_is : (ls : List (Vec ℕ)) (k j : ℕ) → AreLevelsTo 1 (lists_of ls) → j ≡ suc k → j < length ls → get_or (lists_of ls) j [] ≡ pair_sums (get_or (lists_of ls) k [])
below_is ls k j are is inside =
    ap (λ (n : ℕ). get_or (lists_of ls) n []) is ∙ level_above 1 (lists_of ls) k are (omega (arith, is, inside, length-lists ls))

pub first_level : (ls : List (List ℕ)) (k : ℕ) → k ≡ 0 → get_or ls k [] ≡ first_of ls
first_level [] zero is = refl
first_level (l ∷ ls) zero is = refl
first_level ls (suc k) is = absurd (omega (arith, is))

-- ---- the loop that writes
module _ (initial : List (List ℕ)) (ls : List (Vec ℕ)) (i place at old new most : ℕ) (v : Vec ℕ) (w : IsWriting initial (lists_of ls) i place at old new most) (is : v ≡ get_or ls i v) (inside : i < length ls) where
  here : v.items ≡ get_or (lists_of ls) i []
  here = level_is ls i v is inside

  within : i < length (lists_of ls)
  within = omega (arith, inside, length-lists ls)

  left : AreLeft (v.items ∷ drop (suc i) (lists_of ls)) at old new most
  left = subst (λ (l : List ℕ). AreLeft (l ∷ drop (suc i) (lists_of ls)) at old new most) (sym here) (writing_here initial (lists_of ls) i place at old new most w within)

  pub at_inside : at < length v.items
  at_inside = left.1

  pub at_part : old ≤ get_or v.items at 0
  at_part = left.2

  pub at_fits : get_or v.items at 0 + new < most + old
  at_fits = let part = part_of_total v.items at in let fits : total v.items + new < most + old = left.3 in omega (arith, part, fits)

  pub go_on : (x : Vec ℕ) → x.items ≡ exchanged v.items at old new → IsWriting initial (lists_of (set ls i x)) (i + 1) place (at / 2) old new most
  go_on x so =
      let on : suc i ≡ i + 1 = omega arith in
      let lists : set (lists_of ls) i (exchanged (get_or (lists_of ls) i []) at old new) ≡ lists_of (set ls i x) =
      ap (λ (l : List ℕ). set (lists_of ls) i (exchanged l at old new)) (sym here) ∙ ap (λ (l : List ℕ). set (lists_of ls) i l) (sym so) ∙ sym (lists_set ls i x) in
      subst (λ (n : ℕ). IsWriting initial (lists_of (set ls i x)) n place (at / 2) old new most) on
      (subst (λ (l : List (List ℕ)). IsWriting initial l (suc i) place (at / 2) old new most) lists (writing_next initial (lists_of ls) i place at old new most w within))

all_written : (ls : List (List ℕ)) (i at old new : ℕ) → length ls ≤ i → take i ls ++ changed (drop i ls) at old new ≡ ls
all_written [] zero at old new past = refl
all_written [] (suc i) at old new past = refl
all_written (l ∷ ls) zero at old new past = absurd (omega (arith, past))
all_written (l ∷ ls) (suc i) at old new past = ap (λ (x : List (List ℕ)). l ∷ x) (all_written ls i at old new (omega (arith, past)))

get_whichever : (l : List ℕ) (k d e : ℕ) → k < length l → get_or l k d ≡ get_or l k e
get_whichever [] k d e inside = absurd (omega (arith, inside))
get_whichever (a ∷ l) zero d e inside = refl
get_whichever (a ∷ l) (suc k) d e inside = get_whichever l k d e (omega (arith, inside))

-- before the loop, and behind it
module _ (initial : List (Vec ℕ)) (place old new most : ℕ) (are : AreLevelsTo 1 (lists_of initial)) (inside : place < length (first_of (lists_of initial))) (v : Vec ℕ) (here : v ≡ get_or initial 0 v) (is : old ≡ get_or v.items place old) where
  first_is : v.items ≡ first_of (lists_of initial)
  first_is = level_is initial 0 v here (levels_inside initial are) ∙ first_level (lists_of initial) 0 refl

  old_is : get_or (first_of (lists_of initial)) place 0 ≡ old
  old_is = get_whichever (first_of (lists_of initial)) place 0 old inside ∙ ap (λ (l : List ℕ). get_or l place old) (sym first_is) ∙ sym is

  pub begin : total (set (first_of (lists_of initial)) place new) < most → IsWriting (lists_of initial) (lists_of initial) 0 place place old new most
  begin few = record {
    becomes = refl;
    left = left_first (lists_of initial) place old new most are inside old_is (let t = total_set (first_of (lists_of initial)) place new inside in omega (arith, t, few, old_is));
  }

  module _ (ls : List (Vec ℕ)) (i at : ℕ) (w : IsWriting (lists_of initial) (lists_of ls) i place at old new most) (past : length ls ≤ i) where
    becomes : lists_of ls ≡ changed (lists_of initial) place old new
    becomes = sym (all_written (lists_of ls) i at old new (omega (arith, past, length-lists ls))) ∙ w.becomes

    pub still_levels : AreLevelsTo 1 (lists_of ls)
    still_levels = subst (AreLevelsTo 1) (sym becomes) (levels_changed 1 (lists_of initial) place old new are inside (omega (arith, old_is)))

    pub first_written : first_of (lists_of ls) ≡ set (first_of (lists_of initial)) place new
    first_written = ap first_of becomes ∙ first_changed 1 (lists_of initial) place old new are old_is

-- ---- levels over zeros
module _ (width : ℕ) (ls now : List (Vec ℕ)) (level : Vec ℕ) (are : AreLevelsTo width (lists_of ls)) (zeros : last_of (lists_of ls) ≡ replicate width 0) (on : level.items ≡ replicate (width - width / 2) 0) (push : now ≡ ls ++ level ∷ []) where
  pushed : lists_of now ≡ lists_of ls ++ level.items ∷ []
  pushed = ap lists_of push ∙ map-append (λ (l : Vec ℕ). l.items) ls (level ∷ [])

  half : level.items ≡ pair_sums (last_of (lists_of ls))
  half = on ∙ sym (ap pair_sums zeros ∙ pairs_of_zeros width (width - width / 2) (omega arith) (omega arith))

  pub more_levels : AreLevelsTo (width - width / 2) (lists_of now)
  more_levels = subst (AreLevelsTo (width - width / 2)) (sym pushed) (one_more width (width - width / 2) (lists_of ls) level.items are half (let n = length-replicate {A = ℕ} (width - width / 2) 0 in let same = ap length on in omega (arith, n, same)))

  pub more_last : last_of (lists_of now) ≡ replicate (width - width / 2) 0
  more_last = ap last_of pushed ∙ last_more (lists_of ls) level.items ∙ on

  pub same_first : first_of (lists_of now) ≡ first_of (lists_of ls)
  same_first = ap first_of pushed ∙ first_more width (lists_of ls) level.items are
