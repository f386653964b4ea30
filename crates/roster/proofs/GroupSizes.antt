-- Groups that are written anew in part.
use Rattle.std.proofs.Common.{◌≡◌, ℕ, ◌+◌, ◌<◌, ◌≤◌, List, [], ◌∷◌, ◌++◌, length, take, replicate, length-append, Result, Ok, Err, OnErr, get_or, zero, suc, refl, sym, ◌∙◌, ap, subst, arith, set}
use Rattle.std.specs.Global.{Vec}
use Rattle.std.proofs.lemmas.List.{map-set, length-map, length-take, get_or-set_same}
use Rattle.roster.specs.Groups.{total, sizes_of, group_at, lists_of}
use Rattle.roster.proofs.PairSums.{part_of_total}

-- a group of the same size in the place of another
pub same_sizes : {T : Type 0} (groups : List (List T)) (g : ℕ) (group : List T) → g < length groups → length group ≡ length (group_at groups g) → sizes_of (set groups g group) ≡ sizes_of groups
same_sizes [] g group inside same = absurd (omega (arith, inside))
same_sizes (x ∷ groups) zero group inside same = ap (λ (n : ℕ). n ∷ sizes_of groups) same
same_sizes (x ∷ groups) (suc g) group inside same = ap (λ (ns : List ℕ). length x ∷ ns) (same_sizes groups g group (omega (arith, inside)) same)

-- so many empty groups have no elements
pub empty_sizes : (T : Type 0) (n : ℕ) → replicate n 0 ≡ sizes_of (replicate {A = List T} n [])
empty_sizes T zero = refl
empty_sizes T (suc n) = ap (λ (ns : List ℕ). 0 ∷ ns) (empty_sizes T n)

-- what lists of the code hold when one of them is written
pub lists_set : {T : Type 0} (lists : List (Vec T)) (g : ℕ) (list : Vec T) → lists_of (set lists g list) ≡ set (lists_of lists) g list.items
lists_set {T} lists g list = map-set (λ (l : Vec T). l.items) lists g list

pub list_at : {T : Type 0} (lists : List (Vec T)) (g : ℕ) (d : Vec T) → g < length lists → (get_or lists g d).items ≡ group_at (lists_of lists) g
list_at [] g d inside = absurd (omega (arith, inside))
list_at (x ∷ lists) zero d inside = refl
list_at (x ∷ lists) (suc g) d inside = list_at lists g d (omega (arith, inside))

pub length-sizes : {T : Type 0} (lists : List (Vec T)) → length (sizes_of (lists_of lists)) ≡ length lists
length-sizes [] = refl
length-sizes (x ∷ lists) = ap suc (length-sizes lists)

set_same : {T : Type 0} (groups : List (List T)) (g : ℕ) → set groups g (group_at groups g) ≡ groups
set_same [] zero = refl
set_same [] (suc g) = refl
set_same (x ∷ groups) zero = refl
set_same {T} (x ∷ groups) (suc g) = ap (λ (l : List (List T)). x ∷ l) (set_same groups g)

pub total_sets : {T : Type 0} (groups : List (List T)) (g : ℕ) (group : List T) → g < length groups → total (sizes_of (set groups g group)) + length (group_at groups g) ≡ total (sizes_of groups) + length group
total_sets [] g group inside = absurd (omega (arith, inside))
total_sets (x ∷ groups) zero group inside = omega arith
total_sets (x ∷ groups) (suc g) group inside = let more = total_sets groups g group (omega (arith, inside)) in omega (arith, more)

-- one list of the code is written anew
module _ {T : Type 0} (lists : List (Vec T)) (sizes : List ℕ) (now : List (List T)) (g : ℕ) (old new : Vec T) (en : lists_of lists ≡ now) (here : old ≡ get_or lists g old) (inside : g < length now) (are : sizes ≡ sizes_of (lists_of lists)) where
  within : g < length lists
  within = omega (arith, inside, ap length en, length-map lists (λ (l : Vec T). l.items))

  pub group_is : old.items ≡ group_at now g
  group_is = ap (λ (l : Vec T). l.items) here ∙ list_at lists g old within ∙ ap (λ (gs : List (List T)). group_at gs g) en

  pub write_is : (f : List T → List T) → new.items ≡ f old.items → lists_of (set lists g new) ≡ set now g (f (group_at now g))
  write_is f is = lists_set lists g new ∙ ap (λ (l : List T). set (lists_of lists) g l) (is ∙ ap f group_is) ∙ ap (λ (gs : List (List T)). set gs g (f (group_at now g))) en

  pub write_none : new.items ≡ old.items → lists_of (set lists g new) ≡ now
  write_none is = write_is (λ (l : List T). l) is ∙ set_same now g

  pub size_within : g < length sizes
  size_within = omega (arith, within, ap length are, length-sizes lists)

  pub size_written : set sizes g (length new.items) ≡ sizes_of (lists_of (set lists g new))
  size_written =
      ap (λ (ns : List ℕ). set ns g (length new.items)) are ∙ sym (map-set length (lists_of lists) g new.items) ∙ ap sizes_of (sym (lists_set lists g new))

  pub few_then : (f : List T → List T) (more most : ℕ) → new.items ≡ f old.items → length (f (group_at now g)) ≤ length (group_at now g) + more → total (sizes_of now) + more < most → total (sizes_of (lists_of (set lists g new))) < most
  few_then f more most is fits few =
      let t = total_sets now g (f (group_at now g)) inside in
      let e : total (sizes_of (lists_of (set lists g new))) ≡ total (sizes_of (set now g (f (group_at now g)))) = ap (λ (gs : List (List T)). total (sizes_of gs)) (write_is f is) in
      omega (arith, t, e, fits, few)

  pub length_there : (n : ℕ) (x : Vec T) → n ≡ length x.items → x ≡ get_or (set lists g new) g x → n ≡ length new.items
  length_there n x long is = long ∙ ap (λ (l : Vec T). length l.items) (is ∙ get_or-set_same lists g new x within)

  pub fits_then : (f : List T → List T) (more most : ℕ) → new.items ≡ f old.items → length (f (group_at now g)) ≤ length (group_at now g) + more → total (sizes_of now) + more < most → total (set sizes g (length new.items)) < most
  fits_then f more most is fits few = subst (λ (ns : List ℕ). total ns < most) (sym size_written) (few_then f more most is fits few)

  pub length_fits : (most : ℕ) → total (set sizes g (length new.items)) < most → length new.items < most
  length_fits most few =
      let part = part_of_total (set sizes g (length new.items)) g in
      let here = get_or-set_same sizes g (length new.items) 0 size_within in
      omega (arith, part, here, few)

  pub sizes_stay : (f : List T → List T) → new.items ≡ f old.items → length (f (group_at now g)) ≡ length (group_at now g) → sizes ≡ sizes_of (lists_of (set lists g new))
  sizes_stay f is same =
      are ∙ ap sizes_of en ∙ sym (same_sizes now g (f (group_at now g)) inside same) ∙ ap sizes_of (sym (write_is f is))

pub tail_fits : {T : Type 0} (from : ℕ) (l tail : List T) → length (take from l ++ tail) ≤ length l + length tail
tail_fits from l tail = omega (arith, length-append (take from l) tail, length-take from l)

pub cut_fits : {T : Type 0} (from : ℕ) (l : List T) → length (take from l) ≤ length l + 0
cut_fits from l = omega (arith, length-take from l)

pub in_err : {V E : Type 0} (r : Result V E) (P : Type 0) → P → OnErr r P
in_err (Ok v) P p = tt
in_err (Err e) P p = p
