-- What is sorted by the names of events stands in their order.
use Rattle.std.proofs.Common.{◌≡◌, ◌≢◌, ◌<◌, ℕ, List, [], ◌∷◌, length, map, get_or, false, inl, inr, refl, sym, ap, ◌∙◌, subst, arith, true≢false}
use Rattle.std.specs.Prelude.{AllPairs}
use Rattle.std.specs.List.Sorted.{IsPermutation, IsSortedByKey}
use Rattle.std.specs.declared.cmp.Ordering.{Ordering}
use Rattle.std.specs.declared.cmp.Ordering.TheVariants.{Less, Equal, Greater}
use Rattle.std.specs.Ordering.{MatchOrdering, nat_cmp, ordering_then, is_lt}
use Rattle.std.specs.Cmp.{IsTotalOrder}
use Rattle.std.proofs.lemmas.Cmp.{ranked, nat_cmp_total, on_total, then_total}
use Rattle.std.proofs.lemmas.List.{get_or-map, length-map}
use Rattle.std.proofs.lemmas.List.Sorted.{Contains-permutation, IsPermutation-map, IsPermutation-sym, ranks_by, sorted_far}
use Rattle.msg_match.proofs.Distinct.{IsExact}
use Rattle.traces.specs.declared.event_id.EventId.{EventId}
use Rattle.traces.specs.Traces.{is_same}
use Rattle.traces.specs.Pairs.{ComesBefore}
use Rattle.traces.proofs.Ids.{before_differs}
use Rattle.traces.proofs.Members.{no_pairs}
use Rattle.msg_match.proofs.Names.{made_id, own_id, same_id}
use Rattle.msg_match.proofs.Rising.{differ_still, lists_one, pairs_map, pairs_unmap}

-- ---- two names
pub exact_ids : IsExact is_same
exact_ids = record { one = same_id; own = own_id }

pub no_circle : (a b : EventId) → ComesBefore a b → ComesBefore b a → ⊥
no_circle a b (inl x) (inl y) = omega (arith, x, y)
no_circle a b (inl x) (inr y) = omega (arith, x, y.0)
no_circle a b (inr x) (inl y) = omega (arith, x.0, y)
no_circle a b (inr x) (inr y) = omega (arith, x.1, y.1)

-- what names are sorted by: the label, then the number
abbrev pub rank : EventId → ℕ × ℕ
rank id = (id.label, id.number)

abbrev pub rank_cmp : ℕ × ℕ → ℕ × ℕ → Ordering
rank_cmp a b = ordering_then (nat_cmp a.0 b.0) (nat_cmp a.1 b.1)

rank_total : IsTotalOrder rank_cmp
rank_total = then_total (on_total (λ (r : ℕ × ℕ). r.0) nat_cmp_total) (on_total (λ (r : ℕ × ℕ). r.1) nat_cmp_total)

-- the first of the two in which b is above a tells
first_of : (a b : EventId) (l n : Ordering) → MatchOrdering l (b.label < a.label) (b.label ≡ a.label) (a.label < b.label) → MatchOrdering n (b.number < a.number) (b.number ≡ a.number) (a.number < b.number)
    → a ≢ b → is_lt (ordering_then l n) ≡ false → ComesBefore a b
first_of a b Less n label number apart e = absurd (true≢false e)
first_of a b Greater n label number apart e = inl label
first_of a b Equal Less label number apart e = absurd (true≢false e)
first_of a b Equal Greater label number apart e = inr (sym label, number)
first_of a b Equal Equal label number apart e = absurd (apart (ap (λ (k : ℕ). made_id k a.number) (sym label) ∙ ap (λ (k : ℕ). made_id b.label k) (sym number)))

comes_before : (a b : EventId) → a ≢ b → is_lt (rank_cmp (rank b) (rank a)) ≡ false → ComesBefore a b
comes_before a b = first_of a b (nat_cmp b.label a.label) (nat_cmp b.number a.number) (ranked b.label a.label _ refl) (ranked b.number a.number _ refl)

-- names in their order are different
pub rising_differ : (ids : List EventId) → AllPairs ComesBefore ids → AllPairs (λ (a b : EventId). a ≢ b) ids
rising_differ ids up i j d below inside = before_differs _ _ (up i j d below inside)

-- ---- what a sort gives
module _ {X Y : Type 0} (h : X → Y) (f : Y → EventId) where
  Before : Y → Y → Type 0
  Before a b = ComesBefore (f a) (f b)

  Differ : Y → Y → Type 0
  Differ a b = f a ≢ f b

  in_order : (x : X) (xs : List X) → IsSortedByKey (λ y. rank (f (h y))) rank_cmp xs → AllPairs Differ (map h xs) → AllPairs Before (map h xs)
  unfolding Before Differ
  in_order x xs up differ i j d below inside =
      let last : j < length xs = omega (arith, inside, length-map xs h) in
      let first : i < length xs = omega (arith, below, last) in
      let here : get_or (map h xs) i d ≡ h (get_or xs i x) = get_or-map h xs i x d first in
      let there : get_or (map h xs) j d ≡ h (get_or xs j x) = get_or-map h xs j x d last in
      let less : is_lt (rank_cmp (rank (f (h (get_or xs j x)))) (rank (f (h (get_or xs i x))))) ≡ false = sorted_far _ (ranks_by rank_total (λ (y : X). rank (f (h y)))) xs up i j x (omega (arith, below)) last in
      comes_before (f (get_or (map h xs) i d)) (f (get_or (map h xs) j d)) (differ i j d below inside)
      (subst (λ (y : Y). is_lt (rank_cmp (rank (f (get_or (map h xs) j d))) (rank (f y))) ≡ false) (sym here)
      (subst (λ (y : Y). is_lt (rank_cmp (rank (f y)) (rank (f (h (get_or xs i x))))) ≡ false) (sym there) less))

  sorted_pairs : (xs : List X) → IsSortedByKey (λ y. rank (f (h y))) rank_cmp xs → AllPairs Differ (map h xs) → AllPairs Before (map h xs)
  sorted_pairs [] up differ = no_pairs Before
  sorted_pairs (x ∷ xs) up differ = in_order x (x ∷ xs) up differ

  -- what has the same elements as a list in the order, and is sorted, is that list
  pub sorted_one : (old : List Y) (new : List X) → AllPairs (λ (a b : Y). ComesBefore (f a) (f b)) old → IsPermutation old (map h new) → IsSortedByKey (λ y. rank (f (h y))) rank_cmp new → map h new ≡ old
  unfolding Before Differ
  sorted_one old new rising moved up =
      let apart : AllPairs (λ (a b : EventId). a ≢ b) (map f old) = rising_differ (map f old) (pairs_map f ComesBefore old rising) in
      let still : AllPairs (λ (a b : EventId). a ≢ b) (map f (map h new)) = differ_still is_same exact_ids (map f old) (map f (map h new)) (IsPermutation-map f old (map h new) moved) apart in
      let differ : AllPairs (λ (a b : Y). f a ≢ f b) (map h new) = pairs_unmap f (λ (a b : EventId). a ≢ b) (map h new) still in
      lists_one (λ (a b : Y). ComesBefore (f a) (f b)) (λ a b. no_circle (f a) (f b)) (map h new) old (sorted_pairs new up differ) rising
      (λ z held. Contains-permutation (map h new) old z (IsPermutation-sym old (map h new) moved) held)
      (λ z held. Contains-permutation old (map h new) z moved held)

map_itself : (ids : List EventId) → map (λ (id : EventId). id) ids ≡ ids
map_itself [] = refl
map_itself (id ∷ ids) = ap (λ (l : List EventId). id ∷ l) (map_itself ids)

-- the same of names
pub sorted_names_one : (old new : List EventId) → AllPairs ComesBefore old → IsPermutation old new → IsSortedByKey rank rank_cmp new → new ≡ old
sorted_names_one old new rising moved up =
    sym (map_itself new) ∙ sorted_one (λ (id : EventId). id) (λ (id : EventId). id) old new rising (subst (IsPermutation old) (sym (map_itself new)) moved) up
