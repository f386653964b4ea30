-- Keys have one order.
use Rattle.std.proofs.Common.{◌≡◌, ◌<◌, ℕ, suc, List, [], ◌∷◌, length, All, AllPairs, refl, sym, ◌∙◌, subst, arith, inl, inr}
use Rattle.std.specs.List.{AllByRecursion, range_with_len}
use Rattle.std.proofs.lemmas.List.Elements.{All-contains, recursion_from_All}
use Rattle.std.proofs.lemmas.List.FromFn.{length-range_with_len, get_or-range_with_len}
use Rattle.std.proofs.lemmas.List.Sorted.{All-permutation, Contains-permutation, IsPermutation-sym}
use Rattle.problem_model.proofs.Chains.{Among, among, each_among}
use Rattle.problem_model.proofs.OneList.{contained}
use Rattle.traces.proofs.Lists.{got}
use Rattle.report.specs.declared.merge.MergeKey.{MergeKey}
use Rattle.report.specs.Merging.{ComeInOrder, IsMergeOrder}
use Rattle.report.proofs.OneFirst.{both_first}

-- ---- positions
within_range : (n : ℕ) → All (λ k. k < n) (range_with_len 0 n)
within_range n k d inside =
    let long : length (range_with_len 0 n) ≡ n = length-range_with_len 0 n in
    let below : k < n = omega (arith, inside, long) in
    subst (λ (v : ℕ). v < n) (sym (get_or-range_with_len 0 n k d below)) (omega (arith, below))

-- the positions in a merge's order are those of its keys
pub order_within : (keys : List MergeKey) (order : List ℕ) → IsMergeOrder keys order → All (λ k. k < length keys) order
order_within keys order is = All-permutation (λ k. k < length keys) (range_with_len 0 (length keys)) order is.all (within_range (length keys))

module _ (keys : List MergeKey) where
  circle : (i j : ℕ) → i < length keys → j < length keys → ComeInOrder keys i j → ComeInOrder keys j i → ⊥
  circle i j first second x y =
      let a = got keys i first in
      let b = got keys j second in
      both_first a.0 b.0 (x a.0 b.0 a.1 b.1) (y b.0 a.0 b.1 a.1)

  -- each comes before those behind it
  abbrev Sorted : List ℕ → Type 0
  Sorted [] = Unit {0}
  Sorted (i ∷ rest) = AllByRecursion (ComeInOrder keys i) rest × Sorted rest

  sorted : (order : List ℕ) → AllPairs (ComeInOrder keys) order → Sorted order
  sorted [] pairs = tt
  sorted (i ∷ rest) pairs = (
    recursion_from_All (ComeInOrder keys i) rest (λ k d inside. pairs 0 (suc k) d (omega arith) (omega (arith, inside))),
    sorted rest (λ k l d below inside. pairs (suc k) (suc l) d (omega (arith, below)) (omega (arith, inside))),
  )

  abbrev Within : List ℕ → Type 0
  Within order = (k : ℕ) → Among order k → k < length keys

  heads_one : (i j : ℕ) (rest more : List ℕ) → Sorted (i ∷ rest) → Sorted (j ∷ more) → i < length keys → j < length keys → Among (j ∷ more) i → Among (i ∷ rest) j → i ≡ j
  heads_one i j rest more x y first second (inl is) other = sym is
  heads_one i j rest more x y first second (inr at) (inl is) = is
  heads_one i j rest more x y first second (inr at) (inr at') =
      absurd (circle i j first second (each_among (ComeInOrder keys i) rest j x.0 at') (each_among (ComeInOrder keys j) more i y.0 at))

  tail_within : (i j : ℕ) (rest more : List ℕ) → Sorted (i ∷ rest) → i < length keys → i ≡ j → ((k : ℕ) → Among (i ∷ rest) k → Among (j ∷ more) k) → (k : ℕ) → Among rest k → Among more k
  tail_within i j rest more x inside is all k at = behind (all k (inr at))
    where
      behind : Among (j ∷ more) k → Among more k
      behind (inl same) =
          let self : ComeInOrder keys i i = subst (ComeInOrder keys i) (sym (is ∙ same)) (each_among (ComeInOrder keys i) rest k x.0 at) in
          absurd (circle i i inside inside self self)
      behind (inr there) = there

  lists_one : (xs ys : List ℕ) → Sorted xs → Sorted ys → Within xs → Within ys → ((k : ℕ) → Among xs k → Among ys k) → ((k : ℕ) → Among ys k → Among xs k) → xs ≡ ys
  lists_one [] [] x y v w f g = refl
  lists_one [] (j ∷ ys) x y v w f g = absurd (g j (inl refl))
  lists_one (i ∷ xs) [] x y v w f g = absurd (f i (inl refl))
  lists_one (i ∷ xs) (j ∷ ys) x y v w f g =
      let first : i < length keys = v i (inl refl) in
      let second : j < length keys = w j (inl refl) in
      let head : i ≡ j = heads_one i j xs ys x y first second (f i (inl refl)) (g j (inl refl)) in
      let tail : xs ≡ ys = lists_one xs ys x.1 y.1 (λ k at. v k (inr at)) (λ k at. w k (inr at)) (tail_within i j xs ys x first head f) (tail_within j i ys xs y second (sym head) g) in
      rw (head, tail) refl

  members : (xs ys : List ℕ) → IsMergeOrder keys xs → IsMergeOrder keys ys → (k : ℕ) → Among xs k → Among ys k
  members xs ys is is' k at =
      let range : List ℕ = range_with_len 0 (length keys) in
      among ys k (Contains-permutation range ys k is'.all (Contains-permutation xs range k (IsPermutation-sym range xs is.all) (contained xs k at)))

  within : (xs : List ℕ) → IsMergeOrder keys xs → Within xs
  within xs is k at = All-contains (λ k. k < length keys) xs k (order_within keys xs is) (contained xs k at)

  pub order_one : (xs ys : List ℕ) → IsMergeOrder keys xs → IsMergeOrder keys ys → xs ≡ ys
  order_one xs ys is is' = lists_one xs ys (sorted xs is.sorted) (sorted ys is'.sorted) (within xs is) (within ys is') (members xs ys is is') (members ys xs is' is)
