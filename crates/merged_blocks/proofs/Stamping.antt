-- Dates of packets that stamps can say, or not.
use Rattle.std.proofs.Common.{◌≡◌, ◌<◌, ◌≤◌, ◌+◌, ◌/◌, ◌^◌, ◌⊎◌, inl, inr, ℕ, zero, suc, ℤ, pos, negsuc, ◌+ℤ◌, ◌-ℤ◌, ◌≤ℤ◌, ◌<ℤ◌, unsigned_abs, List, [], ◌∷◌, length, get_or, All, Any, Bool, true, false, MatchBool, Option, Some, None, refl, sym, ap, subst, ◌∙◌, arith}
use Rattle.std.proofs.lemmas.Bool.{cases_lt}
use Rattle.std.proofs.lemmas.Int.{by_lt_z, ints}
use Rattle.std.proofs.lemmas.List.{get_or-map, length-map}
use Rattle.std.proofs.lemmas.List.Elements.{All-map}
use Rattle.std.proofs.lemmas.List.Sorted.{All-permutation, Contains-permutation, IsPermutation-sym}
use Rattle.std.proofs.lemmas.Nat.{div_below}
use Rattle.std.specs.Prelude.{SomeIff, IfSome, IfNone}
use Rattle.std.specs.List.Sorted.{IsPermutation}
use mir.Syntax.{w128}
use mir.Val.{SFits}
use borrow.Author.Differences.{fits_in}
use Rattle.mergecap.specs.declared.stored.Stored.{Stored}
use Rattle.mergecap.specs.MergedCapture.{Timed}
use Rattle.mergecap.specs.Packets.{timed, all_timed}
use Rattle.merged_blocks.specs.declared.taps.Tap.{Tap}
use Rattle.merged_blocks.specs.Taps.{AreTapsOf}
use Rattle.merged_blocks.specs.MergedFile.{AreDated, HasNoStamp, IsDated, date_limit, most_taps}

-- ---- numbers
-- a sum that has no 128 bits is no date that a stamp can say
pub no_bits : (sum : ℤ) → (SFits w128 sum → ⊥) → (sum <ℤ pos 0) ⊎ (date_limit ≤ℤ sum)
no_bits sum none =
    by_lt_z sum (pos 0) inl (λ low. by_lt_z sum date_limit
    (λ high. absurd (none (omega (arith, ints, fits_in, low, high)))) inr)

-- a time less that of the first event, and the date of that
pub sum_as : (date value time : ℤ) → date +ℤ (value -ℤ time) ≡ value +ℤ (date -ℤ time)
sum_as date value time = omega (arith, ints)

-- what an addition of 128 bits answers
pub at_date : (date value time gone : ℤ) (r : Option ℤ) → gone ≡ value -ℤ time → SomeIff r (SFits w128 (date +ℤ gone)) (date +ℤ gone) → IfSome r (λ d. d ≡ value +ℤ (date -ℤ time))
at_date date value time gone None is told = tt
at_date date value time gone (Some d) is told = told.1 ∙ ap (λ (g : ℤ). date +ℤ g) is ∙ sum_as date value time

pub at_none : (date value time gone : ℤ) (r : Option ℤ) → gone ≡ value -ℤ time → SomeIff r (SFits w128 (date +ℤ gone)) (date +ℤ gone) →
    IfNone r (((value +ℤ (date -ℤ time)) <ℤ pos 0) ⊎ (date_limit ≤ℤ (value +ℤ (date -ℤ time))))
at_none date value time gone None is told =
    subst (λ (sum : ℤ). (sum <ℤ pos 0) ⊎ (date_limit ≤ℤ sum)) (ap (λ (g : ℤ). date +ℤ g) is ∙ sum_as date value time) (no_bits (date +ℤ gone) told)
at_none date value time gone (Some d) is told = tt

pub whole_small : (date : ℤ) → pos 0 ≤ℤ date → date <ℤ date_limit → unsigned_abs date / 1000000000 < 2 ^ 64
whole_small (pos n) low high = div_below n 1000000000 (2 ^ 64) (omega arith) (omega (arith, ints, high))
whole_small (negsuc n) low high = absurd (omega (arith, ints, low))

-- ---- one packet after another
module _ (shift : ℤ) (kept : List Stored) where
  -- those before a place are dated
  abbrev pub AreDatedUpTo : ℕ → Type 0
  AreDatedUpTo n = (k : ℕ) (d : Stored) → k < n → IsDated shift (timed (get_or kept k d))

  pub dated_on : (n : ℕ) (s : Stored) → n < length kept → s ≡ get_or kept n s → AreDatedUpTo n → IsDated shift (timed s) → AreDatedUpTo (n + 1)
  dated_on n s inside is before now k d below =
      elim (cases_lt k n) [
        | inl lower ↦ before k d lower
        | inr not ↦
            let same : k ≡ n = omega (arith, below, not) in
            subst (λ (i : ℕ). IsDated shift (timed (get_or kept i d))) (sym same) (subst (λ (u : Stored). IsDated shift (timed u)) (is ∙ other_default kept n s d inside) now)
      ]
    where
      other_default : (xs : List Stored) (i : ℕ) (a b : Stored) → i < length xs → get_or xs i a ≡ get_or xs i b
      other_default [] i a b lt = absurd (omega (arith, lt))
      other_default (x ∷ xs) zero a b lt = refl
      other_default (x ∷ xs) (suc i) a b lt = other_default xs i a b (omega (arith, lt))

  pub all_dated : (n : ℕ) → length kept ≤ n → AreDatedUpTo n → All (IsDated shift) (all_timed kept)
  all_dated n past before = All-map (IsDated shift) timed kept (λ k d inside. before k d (omega (arith, past, inside)))

  pub one_undated : (n : ℕ) (s : Stored) → n < length kept → s ≡ get_or kept n s → HasNoStamp shift (timed s) → Any (HasNoStamp shift) (all_timed kept)
  one_undated n s inside is none =
      let long : length (all_timed kept) ≡ length kept = length-map kept timed in
      (n, timed s, omega (arith, inside, long), get_or-map timed kept n s (timed s) inside ∙ ap timed (sym is), none)

-- ---- what was told, by the same packets
pub told_dated : (shift : ℤ) (kept now : List Stored) (b : Bool) → now ≡ kept → MatchBool b (All (IsDated shift) (all_timed now)) (Any (HasNoStamp shift) (all_timed now)) → b ≡ true → All (IsDated shift) (all_timed kept)
told_dated shift kept now true is told so = subst (λ (l : List Stored). All (IsDated shift) (all_timed l)) is told
told_dated shift kept now false is told so = absurd cc

pub told_undated : (shift : ℤ) (kept now : List Stored) (b : Bool) → now ≡ kept → MatchBool b (All (IsDated shift) (all_timed now)) (Any (HasNoStamp shift) (all_timed now)) → b ≡ false → Any (HasNoStamp shift) (all_timed kept)
told_undated shift kept now false is told so = subst (λ (l : List Stored). Any (HasNoStamp shift) (all_timed l)) is told
told_undated shift kept now true is told so = absurd cc

-- ---- in another order
-- the same packets have the same taps
pub taps_still : (old new : List Timed) (taps : List Tap) → IsPermutation old new → AreTapsOf old taps → AreTapsOf new taps
taps_still old new taps moved are = record {
  each = λ tap there. let t = are.each tap there in (t.0, Contains-permutation old new t.0 moved t.1, t.2);
  every = λ t there. are.every t (Contains-permutation new old t (IsPermutation-sym old new moved) there);
  sorted = are.sorted;
}

pub dated_still : (shift : ℤ) (old new : List Timed) (taps : List Tap) → IsPermutation old new → All (IsDated shift) old → AreTapsOf old taps → length taps ≤ most_taps → AreDated new taps shift
dated_still shift old new taps moved each are few = record { each = All-permutation (IsDated shift) old new moved each; are_taps = taps_still old new taps moved are; few = few }
