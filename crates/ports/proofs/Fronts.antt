-- Files that are read piece by piece.
use Rattle.std.proofs.Common.{◌≡◌, ℕ, zero, suc, ◌+◌, ◌-◌, ◌≤◌, List, ◌++◌, length, take, drop, Option, Some, None, refl, ◌∙◌, ap, arith, length-append, take-add, false, nat_lt}
use Rattle.std.proofs.lemmas.List.{length-take-le, length-drop}
use Rattle.std.proofs.lemmas.Grind.{common_steps}
use Rattle.ports.specs.Files.{Content, HasBytes, ReadsAt, ReadSoFar, IsFront}

same_some : {A : Type 0} (o : Option A) (x y : A) → o ≡ Some x → o ≡ Some y → x ≡ y
same_some o x y e f = cc

front_grows : (all front piece buf : List ℕ) (n : ℕ) → front ≡ take (length front) all → piece ≡ take n buf → take n buf ≡ take n (drop (length front) all) →
    n ≤ length (drop (length front) all) → front ++ piece ≡ take (length (front ++ piece)) all
front_grows all front piece buf n so is same fits =
    let cut : piece ≡ take n (drop (length front) all) = is ∙ same in
    let long : length piece ≡ n = ap length cut ∙ length-take-le n (drop (length front) all) fits in
    let joined : take (length front + n) all ≡ take (length front) all ++ take n (drop (length front) all) = take-add (length front) n all in
    rw (length-append front piece, long, joined, ← so, ← cut) refl

pub front_more : (content : Content) (path front buf piece : List ℕ) (at n : ℕ) → at ≡ length front → piece ≡ take n buf →
    ReadSoFar content path front → HasBytes content path (ReadsAt at n buf) → ReadSoFar content path (front ++ piece)
front_more None path front buf piece at n place is so read = tt
front_more (Some files) path front buf piece at n place is so read = λ all there.
    let e : read.0 ≡ all = same_some (files path) _ _ read.1 there in
    let r : ReadsAt (length front) n buf all = rw (e, place) at read.2 in
    front_grows all front piece buf n (so all there) is r.0 r.1

pub front_ends : (content : Content) (path front : List ℕ) (most : ℕ) → length front ≤ most → ReadSoFar content path front →
    HasBytes content path (λ all. length all ≤ length front) → HasBytes content path (IsFront most front false)
front_ends None path front most fits so end = tt
front_ends (Some files) path front most fits so end =
    (end.0, end.1, (whole end.0 front most fits (so end.0 end.1) end.2, grind arith))
  where
    whole : (all front : List ℕ) (most : ℕ) → length front ≤ most → front ≡ take (length front) all → length all ≤ length front → front ≡ take most all
    whole all front most fits so end = grind (arith, common_steps)

pub front_full : (content : Content) (path front buf : List ℕ) (at n : ℕ) → length front ≡ at → length buf ≡ 1 → ReadSoFar content path front →
    HasBytes content path (ReadsAt at n buf) → HasBytes content path (IsFront at front (nat_lt 0 n))
front_full None path front buf at n place one so read = tt
front_full (Some files) path front buf at n place one so read =
    (read.0, read.1, (rw (← place) (so read.0 read.1), more n (length read.0) at (rw length-drop at read.2.1) (λ none. read.2.2 none (omega (arith, one)))))
  where
    more : (n all at : ℕ) → n ≤ all - at → (n ≡ 0 → all ≤ at) → nat_lt 0 n ≡ nat_lt at all
    more zero all at fits none = grind (arith, none refl)
    more (suc n) all at fits none = grind (arith, fits)

pub has_bytes_weaker : (content : Content) (path : List ℕ) (P Q : List ℕ → Type 0) → ((bytes : List ℕ) → P bytes → Q bytes) → HasBytes content path P → HasBytes content path Q
has_bytes_weaker None path P Q f has = tt
has_bytes_weaker (Some files) path P Q f has = (has.0, has.1, f has.0 has.2)
