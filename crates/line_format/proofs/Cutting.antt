-- What a cut takes off.
use Rattle.std.proofs.Common.{◌≡◌, ◌≢◌, ◌<◌, ◌+◌, ◌-◌, ℕ, zero, suc, List, [], ◌∷◌, ◌++◌, length, get_or, take, drop, Bool, true, false, cond, Option, Some, None, refl, sym, ap, arith, nat_eq, add-one, length-append}
use Rattle.std.proofs.lemmas.Grind.{common_steps}
use Rattle.line_format.specs.Cut.{cut, onto_cut, Lacks}

not_it : (x d : ℕ) → x ≢ d → nat_eq x d ≡ false
not_it x d ne = grind (arith, ne)

is_it : (d : ℕ) → nat_eq d d ≡ true
is_it d = grind arith

pub cut-at : (d : ℕ) (bytes : List ℕ) (k : ℕ) → ((j : ℕ) → j < k → get_or bytes j 0 ≢ d) → k < length bytes → get_or bytes k 0 ≡ d →
    cut d bytes ≡ Some (take k bytes, drop (suc k) bytes)
cut-at d [] k none inside is = absurd (omega (arith, inside))
cut-at d (x ∷ xs) zero none inside is = rw (is, is_it d) refl
cut-at d (x ∷ xs) (suc k) none inside is =
    let rest = cut-at d xs k (λ j below. none (suc j) (omega (arith, below))) (omega (arith, inside)) is in
    rw (not_it x d (none 0 (omega arith)), rest) refl

pub cut-none : (d : ℕ) (bytes : List ℕ) → ((j : ℕ) → j < length bytes → get_or bytes j 0 ≢ d) → cut d bytes ≡ None
cut-none d [] none = refl
cut-none d (x ∷ xs) none =
    let rest = cut-none d xs (λ j below. none (suc j) (omega (arith, below))) in
    rw (not_it x d (none 0 (omega arith)), rest) refl

drop_whole : (k : ℕ) (bytes : List ℕ) → take (length bytes - k) (drop k bytes) ≡ drop k bytes
drop_whole k bytes = grind (arith, common_steps)

pub cut-at_slice : (d : ℕ) (bytes : List ℕ) (k : ℕ) → ((j : ℕ) → j < k → get_or bytes j 0 ≢ d) → k < length bytes → get_or bytes k 0 ≡ d →
    Some (take k bytes, take (length bytes - (k + 1)) (drop (k + 1) bytes)) ≡ cut d bytes
cut-at_slice d bytes k none inside is = rw (drop_whole (k + 1) bytes, add-one) (sym (cut-at d bytes k none inside is))

-- the laws of a cut
abbrev CutIs : ℕ → List ℕ → List ℕ × List ℕ → Type 0
CutIs d bytes p = (bytes ≡ p.0 ++ d ∷ p.1) × Lacks d p.0

cut_step : (b : Bool) (d x : ℕ) (xs : List ℕ) (o : Option (List ℕ × List ℕ)) (p : List ℕ × List ℕ) → nat_eq x d ≡ b → ((q : List ℕ × List ℕ) → o ≡ Some q → CutIs d xs q) →
    cond b (Some ([], xs)) (onto_cut x o) ≡ Some p → CutIs d (x ∷ xs) p
cut_step true d x xs o p test rest e =
    let is : x ≡ d = grind (arith, test) in
    let e' : p ≡ ([], xs) = cc in
    rw (e', is) (refl, tt)
cut_step false d x xs None p test rest e = absurd cc
cut_step false d x xs (Some q) p test rest e =
    let e' : p ≡ (x ∷ q.0, q.1) = cc in
    let r = rest q refl in
    let ne : x ≢ d = grind (arith, test) in
    rw e' (ap (λ ys. x ∷ ys) r.0, (ne, r.1))

pub cut_takes : (d : ℕ) (bytes : List ℕ) (p : List ℕ × List ℕ) → cut d bytes ≡ Some p → (bytes ≡ p.0 ++ d ∷ p.1) × Lacks d p.0
cut_takes d [] p e = absurd cc
cut_takes d (x ∷ xs) p e = cut_step (nat_eq x d) d x xs (cut d xs) p refl (λ q. cut_takes d xs q) e

pub cut_again : (d : ℕ) (front rest : List ℕ) → Lacks d front → cut d (front ++ d ∷ rest) ≡ Some (front, rest)
cut_again d [] rest lacks = rw (is_it d) refl
cut_again d (x ∷ xs) rest lacks = rw (not_it x d lacks.0, cut_again d xs rest lacks.1) refl

pub cut_lacks : (d : ℕ) (bytes : List ℕ) → Lacks d bytes → cut d bytes ≡ None
cut_lacks d [] lacks = refl
cut_lacks d (x ∷ xs) lacks = rw (not_it x d lacks.0, cut_lacks d xs lacks.1) refl

pub cut_word : (d : ℕ) (body first rest word : List ℕ) → cut d body ≡ Some (first, rest) → first ≡ word → body ≡ word ++ d ∷ rest
cut_word d body first rest word parts is = rw (← is) (cut_takes d body (first, rest) parts).0

pub cut_shorter : (d : ℕ) (body first rest : List ℕ) → cut d body ≡ Some (first, rest) → length rest < length body
cut_shorter d body first rest parts = let e = ap length (cut_takes d body (first, rest) parts).0 in omega (arith, e, length-append first (d ∷ rest))
