-- Texts that are written number by number.
use Rattle.std.proofs.Common.{◌≡◌, ℕ, zero, suc, add-one, ◌+◌, List, [], ◌∷◌, ◌++◌, append_assoc, append-nil, ap, sym, ◌∙◌, arith}
use Rattle.std.specs.Prelude.{Result, Ok, Err, OnOk}
use Rattle.std.specs.List.{flat_map, range_with_len}
use Rattle.std.proofs.lemmas.Grind.{flat_map-append}

last_of : (from count : ℕ) → range_with_len from (suc count) ≡ range_with_len from count ++ (from + count) ∷ []
last_of from zero = ap (λ k. k ∷ []) (omega arith)
last_of from (suc count) = ap (λ rest. from ∷ rest) (last_of (from + 1) count ∙ ap (λ k. range_with_len (from + 1) count ++ k ∷ []) (omega arith))

pub pieces_more : {A : Type 0} (f : ℕ → List A) (from count next : ℕ) → from + count ≡ next → flat_map f (range_with_len from (count + 1)) ≡ flat_map f (range_with_len from count) ++ f next
pieces_more f from count next e =
    ap (λ n. flat_map f (range_with_len from n)) (add-one count)
    ∙ ap (flat_map f) (last_of from count)
    ∙ flat_map-append f (range_with_len from count) ((from + count) ∷ [])
    ∙ ap (λ xs. flat_map f (range_with_len from count) ++ xs) (append-nil (f (from + count)) ∙ ap f e)

-- one piece more behind what stood there
pub one_more : {A : Type 0} (f : ℕ → List A) (old text now : List A) (from count next : ℕ) → from + count ≡ next → text ≡ old ++ flat_map f (range_with_len from count) → now ≡ text ++ f next → now ≡ old ++ flat_map f (range_with_len from (count + 1))
one_more f old text now from count next e before after =
    after ∙ ap (λ t. t ++ f next) before ∙ append_assoc old (flat_map f (range_with_len from count)) (f next) ∙ ap (λ xs. old ++ xs) (sym (pieces_more f from count next e))

-- a text with two words in it, as it is written and as it is spelled
pub two_words : {A E : Type 0} (r : Result A E) (old now first a middle b last : List ℕ) → OnOk r (now ≡ old ++ (first ++ (a ++ (middle ++ (b ++ last))))) → OnOk r (now ≡ old ++ (first ++ a ++ middle ++ b ++ last))
two_words (Ok x) old now first a middle b last e =
    e ∙ ap (λ t. old ++ t) (sym (append_assoc (first ++ a ++ middle) b last ∙ append_assoc (first ++ a) middle (b ++ last) ∙ append_assoc first a (middle ++ (b ++ last))))
two_words (Err x) old now first a middle b last e = tt

-- what holds in any case holds where there is a value
pub in_any_case : {A E P : Type 0} (r : Result A E) → P → OnOk r P
in_any_case (Ok x) p = p
in_any_case (Err x) p = tt
