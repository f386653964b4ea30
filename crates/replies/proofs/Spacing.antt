-- The words of a text, and the text of words.
use Rattle.std.proofs.Common.{◌≡◌, ◌≢◌, ℕ, List, [], ◌∷◌, ◌++◌, Option, Some, None, Bool, true, false, cond, nat_eq, refl, sym, ◌∙◌, ap, arith}
use Rattle.std.specs.List.{AllByRecursion}
use Rattle.line_format.specs.Words.{words}
use Rattle.line_format.specs.Cut.{cut, onto_cut, Lacks}
use Rattle.line_format.proofs.Cutting.{cut_takes, cut_again}
use Rattle.replies.specs.Commands.{onto_first, spaced}

space_is : nat_eq 32 32 ≡ true
space_is = refl

other_is : (b : ℕ) → b ≢ 32 → nat_eq b 32 ≡ false
other_is b other = grind (arith, other)

-- ---- a text by its first word
lacking : (w : List ℕ) → Lacks 32 w → spaced w ≡ w ∷ []
lacking [] lacks = refl
lacking (b ∷ bytes) lacks = rw (other_is b lacks.0, lacking bytes lacks.1) refl

joined : (a rest : List ℕ) → Lacks 32 a → spaced (a ++ 32 ∷ rest) ≡ a ∷ spaced rest
joined [] rest lacks = refl
joined (b ∷ bytes) rest lacks = rw (other_is b lacks.0, joined bytes rest lacks.1) refl

-- a text that is cut has its first word and those behind it
pub spaced_cut : (text a rest : List ℕ) → cut 32 text ≡ Some (a, rest) → spaced text ≡ a ∷ spaced rest
spaced_cut text a rest parts = let is = cut_takes 32 text (a, rest) parts in ap spaced is.0 ∙ joined a rest is.1

uncut_lacks : (b : Bool) (x : ℕ) (xs : List ℕ) (o : Option (List ℕ × List ℕ)) → nat_eq x 32 ≡ b → (o ≡ None → Lacks 32 xs) → cond b (Some ([], xs)) (onto_cut x o) ≡ None → Lacks 32 (x ∷ xs)
uncut_lacks true x xs o test rest none = absurd cc
uncut_lacks false x xs None test rest none = (grind (arith, test), rest refl)
uncut_lacks false x xs (Some p) test rest none = absurd cc

lacks_uncut : (text : List ℕ) → cut 32 text ≡ None → Lacks 32 text
lacks_uncut [] none = tt
lacks_uncut (x ∷ xs) none = uncut_lacks (nat_eq x 32) x xs (cut 32 xs) refl (lacks_uncut xs) none

-- one that is not cut is one word
pub spaced_whole : (text : List ℕ) → cut 32 text ≡ None → spaced text ≡ text ∷ []
spaced_whole text none = lacking text (lacks_uncut text none)

-- ---- words and their text
pub spaced_words : (w : List ℕ) (ws : List (List ℕ)) → AllByRecursion (Lacks 32) (w ∷ ws) → spaced (words (w ∷ ws)) ≡ w ∷ ws
spaced_words w [] lacks = lacking w lacks.0
spaced_words w (v ∷ ws) lacks = joined w (words (v ∷ ws)) lacks.0 ∙ ap (λ (vs : List (List ℕ)). w ∷ vs) (spaced_words v ws lacks.1)

words_onto : (b : ℕ) (ws : List (List ℕ)) → words (onto_first b ws) ≡ b ∷ words ws
words_onto b [] = refl
words_onto b (w ∷ []) = refl
words_onto b (w ∷ v ∷ ws) = refl

-- there is always a first one
pub some_spaced : (text : List ℕ) → (w : List ℕ) × (ws : List (List ℕ)) × (spaced text ≡ w ∷ ws)
some_spaced [] = ([], [], refl)
some_spaced (b ∷ bytes) = some_by (nat_eq b 32) b (spaced bytes)
  where
    some_by : (is : Bool) (b : ℕ) (ws : List (List ℕ)) → (w : List ℕ) × (more : List (List ℕ)) × (cond is ([] ∷ ws) (onto_first b ws) ≡ w ∷ more)
    some_by true b ws = ([], ws, refl)
    some_by false b [] = (b ∷ [], [], refl)
    some_by false b (w ∷ ws) = (b ∷ w, ws, refl)

words_behind : (w : List ℕ) (ws : List (List ℕ)) (all : List (List ℕ)) → all ≡ w ∷ ws → words ([] ∷ all) ≡ 32 ∷ words all
words_behind w ws all is = rw is refl

words_by : (is : Bool) (b : ℕ) (bytes : List ℕ) → nat_eq b 32 ≡ is → words (spaced bytes) ≡ bytes → words (cond is ([] ∷ spaced bytes) (onto_first b (spaced bytes))) ≡ b ∷ bytes
words_by true b bytes test rest =
    let space : b ≡ 32 = grind (arith, test) in
    let some = some_spaced bytes in
    words_behind some.0 some.1 (spaced bytes) some.2 ∙ ap (λ (more : List ℕ). 32 ∷ more) rest ∙ ap (λ (x : ℕ). x ∷ bytes) (sym space)
words_by false b bytes test rest = words_onto b (spaced bytes) ∙ ap (λ (more : List ℕ). b ∷ more) rest

pub words_spaced : (text : List ℕ) → words (spaced text) ≡ text
words_spaced [] = refl
words_spaced (b ∷ bytes) = words_by (nat_eq b 32) b bytes refl (words_spaced bytes)
