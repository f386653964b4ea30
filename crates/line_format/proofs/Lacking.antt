-- What words, and lines of them, lack.
use Rattle.std.proofs.Common.{◌≡◌, ◌<◌, ◌≤◌, ℕ, suc, List, [], ◌∷◌, ◌++◌, length, get_or, true, not, nat_eq, arith}
use Rattle.std.specs.List.{AllByRecursion, list_all}
use Rattle.line_format.specs.Words.{words}
use Rattle.line_format.specs.Cut.{Lacks}

-- of a word that is written out: by refl
pub lacks_test : (d : ℕ) (bytes : List ℕ) → list_all (λ b. not (nat_eq b d)) bytes ≡ true → Lacks d bytes
lacks_test d [] e = tt
lacks_test d (x ∷ xs) e = (grind (arith, e), lacks_test d xs (grind (arith, e)))

-- bytes above a space are neither a space nor a line feed
pub lacks_low : (d : ℕ) (bytes : List ℕ) → d ≤ 32 → ((k : ℕ) → k < length bytes → 32 < get_or bytes k 0) → Lacks d bytes
lacks_low d [] low high = tt
lacks_low d (x ∷ xs) low high = (let h = high 0 (omega arith) in omega (arith, h, low), lacks_low d xs low (λ k inside. high (suc k) (omega (arith, inside))))

-- the same, where each byte is of a kind above a space
pub all_high : (P : ℕ → Type 0) (d : ℕ) (bytes : List ℕ) → d ≤ 32 → ((c : ℕ) → P c → 32 < c) → AllByRecursion P bytes → Lacks d bytes
all_high P d [] low high all = tt
all_high P d (x ∷ xs) low high all = (let h = high x all.0 in omega (arith, h, low), all_high P d xs low high all.1)

pub lacks_append : (d : ℕ) (a b : List ℕ) → Lacks d a → Lacks d b → Lacks d (a ++ b)
lacks_append d [] b la lb = lb
lacks_append d (x ∷ xs) b la lb = (la.0, lacks_append d xs b la.1 lb)

-- words that lack a line feed make a line that does
pub words_lack : (ws : List (List ℕ)) → AllByRecursion (Lacks 10) ws → Lacks 10 (words ws)
words_lack [] all = tt
words_lack (w ∷ []) all = all.0
words_lack (w ∷ v ∷ ws) all = lacks_append 10 w (32 ∷ words (v ∷ ws)) all.0 (omega arith, words_lack (v ∷ ws) all.1)
