-- Pieces that are appended one behind the other.
use Rattle.std.proofs.Common.{◌≡◌, ℕ, List, [], ◌∷◌, ◌++◌, append_assoc}

-- four pieces with colons between
pub four_joined : (old a b c d t1 u1 t2 u2 t3 u3 t4 : List ℕ) → t1 ≡ old ++ a → u1 ≡ t1 ++ 58 ∷ [] → t2 ≡ u1 ++ b → u2 ≡ t2 ++ 58 ∷ [] → t3 ≡ u2 ++ c → u3 ≡ t3 ++ 58 ∷ [] → t4 ≡ u3 ++ d
    → t4 ≡ old ++ (a ++ 58 ∷ b ++ 58 ∷ c ++ 58 ∷ d)
four_joined old a b c d t1 u1 t2 u2 t3 u3 t4 e1 f1 e2 f2 e3 f3 e4 = rw (e4, f3, e3, f2, e2, f1, e1) (simp append_assoc)

-- one piece in brackets, and a second one behind a colon
pub endpoint_joined : (old a b t1 t2 t3 t4 t5 : List ℕ) → t1 ≡ old ++ 91 ∷ [] → t2 ≡ t1 ++ a → t3 ≡ t2 ++ 93 ∷ [] → t4 ≡ t3 ++ 58 ∷ [] → t5 ≡ t4 ++ b → t5 ≡ old ++ (91 ∷ a ++ 93 ∷ 58 ∷ b)
endpoint_joined old a b t1 t2 t3 t4 t5 e1 e2 e3 e4 e5 = rw (e5, e4, e3, e2, e1) (simp append_assoc)
