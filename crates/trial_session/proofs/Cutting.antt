-- The first line of some bytes.
use Rattle.std.proofs.Common.{◌≡◌, ◌≢◌, ◌∙◌, ℕ, ◌<◌, List, [], ◌∷◌, length, Bool, true, false, cond, nat_eq, Option, Some, None, refl, ap, arith}
use Rattle.line_format.specs.Cut.{cut, onto_cut, Lacks}
use Rattle.line_format.proofs.Cutting.{cut_takes}
use Rattle.ports.specs.Lines.{NoFeed, lines_of}
use Rattle.ports.proofs.LinesOf.{first_line, only_line}

feed_free : (bytes : List ℕ) → Lacks 10 bytes → NoFeed bytes
feed_free [] lacks = tt
feed_free (b ∷ bs) lacks = (lacks.0, feed_free bs lacks.1)

none_step : (b : Bool) (x : ℕ) (xs : List ℕ) (o : Option (List ℕ × List ℕ)) → nat_eq x 10 ≡ b → (o ≡ None → NoFeed xs) → cond b (Some ([], xs)) (onto_cut x o) ≡ None → NoFeed (x ∷ xs)
none_step true x xs o test rest e = absurd cc
none_step false x xs None test rest e = let differ : x ≢ 10 = grind (arith, test) in (differ, rest refl)
none_step false x xs (Some q) test rest e = absurd cc

none_cut : (bytes : List ℕ) → cut 10 bytes ≡ None → NoFeed bytes
none_cut [] e = tt
none_cut (x ∷ xs) e = none_step (nat_eq x 10) x xs (cut 10 xs) refl (none_cut xs) e

-- a line that is cut off is the first of the lines
pub cut_first : (bytes line rest : List ℕ) → cut 10 bytes ≡ Some (line, rest) → lines_of bytes ≡ line ∷ lines_of rest
cut_first bytes line rest e =
    let taken = cut_takes 10 bytes (line, rest) e in
    ap lines_of taken.0 ∙ first_line line rest (feed_free line taken.1)

-- bytes without a line feed are the last line
pub last_first : (bytes : List ℕ) → cut 10 bytes ≡ None → 0 < length bytes → lines_of bytes ≡ bytes ∷ lines_of []
last_first bytes e some = only_line bytes (none_cut bytes e) some
