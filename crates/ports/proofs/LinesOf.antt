-- What the answers of a reader say of the lines of a script.
use Rattle.std.proofs.Common.{◌≡◌, ◌≢◌, ℕ, ◌<◌, List, [], ◌∷◌, ◌++◌, length, Bool, true, false, cond, nat_eq, refl, ◌∙◌, ap, arith, append-nil, append_assoc}
use Rattle.std.specs.List.{onto_first}
use Rattle.ports.specs.Content.{SourceTold}
use Rattle.ports.specs.Lines.{NoFeed, parts, before_last, with_last, last_line, whole_lines, lines_of}
use Rattle.ports.specs.Reader.{Reader, IsFirstLine, GivesLine}

not_feed : (x : ℕ) → x ≢ 10 → nat_eq x 10 ≡ false
not_feed x ne = grind (arith, ne)

parts_line : (line rest : List ℕ) → NoFeed line → parts (line ++ 10 ∷ rest) ≡ line ∷ parts rest
parts_line [] rest none = refl
parts_line (b ∷ bs) rest none = rw (not_feed b none.0, parts_line bs rest none.1) refl

-- bytes with no line feed are one part
pub parts_last : (bytes : List ℕ) → NoFeed bytes → parts bytes ≡ bytes ∷ []
parts_last [] none = refl
parts_last (b ∷ bs) none = rw (not_feed b none.0, parts_last bs none.1) refl

first_part : (b : Bool) (x : ℕ) (ps : List (List ℕ)) → (h : List ℕ) × (t : List (List ℕ)) × (cond b ([] ∷ ps) (onto_first x ps) ≡ h ∷ t)
first_part true x ps = ([], ps, refl)
first_part false x [] = (x ∷ [], [], refl)
first_part false x (p ∷ ps) = (x ∷ p, ps, refl)

parts_some : (bytes : List ℕ) → (h : List ℕ) × (t : List (List ℕ)) × (parts bytes ≡ h ∷ t)
parts_some [] = ([], [], refl)
parts_some (x ∷ xs) = first_part (nat_eq x 10) x (parts xs)

whole_first : (line h : List ℕ) (t ps : List (List ℕ)) → ps ≡ h ∷ t → before_last (line ∷ ps) ≡ line ∷ before_last ps
whole_first line h t ps e = rw e refl

last_first : (line h : List ℕ) (t ps : List (List ℕ)) → ps ≡ h ∷ t → with_last (line ∷ ps) ≡ line ∷ with_last ps
last_first line h t ps e = rw e refl

-- the first of the whole lines is the bytes up to the first line feed
pub whole_line : (line rest : List ℕ) → NoFeed line → whole_lines (line ++ 10 ∷ rest) ≡ line ∷ whole_lines rest
whole_line line rest none = let some = parts_some rest in ap before_last (parts_line line rest none) ∙ whole_first line some.0 some.1 (parts rest) some.2

-- and so is the first of all lines
pub first_line : (line rest : List ℕ) → NoFeed line → lines_of (line ++ 10 ∷ rest) ≡ line ∷ lines_of rest
first_line line rest none = let some = parts_some rest in ap with_last (parts_line line rest none) ∙ last_first line some.0 some.1 (parts rest) some.2

-- bytes with no line feed have no whole line
pub no_whole_line : (bytes : List ℕ) → NoFeed bytes → whole_lines bytes ≡ []
no_whole_line bytes none = ap before_last (parts_last bytes none)

last_of : (line : List ℕ) → 0 < length line → last_line line ≡ line ∷ []
last_of [] some = absurd (omega (arith, some))
last_of (b ∷ bs) some = refl

-- bytes with no line feed are one line, if there are any
pub only_line : (line : List ℕ) → NoFeed line → 0 < length line → lines_of line ≡ line ∷ []
only_line line none some = ap with_last (parts_last line none) ∙ last_of line some

-- the same with more bytes behind, where there is a line feed
pub first_more : (all line rest more : List ℕ) (ended : Bool) → IsFirstLine all line rest ended → (ended ≡ true → more ≡ []) → IsFirstLine (all ++ more) line (rest ++ more) ended
first_more all line rest more false first none = (first.0, ap (λ (l : List ℕ). l ++ more) first.1 ∙ append_assoc line (10 ∷ rest) more)
first_more all line rest more true first none =
    let gone : more ≡ [] = none refl in
    (first.0, first.1, rw (gone, append-nil) first.2, rw (first.3, gone) refl)

-- a line that is given is the first of the bytes held, those that came and any more, of which there are none behind a
-- line with no line feed
pub gives_first : (old new : Reader) (before after : SourceTold) (came line more : List ℕ) → GivesLine old new before after came line → (new.ended ≡ true → more ≡ []) →
    IsFirstLine (old.held ++ came ++ more) line (new.held ++ more) new.ended
gives_first old new before after came line more gives none = first_more (old.held ++ came) line new.held more new.ended gives.first none
