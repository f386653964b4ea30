-- Lines that were taken off a script, and the bytes that follow them.
use Rattle.std.proofs.Common.{◌≡◌, ℕ, zero, suc, ◌-◌, ◌<◌, ◌≤◌, List, [], ◌∷◌, ◌++◌, length, take, refl, sym, ◌∙◌, ap, arith, append_assoc, append-nil}
use Rattle.std.proofs.lemmas.Grind.{common_steps}
use Rattle.ports.specs.Lines.{NoFeed, whole_lines, lines_of}
use Rattle.ports.proofs.LinesOf.{whole_line, first_line, no_whole_line, only_line}

-- lines with their line feeds, and then other bytes
abbrev pub feeds : List (List ℕ) → List ℕ → List ℕ
feeds [] rest = rest
feeds (line ∷ lines) rest = line ++ 10 ∷ feeds lines rest

-- no line has a line feed inside
abbrev pub NoFeeds : List (List ℕ) → Type 0
NoFeeds [] = Unit {0}
NoFeeds (line ∷ lines) = NoFeed line × NoFeeds lines

-- the whole lines of a script whose first lines are taken off
pub whole_feeds : (done : List (List ℕ)) (rest : List ℕ) → NoFeeds done → whole_lines (feeds done rest) ≡ done ++ whole_lines rest
whole_feeds [] rest none = refl
whole_feeds (line ∷ done) rest none = whole_line line (feeds done rest) none.0 ∙ ap (λ ls. line ∷ ls) (whole_feeds done rest none.1)

-- the lines of a script whose first lines are taken off
pub lines_feeds : (done : List (List ℕ)) (rest : List ℕ) → NoFeeds done → lines_of (feeds done rest) ≡ done ++ lines_of rest
lines_feeds [] rest none = refl
lines_feeds (line ∷ done) rest none = first_line line (feeds done rest) none.0 ∙ ap (λ ls. line ∷ ls) (lines_feeds done rest none.1)

-- the whole lines of a script that is broken off behind some lines
pub whole_broken : (done : List (List ℕ)) (rest : List ℕ) → NoFeeds done → NoFeed rest → whole_lines (feeds done rest) ≡ done
whole_broken done rest none no_feed = whole_feeds done rest none ∙ ap (λ ls. done ++ ls) (no_whole_line rest no_feed) ∙ append-nil _

-- the lines of a script that ends behind some lines
pub lines_end : (done : List (List ℕ)) → NoFeeds done → lines_of (feeds done []) ≡ done
lines_end done none = lines_feeds done [] none ∙ append-nil _

-- the lines of a script whose last line has no line feed
pub lines_last : (done : List (List ℕ)) (line : List ℕ) → NoFeeds done → NoFeed line → 0 < length line → lines_of (feeds done line) ≡ done ++ line ∷ []
lines_last done line none no_feed some = lines_feeds done line none ∙ ap (λ ls. done ++ ls) (only_line line no_feed some)

pub feeds_more : (done : List (List ℕ)) (line rest : List ℕ) → feeds (done ++ line ∷ []) rest ≡ feeds done (line ++ 10 ∷ rest)
feeds_more [] line rest = refl
feeds_more (first ∷ done) line rest = rw (feeds_more done line rest) refl

pub none_more : (done : List (List ℕ)) (line : List ℕ) → NoFeeds done → NoFeed line → NoFeeds (done ++ line ∷ [])
none_more [] line none no_feed = (no_feed, tt)
none_more (first ∷ done) line none no_feed = (none.0, none_more done line none.1 no_feed)

pub feeds_cut : (done : List (List ℕ)) (x y : List ℕ) → feeds done (x ++ y) ≡ feeds done x ++ y
feeds_cut [] x y = refl
feeds_cut (line ∷ done) x y = rw (feeds_cut done x y) (sym (append_assoc line (10 ∷ feeds done x) y))

-- what is behind no bytes is none
pub tail_none : (held left : List ℕ) → held ++ left ≡ [] → left ≡ []
tail_none [] left none = none
tail_none (b ∷ bs) left none = absurd cc

take_over : (front back : List ℕ) (n : ℕ) → length front ≤ n → take n (front ++ back) ≡ front ++ take (n - length front) back
take_over [] back n le = let all : n - 0 ≡ n = omega arith in rw all refl
take_over (b ∷ front) back zero le = absurd (omega (arith, le))
take_over (b ∷ front) back (suc n) le =
    let less : suc n - suc (length front) ≡ n - length front = omega arith in
    rw less (ap (λ (l : List ℕ). b ∷ l) (take_over front back n (omega (arith, le))))

-- the first bytes of a script reach behind lines that are as short as they
pub take_feeds : (done : List (List ℕ)) (held rest : List ℕ) (n : ℕ) → length (feeds done held) ≤ n → take n (feeds done (held ++ rest)) ≡ feeds done (held ++ take (n - length (feeds done held)) rest)
take_feeds done held rest n le = ap (take n) (feeds_cut done held rest) ∙ take_over (feeds done held) rest n le ∙ sym (feeds_cut done held (take (n - length (feeds done held)) rest))

pub take_front : (front back : List ℕ) (n : ℕ) → length front ≡ n → take n (front ++ back) ≡ front
take_front front back n is = grind (arith, common_steps, is)
