-- The command of a line, by its words.
use Rattle.std.proofs.Common.{◌≡◌, ◌↔◌, ℕ, List, [], ◌∷◌, Option, Some, None, All, true, codes, nat_le, ◌&&◌, refl, sym, ◌∙◌, ap, subst, arith}
use Rattle.std.specs.Int.{IsInRange}
use Rattle.std.specs.Str.{IsUtf8}
use Rattle.std.proofs.lemmas.List.Elements.{All-cons, All-nil, All-head, All-tail, recursion_from_All}
use Rattle.std.proofs.lemmas.Str.{IsUtf8-from_ascii}
use Rattle.std.proofs.lemmas.Str.Ascii.{IsAscii-from_all}
use Rattle.std.specs.List.{AllByRecursion, list_all, slice_index_or}
use Rattle.line_format.specs.Words.{words}
use Rattle.line_format.specs.Cut.{cut, Lacks}
use Rattle.line_format.proofs.Lacking.{all_high}
use Rattle.replies.specs.Commands.{Command, Add, Keep, Ask, Compare, Time, AllTimes, Merge, Prove, Problem, Report, Blame, Thin, IsWord, command_words, Asks, HasWords, spaced}
use Rattle.replies.proofs.Spacing.{some_spaced, spaced_cut, spaced_whole, spaced_words, words_spaced}

-- a word has no space
word_lacks : (w : List ℕ) → IsWord w → Lacks 32 w
word_lacks w is = all_high (λ b. IsInRange 33 126 b) 32 w (omega arith) (λ b visible. omega (arith, visible)) (recursion_from_All (λ b. IsInRange 33 126 b) w is.visible)

words_lack : (ws : List (List ℕ)) → All IsWord ws → AllByRecursion (Lacks 32) ws
words_lack [] all = tt
words_lack (w ∷ ws) all = (word_lacks w (All-head IsWord w ws all), words_lack ws (All-tail IsWord w ws all))

-- ---- the words of a command are those of its line
words_told : (w : List ℕ) (ws all : List (List ℕ)) → all ≡ w ∷ ws → All IsWord all → spaced (words all) ≡ all
words_told w ws all is are =
    subst (λ (vs : List (List ℕ)). spaced (words vs) ≡ vs) (sym is) (spaced_words w ws (words_lack (w ∷ ws) (subst (λ (vs : List (List ℕ)). All IsWord vs) is are)))

-- a command has a word
some_word : (c : Command) → (w : List ℕ) × (ws : List (List ℕ)) × (command_words c ≡ w ∷ ws)
some_word (Add label path) = (_, _, refl)
some_word (Keep event) = (_, _, refl)
some_word (Ask (Compare what first second)) = (_, _, refl)
some_word (Ask (Time event)) = (_, _, refl)
some_word (Ask (AllTimes None)) = (_, _, refl)
some_word (Ask (AllTimes (Some event))) = (_, _, refl)
some_word (Ask Merge) = (_, _, refl)
some_word (Ask (Prove first second)) = (_, _, refl)
some_word (Ask Problem) = (_, _, refl)
some_word (Ask Report) = (_, _, refl)
some_word (Ask Blame) = (_, _, refl)
some_word (Ask (Thin events)) = (_, _, refl)

pub command_told : (line : List ℕ) (c : Command) → Asks line (Some c) → spaced line ≡ command_words c
command_told line c asks = let some = some_word c in ap spaced asks.0 ∙ words_told some.0 some.1 (command_words c) some.2 asks.1

-- ---- lines
-- a line that has the words of a command asks for it
asks_by : (line : List ℕ) (o : Option Command) → HasWords (spaced line) o → Asks line o
asks_by line (Some c) has = (sym (words_spaced line) ∙ ap words has.0, subst (λ (ws : List (List ℕ)). All IsWord ws) has.0 has.1)
asks_by line None none = λ c all spelled.
    let same : spaced line ≡ command_words c = command_told line c (spelled, all) in
    none c (subst (λ (ws : List (List ℕ)). All IsWord ws) (sym same) all) same

pub asks_more : (line name text : List ℕ) (o : Option Command) → cut 32 line ≡ Some (name, text) → HasWords (name ∷ spaced text) o → Asks line o
asks_more line name text o parts has = asks_by line o (subst (λ (ws : List (List ℕ)). HasWords ws o) (sym (spaced_cut line name text parts)) has)

pub asks_one : (line : List ℕ) (o : Option Command) → cut 32 line ≡ None → HasWords (line ∷ []) o → Asks line o
asks_one line o none has = asks_by line o (subst (λ (ws : List (List ℕ)). HasWords ws o) (sym (spaced_whole line none)) has)

-- ---- what stands behind the first word
pub has_one : (name text : List ℕ) (o : Option Command) → cut 32 text ≡ None → HasWords (name ∷ text ∷ []) o → HasWords (name ∷ spaced text) o
has_one name text o none has = subst (λ (ws : List (List ℕ)). HasWords (name ∷ ws) o) (sym (spaced_whole text none)) has

-- four words or more are those of `thin`
more_words : (a b d e : List ℕ) (more : List (List ℕ)) (c : Command) → a ∷ b ∷ d ∷ e ∷ more ≡ command_words c → a ≡ codes "thin"
more_words a b d e more (Add label path) is = absurd cc
more_words a b d e more (Keep event) is = absurd cc
more_words a b d e more (Ask (Compare what first second)) is = absurd cc
more_words a b d e more (Ask (Time event)) is = absurd cc
more_words a b d e more (Ask (AllTimes None)) is = absurd cc
more_words a b d e more (Ask (AllTimes (Some event))) is = absurd cc
more_words a b d e more (Ask Merge) is = absurd cc
more_words a b d e more (Ask (Prove first second)) is = absurd cc
more_words a b d e more (Ask Problem) is = absurd cc
more_words a b d e more (Ask Report) is = absurd cc
more_words a b d e more (Ask Blame) is = absurd cc
more_words a b d e more (Ask (Thin events)) is = cc

no_more : (name first second w : List ℕ) (ws : List (List ℕ)) → (name ≡ codes "thin" → ⊥) → spaced second ≡ w ∷ ws → HasWords (name ∷ first ∷ second ∷ []) None → HasWords (name ∷ first ∷ w ∷ ws) None
no_more name first second w [] other is none =
    let same : w ≡ second = sym (ap words is) ∙ words_spaced second in
    subst (λ (v : List ℕ). HasWords (name ∷ first ∷ v ∷ []) None) (sym same) none
no_more name first second w (v ∷ ws) other is none = λ c all same. other (more_words name first w v ws c same)

has_three : (name first second : List ℕ) (o : Option Command) → (name ≡ codes "thin" → ⊥) → HasWords (name ∷ first ∷ second ∷ []) o → HasWords (name ∷ first ∷ spaced second) o
has_three name first second (Some c) other has =
    let is : IsWord second = All-head IsWord second [] (All-tail IsWord first (second ∷ []) (All-tail IsWord name (first ∷ second ∷ []) has.1)) in
    subst (λ (ws : List (List ℕ)). HasWords (name ∷ first ∷ ws) (Some c)) (sym (spaced_words second [] (word_lacks second is, tt))) has
has_three name first second None other none =
    let some = some_spaced second in
    subst (λ (ws : List (List ℕ)). HasWords (name ∷ first ∷ ws) None) (sym some.2) (no_more name first second some.0 some.1 other some.2 none)

pub has_more : (name text first second : List ℕ) (o : Option Command) → (name ≡ codes "thin" → ⊥) → cut 32 text ≡ Some (first, second) → HasWords (name ∷ first ∷ second ∷ []) o → HasWords (name ∷ spaced text) o
has_more name text first second o other parts has = subst (λ (ws : List (List ℕ)). HasWords (name ∷ ws) o) (sym (spaced_cut text first second parts)) (has_three name first second o other has)

-- ---- whether all are words
-- where the words behind the first one are words exactly where all are
pub words_behind : (text word more : List ℕ) (A : Type 0) → cut 32 text ≡ Some (word, more) → IsWord word → All IsWord (spaced text) ↔ A → All IsWord (spaced more) ↔ A
words_behind text word more A parts is all =
    let same = spaced_cut text word more parts in (
      λ are. all.0 (subst (λ (ws : List (List ℕ)). All IsWord ws) (sym same) (All-cons IsWord word (spaced more) is are)),
      λ a. All-tail IsWord word (spaced more) (subst (λ (ws : List (List ℕ)). All IsWord ws) same (all.1 a)),
    )

pub word_first : (text word more : List ℕ) → cut 32 text ≡ Some (word, more) → All IsWord (spaced text) → IsWord word
word_first text word more parts are = All-head IsWord word (spaced more) (subst (λ (ws : List (List ℕ)). All IsWord ws) (spaced_cut text word more parts) are)

pub word_alone : (text : List ℕ) (A : Type 0) → cut 32 text ≡ None → All IsWord (spaced text) ↔ A → IsWord text ↔ A
word_alone text A none all =
    let same = spaced_whole text none in (
      λ is. all.0 (subst (λ (ws : List (List ℕ)). All IsWord ws) (sym same) (All-cons IsWord text [] is (All-nil IsWord))),
      λ a. All-head IsWord text [] (subst (λ (ws : List (List ℕ)). All IsWord ws) same (all.1 a)),
    )

-- ---- words that are written out
visible_test : (w : List ℕ) → list_all (λ b. nat_le 33 b && nat_le b 126) w ≡ true → All (λ b. IsInRange 33 126 b) w
visible_test [] e = All-nil (λ b. IsInRange 33 126 b)
visible_test (x ∷ xs) e = All-cons (λ b. IsInRange 33 126 b) x xs (grind (arith, e)) (visible_test xs (grind (arith, e)))

pub ascii : (w : List ℕ) → IsWord w → IsUtf8 w
ascii w is = IsUtf8-from_ascii w (IsAscii-from_all w (λ k d inside. let v : IsInRange 33 126 (slice_index_or w k d) = is.visible k d inside in omega (arith, v)))
