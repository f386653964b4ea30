-- From a line for each candidate to the whole text.
use Rattle.std.proofs.Common.{◌≡◌, ◌<◌, ◌≤◌, ◌+◌, ℕ, zero, suc, List, [], ◌∷◌, ◌++◌, length, drop, get_or, Option, Some, None, append_assoc, codes, refl, sym, ◌∙◌, ap, subst, arith, inl, inr}
use Rattle.line_format.specs.Words.{words}
use Rattle.atto.specs.Decimal.{decimal_of}
use Rattle.problem_model.specs.declared.items.Clock.{Clock}
use Rattle.problem_model.specs.declared.items.Follow.{Follow}
use Rattle.problem_model.specs.Problem.{ProblemLists}
use Rattle.problem_model.specs.Bounds.{Times, IsExecution}
use Rattle.cert_check.specs.declared.what.Clocks.TheVariants as clocks
use Rattle.cert_check.specs.declared.what.Links.TheVariants as links
use Rattle.cert_check.specs.declared.what.What.{What}
use Rattle.cert_check.specs.declared.what.What.TheVariants.{Delays, Stamps, Rates, Gaps}
use Rattle.cert_check.proofs.Widening.{not_widened}
use Rattle.widen.specs.Least.{HasExecution, IsLeastWidening}
use Rattle.widen.specs.Named.{what_words}
use Rattle.widen.specs.Blame.{candidates, clock_candidates, link_candidates, gap_candidates, unit_of, healing_words, blame_line, IsHealing, Blames, IsBlamedUpTo, IsBlameText}

-- ---- one line more
pub line_more : (p : ProblemLists) (what : What) (rest : List What) (text : List ℕ) (answer : Option ℕ) → IsHealing p what answer → IsBlamedUpTo p (what ∷ rest) text → IsBlamedUpTo p rest (text ++ blame_line p what answer)
line_more p what rest text answer healing so_far more blames =
    subst (Blames p (candidates p)) (sym (append_assoc text (blame_line p what answer) more)) (so_far (blame_line p what answer ++ more) (answer, more, healing, blames, refl))

pub line_is : (p : ProblemLists) (what : What) (answer : Option ℕ) → words (codes "blame" ∷ what_words p what ++ healing_words what answer) ++ 10 ∷ [] ≡ blame_line p what answer
line_is p what answer = refl

pub healing_is : (first : List ℕ) (ws : List (List ℕ)) (what : What) (n extra : ℕ) (unit : List ℕ) → n ≡ extra → unit ≡ unit_of what
    → words (first ∷ (ws ++ decimal_of n ∷ []) ++ unit ∷ []) ≡ words (first ∷ ws ++ healing_words what (Some extra))
healing_is first ws what n extra unit is unit_is =
    ap (λ (more : List (List ℕ)). words (first ∷ more)) (append_assoc ws (decimal_of n ∷ []) (unit ∷ []))
    ∙ ap (λ (m : ℕ). words (first ∷ ws ++ decimal_of m ∷ unit ∷ [])) is
    ∙ ap (λ (u : List ℕ). words (first ∷ ws ++ decimal_of extra ∷ u ∷ [])) unit_is

-- ---- gaps, where there are any
pub no_gaps : (fs : List Follow) (rest : List What) → fs ≡ [] → gap_candidates fs ++ rest ≡ rest
no_gaps [] rest is = refl
no_gaps (f ∷ fs) rest is = absurd cc

pub some_gaps : (fs : List Follow) (rest : List What) → (fs ≡ [] → ⊥) → gap_candidates fs ++ rest ≡ Gaps ∷ rest
some_gaps [] rest other = absurd (other refl)
some_gaps (f ∷ fs) rest other = refl

-- ---- elements one after another
next_of : {X : Type 0} (xs : List X) (k : ℕ) (d : X) → k < length xs → drop k xs ≡ get_or xs k d ∷ drop (k + 1) xs
next_of [] k d inside = absurd (omega (arith, inside))
next_of (y ∷ ys) zero d inside = refl
next_of (y ∷ ys) (suc k) d inside =
    let next : suc (k + 1) ≡ suc k + 1 = omega arith in
    next_of ys k d (omega (arith, inside)) ∙ ap (λ (n : ℕ). get_or ys k d ∷ drop n (y ∷ ys)) next

none_past : {X : Type 0} (xs : List X) (k : ℕ) → length xs ≤ k → drop k xs ≡ []
none_past [] zero past = refl
none_past [] (suc k) past = refl
none_past (x ∷ xs) zero past = absurd (omega (arith, past))
none_past (x ∷ xs) (suc k) past = none_past xs k (omega (arith, past))

-- ---- clocks
next_clock : (cs : List Clock) (k : ℕ) → k < length cs → (c : Clock) × (drop k cs ≡ c ∷ drop (k + 1) cs)
next_clock [] k inside = absurd (omega (arith, inside))
next_clock (c ∷ cs) zero inside = (c, refl)
next_clock (c ∷ cs) (suc k) inside =
    let rest = next_clock cs k (omega (arith, inside)) in
    let next : suc (k + 1) ≡ suc k + 1 = omega arith in
    (rest.0, rest.1 ∙ ap (λ (n : ℕ). rest.0 ∷ drop n (c ∷ cs)) next)

pub next_candidates : (cs : List Clock) (k : ℕ) → k < length cs → clock_candidates k (drop k cs) ≡ Stamps (clocks.One k) ∷ Rates (clocks.One k) ∷ clock_candidates (k + 1) (drop (k + 1) cs)
next_candidates cs k inside = let next = next_clock cs k inside in ap (clock_candidates k) next.1

pub no_clocks : (cs : List Clock) (k : ℕ) → length cs ≤ k → clock_candidates k (drop k cs) ≡ []
no_clocks cs k past = ap (clock_candidates k) (none_past cs k past)

-- ---- links
pub next_links : (ls : List (ℕ × ℕ)) (k : ℕ) (d : ℕ × ℕ) → k < length ls → link_candidates (drop k ls) ≡ link_candidates (get_or ls k d ∷ []) ++ link_candidates (drop (k + 1) ls)
next_links ls k d inside = ap link_candidates (next_of ls k d inside)

pub no_links : (ls : List (ℕ × ℕ)) (k : ℕ) → length ls ≤ k → link_candidates (drop k ls) ≡ []
no_links ls k past = ap link_candidates (none_past ls k past)

-- ---- the whole
pub from_first : (p : ProblemLists) → IsBlamedUpTo p (candidates p) []
from_first p more blames = blames

pub to_last : (p : ProblemLists) (text : List ℕ) → IsBlamedUpTo p [] text → Blames p (candidates p) (text ++ codes "end\n")
to_last p text so_far = so_far (codes "end\n") refl

-- widened by nothing it is the problem
healed : (p : ProblemLists) → HasExecution (Delays links.All) p 0 → (x : Times) × IsExecution p x
healed p (x, execution) = (x, subst (λ (q : ProblemLists). IsExecution q x) (not_widened p) execution)

pub none_text : (p : ProblemLists) → HasExecution (Delays links.All) p 0 → IsBlameText p (codes "blame none\n")
none_text p heals = let x = healed p heals in inl (x.0, x.1, refl)

pub blamed_text : (p : ProblemLists) (text : List ℕ) → (HasExecution (Delays links.All) p 0 → ⊥) → Blames p (candidates p) text → IsBlameText p text
blamed_text p text none blames = inr ((λ x execution. none (x, subst (λ (q : ProblemLists). IsExecution q x) (sym (not_widened p)) execution)), blames)

-- ---- what was found heals by nothing exactly where it says 0
pub by_none : (what : What) (p : ProblemLists) (extra : Option ℕ) → IsHealing p what extra → extra ≡ Some 0 → HasExecution what p 0
by_none what p extra healing is = let least : IsLeastWidening what p 0 = subst (IsHealing p what) is healing in least.heals

positive : (n : ℕ) → (n ≡ 0 → ⊥) → 0 < n
positive zero differs = absurd (differs refl)
positive (suc n) differs = omega arith

pub by_other : (what : What) (p : ProblemLists) (extra : Option ℕ) → IsHealing p what extra → (extra ≡ Some 0 → ⊥) → HasExecution what p 0 → ⊥
by_other what p None none other heals = none 0 (omega arith) heals
by_other what p (Some e) least other heals = least.least 0 (positive e (λ is. other (ap Some is))) heals
