use Rattle.std.proofs.Common.{◌≡◌, ◌∷◌, [], ◌++◌, ◌∙◌, ap, refl, rules, ℕ, List}
use Rattle.std.specs.Prelude.{codes}
use Rattle.atto.specs.Decimal.{decimal_of}
use Rattle.line_format.specs.Words.{line_of}
use Rattle.problem_text.proofs.words.clock_line.Goals as goal

same_line : (name : List ℕ) (s s' l l' e e' t t' : ℕ) → s ≡ s' → l ≡ l' → e ≡ e' → t ≡ t' →
    line_of (codes "clock" ∷ name ∷ decimal_of s ∷ decimal_of l ∷ decimal_of e ∷ decimal_of t ∷ []) ≡ line_of (codes "clock" ∷ name ∷ decimal_of s' ∷ decimal_of l' ∷ decimal_of e' ∷ decimal_of t' ∷ [])
same_line name s s' l l' e e' t t' short long early late = rw (short, long, early, late) refl

pub returns : goal.returns
returns c =
    let first = codes "clock" in
    let name = c.args.c.now.name in
    let s = c.from.result in
    let l = c.from-2.result in
    let e = c.get.result in
    let short : s ≡ c.args.c.now.rate.short = search rules in
    let long : l ≡ c.args.c.now.rate.long = search rules in
    let named = c.push_name.ensures.appended first [] c.first_word-line.ensures in
    let shortened = c.push_decimal.ensures.appended first (name ∷ []) named in
    let lengthened = c.push_decimal-2.ensures.appended first (name ∷ decimal_of s ∷ []) shortened in
    let advanced = c.push_decimal-3.ensures.appended first (name ∷ decimal_of s ∷ decimal_of l ∷ []) lengthened in
    let delayed = c.push_decimal-4.ensures.appended first (name ∷ decimal_of s ∷ decimal_of l ∷ decimal_of e ∷ []) advanced in
    c.push.ensures.items ∙ ap (λ (line : List ℕ). line ++ 10 ∷ []) delayed
    ∙ same_line name _ _ _ _ _ _ _ _ short long c.get.ensures.value c.get-2.ensures.value
