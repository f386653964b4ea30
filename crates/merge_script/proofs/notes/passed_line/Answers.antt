use Rattle.std.proofs.Common.{◌∷◌, [], ◌++◌, ◌∙◌, ap, ℕ, List, codes}
use Rattle.atto.specs.Decimal.{decimal_of}
use Rattle.merge_script.proofs.notes.passed_line.Goals as goal

pub returns : goal.returns
returns c =
    let first : List ℕ = c.args.label.now in
    let p = c.args.passed in
    let simple : List (List ℕ) = codes "passed" ∷ [] in
    let obsolete : List (List ℕ) = simple ++ codes "simple" ∷ decimal_of p.simple ∷ [] in
    let other : List (List ℕ) = obsolete ++ codes "obsolete" ∷ decimal_of p.obsolete ∷ [] in
    let one = c.push_word.ensures.appended first [] (c.first_word-line.ensures ∙ c.bytes.ensures.value) in
    let two = c.push_count.ensures.appended first simple one in
    let three = c.push_count-2.ensures.appended first obsolete two in
    c.push.ensures.items ∙ ap (λ (l : List ℕ). l ++ 10 ∷ []) (c.push_count-3.ensures.appended first other three)
