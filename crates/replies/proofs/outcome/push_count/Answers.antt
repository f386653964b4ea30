use Rattle.std.proofs.Common.{◌≡◌, ℕ, ◌+◌, List, length, ◌∷◌, [], ◌++◌, ◌∙◌, ap, refl, arith}
use Rattle.atto.specs.Decimal.{decimal_of}
use Rattle.ports.proofs.Composing.{two_more}
use Rattle.replies.proofs.LineLengths.{longer}
use Rattle.replies.proofs.outcome.push_count.Goals as goal

pub push_decimal-requires : goal.push_decimal-requires
push_decimal-requires c =
    let line = c.args.line.now.items in
    let long : length c.push_word.new.line.items ≡ length line + (length c.args.word.now + 1) =
    ap (λ (l : List ℕ). length l) (c.push_word.ensures.appended line [] refl) ∙ longer line c.args.word.now in
    let short = c.requires.short in
    let room = c.requires.room in
    omega (arith, long, short, room)

pub returns-clause-appended : goal.returns-clause-appended
returns-clause-appended c = λ first ws is.
    let word = c.push_word.ensures.appended first ws is in
    two_more first ws c.args.word.now (decimal_of c.args.number) _ (c.push_decimal.ensures.appended first (ws ++ c.args.word.now ∷ []) word)

pub returns-clause-grown : goal.returns-clause-grown
returns-clause-grown c =
    let line = c.args.line.now.items in
    let long : length c.push_word.new.line.items ≡ length line + (length c.args.word.now + 1) =
    ap (λ (l : List ℕ). length l) (c.push_word.ensures.appended line [] refl) ∙ longer line c.args.word.now in
    let short = c.requires.short in
    let more = c.push_decimal.ensures.grown in
    omega (arith, long, short, more)
