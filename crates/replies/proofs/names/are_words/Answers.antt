use Rattle.std.proofs.Common.{◌≡◌, true, sym, arith}
use Rattle.std.specs.Prelude.{All}
use Rattle.line_format.proofs.Cutting.{cut_shorter}
use Rattle.replies.specs.Commands.{IsWord, spaced}
use Rattle.replies.proofs.Asking.{word_first, words_behind, word_alone}
use Rattle.replies.proofs.names.are_words.Goals as goal

pub returns-then-not-is_word : goal.returns-then-not-is_word
returns-then-not-is_word c = (
  λ never. absurd cc,
  λ all. let is : c.is_word.result ≡ true = c.is_word.ensures.1 (word_first c.loop-word.rest.now c.in-Some.word.now c.in-Some.more.now (sym c.in-Some.ensures) (c.loop-word.invariant.1 all)) in grind (arith, is, c.if-not-is_word.true),
)

pub loop-word-smaller : goal.loop-word-smaller
loop-word-smaller c = cut_shorter 32 c.loop-word.rest.now c.in-Some.word.now c.in-Some.more.now (sym c.in-Some.ensures)

pub loop-word-preserved : goal.loop-word-preserved
loop-word-preserved c =
    words_behind c.loop-word.rest.now c.in-Some.word.now c.in-Some.more.now (All IsWord (spaced c.args.text.now)) (sym c.in-Some.ensures) (c.is_word.ensures.0 (grind (arith, c.if-not-is_word.false))) c.loop-word.invariant

pub returns : goal.returns
returns c =
    let alone = word_alone c.loop-word.rest.now (All IsWord (spaced c.args.text.now)) (sym c.in_default.ensures) c.loop-word.invariant in (
      λ is. alone.0 (c.is_word-2.ensures.0 is),
      λ all. c.is_word-2.ensures.1 (alone.1 all),
    )
