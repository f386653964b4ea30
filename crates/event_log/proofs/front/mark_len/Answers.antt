use Rattle.std.proofs.Common.{◌∙◌, sym, arith}
use Rattle.event_log.proofs.Marks.{marked, marked_front, plain, plain_front}
use Rattle.event_log.proofs.front.mark_len.Goals as goal
use Rattle.event_log.proofs.front.mark_len.Goals.{else-piece-ge3-via-then-piece-ge3+else-is_mark, else-piece-ge3-via-else-piece-ge3}

pub returns-then-is_mark-clause-rest : goal.returns-then-is_mark-clause-rest
returns-then-is_mark-clause-rest c = marked c.args.piece.now c.if-piece-ge3.true (sym c.is_mark.ensures ∙ c.if-is_mark.true)

pub returns-then-is_mark-clause-front : goal.returns-then-is_mark-clause-front
returns-then-is_mark-clause-front c = λ n. marked_front c.args.piece.now n c.if-piece-ge3.true (sym c.is_mark.ensures ∙ c.if-is_mark.true)

pub returns-else-piece-ge3-clause-rest : goal.returns-else-piece-ge3-clause-rest
returns-else-piece-ge3-clause-rest c =
    elim c.else-piece-ge3.branch [
      | else-piece-ge3-via-then-piece-ge3+else-is_mark w ↦ plain c.args.piece.now (λ long. sym w.is_mark.ensures ∙ w.if-is_mark.false)
      | else-piece-ge3-via-else-piece-ge3 w ↦ plain c.args.piece.now (λ long. absurd (omega (arith, long, w.if-piece-ge3.false)))
    ]

pub returns-else-piece-ge3-clause-front : goal.returns-else-piece-ge3-clause-front
returns-else-piece-ge3-clause-front c = λ n.
    elim c.else-piece-ge3.branch [
      | else-piece-ge3-via-then-piece-ge3+else-is_mark w ↦ plain_front c.args.piece.now n (λ long. sym w.is_mark.ensures ∙ w.if-is_mark.false)
      | else-piece-ge3-via-else-piece-ge3 w ↦ plain_front c.args.piece.now n (λ long. absurd (omega (arith, long, w.if-piece-ge3.false)))
    ]
