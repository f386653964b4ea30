use Rattle.std.proofs.Common.{◌∙◌}
use Rattle.std.proofs.lemmas.List.{take_rest}
use Rattle.event_log.proofs.Marks.{few_behind, front_behind}
use Rattle.event_log.proofs.front.short_front.Goals as goal

pub returns-clause-front : goal.returns-clause-front
returns-clause-front c =
    let mark = c.mark_len-start.ensures in
    front_behind c.args.piece.now _ _ c.before_fifth-len.result (take_rest c.args.piece.now c.mark_len-start.result ∙ mark.rest) (mark.front c.before_fifth-len.result) c.before_fifth-len.ensures.front

pub returns-clause-few : goal.returns-clause-few
returns-clause-few c =
    let mark = c.mark_len-start.ensures in
    few_behind c.args.piece.now _ _ c.before_fifth-len.result (take_rest c.args.piece.now c.mark_len-start.result ∙ mark.rest) (mark.front c.before_fifth-len.result) c.before_fifth-len.ensures.few
