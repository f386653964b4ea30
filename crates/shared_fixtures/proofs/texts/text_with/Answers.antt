use Rattle.std.proofs.Common.{◌<◌, ◌++◌, length, arith, ap, ◌∙◌}
use Rattle.std.specs.List.{flat_map}
use Rattle.shared_fixtures.proofs.Exchanging.{none_exchanged, one_exchanged}
use Rattle.shared_fixtures.proofs.texts.text_with.Goals as goal
use Rattle.shared_fixtures.proofs.texts.text_with.Goals.{then-number-eq0-via-then-number-eq0, then-number-eq0-via-else-number-eq0+then-number-lines}

pub returns-then-number-eq0 : goal.returns-then-number-eq0
returns-then-number-eq0 c =
    let none : 0 < c.args.number → length c.args.lines.now < c.args.number =
    elim c.then-number-eq0.branch [
      | then-number-eq0-via-then-number-eq0 w ↦ λ some. absurd (omega arith)
      | then-number-eq0-via-else-number-eq0+then-number-lines w ↦ λ some. omega arith
    ] in
    c.in_ok-push_lines.ensures
    ∙ ap (λ text. text ++ flat_map (λ line. line.now) c.args.lines.now) c.new-text.ensures.items
    ∙ none_exchanged (λ line. line.now) c.args.lines.now c.args.number c.args.other.now none

pub returns : goal.returns
returns c =
    one_exchanged (λ line. line.now) c.args.lines.now c.args.number c.args.other.now _ _ _ _ _ (omega arith) (omega arith)
    c.new-text.ensures.items c.in_ok-push_lines-2.ensures c.as_bytes.ensures.value c.in_ok-extend_from_slice.ensures.items c.in_ok-push_lines-3.ensures
