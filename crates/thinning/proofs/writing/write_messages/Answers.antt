use Rattle.std.proofs.Common.{◌≡◌, ◌≤◌, List, false, length, get_or, slice_get, Some, refl, ap, subst, arith}
use Rattle.std.specs.List.{flat_map}
use Rattle.std.proofs.lemmas.Option.{slice_get_read}
use Rattle.ports.proofs.Writing.{writes_as}
use Rattle.problem_model.specs.declared.items.Message.{Message}
use Rattle.problem_model.specs.ProblemText.{message_line}
use Rattle.problem_text.proofs.Paging.{line_lost, line_put, lines_put}
use Rattle.thinning.proofs.Printed.{beside, line_if, lines_marked, there_at, beside_short}
use Rattle.thinning.proofs.writing.write_messages.Goals as goal

pub returns-in_err-put_message : goal.returns-in_err-put_message
returns-in_err-put_message g c =
    let p = c.args.p.now in
    let marks = c.args.keeps.now in
    let line = line_if (message_line p.events) in
    let xs = beside p.messages marks in
    let k = c.loop-place.place in
    let v : Message = c.index-messages-place.result in
    let at : slice_get p.messages k ≡ Some v = subst (λ (vs : List Message). slice_get vs k ≡ Some v) c.messages-messages.ensures.value (slice_get_read _ _ k v refl c.loop-place-test.true c.index-messages-place.is) in
    writes_as (lines_marked (message_line p.events) p.messages marks)
    (line_lost line xs (flat_map line xs) _ _ k (v, get_or marks k false) (there_at p.messages marks k v at c.requires) c.loop-place.invariant c.from_residual.ensures.0 c.in_err-put_message.ensures)

pub loop-place-preserved : goal.loop-place-preserved
loop-place-preserved g c =
    let p = c.args.p.now in
    let marks = c.args.keeps.now in
    let line = line_if (message_line p.events) in
    let xs = beside p.messages marks in
    let k = c.loop-place.place in
    let v : Message = c.index-messages-place.result in
    let at : slice_get p.messages k ≡ Some v = subst (λ (vs : List Message). slice_get vs k ≡ Some v) c.messages-messages.ensures.value (slice_get_read _ _ k v refl c.loop-place-test.true c.index-messages-place.is) in
    line_put line xs (flat_map line xs) _ _ k (v, get_or marks k false) (there_at p.messages marks k v at c.requires) c.loop-place.invariant c.in_ok-put_message.ensures

pub returns : goal.returns
returns g c =
    let p = c.args.p.now in
    let marks = c.args.keeps.now in
    let line = line_if (message_line p.events) in
    let xs = beside p.messages marks in
    let past : length xs ≤ c.loop-place.place = omega (arith, beside_short p.messages marks, c.loop-place-test.false, ap length c.messages-messages.ensures.value) in
    writes_as (lines_marked (message_line p.events) p.messages marks)
    (lines_put line xs (flat_map line xs) _ c.loop-place.place past c.loop-place.invariant (writes_as c.as_slice.ensures.value c.write_whole.ensures))
