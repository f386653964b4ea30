use Rattle.std.proofs.Common.{◌≡◌, ◌<◌, ◌+◌, ℕ, List, length, take, set, ◌∙◌, ap, arith}
use Rattle.roster.specs.Groups.{total, sizes_of, group_at, with_tail}
use Rattle.roster.proofs.GroupTails.{tail_behind, tail_total, tail_taken}
use Rattle.roster.proofs.arrivals.put_both.Goals as goal

pub cut-requires-clause-few : goal.cut-requires-clause-few
cut-requires-clause-few c =
    let more = tail_total c.args.under.now c.args.label c.group-before.result.now c.args.numbers.now c.requires.label c.group-before.ensures in
    let few : total (sizes_of c.args.under.now) + length c.args.numbers.now < 4294967296 = c.requires.few_under in
    let is : total (sizes_of c.put_tail.new.self) ≡ total (sizes_of (with_tail c.args.under.now c.args.label (length c.group-before.result.now) c.args.numbers.now)) =
    ap (λ (gs : List (List ℕ)). total (sizes_of gs)) c.in_ok-put_tail.ensures.ok in
    omega (arith, more, few, is)

pub returns-in-Ok-clause-under_ok : goal.returns-in-Ok-clause-under_ok
returns-in-Ok-clause-under_ok c = c.in_ok-put_tail.ensures.ok ∙ tail_behind c.args.under.now c.args.label c.group-before.result.now c.args.numbers.now c.group-before.ensures

pub returns-in-Err-clause-under_err : goal.returns-in-Err-clause-under_err
returns-in-Err-clause-under_err c =
    c.cut.ensures
    ∙ ap (λ (gs : List (List ℕ)). set gs c.args.label (take (length c.group-before.result.now) (group_at gs c.args.label))) c.in_ok-put_tail.ensures.ok
    ∙ tail_taken c.args.under.now c.args.label c.group-before.result.now c.args.numbers.now c.requires.label c.group-before.ensures
