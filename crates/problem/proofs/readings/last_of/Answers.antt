use Rattle.std.proofs.Common.{◌≡◌, ◌∙◌, ℕ, suc, leb, sym, subst, arith, rules}
use Rattle.std.proofs.lemmas.Fn.{always_returns_same}
use Rattle.problem_model.specs.Nodes.{Reading}
use Rattle.problem.proofs.Nearby.{IsEnd, ends_at, parted_to, last_found, none_found}
use Rattle.problem.proofs.readings.last_of.Goals as goal

pub returns : goal.returns
returns c =
    let xs = c.args.readings.now in
    let end = c.partition_point-end.result in
    let place = c.in_ok-place.place in
    let is = c.in_ok-place.ensures in
    let same : suc place ≡ end = omega (arith, is) in
    let bound = c.partition_point-end.ensures.bound in
    let ended : IsEnd c.args.clock xs c.requires end =
    ends_at c.args.clock xs c.requires end (c.partition_point-end.ensures.partitioned (λ (r : Reading). leb r.0 c.args.clock) (always_returns_same _ _ _ (λ a r f called. (search rules, search rules))) (parted_to c.args.clock xs c.requires)) in
    last_found c.args.clock xs c.requires place c.reading_at.result (subst (λ (n : ℕ). IsEnd c.args.clock xs c.requires n) (sym same) ended) (omega (arith, same, bound)) (c.reading_at.ensures.some, c.reading_at.ensures.none)

pub returns-in_err-place : goal.returns-in_err-place
returns-in_err-place c =
    let xs = c.args.readings.now in
    let end = c.partition_point-end.result in
    let below = c.in_err-place.ensures in
    let none : end ≡ 0 = omega (arith, below) in
    let ended : IsEnd c.args.clock xs c.requires end =
    ends_at c.args.clock xs c.requires end (c.partition_point-end.ensures.partitioned (λ (r : Reading). leb r.0 c.args.clock) (always_returns_same _ _ _ (λ a r f called. (search rules, search rules))) (parted_to c.args.clock xs c.requires)) in
    c.from_residual.ensures ∙ none_found c.args.clock xs c.requires (subst (λ (n : ℕ). IsEnd c.args.clock xs c.requires n) none ended)
