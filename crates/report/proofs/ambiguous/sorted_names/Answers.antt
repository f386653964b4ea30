use Rattle.std.proofs.Common.{◌≡◌, length, map, take_all, sym, ap, subst, ◌∙◌, rules}
use Rattle.std.specs.List.Sorted.{IsPermutation}
use Rattle.std.proofs.lemmas.Fn.{always_returns_same}
use Rattle.std.proofs.lemmas.List.{length-map}
use Rattle.std.proofs.lemmas.List.Sorted.{IsPermutation-trans, length_permutation}
use Rattle.msg_match.specs.Ends.{name_as_came}
use Rattle.report.specs.Inside.{ids_in}
use Rattle.msg_match.proofs.Sorting.{rank, sorted_names_one}
use Rattle.report.proofs.ambiguous.sorted_names.Goals as goal

pub returns-clause-names : goal.returns-clause-names
returns-clause-names c = λ in_order rising moved.
    let name = name_as_came (ids_in c.args.roster.now) in
    let all : c.loop-number.sorted.items ≡ map name c.args.numbers.now = c.loop-number.invariant ∙ ap (map name) (take_all c.loop-number.number-index c.args.numbers.now c.loop-number-test.false) in
    sorted_names_one in_order c.sort_unstable_by_key.new.self.items rising
    (IsPermutation-trans in_order c.loop-number.sorted.items c.sort_unstable_by_key.new.self.items (subst (IsPermutation in_order) (sym all) moved) c.sort_unstable_by_key.ensures.permutation)
    (c.sort_unstable_by_key.ensures.sorted rank (always_returns_same _ (λ a r. r ≡ rank a.0.now) _ (λ a r q k. search rules)))

pub returns-clause-many : goal.returns-clause-many
returns-clause-many c =
    let name = name_as_came (ids_in c.args.roster.now) in
    let all : c.loop-number.sorted.items ≡ map name c.args.numbers.now = c.loop-number.invariant ∙ ap (map name) (take_all c.loop-number.number-index c.args.numbers.now c.loop-number-test.false) in
    length_permutation c.loop-number.sorted.items c.sort_unstable_by_key.new.self.items c.sort_unstable_by_key.ensures.permutation ∙ ap length all ∙ length-map c.args.numbers.now name
