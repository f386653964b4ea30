use Rattle.std.proofs.Common.{◌≡◌, ◌≤◌, ◌++◌, List, length, subst, rules}
use Rattle.roster.specs.Readings.{Stamped, AreSorted}
use Rattle.roster.proofs.Stamps.{sorted_once}
use Rattle.roster.proofs.readings.sorted.Goals as goal

pub returns : goal.returns
returns c =
    let all : c.extend_from_slice-2.new.self.items ≡ c.args.first.now ++ c.args.second.now = search rules in
    let fewer : length c.dedup.new.self.items ≤ length c.sort_unstable.new.self.items = search rules in
    subst (λ (xs : List Stamped). AreSorted xs c.dedup.new.self.items) all
    (sorted_once c.extend_from_slice-2.new.self.items c.sort_unstable.new.self.items c.dedup.new.self.items fewer c.sort_unstable.ensures.permutation c.sort_unstable.ensures.sorted c.dedup.ensures.filtered)
