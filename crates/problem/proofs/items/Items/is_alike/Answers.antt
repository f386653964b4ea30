use Rattle.std.proofs.Common.{◌≡◌, Some, slice_get, is_some, rules}
use Rattle.problem.proofs.Growing.{alike_by_first}
use Rattle.problem.proofs.items.Items.is_alike.Goals as goal

pub returns-in-Some : goal.returns-in-Some
returns-in-Some c =
    let at : slice_get c.events.result.now 0 ≡ Some c.in-Some.first.now = search rules in
    let first : slice_get c.args.self.now.events 0 ≡ Some c.in-Some.first.now = rw c.events.ensures.value at at in
    let is : c.is_some.result ≡ is_some c.in-Some.first.now.bounds = search rules in
    let is' : c.is_some-in-Some.result ≡ is_some c.args.e.now.bounds = search rules in
    rw (← is') (alike_by_first c.args.self.now.events c.in-Some.first.now c.is_some.result c.is_some-in-Some.result first c.events.ensures.lawful.formed.bounds_alike is)
