use Rattle.std.proofs.Common.{◌≡◌, rules}
use Rattle.std.proofs.lemmas.Fn.{always_returns_same}
use Rattle.mergecap.specs.declared.stored.Stored.{Stored}
use Rattle.mergecap.specs.Packets.{timed}
use Rattle.mergecap.proofs.Orders.{arranged_or}
use Rattle.mergecap.proofs.order.sort.Goals as goal

pub returns : goal.returns
returns c =
    arranged_or timed c.args.kept.now c.sort_by_key.new.self c.sort_by_key.result c.requires c.sort_by_key.ensures.permutation c.sort_by_key.ensures.sorted
    (λ sorted. sorted (λ (s : Stored). (timed s).key) (always_returns_same _ (λ a r. r ≡ (timed a.0.now).key) _ (λ a r q k. search rules)))
