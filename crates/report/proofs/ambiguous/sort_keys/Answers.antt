use Rattle.std.proofs.Common.{◌≡◌, map, rules}
use Rattle.std.proofs.lemmas.Fn.{always_returns_same}
use Rattle.std.proofs.lemmas.List.Sorted.{IsPermutation-map, IsPermutation-trans}
use Rattle.traces.specs.declared.event_id.EventId.{EventId}
use Rattle.report.specs.declared.ambiguous.Ambiguous.{Ambiguous}
use Rattle.msg_match.specs.Ambiguous.{EndGroup}
use Rattle.report.specs.Inside.{led}
use Rattle.msg_match.proofs.Sorting.{rank, sorted_one}
use Rattle.report.proofs.ambiguous.sort_keys.Goals as goal

pub returns : goal.returns
returns c = λ in_order rising moved.
    let old = c.args.keys.now in
    let new = c.sort_unstable_by_key.new.self in
    sorted_one led (λ (p : EventId × EndGroup). p.0) in_order new rising
    (IsPermutation-trans in_order (map led old) (map led new) moved (IsPermutation-map led old new c.sort_unstable_by_key.ensures.permutation))
    (c.sort_unstable_by_key.ensures.sorted (λ (a : Ambiguous). rank a.first) (always_returns_same _ (λ a r. r ≡ rank a.0.now.first) _ (λ a r q k. search rules)))
