use Rattle.std.proofs.Common.{◌≡◌, List, length, sym, subst, ◌∙◌, ap, rules}
use Rattle.std.specs.Prelude.{ℤ}
use Rattle.std.specs.List.Sorted.{IsSortedByKey}
use Rattle.std.proofs.lemmas.Fn.{always_returns_same}
use Rattle.msg_match.specs.declared.series.Stop.{Stop}
use Rattle.msg_match.specs.Held.{seen_items}
use Rattle.msg_match.specs.Series.{AreBeginnings, AreBegun, HaveOwnPlaces}
use Rattle.msg_match.proofs.Scanned.{turn, turn_cmp}
use Rattle.msg_match.proofs.Stops.{beginnings_are, own_places}
use Rattle.msg_match.proofs.TableLemmas.{if_ok2}
use Rattle.msg_match.proofs.series.beginnings.Goals as goal

pub begins_of-requires : goal.begins_of-requires
begins_of-requires c =
    subst (λ (l : List Stop). HaveOwnPlaces l) (sym c.deref.ensures.value) (own_places (seen_items c.args.items.now) c.in_ok-stops.stops.items c.sort_unstable_by_key.new.self.items c.in_ok-stops.ensures c.sort_unstable_by_key.ensures.permutation)

pub returns : goal.returns
returns c =
    let items = seen_items c.args.items.now in
    let came = c.in_ok-stops.stops.items in
    let sorted = c.sort_unstable_by_key.new.self.items in
    let up : IsSortedByKey turn turn_cmp sorted = c.sort_unstable_by_key.ensures.sorted turn (always_returns_same _ (λ a r. r ≡ turn a.0.now) _ (λ a r q k. search rules)) in
    let is : c.deref.result.now ≡ sorted = c.deref.ensures.value in
    if_ok2 c.begins_of.result (λ begins. AreBegun (length c.deref.result.now) c.deref.result.now begins.items) (λ begins. length begins.items ≡ length c.deref.result.now) (λ begins. AreBeginnings items begins.items) c.begins_of.ensures.begun c.begins_of.ensures.many
    (λ begins begun many.
    beginnings_are items came sorted c.in_ok-stops.ensures c.sort_unstable_by_key.ensures.permutation up begins.items (subst (λ (l : List Stop). AreBegun (length l) l begins.items) is begun) (many ∙ ap (λ (l : List Stop). length l) is))
