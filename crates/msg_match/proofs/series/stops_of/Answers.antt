use Rattle.std.proofs.Common.{◌≡◌, ◌≤◌, ◌+◌, ◌++◌, ◌∷◌, [], ℕ, List, length, take, sym, ap, subst, ◌∙◌, arith, rules, length-take}
use Rattle.std.proofs.lemmas.List.{length-map, map_more}
use Rattle.traces.specs.Seen.{EventKey}
use Rattle.msg_match.specs.declared.item.Item.{Item}
use Rattle.msg_match.specs.declared.series.Stop.{Stop}
use Rattle.msg_match.specs.Groups.{SeenItem}
use Rattle.msg_match.specs.Held.{seen_item, seen_items}
use Rattle.msg_match.specs.Series.{AreStops, IsStop, series_of, timeless, with_series}
use Rattle.msg_match.proofs.Stops.{series_few, series_more, stops_more}
use Rattle.msg_match.proofs.series.stops_of.Goals as goal

pub stop_of-requires : goal.stop_of-requires
stop_of-requires c =
    let taken = take c.loop-place.place c.args.items.now in
    let few = series_few (seen_items taken) in
    let many = length-map taken seen_item in
    let long = length-take c.loop-place.place c.args.items.now in
    let same : length c.loop-place.series ≡ length (series_of (seen_items taken)) = ap (λ (l : List EventKey). length l) c.loop-place.invariant.0 in
    omega (arith, few, many, long, same, c.requires)

pub loop-place-preserved : goal.loop-place-preserved
loop-place-preserved c =
    let xs = c.args.items.now in
    let i = c.loop-place.place in
    let x = c.index-items-place.result in
    let taken = seen_items (take i xs) in
    let next : taken ++ seen_item x ∷ [] ≡ seen_items (take (i + 1) xs) = sym (map_more seen_item xs i x c.loop-place-test.true ∙ ap (λ (y : Item). seen_items (take i xs) ++ seen_item y ∷ []) (sym c.index-items-place.is)) in
    let series : c.stop_of.new.series ≡ with_series (series_of taken) (timeless (seen_item x).key) = c.in_ok-stop.ensures.series ∙ ap (λ (l : List EventKey). with_series l (timeless (seen_item x).key)) c.loop-place.invariant.0 in
    let pushed : c.push.new.self.items ≡ c.loop-place.stops.items ++ c.in_ok-stop.stop ∷ [] = search rules in
    let long : i ≡ length taken = (let many = length-map (take i xs) seen_item in let inside = c.loop-place-test.true in omega (arith, many, length-take i xs, inside)) in
    let stands : IsStop (with_series (series_of taken) (timeless (seen_item x).key)) (seen_item x) i c.in_ok-stop.stop = subst (λ (l : List EventKey). IsStop l (seen_item x) i c.in_ok-stop.stop) series c.in_ok-stop.ensures.stop in (
      series ∙ sym (series_more taken (seen_item x)) ∙ ap (λ (l : List SeenItem). series_of l) next,
      subst (λ (l : List SeenItem). AreStops l c.push.new.self.items) next
          (subst (λ (l : List Stop). AreStops (taken ++ seen_item x ∷ []) l) (sym pushed) (stops_more taken c.loop-place.stops.items (seen_item x) c.in_ok-stop.stop i c.loop-place.invariant.1 long stands)),
    )
