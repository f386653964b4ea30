use Rattle.std.proofs.Common.{◌≡◌, ℕ, ◌<◌, ◌≤◌, ◌+◌, ◌-◌, List, length, get_or, [], sym, ◌∙◌, ap, subst, arith}
use Rattle.roster.specs.Groups.{IsPlaceOf, lists_of}
use Rattle.roster.specs.Sums.{pair_sums}
use Rattle.roster.proofs.SumLevels.{level_is, top_place, below_is}
use Rattle.roster.proofs.sums.place_in.Goals as goal

pub loop-above-init : goal.loop-above-init
loop-above-init c = top_place c.args.levels.now c.args.sum c.requires.levels c.requires.within

pub in_pair-found-requires : goal.in_pair-found-requires
in_pair-found-requires c =
    let levels = c.args.levels.now in
    let k = length levels - 1 - c.loop-above.above in
    let inside : c.loop-above.above < length levels = c.loop-above-test.true in
    let above : 1 ≤ c.loop-above.above = c.loop-above.auto.above in
    let here : c.deref.result.now ≡ get_or (lists_of levels) k [] =
    c.deref.ensures.value ∙ level_is levels k c.index-levels-levels.result c.index-levels-levels.is (omega (arith, inside)) in
    let next : get_or (lists_of levels) (length levels - c.loop-above.above) [] ≡ pair_sums (get_or (lists_of levels) k []) =
    below_is levels k (length levels - c.loop-above.above) c.requires.levels (omega (arith, inside)) (omega (arith, inside, above)) in
    (c.args.sum, subst (λ (l : List ℕ). IsPlaceOf l c.args.sum c.loop-above.found.0 c.loop-above.found.1) (next ∙ ap pair_sums (sym here)) c.loop-above.invariant)

pub loop-above-preserved : goal.loop-above-preserved
loop-above-preserved c =
    let levels = c.args.levels.now in
    let k = length levels - 1 - c.loop-above.above in
    let inside : c.loop-above.above < length levels = c.loop-above-test.true in
    let above : 1 ≤ c.loop-above.above = c.loop-above.auto.above in
    let here : c.deref.result.now ≡ get_or (lists_of levels) k [] =
    c.deref.ensures.value ∙ level_is levels k c.index-levels-levels.result c.index-levels-levels.is (omega (arith, inside)) in
    let next : get_or (lists_of levels) (length levels - c.loop-above.above) [] ≡ pair_sums (get_or (lists_of levels) k []) =
    below_is levels k (length levels - c.loop-above.above) c.requires.levels (omega (arith, inside)) (omega (arith, inside, above)) in
    let found = c.in_pair-found.ensures c.args.sum (subst (λ (l : List ℕ). IsPlaceOf l c.args.sum c.loop-above.found.0 c.loop-above.found.1) (next ∙ ap pair_sums (sym here)) c.loop-above.invariant) in
    let on : k ≡ length levels - (c.loop-above.above + 1) = omega (arith, inside) in
    subst (λ (l : List ℕ). IsPlaceOf l c.args.sum c.in_pair-found.result.0 c.in_pair-found.result.1) (here ∙ ap (λ (n : ℕ). get_or (lists_of levels) n []) on) found
