use Rattle.std.proofs.Common.{◌≡◌, ◌∙◌, sym, suc, ◌-◌, arith}
use Rattle.headers.proofs.Listing.{ends_cut, ends_few, ends_over, goes_on, has_room}
use Rattle.headers.proofs.options.telling.Goals as goal

pub returns-in_default : goal.returns-in_default
returns-in_default c = ends_cut _ _ _ _ c.loop-rest.invariant.0 (sym c.is_over.ensures.over ∙ c.loop-rest-test.true) c.in_default.ensures.cut

pub returns-then-left-eq0 : goal.returns-then-left-eq0
returns-then-left-eq0 c = ends_few _ _ _ _ c.loop-rest.invariant.0 (sym c.is_over.ensures.over ∙ c.loop-rest-test.true) c.if-left-eq0.true

pub loop-rest-preserved : goal.loop-rest-preserved
loop-rest-preserved c =
    let less : c.loop-rest.left ≡ suc (c.loop-rest.left - 1) = omega (arith, c.if-left-eq0.false) in (
      goes_on _ c.loop-rest.told.items c.loop-rest.rest.now c.loop-rest.left (c.loop-rest.left - 1) c.in-Some.size c.told_by.result.now c.append.new.told.items c.behind-rest.result.now
          c.loop-rest.invariant.0 (sym c.is_over.ensures.over ∙ c.loop-rest-test.true) c.in-Some.ensures.whole less c.in-Some.ensures.size c.told_by.ensures.told c.append.ensures c.behind-rest.ensures,
      has_room c.loop-rest.told.items c.loop-rest.rest.now c.told_by.result.now _ _ c.in-Some.size c.loop-rest.invariant.1 c.told_by.ensures.few c.in-Some.ensures.within c.append.ensures c.behind-rest.ensures,
    )

pub returns : goal.returns
returns c = ends_over _ _ _ _ c.loop-rest.invariant.0 (sym c.is_over.ensures.over ∙ c.loop-rest-test.false)
