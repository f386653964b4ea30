use Rattle.std.proofs.Common.{◌≡◌, ◌<◌, Bool, true, false, length, get_or, slice_get, is_some, Some, sym, ◌∙◌, ap, subst, arith}
use Rattle.std.proofs.lemmas.Option.{same_Some, slice_get-get_or, slice_get_within, get_or_from_slice_get}
use Rattle.problem_model.specs.declared.items.Event.{Event}
use Rattle.thinning.specs.Thinned.{IsMarked}
use Rattle.thinning.proofs.Printed.{one_passes, none_pass, pass_more}
use Rattle.thinning.proofs.writing.has_own_bounds.Goals as goal
use Rattle.thinning.proofs.writing.has_own_bounds.Goals.{else-stays-place-via-then-stays-place+else-is_some, else-stays-place-via-else-stays-place}

pub returns-then-is_some : goal.returns-then-is_some
returns-then-is_some c =
    let events = c.args.events.now in
    let stays = c.args.stays.now in
    let k = c.loop-place.place in
    let v : Event = get_or events k c.index-events-place.result in
    let at : slice_get events k ≡ Some v = slice_get-get_or events k c.index-events-place.result c.loop-place-test.true in
    let inside : k < length stays = omega (arith, c.loop-place-test.true, c.requires) in
    let mark : IsMarked stays k = slice_get-get_or stays k false inside ∙ ap (λ (b : Bool). Some b) c.if-stays-place.true in
    sym (one_passes (λ (e : Event). is_some e.bounds) events stays k v at mark (sym c.is_some.ensures ∙ c.if-is_some.true))

pub loop-place-preserved : goal.loop-place-preserved
loop-place-preserved c =
    let events = c.args.events.now in
    let stays = c.args.stays.now in
    let k = c.loop-place.place in
    elim c.else-stays-place.branch [
      | else-stays-place-via-then-stays-place+else-is_some w ↦
          (let v : Event = get_or events k w.index-events-place.result in
          let at : slice_get events k ≡ Some v = slice_get-get_or events k w.index-events-place.result c.loop-place-test.true in
          let none : is_some v.bounds ≡ false = sym w.is_some.ensures ∙ w.if-is_some.false in
          pass_more (λ (e : Event). is_some e.bounds) events stays k c.loop-place.invariant (λ x there mark. subst (λ (e : Event). is_some e.bounds ≡ false) (same_Some v x (sym at ∙ there)) none))
      | else-stays-place-via-else-stays-place w ↦
          pass_more (λ (e : Event). is_some e.bounds) events stays k c.loop-place.invariant
          (λ x there mark. absurd (never (get_or stays k false) (get_or_from_slice_get stays k true false mark) w.if-stays-place.false))
    ]
  where
    never : (b : Bool) → b ≡ true → b ≡ false → ⊥
    never b is not = absurd cc

pub returns : goal.returns
returns c =
    let events = c.args.events.now in
    sym (none_pass (λ (e : Event). is_some e.bounds) events c.args.stays.now
    (λ j x at mark. let inside : j < length events = slice_get_within events j x at in c.loop-place.invariant j x (omega (arith, inside, c.loop-place-test.false)) at mark))
