use Rattle.std.proofs.Common.{◌≡◌, ◌<◌, ◌+◌, Bool, List, true, false, length, get_or, slice_get, Some, refl, sym, ◌∙◌, ap, subst, arith}
use Rattle.std.proofs.lemmas.Option.{slice_get_read, slice_get-get_or, slice_get_within, get_or_from_slice_get}
use Rattle.problem_model.specs.declared.items.Message.{Message}
use Rattle.thinning.specs.Thinned.{IsMarked}
use Rattle.thinning.proofs.Marking.{AreEndsOf, ends_past, ends_more, ends_all}
use Rattle.thinning.proofs.small.mark_ends.Goals as goal
use Rattle.thinning.proofs.small.mark_ends.Goals.{then-keeps-place, else-keeps-place}

pub loop-place-preserved : goal.loop-place-preserved
loop-place-preserved c =
    let messages = c.args.messages.now in
    let keeps = c.args.keeps.now in
    let k = c.loop-place.place in
    let inside : k < length keeps = omega (arith, c.loop-place-test.true, c.requires.each) in
    elim c.if-keeps-place.branch [
      | then-keeps-place w ↦
          (let (mid, sends, receives) = w.mark_message.ensures in
          let m : Message = w.index-messages-place.result in
          let at : slice_get messages k ≡ Some m = slice_get_read messages (length messages) k m refl c.loop-place-test.true w.index-messages-place.is in
          let mark : IsMarked keeps k = slice_get-get_or keeps k false inside ∙ ap (λ (b : Bool). Some b) w.if-keeps-place.true in
          subst (λ (stays : List Bool). AreEndsOf messages keeps c.args.stays.now stays (k + 1)) (sym w.stays-is)
          (ends_more messages keeps c.args.stays.now c.loop-place.stays mid w.mark_message.new.stays k m c.loop-place.invariant at mark sends receives))
      | else-keeps-place w ↦
          subst (λ (stays : List Bool). AreEndsOf messages keeps c.args.stays.now stays (k + 1)) (sym w.stays-is)
          (ends_past messages keeps c.args.stays.now c.loop-place.stays k c.loop-place.invariant (λ mark. never (get_or keeps k false) (get_or_from_slice_get keeps k true false mark) w.if-keeps-place.false))
    ]
  where
    never : (b : Bool) → b ≡ true → b ≡ false → ⊥
    never b is not = absurd cc

pub returns : goal.returns
returns c =
    ends_all c.args.messages.now c.args.keeps.now c.args.stays.now c.loop-place.stays c.loop-place.place
    (λ j m at. let inside : j < length c.args.messages.now = slice_get_within c.args.messages.now j m at in omega (arith, inside, c.loop-place-test.false)) c.loop-place.invariant
