use Rattle.std.proofs.Common.{◌≡◌, List, length, subst, arith}
use Rattle.problem_model.specs.declared.items.Message.{Message}
use Rattle.thinning.specs.Staying.{AreEndsMarked}
use Rattle.thinning.proofs.Marking.{stay_by}
use Rattle.thinning.proofs.small.mark_kept.Goals as goal

pub returns : goal.returns
returns c =
    let p = c.args.p.now in
    let stays = c.mark_ends.new.stays in
    let n : length stays ≡ length p.events = omega (arith, c.mark_ends.auto.stays, c.requires.events) in
    let are : AreEndsMarked p.messages c.args.keeps.now c.args.stays.now stays =
    subst (λ (ms : List Message). AreEndsMarked ms c.args.keeps.now c.args.stays.now stays) c.messages.ensures.value c.mark_ends.ensures in
    stay_by p c.args.stays.now c.args.keeps.now stays n are
