use Rattle.std.proofs.Common.{◌<◌, length, refl, arith}
use Rattle.std.proofs.lemmas.Option.{slice_get_read}
use Rattle.thinning.proofs.SharedEvents.{one_more}
use Rattle.thinning.proofs.sharing.mark_shared.Goals as goal

pub loop-message-preserved : goal.loop-message-preserved
loop-message-preserved c =
    let ms = c.args.messages.now in
    let k = c.loop-message.message-index in
    let within : k < length ms = omega arith in
    one_more ms k c.message-item.result (slice_get_read ms (length ms) k c.message-item.result refl within c.message-item.is)
    c.loop-message.seen c.loop-message.shared _ _ _ _ c.note.ensures c.note-in-loop-message.ensures c.loop-message.invariant
