use Rattle.std.proofs.Common.{rules}
use Rattle.event_log.proofs.Texts.{key_made}
use Rattle.event_log.proofs.word_key.WordKey.new.Goals as goal

pub invariant_of-result : goal.invariant_of-result
invariant_of-result c = key_made c.args.text.now _ c.copy_from_slice.ensures.after (search rules)
