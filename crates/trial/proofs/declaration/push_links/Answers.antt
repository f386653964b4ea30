use Rattle.std.proofs.Common.{string_bytes, arith}
use Rattle.trial.specs.Declaration.{links_text}
use Rattle.trial.proofs.Ranges.{one_more}
use Rattle.trial.proofs.declaration.push_links.Goals as goal

pub loop-from-preserved : goal.loop-from-preserved
loop-from-preserved c = record {
  written = one_more links_text (string_bytes c.args.text.now) (string_bytes c.loop-from.text) (string_bytes c.push_links_from.new.text) 0 c.loop-from.from c.loop-from.from (omega arith) c.loop-from.invariant.written c.in_ok-push_links_from.ensures;
}
