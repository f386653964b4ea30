use Rattle.std.proofs.Common.{string_bytes, arith}
use Rattle.trial.specs.Declaration.{link_text}
use Rattle.trial.proofs.Ranges.{one_more}
use Rattle.trial.proofs.declaration.push_links_from.Goals as goal

pub loop-to-preserved : goal.loop-to-preserved
loop-to-preserved c = record {
  written = one_more (link_text c.args.from) (string_bytes c.args.text.now) (string_bytes c.loop-to.text) (string_bytes c.push_link.new.text) 0 c.loop-to.to c.loop-to.to (omega arith) c.loop-to.invariant.written c.in_ok-push_link.ensures;
}
