use Rattle.std.proofs.Common.{string_bytes, arith}
use Rattle.trial.specs.Declaration.{host_text}
use Rattle.trial.proofs.Ranges.{one_more}
use Rattle.trial.proofs.declaration.push_hosts.Goals as goal

pub loop-host-preserved : goal.loop-host-preserved
loop-host-preserved c = record {
  written = one_more host_text (string_bytes c.args.text.now) (string_bytes c.loop-host.text) (string_bytes c.push_host.new.text) 0 c.loop-host.host c.loop-host.host (omega arith) c.loop-host.invariant.written c.in_ok-push_host.ensures;
}
