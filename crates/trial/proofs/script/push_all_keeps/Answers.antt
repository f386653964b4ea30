use Rattle.std.proofs.Common.{string_bytes, arith}
use Rattle.trial.specs.Workload.{keep_line}
use Rattle.trial.proofs.Ranges.{one_more}
use Rattle.trial.proofs.script.push_all_keeps.Goals as goal

pub loop-host-preserved : goal.loop-host-preserved
loop-host-preserved c = record {
  written = one_more keep_line (string_bytes c.args.script.now) (string_bytes c.loop-host.script) (string_bytes c.push_keep.new.script) 0 c.loop-host.host c.loop-host.host (omega arith) c.loop-host.invariant.written c.in_ok-push_keep.ensures;
}
