use Rattle.std.proofs.Common.{◌≡◌, ◌+◌, ◌-◌, ◌≤◌, ◌++◌, string_bytes, ap, ◌∙◌, arith}
use Rattle.std.specs.List.{flat_map, range_with_len}
use Rattle.trial.specs.Workload.{ask_lines}
use Rattle.trial.proofs.Ranges.{one_more}
use Rattle.trial.proofs.script.push_asks.Goals as goal

pub loop-host-preserved : goal.loop-host-preserved
loop-host-preserved c = record {
  begun = omega arith;
  written = (let begun : 1 ≤ c.loop-host.host = c.loop-host.invariant.begun in let count : c.loop-host.host - 1 + 1 ≡ c.loop-host.host + 1 - 1 = omega arith in
      one_more ask_lines (string_bytes c.args.script.now) (string_bytes c.loop-host.script) (string_bytes c.push_ask.new.script) 1 (c.loop-host.host - 1) c.loop-host.host (omega arith) c.loop-host.invariant.written c.in_ok-push_ask.ensures
      ∙ ap (λ n. string_bytes c.args.script.now ++ flat_map ask_lines (range_with_len 1 n)) count);
}

pub returns : goal.returns
returns c =
    let most : c.loop-host.host ≤ 8 = c.loop-host.auto.host-end (omega arith) in
    let e : c.loop-host.host - 1 ≡ 7 = omega arith in
    c.loop-host.invariant.written ∙ ap (λ n. string_bytes c.args.script.now ++ flat_map ask_lines (range_with_len 1 n)) e
