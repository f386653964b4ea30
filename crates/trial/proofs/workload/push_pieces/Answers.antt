use Rattle.std.proofs.Common.{◌++◌, string_bytes, ◌∙◌, subst, arith, refl}
use Rattle.std.specs.List.{flat_map, range_with_len}
use Rattle.trial.specs.Workload.{file_of, add_line, HasFiles}
use Rattle.trial.proofs.Ranges.{one_more}
use Rattle.trial.proofs.workload.push_pieces.Goals as goal

pub loop-host-preserved : goal.loop-host-preserved
loop-host-preserved c =
    let host = c.loop-host.host in
    let batch = c.args.batch in
    let messages = c.args.messages.now in
    record {
      files = λ before h.
          subst (HasFiles c.push_piece.new.files.puts)
          (one_more (λ k. file_of k batch messages) before (before ++ flat_map (λ k. file_of k batch messages) (range_with_len 0 host)) (before ++ flat_map (λ k. file_of k batch messages) (range_with_len 0 host) ++ file_of host batch messages) 0 host host (omega arith) refl refl)
          (c.in_ok-push_piece.ensures.files (before ++ flat_map (λ k. file_of k batch messages) (range_with_len 0 host)) (c.loop-host.invariant.files before h));
      script = one_more (λ k. add_line k batch messages) (string_bytes c.args.script.now) (string_bytes c.loop-host.script) (string_bytes c.push_piece.new.script) 0 host host (omega arith) c.loop-host.invariant.script c.in_ok-push_piece.ensures.script;
      unread = (c.in_ok-push_piece.ensures.unread.0 ∙ c.loop-host.invariant.unread.0, c.in_ok-push_piece.ensures.unread.1 ∙ c.loop-host.invariant.unread.1);
    }
