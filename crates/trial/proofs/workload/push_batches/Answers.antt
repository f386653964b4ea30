use Rattle.std.proofs.Common.{◌≡◌, ℕ, ◌+◌, ◌-◌, ◌*◌, ◌≤◌, List, ◌++◌, map, string_bytes, refl, ap, ◌∙◌, subst, arith}
use Rattle.std.specs.List.{flat_map, range_with_len}
use Rattle.trial.specs.Rounds.{Course, message}
use Rattle.trial.specs.Workload.{batch_messages, batch_files, batch_lines, HasFiles}
use Rattle.trial.proofs.Ranges.{one_more}
use Rattle.trial.proofs.Whole.{all_files, all_lines}
use Rattle.trial.proofs.workload.push_batches.Goals as goal

-- what one batch adds to what the earlier ones gave
module _ {A : Type 0} (f : ℕ → List A) (old text : List A) (batch : ℕ) (begun : 1 ≤ batch) where
  pub next_batch : text ≡ old ++ flat_map f (range_with_len 1 (batch - 1)) → text ++ f batch ≡ old ++ flat_map f (range_with_len 1 (batch + 1 - 1))
  next_batch e = one_more f old text (text ++ f batch) 1 (batch - 1) batch (omega arith) e refl ∙ ap (λ n. old ++ flat_map f (range_with_len 1 n)) (omega arith)

pub loop-batch-preserved : goal.loop-batch-preserved
loop-batch-preserved c =
    let batch = c.loop-batch.batch in
    let begun : 1 ≤ c.loop-batch.batch = c.loop-batch.invariant.begun in
    let course : c.loop-batch.course ≡ record { seed = c.args.seed; rounds = 100 * (c.loop-batch.batch - 1) } = c.loop-batch.invariant.course in
    let are : c.deref.result.now ≡ batch_messages c.args.seed c.loop-batch.batch = c.deref.ensures.value ∙ c.in_ok-messages.ensures.messages ∙ ap (λ (v : Course). map (message v.seed) (range_with_len (v.rounds + 1) 100)) course in
    record {
      begun = omega arith;
      course = c.in_ok-messages.ensures.course
          ∙ ap (λ (v : Course). record { seed = v.seed; rounds = v.rounds + 100 }) course
          ∙ ap (λ n. record { seed = c.args.seed; rounds = n }) (omega arith);
      files = λ before h.
          let earlier = before ++ flat_map (λ b. batch_files b (batch_messages c.args.seed b)) (range_with_len 1 (batch - 1)) in
          subst (HasFiles c.push_batch.new.files.puts)
          (ap (λ ms. earlier ++ batch_files batch ms) are ∙ next_batch (λ b. batch_files b (batch_messages c.args.seed b)) before earlier batch begun refl)
          (c.in_ok-push_batch.ensures.files earlier (c.loop-batch.invariant.files before h));
      script = c.in_ok-push_batch.ensures.script
          ∙ ap (λ ms. string_bytes c.loop-batch.script ++ batch_lines batch ms) are
          ∙ next_batch (λ b. batch_lines b (batch_messages c.args.seed b)) (string_bytes c.args.script.now) (string_bytes c.loop-batch.script) batch begun c.loop-batch.invariant.script;
      unread = (c.in_ok-push_batch.ensures.unread.0 ∙ c.loop-batch.invariant.unread.0, c.in_ok-push_batch.ensures.unread.1 ∙ c.loop-batch.invariant.unread.1);
    }

pub returns-clause-files : goal.returns-clause-files
returns-clause-files c before h =
    let most : c.loop-batch.batch ≤ 21 = c.loop-batch.auto.batch-end (omega arith) in
    let e : c.loop-batch.batch - 1 ≡ 20 = omega arith in
    subst (λ fs. HasFiles c.loop-batch.files.puts (before ++ fs)) (ap (λ n. flat_map (λ b. batch_files b (batch_messages c.args.seed b)) (range_with_len 1 n)) e ∙ all_files c.args.seed)
    (c.loop-batch.invariant.files before h)

pub returns-clause-script : goal.returns-clause-script
returns-clause-script c =
    let most : c.loop-batch.batch ≤ 21 = c.loop-batch.auto.batch-end (omega arith) in
    let e : c.loop-batch.batch - 1 ≡ 20 = omega arith in
    c.loop-batch.invariant.script
    ∙ ap (λ t. string_bytes c.args.script.now ++ t) (ap (λ n. flat_map (λ b. batch_lines b (batch_messages c.args.seed b)) (range_with_len 1 n)) e ∙ all_lines c.args.seed)
