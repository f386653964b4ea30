use Rattle.std.proofs.Common.{◌≡◌, codes, rules, sym, subst, List, ℕ}
use Rattle.line_format.specs.Format.{Takes}
use Rattle.problem.specs.Line.{problem_format}
use Rattle.line_format.proofs.Cutting.{cut_word}
use Rattle.problem.proofs.lines.take_form.Goals as goal

pub returns-then-eq-2-clause-taken : goal.returns-then-eq-2-clause-taken
returns-then-eq-2-clause-taken c =
    let is : c.in-Some.first.now ≡ codes "clock" = search rules in
    subst (λ (b : List ℕ). Takes (problem_format c.args.version) c.args.items.now b c.clock_line.result c.clock_line.new.items) (sym (cut_word 32 _ _ _ (codes "clock") (sym c.in-Some.ensures) is)) (c.clock_line.ensures.taken c.args.version)

pub returns-then-eq-3-clause-taken : goal.returns-then-eq-3-clause-taken
returns-then-eq-3-clause-taken c =
    let is : c.in-Some.first.now ≡ codes "follow" = search rules in
    subst (λ (b : List ℕ). Takes (problem_format c.args.version) c.args.items.now b c.follow_line.result c.follow_line.new.items) (sym (cut_word 32 _ _ _ (codes "follow") (sym c.in-Some.ensures) is)) c.follow_line.ensures.taken

pub returns-then-eq-4-clause-taken : goal.returns-then-eq-4-clause-taken
returns-then-eq-4-clause-taken c =
    let is : c.in-Some.first.now ≡ codes "event" = search rules in
    subst (λ (b : List ℕ). Takes (problem_format c.args.version) c.args.items.now b c.any_event_line.result c.any_event_line.new.items) (sym (cut_word 32 _ _ _ (codes "event") (sym c.in-Some.ensures) is)) c.any_event_line.ensures.taken

pub returns-then-eq-5-clause-taken : goal.returns-then-eq-5-clause-taken
returns-then-eq-5-clause-taken c =
    let is : c.in-Some.first.now ≡ codes "message" = search rules in
    subst (λ (b : List ℕ). Takes (problem_format c.args.version) c.args.items.now b c.message_line.result c.message_line.new.items) (sym (cut_word 32 _ _ _ (codes "message") (sym c.in-Some.ensures) is)) c.message_line.ensures.taken
