use Rattle.std.proofs.Common.{Bool, List, Option, ℕ, true, subst}
use Rattle.std.specs.Prelude.{option_map}
use Rattle.std.specs.Borrow.{Bor}
use Rattle.std.proofs.lemmas.Result.{IfOk-weaker}
use Rattle.mergecap.specs.Packets.{all_timed, shift_of}
use Rattle.queries.specs.Consistent.{IsConsistent}
use Rattle.session.specs.Stands.{problem_held, seen_held}
use Rattle.merge_script.specs.Dated.{IsCountedMergeOf, IsOriginFor, LacksFile}
use Rattle.merge_script.proofs.Merges.{if_err}
use Rattle.merge_script.proofs.dated.merge_dated.Goals as goal

pub origin-requires-clause-consistent : goal.origin-requires-clause-consistent
origin-requires-clause-consistent g c = subst (λ (b : Bool). IsConsistent (problem_held c.args.session.now) b) c.if-not-consistent.false c.consistent.ensures

pub merge_since-requires-clause-consistent : goal.merge_since-requires-clause-consistent
merge_since-requires-clause-consistent g c = subst (λ (b : Bool). IsConsistent (problem_held c.args.session.now) b) c.if-not-consistent.false c.consistent.ensures

pub merge_since-requires-clause-origin : goal.merge_since-requires-clause-origin
merge_since-requires-clause-origin g c = ((option_map (λ (event : Bor (List ℕ)). event.now) c.args.name), c.in-Ok.ensures.ok)

pub returns-in-Ok-clause-ok : goal.returns-in-Ok-clause-ok
returns-in-Ok-clause-ok g c = IfOk-weaker c.merge_since.result _ _ (λ x told. told (option_map (λ (event : Bor (List ℕ)). event.now) c.args.name) c.in-Ok.ensures.ok) c.merge_since.ensures.ok

pub returns-in-Ok-clause-err : goal.returns-in-Ok-clause-err
returns-in-Ok-clause-err g c = if_err c.merge_since.result _ _ (λ why told. told (option_map (λ (event : Bor (List ℕ)). event.now) c.args.name) c.in-Ok.ensures.ok) c.merge_since.ensures.err

pub returns-in-Err-clause-err : goal.returns-in-Err-clause-err
returns-in-Err-clause-err g c = c.in-Err.ensures.err (all_timed c.args.kept.items)
