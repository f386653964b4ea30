use Rattle.std.proofs.Common.{◌≡◌, [], rules}
use Rattle.problem.specs.Listing.{all_readings}
use Rattle.cert.proofs.PartTaking.{value_in_path, step_in_path, step_fault_in_path, steps_more}
use Rattle.cert.proofs.take_part.take_in_path.Goals as goal

pub returns-then-not-is_empty-clause-takes : goal.returns-then-not-is_empty-clause-takes
returns-then-not-is_empty-clause-takes c = λ value.
    let p = c.args.p.now in
    let some : c.args.values.now ≡ [] → ⊥ = search rules in
    value_in_path p (all_readings p.events) value c.args.path.now _ _ c.args.body.now _ (λ none. absurd (some none)) c.take_value.ensures.takes

pub returns-in-Ok-clause-takes : goal.returns-in-Ok-clause-takes
returns-in-Ok-clause-takes c = λ value.
    let p = c.args.p.now in
    let none : c.args.values.now ≡ [] = search rules in
    let says = c.in-Some.ensures.some in
    step_in_path p (all_readings p.events) value c.args.path.now c.push_step.new.steps c.args.values.now says.n says.z c.args.body.now none says.is (c.in-Ok.ensures says.n says.z says.held)

pub returns-in-Ok-clause-sound : goal.returns-in-Ok-clause-sound
returns-in-Ok-clause-sound c = λ value sound.
    let says = c.in-Some.ensures.some in
    (sound.0, steps_more c.args.p.now c.args.path.now c.push_step.new.steps says.n says.z (c.in-Ok.ensures says.n says.z says.held) sound.1, sound.2)

pub returns-in-Err-clause-takes : goal.returns-in-Err-clause-takes
returns-in-Err-clause-takes c = λ value.
    let p = c.args.p.now in
    let none : c.args.values.now ≡ [] = search rules in
    let says = c.in-Some.ensures.some in
    step_fault_in_path p (all_readings p.events) value c.args.path.now c.push_step.new.steps c.args.values.now c.args.values.now says.n says.z c.args.body.now c.in-Err.fault none says.spelled says.is (c.in-Err.ensures says.n says.z says.held)

pub returns-in-None-clause-takes : goal.returns-in-None-clause-takes
returns-in-None-clause-takes c = λ value.
    let p = c.args.p.now in
    value_in_path p (all_readings p.events) value c.args.path.now _ _ c.args.body.now _ (λ none. c.in-None.ensures.none) c.take_value-in-None.ensures.takes
