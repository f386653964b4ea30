use Rattle.std.proofs.Common.{◌≡◌, [], rules}
use Rattle.problem.specs.Listing.{all_readings}
use Rattle.cert.proofs.PartTaking.{value_in_cut, inside_in_cut, inside_fault_in_cut, inside_more}
use Rattle.cert.proofs.take_part.take_in_cut.Goals as goal

pub returns-then-not-is_empty-clause-takes : goal.returns-then-not-is_empty-clause-takes
returns-then-not-is_empty-clause-takes c =
    let p = c.args.p.now in
    let some : c.args.values.now ≡ [] → ⊥ = search rules in
    value_in_cut p (all_readings p.events) c.args.inside.now.items _ _ c.args.body.now _ (λ none. absurd (some none)) c.take_value.ensures.takes

pub returns-in-Ok-clause-takes : goal.returns-in-Ok-clause-takes
returns-in-Ok-clause-takes c =
    let p = c.args.p.now in
    let none : c.args.values.now ≡ [] = search rules in
    inside_in_cut p (all_readings p.events) c.args.inside.now.items c.push_inside.new.inside.items c.args.values.now c.in-Some.name c.args.body.now none c.in-Some.ensures.some c.in-Ok.ensures

pub returns-in-Ok-clause-sound : goal.returns-in-Ok-clause-sound
returns-in-Ok-clause-sound c =
    (inside_more c.args.p.now c.args.inside.now.items c.push_inside.new.inside.items c.in-Some.name c.in-Ok.ensures c.requires.0, c.requires.1)

pub returns-in-Err-clause-takes : goal.returns-in-Err-clause-takes
returns-in-Err-clause-takes c =
    let p = c.args.p.now in
    let none : c.args.values.now ≡ [] = search rules in
    inside_fault_in_cut p (all_readings p.events) c.args.inside.now.items c.push_inside.new.inside.items c.args.values.now c.args.values.now c.in-Some.name c.args.body.now c.in-Err.fault none c.in-Some.ensures.some c.in-Err.ensures

pub returns-in-None-clause-takes : goal.returns-in-None-clause-takes
returns-in-None-clause-takes c =
    let p = c.args.p.now in
    value_in_cut p (all_readings p.events) c.args.inside.now.items _ _ c.args.body.now _ (λ none. c.in-None.ensures.none) c.take_value-in-None.ensures.takes
