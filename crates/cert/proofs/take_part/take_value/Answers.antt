use Rattle.std.proofs.Common.{◌≡◌, ℕ, length, sym, subst}
use Rattle.problem_model.specs.Nodes.{nodes_of}
use Rattle.problem.specs.Listing.{all_readings}
use Rattle.problem.proofs.AllReadings.{readings_are}
use Rattle.cert.specs.ExecutionFormat.{AreValues}
use Rattle.cert.proofs.PartTaking.{takes_over, same_count}
use Rattle.cert.proofs.take_part.take_value.Goals as goal

pub take_line-requires : goal.take_line-requires
take_line-requires c =
    let p = c.args.p.now in
    let n = c.new-nodes.result in
    let count : length (nodes_of n.problem n.readings) ≡ length (nodes_of p (all_readings p.events)) = same_count p n.problem n.readings (all_readings p.events) c.new-nodes.ensures.events (readings_are p n.readings c.new-nodes.ensures.readings) in
    subst (λ (k : ℕ). AreValues k c.args.values.now) (sym count) c.requires

pub returns-clause-takes : goal.returns-clause-takes
returns-clause-takes c =
    let p = c.args.p.now in
    let n = c.new-nodes.result in
    takes_over p n.problem n.readings (all_readings p.events) _ _ _ _ c.new-nodes.ensures.clocks c.new-nodes.ensures.events (readings_are p n.readings c.new-nodes.ensures.readings) c.take_line.ensures.takes

pub returns-clause-sound : goal.returns-clause-sound
returns-clause-sound c =
    let p = c.args.p.now in
    let n = c.new-nodes.result in
    let count : length (nodes_of n.problem n.readings) ≡ length (nodes_of p (all_readings p.events)) = same_count p n.problem n.readings (all_readings p.events) c.new-nodes.ensures.events (readings_are p n.readings c.new-nodes.ensures.readings) in
    subst (λ (k : ℕ). AreValues k c.take_line.new.values) count c.take_line.ensures.sound
