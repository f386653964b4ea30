use Rattle.std.proofs.Common.{◌≡◌, ◌+◌, length, ap, ◌∙◌, arith}
use Rattle.problem_model.specs.Nodes.{nodes_of}
use Rattle.problem.specs.Listing.{all_readings}
use Rattle.problem.proofs.AllReadings.{readings_are}
use Rattle.cert.specs.CertificateFormat.{end_values}
use Rattle.cert.specs.EndLists.{end_lists}
use Rattle.cert.proofs.Places.{length-nodes_of}
use Rattle.cert.proofs.PartTaking.{test_is}
use Rattle.cert.proofs.take_part.is_whole.Goals as goal

pub returns : goal.returns
returns c =
    let p = c.args.p.now in
    let count = length-nodes_of p (all_readings p.events) in
    let events = ap length c.events.ensures.value in
    let readings = ap length (readings_are p c.readings.result.now c.readings.ensures) in
    let nodes : length c.events.result.now + length c.readings.result.now ≡ length (nodes_of p (all_readings p.events)) = omega (arith, count, events, readings) in
    let values : c.from.result ≡ length (end_values (end_lists c.args.end.now)) = c.from.ensures ∙ c.value_count.ensures in
    test_is _ _ _ _ values nodes
