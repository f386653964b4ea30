use Rattle.problem_model.proofs.OneList.{readings_one}
use Rattle.cert.proofs.Reading.{reads_over}
use Rattle.cert.proofs.read.read_execution.Goals as goal

pub returns : goal.returns
returns c = λ readings are.
    let nodes = c.new-nodes.ensures in
    reads_over c.args.p.now c.new-nodes.result.problem _ _ _ _ nodes.clocks nodes.events (readings_one c.args.p.now _ _ nodes.readings are) c.read_text.ensures
