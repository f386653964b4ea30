use Rattle.std.proofs.Common.{List, sym, subst}
use Rattle.problem_model.specs.Nodes.{Reading}
use Rattle.problem.proofs.AllReadings.{readings_are}
use Rattle.widen.specs.ReadsWidening.{ReadsWideningOver}
use Rattle.widen.proofs.read.read_widening.Goals as goal

pub returns : goal.returns
returns c = λ readings are.
    subst (λ (rs : List Reading). ReadsWideningOver c.args.p.now rs c.args.text.now c.read_text.result) (sym (readings_are c.args.p.now readings are)) c.read_text.ensures
