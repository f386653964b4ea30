use Rattle.replies.specs.Sessions.{start}
use Rattle.replies.proofs.WholeScripts.{OfLines, one_end, one_output}
use Rattle.replies.proofs.laws.outputs_are_one.Goals as goal

pub returns-clause-output : goal.returns-clause-output
returns-clause-output c = λ d files lines a b founds after other declared are run run'.
    let each : OfLines d files = record {
      lawful = λ s next line text found lawful finds reply. c.sessions_are_lawful.ensures.line d files s next line text found lawful finds reply;
      text = λ s next then line x y found state reply reply'. c.replies_are_one.ensures.text d files s next then line x y found declared state reply reply';
      next = λ s next then line x y found state reply reply'. c.replies_are_one.ensures.next d files s next then line x y found declared state reply reply';
    } in
    one_output d files each (start d) lines founds a b after other (c.sessions_are_lawful.ensures.start d) are run run'

pub returns-clause-last : goal.returns-clause-last
returns-clause-last c = λ d files lines a b founds after other declared are run run'.
    let each : OfLines d files = record {
      lawful = λ s next line text found lawful finds reply. c.sessions_are_lawful.ensures.line d files s next line text found lawful finds reply;
      text = λ s next then line x y found state reply reply'. c.replies_are_one.ensures.text d files s next then line x y found declared state reply reply';
      next = λ s next then line x y found state reply reply'. c.replies_are_one.ensures.next d files s next then line x y found declared state reply reply';
    } in
    one_end d files each (start d) lines founds a b after other (c.sessions_are_lawful.ensures.start d) are run run'
