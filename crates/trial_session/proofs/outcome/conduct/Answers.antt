use Rattle.std.proofs.Common.{◌∙◌, ℕ, List, sym, subst}
use Rattle.decl.specs.Walk.{IsDocumentOf}
use Rattle.trial.specs.Workload.{files_of, HasFiles}
use Rattle.trial_session.specs.Logs.{LogsState}
use Rattle.trial_session.proofs.outcome.conduct.Goals as goal

pub returns : goal.returns
returns g c =
    let n = c.args.number in
    let made = c.in_ok-trial.ensures in
    let begun = c.in_ok-session.ensures.stands in
    c.conclude.ensures n begun.0
    (subst (λ (text : List ℕ). IsDocumentOf text begun.0) (c.deref.ensures.value ∙ made.declaration) begun.1)
    begun.2
    (c.deref-2.ensures.value ∙ made.script)
    (subst (λ (s : LogsState). HasFiles s.puts (files_of n)) (sym c.new-files.ensures) made.files)
