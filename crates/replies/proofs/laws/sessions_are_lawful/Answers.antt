use Rattle.replies.specs.Sessions.{start}
use Rattle.replies.proofs.LawfulStates.{Captures, start_lawful, line_lawful}
use Rattle.replies.proofs.WholeScripts.{script_lawful}
use Rattle.replies.proofs.laws.sessions_are_lawful.Goals as goal

pub returns-clause-start : goal.returns-clause-start
returns-clause-start c =
    let below : Captures = record { none = c.nothing_reads.ensures; stay = c.old_packets_stay.ensures } in
    λ d. start_lawful below d

pub returns-clause-line : goal.returns-clause-line
returns-clause-line c =
    let below : Captures = record { none = c.nothing_reads.ensures; stay = c.old_packets_stay.ensures } in
    λ d files s after line text found lawful are reply. line_lawful below d s lawful files line found text after are reply

pub returns-clause-script : goal.returns-clause-script
returns-clause-script c =
    let below : Captures = record { none = c.nothing_reads.ensures; stay = c.old_packets_stay.ensures } in
    λ d files lines texts founds after are run.
    script_lawful d files (λ s next line text found lawful finds reply. line_lawful below d s lawful files line found text next finds reply) (start d) lines founds texts after (start_lawful below d) are run
