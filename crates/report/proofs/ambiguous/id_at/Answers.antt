use Rattle.std.proofs.Common.{ap, sym, ◌∙◌}
use Rattle.std.proofs.lemmas.List.{get_or-map}
use Rattle.std.proofs.lemmas.Option.{get_or_from_slice_get}
use Rattle.roster.specs.Roster.{id_of, no_event}
use Rattle.msg_match.specs.Ends.{no_name}
use Rattle.report.proofs.ambiguous.id_at.Goals as goal

pub returns : goal.returns
returns c =
    let came = c.args.roster.now.came in
    sym (get_or-map id_of came c.args.number no_event no_name c.requires ∙ ap id_of (get_or_from_slice_get came c.args.number c.event-came.result no_event c.event-came.ensures))
