use Rattle.std.proofs.Common.{◌≡◌, Option, sym, ap, ◌∙◌}
use Rattle.std.proofs.lemmas.Option.{get_or_from_slice_get}
use Rattle.roster.specs.declared.came.Came.{Came}
use Rattle.roster.specs.declared.came.Partner.{Partner}
use Rattle.roster.specs.Roster.{event_at, id_of, no_event}
use Rattle.problem_text.specs.RosterText.{partner_line}
use Rattle.problem_text.proofs.roster_lines.sent_line.Goals as goal

pub returns-in-Some : goal.returns-in-Some
returns-in-Some c =
    let r = c.args.roster.now in
    let v = c.args.v in
    let own : event_at r.came v ≡ c.event.result = get_or_from_slice_get r.came v c.event.result no_event c.event.ensures in
    c.couple_line.ensures ∙ ap (λ (o : Option Partner). partner_line r (id_of (event_at r.came v)) o) (sym (ap (λ (e : Came). e.partner) own ∙ c.in-Some.is))

pub returns-in-None : goal.returns-in-None
returns-in-None c =
    let r = c.args.roster.now in
    let v = c.args.v in
    let own : event_at r.came v ≡ c.event.result = get_or_from_slice_get r.came v c.event.result no_event c.event.ensures in
    c.new.ensures ∙ ap (λ (o : Option Partner). partner_line r (id_of (event_at r.came v)) o) (sym (ap (λ (e : Came). e.partner) own ∙ c.in-None.is))
