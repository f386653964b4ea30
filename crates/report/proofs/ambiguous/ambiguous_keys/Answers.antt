use Rattle.std.proofs.Common.{◌++◌, ap, ◌∙◌, List, ◌∷◌, []}
use Rattle.msg_match.specs.Held.{seen_group}
use Rattle.msg_match.specs.Ambiguous.{EndGroup}
use Rattle.traces.specs.declared.event_id.EventId.{EventId}
use Rattle.msg_match.specs.EndsInside.{HasEventsOf, IsWithin, led_groups}
use Rattle.report.specs.Inside.{ids_in}
use Rattle.msg_match.proofs.Gathered.{at_group, next_led}
use Rattle.report.proofs.ambiguous.ambiguous_keys.Goals as goal

pub push_ambiguous-requires : goal.push_ambiguous-requires
push_ambiguous-requires c = at_group (IsWithin (ids_in c.args.roster.now)) c.args.groups.now c.loop-group.group-index c.group-item.result c.requires c.loop-group-test.true c.group-item.is

pub loop-group-preserved : goal.loop-group-preserved
loop-group-preserved c = λ ends rising have.
    let groups = c.args.groups.now in
    let i = c.loop-group.group-index in
    let group = c.group-item.result in
    c.in_ok-push_ambiguous.ensures ends rising (at_group (HasEventsOf (ids_in c.args.roster.now) ends) groups i group have c.loop-group-test.true c.group-item.is)
    ∙ ap (λ (l : List (EventId × EndGroup)). l ++ led_groups ends ((seen_group group).key ∷ [])) (c.loop-group.invariant ends rising have)
    ∙ next_led ends groups i group c.loop-group-test.true c.group-item.is
