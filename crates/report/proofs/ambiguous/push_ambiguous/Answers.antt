use Rattle.std.proofs.Common.{sym, ◌∙◌}
use Rattle.msg_match.specs.Held.{seen_group}
use Rattle.report.specs.Inside.{ids_in, led}
use Rattle.msg_match.proofs.Gathered.{led_in, led_out, ambiguous_is}
use Rattle.report.proofs.ambiguous.push_ambiguous.Goals as goal

pub returns-in_ok-push : goal.returns-in_ok-push
returns-in_ok-push c = λ ends rising has.
    let group = seen_group c.args.group.now in
    led_in led c.args.keys.now.items c.push.new.self.items c.in_ok-key.key ends group.key
    (sym (ambiguous_is (ids_in c.args.roster.now) ends group has) ∙ sym c.is_ambiguous.ensures ∙ c.if-is_ambiguous.true)
    c.in_ok-push.ensures.items (c.in_ok-key.ensures ends rising has)

pub returns-else-is_ambiguous : goal.returns-else-is_ambiguous
returns-else-is_ambiguous c = λ ends rising has.
    let group = seen_group c.args.group.now in
    led_out led c.args.keys.now.items ends group.key (sym (ambiguous_is (ids_in c.args.roster.now) ends group has) ∙ sym c.is_ambiguous.ensures ∙ c.if-is_ambiguous.false)
