use Rattle.std.proofs.Common.{◌/◌, ◌^◌}
use Rattle.report.specs.KeyTexts.{quad}
use Rattle.report.proofs.Joined.{four_joined}
use Rattle.report.proofs.key_parts.push_four_groups.Goals as goal

pub returns : goal.returns
returns c =
    let n = c.args.number in
    four_joined c.args.text.now.items (quad (n / 2 ^ 48)) (quad (n / 2 ^ 32)) (quad (n / 2 ^ 16)) (quad n) _ _ _ _ _ _ _
    c.in_ok-push_quad.ensures c.in_ok-push.ensures.items c.in_ok-push_quad-2.ensures c.in_ok-push-2.ensures.items c.in_ok-push_quad-3.ensures c.in_ok-push-3.ensures.items c.in_ok-push_quad-4.ensures
