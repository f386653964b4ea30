use Rattle.std.proofs.Common.{◌≡◌, take}
use Rattle.std.specs.Prelude.{filter}
use Rattle.msg_match.specs.Held.{seen_groups}
use Rattle.report.specs.Groups.{is_apart, messages_in, noted}
use Rattle.report.proofs.alone.messages_apart.Given as goal

-- the messages of such groups so far
abbrev pub invariant-loop-group : goal.invariant-loop-group
invariant-loop-group l = noted l.messages ≡ messages_in (filter (is_apart (noted l.received) (noted l.met)) (seen_groups (take l.group-index l.groups)))
