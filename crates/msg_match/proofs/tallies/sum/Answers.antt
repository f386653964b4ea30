use Rattle.std.proofs.Common.{◌+◌, ◌<◌, ◌^◌, take, subst, sym}
use Rattle.msg_match.specs.declared.change.Tallies.{Tallies}
use Rattle.msg_match.specs.Held.{seen_groups}
use Rattle.msg_match.specs.Parts.{sum_of_groups}
use Rattle.msg_match.proofs.Counting.{ambiguous_fit, messages_fit, size_fits, unmatched_fit}
use Rattle.msg_match.proofs.tallies.sum.Goals as goal

pub tallies-requires : goal.tallies-requires
tallies-requires c = size_fits c.args.groups.now c.loop-group.group-index c.group-item.result c.loop-group-test.true c.group-item.is c.requires

pub plus-sum-requires-clause-messages : goal.plus-sum-requires-clause-messages
plus-sum-requires-clause-messages c =
    subst (λ (t : Tallies). t.messages + c.tallies.result.messages < 2 ^ 32) (sym c.loop-group.invariant)
    (subst (λ (t : Tallies). (sum_of_groups (seen_groups (take c.loop-group.group-index c.args.groups.now))).messages + t.messages < 2 ^ 32) (sym c.tallies.ensures)
    (messages_fit c.args.groups.now c.loop-group.group-index c.group-item.result c.loop-group-test.true c.group-item.is c.requires))

pub plus-sum-requires-clause-unmatched : goal.plus-sum-requires-clause-unmatched
plus-sum-requires-clause-unmatched c =
    subst (λ (t : Tallies). t.unmatched + c.tallies.result.unmatched < 2 ^ 32) (sym c.loop-group.invariant)
    (subst (λ (t : Tallies). (sum_of_groups (seen_groups (take c.loop-group.group-index c.args.groups.now))).unmatched + t.unmatched < 2 ^ 32) (sym c.tallies.ensures)
    (unmatched_fit c.args.groups.now c.loop-group.group-index c.group-item.result c.loop-group-test.true c.group-item.is c.requires))

pub plus-sum-requires-clause-ambiguous : goal.plus-sum-requires-clause-ambiguous
plus-sum-requires-clause-ambiguous c =
    subst (λ (t : Tallies). t.ambiguous + c.tallies.result.ambiguous < 2 ^ 32) (sym c.loop-group.invariant)
    (subst (λ (t : Tallies). (sum_of_groups (seen_groups (take c.loop-group.group-index c.args.groups.now))).ambiguous + t.ambiguous < 2 ^ 32) (sym c.tallies.ensures)
    (ambiguous_fit c.args.groups.now c.loop-group.group-index c.group-item.result c.loop-group-test.true c.group-item.is c.requires))
