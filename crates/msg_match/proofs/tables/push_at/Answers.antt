use Rattle.std.proofs.Common.{◌≡◌, [], set}
use Rattle.msg_match.specs.Groups.{SeenGroup}
use Rattle.msg_match.specs.Held.{seen_groups}
use Rattle.msg_match.specs.Parts.{group_at_place, with_entry}
use Rattle.msg_match.proofs.TableLemmas.{changed, same, so_err}
use Rattle.msg_match.proofs.tables.push_at.Goals as goal

pub returns-in_err-push-clause-groups_err : goal.returns-in_err-push-clause-groups_err
returns-in_err-push-clause-groups_err c =
    so_err c.from_residual-in_err-push.result (seen_groups (set c.args.groups.now.items c.args.place c.push.new.self) ≡ seen_groups c.args.groups.now.items)
    (same c.args.groups.now.items c.args.place c.index_mut-group.result.now c.push.new.self c.requires.within c.index_mut-group.ensures.value c.in_err-push.ensures.err)

pub returns-clause-groups_ok : goal.returns-clause-groups_ok
returns-clause-groups_ok c =
    changed c.args.groups.now.items c.args.place c.index_mut-group.result.now c.push.new.self (group_at_place [] 0) (λ (g : SeenGroup). with_entry g c.args.item.now.side c.args.item.now.event) c.requires.within c.index_mut-group.ensures.value c.in_ok-push.ensures.ok
