use Rattle.std.proofs.Common.{◌≡◌, length, rules}
use Rattle.msg_match.proofs.Counted.{change_counted}
use Rattle.msg_match.proofs.changes.counts.Goals as goal

pub returns-clause-change : goal.returns-clause-change
returns-clause-change c = λ ids before after changes.
    let added : c.len.result ≡ length c.args.change.now.added.items = search rules in
    let withdrawn : c.len-2.result ≡ length c.args.change.now.withdrawn.items = search rules in
    change_counted ids before after c.args.change.now (record { messages = c.len.result; withdrawn = c.len-2.result }) added withdrawn changes
