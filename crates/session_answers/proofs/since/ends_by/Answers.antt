use Rattle.session_answers.proofs.since.ends_by.Goals as goal

pub since_at-requires : goal.since_at-requires
since_at-requires c = c.requires c.loop-node.node-index 0 c.loop-node-test.true
