use Rattle.session.proofs.lines.write_line.Goals as goal

pub returns-clause-writes : goal.returns-clause-writes
returns-clause-writes g c = c.written.ensures.writes c.args.line.now _ _ c.write_whole.ensures
