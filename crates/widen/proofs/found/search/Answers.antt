use Rattle.widen.proofs.found.search.Goals as goal

pub concluded-requires-clause-known : goal.concluded-requires-clause-known
concluded-requires-clause-known g c = (c.args.what, c.args.p.now, c.in_ok-rounds.ensures.known)

pub returns-clause-finds : goal.returns-clause-finds
returns-clause-finds g c = c.concluded.ensures c.args.what c.args.p.now c.in_ok-rounds.ensures.known
