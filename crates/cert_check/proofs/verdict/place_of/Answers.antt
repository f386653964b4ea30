use Rattle.cert_check.proofs.verdict.place_of.Goals as goal

pub returns-in-None : goal.returns-in-None
returns-in-None c = absurd (c.in-None.ensures.none c.requires)
