use Rattle.roster.proofs.readings.stamp_at.Goals as goal

pub returns-clause-some : goal.returns-clause-some
returns-clause-some c = (c.reading_at.result.1, c.reading_at.ensures)
