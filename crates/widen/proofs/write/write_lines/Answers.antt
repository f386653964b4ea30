use Rattle.widen.proofs.write.write_lines.Goals as goal

pub returns-in-Least : goal.returns-in-Least
returns-in-Least g c = rw c.in-Least.is c.write_least.ensures

pub returns-in-Never : goal.returns-in-Never
returns-in-Never g c = rw c.in-Never.is c.write_never.ensures
