use Rattle.problem_text.proofs.lines.write_follow.Goals as goal

pub returns : goal.returns
returns g c = rw c.follow_line-line.ensures at (rw c.as_slice.ensures.value at c.write_whole.ensures)
