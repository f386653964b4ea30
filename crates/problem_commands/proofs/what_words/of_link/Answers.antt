use Rattle.problem_commands.proofs.ClockNames.{nothing_at_first, nothing_at_second}
use Rattle.problem_commands.proofs.what_words.of_link.Goals as goal

pub returns-in-None-clause-none : goal.returns-in-None-clause-none
returns-in-None-clause-none c = λ p lawful. nothing_at_first p lawful _ _ _ (rw c.as_bytes.ensures.value at c.in-None.ensures)

pub returns-in-None-new-clause-none : goal.returns-in-None-new-clause-none
returns-in-None-new-clause-none c = λ p lawful. nothing_at_second p lawful _ _ _ (rw c.as_bytes-in-Some.ensures.value at c.in-None-new.ensures)
