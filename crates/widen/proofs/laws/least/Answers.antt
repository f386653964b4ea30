use Rattle.widen.proofs.Rising.{rises, shown_least, shown_never, one_least}
use Rattle.widen.proofs.JudgedOnce.{judged_one}
use Rattle.widen.proofs.laws.least.Goals as goal

pub returns-clause-rises : goal.returns-clause-rises
returns-clause-rises c = λ what p e f x le execution. rises what p e f x le execution

pub returns-clause-shown : goal.returns-clause-shown
returns-clause-shown c = λ what p extra execution cycle within of shown. shown_least what p extra execution cycle within of shown

pub returns-clause-never : goal.returns-clause-never
returns-clause-never c = λ what p cycle shown. shown_never what p cycle shown

pub returns-clause-one : goal.returns-clause-one
returns-clause-one c = λ what p e f x y. one_least what p e f x y

pub returns-clause-not_both : goal.returns-clause-not_both
returns-clause-not_both c = λ what p e x none. none e x.within x.heals

pub returns-clause-answer : goal.returns-clause-answer
returns-clause-answer c = λ what p w a b lawful of x y. judged_one what p lawful w a b of x y
