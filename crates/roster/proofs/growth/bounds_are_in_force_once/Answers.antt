use Rattle.roster.proofs.Once.{taken_out, pushed_once, entered_once}
use Rattle.roster.proofs.growth.bounds_are_in_force_once.Goals as goal

pub returns-clause-withdrawn : goal.returns-clause-withdrawn
returns-clause-withdrawn c = λ messages numbers g h takes each. taken_out messages numbers g h takes each

pub returns-clause-entered : goal.returns-clause-entered
returns-clause-entered c = λ p entered v e below above earlier later messages g h chains fresh nearest apart enters grown each.
    entered_once p entered v e below above earlier later messages g chains fresh nearest apart grown h enters each

pub returns-clause-pushed : goal.returns-clause-pushed
returns-clause-pushed c = λ b rest g a is name each. pushed_once g a is.flags b rest name each
