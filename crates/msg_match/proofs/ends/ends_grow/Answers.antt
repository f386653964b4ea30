use Rattle.msg_match.proofs.Grown.{changes_are, ends_few, ends_more, ends_none}
use Rattle.msg_match.proofs.ends.ends_grow.Goals as goal

pub returns-clause-none : goal.returns-clause-none
returns-clause-none c = ends_none

pub returns-clause-grow : goal.returns-clause-grow
returns-clause-grow c = ends_more

pub returns-clause-few : goal.returns-clause-few
returns-clause-few c = ends_few

pub returns-clause-changes : goal.returns-clause-changes
returns-clause-changes c = λ ids more items new before after change differ are are' added withdrawn. changes_are ids more items new before after change are are' added withdrawn differ
