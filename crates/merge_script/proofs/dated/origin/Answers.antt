use Rattle.session.specs.Stands.{seen_held}
use Rattle.merge_script.proofs.Counted.{first_origin}
use Rattle.merge_script.proofs.dated.origin.Goals as goal

pub returns-in-Some-clause-ok : goal.returns-in-Some-clause-ok
returns-in-Some-clause-ok c = rw c.in-Some.is c.named_origin.ensures.ok

pub returns-in-Some-clause-err : goal.returns-in-Some-clause-err
returns-in-Some-clause-err c = rw c.in-Some.is c.named_origin.ensures.err

pub returns-in-None-clause-ok : goal.returns-in-None-clause-ok
returns-in-None-clause-ok c = rw c.in-None.is (first_origin c.args.session.now.declaration (seen_held c.args.session.now.under) c.first.result c.first.ensures.some c.first.ensures.none)
