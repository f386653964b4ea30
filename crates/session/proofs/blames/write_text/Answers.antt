use Rattle.ports.proofs.Writing.{such_of, writes_as}
use Rattle.widen.specs.Blame.{IsBlameText}
use Rattle.session.proofs.Telling.{never_memory}
use Rattle.session.proofs.blames.write_text.Goals as goal

pub returns-clause-writes : goal.returns-clause-writes
returns-clause-writes g c =
    such_of (IsBlameText c.args.p.now) c.in_ok-text.ensures
    (c.written.ensures.writes _ _ _ (writes_as c.deref.ensures.value c.write_whole.ensures))

pub returns-clause-untouched : goal.returns-clause-untouched
returns-clause-untouched g c = λ fails. never_memory c.written.result c.written.ensures.only fails
