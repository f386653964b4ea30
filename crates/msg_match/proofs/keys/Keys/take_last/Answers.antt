use Rattle.msg_match.proofs.KeyTests.{last_key, short_keys}
use Rattle.msg_match.proofs.keys.Keys.take_last.Goals as goal

pub take_last-requires : goal.take_last-requires
take_last-requires c = record { last = last_key c.args.key.now c.self.inside.places (rw (← c.self.view_is) at c.requires.last) }

pub returns : goal.returns
returns c = rw (← c.self.view_is) (short_keys c.self.inside.places c.take_last.new.self c.take_last.ensures)
