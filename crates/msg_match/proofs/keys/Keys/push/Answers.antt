use Rattle.std.proofs.Common.{ap, map, ◌∙◌}
use Rattle.std.proofs.lemmas.List.{map_push}
use Rattle.traces.specs.Seen.{key_of}
use Rattle.msg_match.proofs.KeyTests.{absent}
use Rattle.msg_match.proofs.keys.Keys.push.Goals as goal

pub push-requires : goal.push-requires
push-requires c = record { new = absent c.args.key c.self.inside.places (rw (← c.self.view_is) at c.requires) }

pub returns-clause-ok : goal.returns-clause-ok
returns-clause-ok c = rw (← c.self.view_is) (ap (map key_of) c.in_ok-push.ensures.ok ∙ map_push key_of c.self.inside.places c.args.key)
