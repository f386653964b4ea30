use Rattle.std.proofs.Common.{string_bytes, rules}
use Rattle.std.specs.Prelude.{codes}
use Rattle.trial.specs.Declaration.{host_name}
use Rattle.trial.proofs.Ranges.{two_words}
use Rattle.trial.proofs.script.push_ask.Goals as goal

pub returns : goal.returns
returns c =
    two_words c.write.result (string_bytes c.args.script.now) (string_bytes c.write.new.self) (codes "interval h0#1 ") (host_name c.args.host) (codes "#1\ntime ") (host_name c.args.host) (codes "#1\n") (search rules)
