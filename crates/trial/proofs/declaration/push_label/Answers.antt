use Rattle.std.proofs.Common.{string_bytes, rules}
use Rattle.std.specs.Prelude.{codes}
use Rattle.trial.specs.Declaration.{host_name}
use Rattle.trial.proofs.Ranges.{two_words}
use Rattle.trial.proofs.declaration.push_label.Goals as goal

pub returns : goal.returns
returns c =
    two_words c.write.result (string_bytes c.args.text.now) (string_bytes c.write.new.self) (codes "[labels.") (host_name c.args.host) (codes "]\nhost = \"") (host_name c.args.host) (codes "\"\nkind = \"log\"\n") (search rules)
