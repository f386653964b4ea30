use Rattle.std.proofs.Common.{[], sym, subst}
use Rattle.std.specs.Prelude.{codes}
use Rattle.std.specs.Str.{IsAscii}
use Rattle.report.specs.KeyTexts.{network_words}
use Rattle.report.proofs.AsciiKeys.{ascii_tcp}
use Rattle.report.proofs.texts.tcp_text.Goals as goal

pub returns-clause-text : goal.returns-clause-text
returns-clause-text c =
    let it = c.args.segment.now in
    c.in_ok-push_segment.ensures.text (codes "tcp") (network_words c.args.network it.source_port it.target_port) (c.in_ok-push_network.ensures (codes "tcp") [] c.in_ok-text.ensures.items)

pub returns-clause-ascii : goal.returns-clause-ascii
returns-clause-ascii c = subst IsAscii (sym (returns-clause-text c)) (ascii_tcp c.args.network c.args.segment.now c.in_ok-push_segment.ensures.ascii c.in_ok-push_segment.ensures.ascii_options)
