use Rattle.std.proofs.Common.{[], sym, subst}
use Rattle.std.specs.Prelude.{codes}
use Rattle.std.specs.Str.{IsAscii}
use Rattle.report.specs.KeyTexts.{network_words}
use Rattle.report.proofs.AsciiKeys.{ascii_udp}
use Rattle.report.proofs.texts.udp_text.Goals as goal

pub returns-clause-text : goal.returns-clause-text
returns-clause-text c =
    let it = c.args.datagram.now in
    c.in_ok-push_datagram.ensures.text (codes "udp") (network_words c.args.network it.source_port it.target_port) (c.in_ok-push_network.ensures (codes "udp") [] c.in_ok-text.ensures.items)

pub returns-clause-ascii : goal.returns-clause-ascii
returns-clause-ascii c = subst IsAscii (sym (returns-clause-text c)) (ascii_udp c.args.network c.args.datagram.now c.in_ok-push_datagram.ensures.ascii)
