use Rattle.std.proofs.Common.{[], sym, subst}
use Rattle.std.specs.Prelude.{codes}
use Rattle.std.specs.Str.{IsAscii}
use Rattle.report.specs.KeyTexts.{address_words}
use Rattle.report.proofs.AsciiKeys.{ascii_fragment}
use Rattle.report.proofs.fragments.fragment_text.Goals as goal

pub returns-clause-text : goal.returns-clause-text
returns-clause-text c =
    c.in_ok-push_piece.ensures.text (codes "fragment") (address_words c.args.network) (c.in_ok-push_addresses.ensures (codes "fragment") [] c.in_ok-text.ensures.items)

pub returns-clause-ascii : goal.returns-clause-ascii
returns-clause-ascii c = subst IsAscii (sym (returns-clause-text c)) (ascii_fragment c.args.network c.args.piece.now c.in_ok-push_piece.ensures.ascii)
