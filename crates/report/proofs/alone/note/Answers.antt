use Rattle.std.proofs.Common.{◌≡◌, false, sym, ◌∙◌, rules}
use Rattle.report.proofs.Noted.{absent}
use Rattle.report.proofs.alone.note.Goals as goal

pub push-requires : goal.push-requires
push-requires c =
    let none : c.is_among.result ≡ false = search rules in
    record { new = absent c.args.message c.args.messages.now (sym c.is_among.ensures ∙ none) }
