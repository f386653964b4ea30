use Rattle.std.proofs.Common.{◌∙◌, ap}
use Rattle.serde_json.specs.Data.{Members, object}
use Rattle.report.specs.Inside.{put_interface}
use Rattle.report.proofs.Text.{put_nokeys}
use Rattle.report.proofs.values.nokey_value.Goals as goal

pub returns : goal.returns
returns c =
    let n = c.args.nokeys.now in
    c.from.ensures ∙ ap (λ (ms : Members). object ms) (c.in_ok-put_interface.ensures ∙ ap (put_interface n.interface) c.in_ok-members.ensures) ∙ put_nokeys n
