use Rattle.std.proofs.Common.{◌≡◌, ◌++◌, ◌∙◌, ap, ℕ, rules}
use Rattle.atto.specs.Decimal.{decimal_of}
use Rattle.report.specs.KeyTexts.{groups}
use Rattle.report.proofs.Joined.{endpoint_joined}
use Rattle.report.proofs.key_parts.push_wide_endpoint.Goals as goal

pub returns : goal.returns
returns c =
    let port : c.from.result ≡ c.args.port = search rules in
    endpoint_joined c.args.text.now.items (groups c.args.address) (decimal_of c.args.port) _ _ _ _ _
    c.in_ok-push.ensures.items c.in_ok-push_groups.ensures c.in_ok-push-2.ensures.items c.in_ok-push-3.ensures.items
    (c.in_ok-push_decimal.ensures ∙ ap (λ (p : ℕ). c.push-3.new.self.items ++ decimal_of p) port)
