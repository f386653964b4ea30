use Rattle.std.proofs.Common.{ap, ◌∙◌, Some, sym}
use Rattle.std.specs.Net.Addr.{ipv6_bits, ipv6_segments}
use Rattle.decl.proofs.Grouped.{address6_none, address6_read}
use Rattle.decl.proofs.addresses.read_address6.Goals as goal

pub returns-in-Ok : goal.returns-in-Ok
unfolding ipv6_bits
returns-in-Ok c = ap Some c.to_bits.ensures ∙ address6_read c.args.text.now (ipv6_segments c.in-Ok.address) (sym c.is_short_form.ensures ∙ c.if-is_short_form.false) c.in-Ok.ensures

pub returns-in-Err : goal.returns-in-Err
returns-in-Err c = address6_none c.args.text.now (λ segments spelled. c.in-Err.ensures (record { segments = segments }) spelled)
