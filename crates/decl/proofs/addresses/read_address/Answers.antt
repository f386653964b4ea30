use Rattle.std.proofs.Common.{ap, sym, ◌∙◌, Some, option_map}
use Rattle.std.specs.Int.{from_be_bytes, w32}
use Rattle.std.specs.Net.Addr.{ipv4_bits, ipv4_octets}
use Rattle.decl.proofs.Dotted.{dotted_is_read, address_none}
use Rattle.decl.proofs.addresses.read_address.Goals as goal

pub returns-in-Ok : goal.returns-in-Ok
unfolding ipv4_bits
returns-in-Ok c =
    ap Some c.to_bits.ensures ∙ sym (ap (option_map (from_be_bytes w32)) (dotted_is_read c.args.text.now (ipv4_octets c.in-Ok.address) c.in-Ok.ensures))

pub returns-in-Err : goal.returns-in-Err
returns-in-Err c = address_none c.args.text.now (λ octets dotted. c.in-Err.ensures (record { octets = octets }) dotted)
