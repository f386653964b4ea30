use Rattle.std.proofs.Common.{◌≡◌, drop}
use Rattle.decl.specs.Addresses.{is_short_form}
use Rattle.decl.proofs.addresses.is_short_form.Given as goal

abbrev pub invariant-loop-byte : goal.invariant-loop-byte
invariant-loop-byte l = is_short_form 0 l.text ≡ is_short_form l.last (drop l.byte-index l.text)
