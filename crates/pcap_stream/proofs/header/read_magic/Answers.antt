use Rattle.std.proofs.Common.{◌≡◌, Bool, true, false}
use Rattle.pcap_stream.proofs.Headers.{lacks}
use Rattle.pcap_stream.proofs.header.read_magic.Goals as goal

untrue : (b : Bool) → b ≡ false → b ≡ true → ⊥
untrue b e so = absurd (cc (e, so))

pub returns-else-has_magic-4-clause-none : goal.returns-else-has_magic-4-clause-none
returns-else-has_magic-4-clause-none c = lacks c.args.bytes.now
    (λ a. untrue c.has_magic.result c.if-has_magic.false (c.has_magic.ensures.1 a))
    (λ a. untrue c.has_magic-else-has_magic.result c.if-has_magic-2.false (c.has_magic-else-has_magic.ensures.1 a))
    (λ a. untrue c.has_magic-else-has_magic-2.result c.if-has_magic-3.false (c.has_magic-else-has_magic-2.ensures.1 a))
    (λ a. untrue c.has_magic-else-has_magic-3.result c.if-has_magic-4.false (c.has_magic-else-has_magic-3.ensures.1 a))
