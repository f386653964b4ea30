-- The packets of captures: their stamps are below 2^62, and none has more than 262,144 bytes.
use Rattle.std.proofs.Common.{ℕ, ◌<◌, List, All, sym, subst}
use Rattle.packets.proofs.Bounds.{AreShort, IsStamped}
use Rattle.captures.specs.Capture.{Capture, Reads}
use Rattle.captures.proofs.Formats.{short, stamped}

pub packets_stamped : (bytes : List ℕ) (c : Capture) → All (λ x. x < 256) bytes → Reads bytes c → All IsStamped c.packets
packets_stamped bytes c are reads = subst (λ (x : Capture). All IsStamped x.packets) (sym reads.says) (stamped bytes reads.read are reads.reads)

pub packets_short : (s : List ℕ) (c : Capture) → Reads s c → AreShort c.packets
packets_short s c reads = subst (λ (x : Capture). AreShort x.packets) (sym reads.says) (short s reads.read reads.reads)
