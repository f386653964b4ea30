use Rattle.std.proofs.Common.{drop}
use Rattle.std.specs.List.{flat_map}
use Rattle.ports.proofs.Writing.{Leaves}
use Rattle.decl.specs.Declaration.{declaration_of}
use Rattle.pcapng_blocks.specs.Bytes.{interface_bytes}
use Rattle.merged_blocks.specs.declared.taps.Tap.{Tap}
use Rattle.merged_blocks.specs.Descriptions.{tap_interface}
use Rattle.merged_blocks.proofs.write.write_taps.Given as goal

-- the interfaces from this place on are left
abbrev pub invariant-loop-place : goal.invariant-loop-place
invariant-loop-place g l =
    Leaves (g.O.Sink.told l.initial.out) (g.O.Sink.told l.out) (flat_map (λ (tap : Tap). interface_bytes (tap_interface (declaration_of l.decl) tap)) (drop l.place l.taps))
    (flat_map (λ (tap : Tap). interface_bytes (tap_interface (declaration_of l.decl) tap)) l.taps)
