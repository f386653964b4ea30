use Rattle.std.proofs.Common.{◌<◌, length, sym, subst}
use Rattle.std.specs.List.{flat_map}
use Rattle.std.proofs.lemmas.Option.{get_or_from_slice_get}
use Rattle.ports.proofs.Writing.{leaves_all, writes_as}
use Rattle.decl.specs.Declaration.{declaration_of}
use Rattle.pcapng_blocks.specs.Bytes.{interface_bytes}
use Rattle.merged_blocks.specs.declared.taps.Tap.{Tap}
use Rattle.merged_blocks.specs.Descriptions.{tap_interface}
use Rattle.merged_blocks.proofs.Pieces.{piece_written, piece_cut, pieces_written, pieces_same}
use Rattle.merged_blocks.proofs.write.write_taps.Goals as goal

pub loop-place-init : goal.loop-place-init
loop-place-init g c = leaves_all (g.O.Sink.told c.args.out.now) (flat_map (λ (tap : Tap). interface_bytes (tap_interface (declaration_of c.args.decl.now) tap)) c.args.taps.now)

pub write_tap-requires-clause-label : goal.write_tap-requires-clause-label
write_tap-requires-clause-label g c =
    let taps = c.args.taps.now in
    let tap = c.tap_at.result in
    subst (λ (t : Tap). t.place < length c.args.decl.now.labels.items) (get_or_from_slice_get taps c.loop-place.place tap tap c.tap_at.ensures) (c.requires.labels c.loop-place.place tap c.loop-place-test.true)

pub returns-in_err-write_tap : goal.returns-in_err-write_tap
returns-in_err-write_tap g c =
    let taps = c.args.taps.now in
    let tap = c.tap_at.result in
    writes_as (pieces_same interface_bytes (tap_interface (declaration_of c.args.decl.now)) taps)
    (piece_cut (λ (t : Tap). interface_bytes (tap_interface (declaration_of c.args.decl.now) t)) taps c.loop-place.place tap c.loop-place-test.true (sym (get_or_from_slice_get taps c.loop-place.place tap tap c.tap_at.ensures))
    c.loop-place.invariant c.from_residual.ensures.0 c.in_err-write_tap.ensures)

pub loop-place-preserved : goal.loop-place-preserved
loop-place-preserved g c =
    let taps = c.args.taps.now in
    let tap = c.tap_at.result in
    piece_written (λ (t : Tap). interface_bytes (tap_interface (declaration_of c.args.decl.now) t)) taps c.loop-place.place tap c.loop-place-test.true (sym (get_or_from_slice_get taps c.loop-place.place tap tap c.tap_at.ensures))
    c.loop-place.invariant c.in_ok-write_tap.ensures

pub returns : goal.returns
returns g c =
    writes_as (pieces_same interface_bytes (tap_interface (declaration_of c.args.decl.now)) c.args.taps.now)
    (pieces_written (λ (tap : Tap). interface_bytes (tap_interface (declaration_of c.args.decl.now) tap)) c.args.taps.now c.loop-place.place c.loop-place-test.false c.loop-place.invariant)
