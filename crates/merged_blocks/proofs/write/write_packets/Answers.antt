use Rattle.std.proofs.Common.{◌≡◌, ◌<◌, length, sym, arith}
use Rattle.std.proofs.lemmas.Option.{get_or_from_slice_get}
use Rattle.std.proofs.lemmas.List.Elements.{All-contains}
use Rattle.ports.proofs.Writing.{leaves_all}
use Rattle.mergecap.specs.declared.stored.Stored.{Stored}
use Rattle.mergecap.specs.MergedCapture.{IsShort}
use Rattle.mergecap.specs.Packets.{shift_of, timed}
use Rattle.decl.specs.Declaration.{declaration_of}
use Rattle.merged_blocks.specs.declared.taps.Tap.{Tap}
use Rattle.merged_blocks.specs.MergedFile.{IsDated}
use Rattle.merged_blocks.specs.Taps.{tap_of}
use Rattle.merged_blocks.proofs.Pieces.{block_cut, block_written, blocks_from, blocks_written, packet_in, packet_so}
use Rattle.merged_blocks.proofs.write.write_packets.Goals as goal

pub loop-place-init : goal.loop-place-init
loop-place-init g c = leaves_all (g.O.Sink.told c.args.out.now) (blocks_from (declaration_of c.args.decl.now) c.args.taps.now (shift_of c.args.begin.start) c.args.begin.since c.args.kept.now c.args.all.now 0)

pub ends_at-ends-requires : goal.ends_at-ends-requires
ends_at-ends-requires g c = omega (arith, c.loop-place-test.true, c.requires.ends)

pub write_dated-requires-clause-sorted : goal.write_dated-requires-clause-sorted
write_dated-requires-clause-sorted g c = c.requires.dated.are_taps.sorted

pub write_dated-requires-clause-there : goal.write_dated-requires-clause-there
write_dated-requires-clause-there g c =
    let s : Stored = c.stored_at.result.now in
    let is = sym (get_or_from_slice_get c.args.kept.now c.loop-place.place s s c.stored_at.ensures) in
    c.requires.dated.are_taps.every (timed s) (packet_in c.args.kept.now c.loop-place.place s c.loop-place-test.true is)

pub write_dated-requires-clause-label : goal.write_dated-requires-clause-label
write_dated-requires-clause-label g c =
    let s : Stored = c.stored_at.result.now in
    let is = sym (get_or_from_slice_get c.args.kept.now c.loop-place.place s s c.stored_at.ensures) in
    let there = c.requires.dated.are_taps.every (timed s) (packet_in c.args.kept.now c.loop-place.place s c.loop-place-test.true is) in
    All-contains (λ (tap : Tap). tap.place < length c.args.decl.now.labels.items) c.args.taps.now (tap_of (timed s)) c.requires.labels there

pub write_dated-requires-clause-since : goal.write_dated-requires-clause-since
write_dated-requires-clause-since g c = c.requires.since c.loop-place.place c.ends_at-ends.result.now (omega (arith, c.loop-place-test.true, c.requires.ends))

pub write_dated-requires-clause-few : goal.write_dated-requires-clause-few
write_dated-requires-clause-few g c = c.requires.dated.few

pub write_dated-requires-clause-dated : goal.write_dated-requires-clause-dated
write_dated-requires-clause-dated g c =
    let s : Stored = c.stored_at.result.now in
    let is = sym (get_or_from_slice_get c.args.kept.now c.loop-place.place s s c.stored_at.ensures) in
    packet_so (IsDated (shift_of c.args.begin.start)) c.args.kept.now c.loop-place.place s c.loop-place-test.true is c.requires.dated.each

pub write_dated-requires-clause-short : goal.write_dated-requires-clause-short
write_dated-requires-clause-short g c =
    let s : Stored = c.stored_at.result.now in
    let is = sym (get_or_from_slice_get c.args.kept.now c.loop-place.place s s c.stored_at.ensures) in
    packet_so IsShort c.args.kept.now c.loop-place.place s c.loop-place-test.true is c.requires.short

pub returns-in_err-write_dated : goal.returns-in_err-write_dated
returns-in_err-write_dated g c =
    block_cut (declaration_of c.args.decl.now) c.args.taps.now (shift_of c.args.begin.start) c.args.begin.since c.args.kept.now c.args.all.now c.loop-place.place c.stored_at.result.now c.ends_at-ends.result.now
    c.stored_at.ensures c.ends_at-ends.ensures c.loop-place.invariant c.from_residual.ensures.0 c.in_err-write_dated.ensures

pub loop-place-preserved : goal.loop-place-preserved
loop-place-preserved g c =
    block_written (declaration_of c.args.decl.now) c.args.taps.now (shift_of c.args.begin.start) c.args.begin.since c.args.kept.now c.args.all.now c.loop-place.place c.stored_at.result.now c.ends_at-ends.result.now
    c.stored_at.ensures c.ends_at-ends.ensures c.loop-place.invariant c.in_ok-write_dated.ensures

pub returns : goal.returns
returns g c =
    blocks_written (declaration_of c.args.decl.now) c.args.taps.now (shift_of c.args.begin.start) c.args.begin.since c.args.kept.now c.args.all.now c.loop-place.place c.loop-place-test.false c.loop-place.invariant
