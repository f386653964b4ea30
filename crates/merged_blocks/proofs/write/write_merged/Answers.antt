use Rattle.std.proofs.Common.{List, map, ap, ◌∙◌}
use Rattle.std.specs.List.{flat_map}
use Rattle.ports.proofs.Writing.{writes_as, writes_failed, writes_front, writes_then}
use Rattle.intervals.specs.declared.ends.Ends.{Ends}
use Rattle.decl.specs.Declaration.{declaration_of}
use Rattle.mergecap.specs.declared.stored.Stored.{Stored}
use Rattle.mergecap.specs.Packets.{all_timed, shift_of}
use Rattle.pcapng_blocks.specs.Bytes.{interface_bytes, packet_bytes}
use Rattle.merged_blocks.specs.declared.taps.Tap.{Tap}
use Rattle.merged_blocks.specs.Descriptions.{tap_interface}
use Rattle.merged_blocks.specs.MergedFile.{dated_packets}
use Rattle.merged_blocks.proofs.write.write_merged.Goals as goal

pub returns-in_err-write_section-clause-writes : goal.returns-in_err-write_section-clause-writes
returns-in_err-write_section-clause-writes g c =
    let x = c.args.merged.now in
    writes_failed c.from_residual.ensures.0 (writes_front (flat_map packet_bytes (dated_packets (declaration_of c.args.decl.now) x.dated.taps.items (shift_of x.dated.start) x.since.event (all_timed x.dated.packets.items) x.since.ends.items))
    (writes_front (flat_map interface_bytes (map (tap_interface (declaration_of c.args.decl.now)) x.dated.taps.items)) c.in_err-write_section.ensures))

pub returns-in_err-write_taps-clause-writes : goal.returns-in_err-write_taps-clause-writes
returns-in_err-write_taps-clause-writes g c =
    let x = c.args.merged.now in
    writes_failed c.from_residual-in_err-write_taps.ensures.0 (writes_front (flat_map packet_bytes (dated_packets (declaration_of c.args.decl.now) x.dated.taps.items (shift_of x.dated.start) x.since.event (all_timed x.dated.packets.items) x.since.ends.items))
    (writes_then c.in_ok-write_section.ensures
    (writes_as (ap (λ (taps : List Tap). flat_map interface_bytes (map (tap_interface (declaration_of c.args.decl.now)) taps)) c.deref.ensures.value) c.in_err-write_taps.ensures)))

pub returns-clause-writes : goal.returns-clause-writes
returns-clause-writes g c =
    let x = c.args.merged.now in
    let d = declaration_of c.args.decl.now in
    let shift = shift_of x.dated.start in
    let packets = ap (λ (taps : List Tap). flat_map packet_bytes (dated_packets d taps shift x.since.event (all_timed c.deref-3.result.now) c.deref-4.result.now)) c.deref-2.ensures.value
    ∙ ap (λ (kept : List Stored). flat_map packet_bytes (dated_packets d x.dated.taps.items shift x.since.event (all_timed kept) c.deref-4.result.now)) c.deref-3.ensures.value
    ∙ ap (λ (all : List Ends). flat_map packet_bytes (dated_packets d x.dated.taps.items shift x.since.event (all_timed x.dated.packets.items) all)) c.deref-4.ensures.value in
    writes_then (writes_then c.in_ok-write_section.ensures
    (writes_as (ap (λ (taps : List Tap). flat_map interface_bytes (map (tap_interface d) taps)) c.deref.ensures.value) c.in_ok-write_taps.ensures))
    (writes_as packets c.write_packets.ensures)

pub returns-in_err-write_section-clause-written : goal.returns-in_err-write_section-clause-written
returns-in_err-write_section-clause-written g c =
    let x = c.args.merged.now in
    c.files_are_read_back.ensures.written (declaration_of c.args.decl.now) (all_timed x.dated.packets.items) x.dated.taps.items (shift_of x.dated.start) x.since.event x.since.ends.items c.requires.declared c.requires.ready.dated.dated
    c.requires.ready.dated.short c.requires.ready.ends

pub returns-in_err-write_section-clause-read_back : goal.returns-in_err-write_section-clause-read_back
returns-in_err-write_section-clause-read_back g c =
    let x = c.args.merged.now in
    c.files_are_read_back.ensures.read (declaration_of c.args.decl.now) (all_timed x.dated.packets.items) x.dated.taps.items (shift_of x.dated.start) x.since.event x.since.ends.items c.requires.declared c.requires.ready.dated.dated
    c.requires.ready.dated.short c.requires.ready.ends

pub returns-in_err-write_taps-clause-written : goal.returns-in_err-write_taps-clause-written
returns-in_err-write_taps-clause-written g c =
    let x = c.args.merged.now in
    c.files_are_read_back.ensures.written (declaration_of c.args.decl.now) (all_timed x.dated.packets.items) x.dated.taps.items (shift_of x.dated.start) x.since.event x.since.ends.items c.requires.declared c.requires.ready.dated.dated
    c.requires.ready.dated.short c.requires.ready.ends

pub returns-in_err-write_taps-clause-read_back : goal.returns-in_err-write_taps-clause-read_back
returns-in_err-write_taps-clause-read_back g c =
    let x = c.args.merged.now in
    c.files_are_read_back.ensures.read (declaration_of c.args.decl.now) (all_timed x.dated.packets.items) x.dated.taps.items (shift_of x.dated.start) x.since.event x.since.ends.items c.requires.declared c.requires.ready.dated.dated
    c.requires.ready.dated.short c.requires.ready.ends

pub returns-clause-written : goal.returns-clause-written
returns-clause-written g c =
    let x = c.args.merged.now in
    c.files_are_read_back.ensures.written (declaration_of c.args.decl.now) (all_timed x.dated.packets.items) x.dated.taps.items (shift_of x.dated.start) x.since.event x.since.ends.items c.requires.declared c.requires.ready.dated.dated
    c.requires.ready.dated.short c.requires.ready.ends

pub returns-clause-read_back : goal.returns-clause-read_back
returns-clause-read_back g c =
    let x = c.args.merged.now in
    c.files_are_read_back.ensures.read (declaration_of c.args.decl.now) (all_timed x.dated.packets.items) x.dated.taps.items (shift_of x.dated.start) x.since.event x.since.ends.items c.requires.declared c.requires.ready.dated.dated
    c.requires.ready.dated.short c.requires.ready.ends
