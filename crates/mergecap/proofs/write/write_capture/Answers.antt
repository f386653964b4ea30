use Rattle.std.proofs.Common.{◌∙◌, ap, map}
use Rattle.std.specs.List.{flat_map}
use Rattle.ports.proofs.Writing.{writes_as, writes_failed, writes_front, writes_then}
use Rattle.pcap_stream.specs.Capture.{bytes_of}
use Rattle.mergecap.specs.MergedCapture.{header, record_of_packet}
use Rattle.mergecap.specs.Packets.{all_timed}
use Rattle.mergecap.proofs.Records.{all_writable, records_same}
use Rattle.mergecap.proofs.write.write_capture.Goals as goal

pub returns-in_err-write_whole-clause-written : goal.returns-in_err-write_whole-clause-written
returns-in_err-write_whole-clause-written g c =
    writes_failed c.from_residual.ensures.0 (writes_front (flat_map bytes_of (map record_of_packet (all_timed c.args.kept.now))) (writes_as (c.as_slice.ensures.value ∙ c.header.ensures ∙ ap header c.link_of.ensures.value) c.in_err-write_whole.ensures))

pub write_records-requires : goal.write_records-requires
write_records-requires g c = all_writable c.args.kept.now c.requires.writable.in_range c.requires.short

pub returns-clause-written : goal.returns-clause-written
returns-clause-written g c =
    writes_then (writes_as (c.as_slice.ensures.value ∙ c.header.ensures ∙ ap header c.link_of.ensures.value) c.in_ok-write_whole.ensures)
    (writes_as (records_same c.args.kept.now) c.write_records.ensures)
