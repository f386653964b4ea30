use Rattle.std.proofs.Common.{◌≡◌, ◌≤◌, false}
use Rattle.ports.specs.Files.{Keeps}
use Rattle.ports.specs.Reader.{room}
use Rattle.mergecap.specs.Packets.{all_timed}
use Rattle.session.specs.Stands.{IsReady}
use Rattle.session.specs.Script.{Devices}
use Rattle.merge_script.specs.Gathered.{bytes_in, most_bytes}
use Rattle.merge_script.specs.Turns.{reads}
use Rattle.merge_script.proofs.Adding.{IsSoFar}
use Rattle.merge_script.proofs.added_packets.gather.Given as goal

abbrev pub invariant-loop-why : goal.invariant-loop-why
invariant-loop-why g l =
    let old : Devices = reads (g.F.Files.told l.fn.files) (g.I.Source.told l.fn.input) in
    let now : Devices = reads (g.F.Files.told l.files) (g.I.Source.told l.input) in
    record {
      at : IsSoFar l.fn.session.declaration old now l.reader l.session (all_timed l.kept.packets.items);
      bytes : (l.kept.bytes ≡ bytes_in (all_timed l.kept.packets.items)) × (l.kept.bytes ≤ most_bytes);
      going : l.reader.over ≡ false;
      ready : IsReady l.session;
      keeps : Keeps old.files now.files;
      r_le : old.input.faults ≤ now.input.faults;
    }

abbrev pub decreases-loop-why : goal.decreases-loop-why
decreases-loop-why g l = room l.reader
