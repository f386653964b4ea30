use Rattle.std.proofs.Common.{◌≡◌, ◌≤◌, false}
use Rattle.ports.specs.Files.{Keeps}
use Rattle.decl.specs.Declaration.{Declaration}
use Rattle.ports.specs.Reader.{room}
use Rattle.replies.specs.Sessions.{start}
use Rattle.session.specs.Stands.{StandsFor, IsReady}
use Rattle.session.specs.Script.{Devices, devices, OfScript}
use Rattle.session.proofs.Places.{IsAt}
use Rattle.session.proofs.script.answer_lines.Given as goal

abbrev pub invariant-loop-ended : goal.invariant-loop-ended
invariant-loop-ended g l =
    let old : Devices = devices (g.F.Files.told l.fn.files) (g.I.Source.told l.fn.input) (g.O.Sink.told l.fn.out) in
    let now : Devices = devices (g.F.Files.told l.files) (g.I.Source.told l.input) (g.O.Sink.told l.out) in
    record {
      at : (d : Declaration) → StandsFor l.fn.session d (start d) → OfScript old.input.left (λ script. IsAt d old now l.session l.reader script);
      going : l.reader.over ≡ false;
      ready : IsReady l.session;
      keeps : Keeps old.files now.files;
      r_le : old.input.faults ≤ now.input.faults;
      w_le : old.out.faults ≤ now.out.faults;
    }

abbrev pub decreases-loop-ended : goal.decreases-loop-ended
decreases-loop-ended g l = room l.reader
