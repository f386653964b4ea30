use Rattle.std.proofs.Common.{◌≡◌, ◌++◌, refl, inl, inr, rules}
use Rattle.packets.proofs.Collecting.{first_behind}
use Rattle.packets.proofs.first_packets.FirstPackets.append.Goals as goal
use Rattle.packets.proofs.first_packets.FirstPackets.append.Goals.{then-behind, else-behind}

pub returns-clause-appended : goal.returns-clause-appended
returns-clause-appended c packets second =
    let kept : c.append.new.self.items ≡ c.args.self.now.kept.items ++ c.args.behind.kept.items = search rules in
    elim c.if-behind.branch [
      | then-behind w ↦ rw w.self-is (record {
        added = packets;
        are = refl;
        most = refl;
        keeps = λ before first. first_behind c.args.self.now c.args.behind _ before packets c.requires first second refl kept (λ t. inr w.if-behind.true, λ told. refl);
      })
      | else-behind w ↦ rw w.self-is (record {
        added = packets;
        are = refl;
        most = refl;
        keeps = λ before first. first_behind c.args.self.now c.args.behind _ before packets c.requires first second refl kept (
          λ t. inl t,
          λ told. elim told [
            | inl t ↦ t
            | inr t ↦ absurd (cc (t, w.if-behind.false))
          ],
        );
      })
    ]
