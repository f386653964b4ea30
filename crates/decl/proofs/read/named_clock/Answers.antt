use Rattle.std.proofs.Common.{◌≡◌, Some, None, if◌then◌else◌, rules}
use Rattle.decl.specs.Names.{is_clock_name}
use Rattle.decl.proofs.NoClock.{no_clock}
use Rattle.decl.proofs.read.named_clock.Goals as goal

pub returns-in-None : goal.returns-in-None
returns-in-None c =
    let unread : None ≡ (if is_clock_name c.args.name.now then Some c.args.name.now else None) = search rules in
    no_clock c.args.clocks.now.clocks c.args.name.now c.requires unread
