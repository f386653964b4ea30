use Rattle.std.proofs.Common.{◌≡◌, Some, None, if◌then◌else◌, ap, rules}
use Rattle.std.specs.Prelude.{option_and_then}
use Rattle.decl.specs.Clocks.{if_owned}
use Rattle.decl.specs.Names.{is_clock_name}
use Rattle.decl.proofs.NoClock.{no_clock}
use Rattle.decl.proofs.labels.named_clock.Goals as goal

pub returns-in-None : goal.returns-in-None
returns-in-None c =
    let unread : None ≡ (if is_clock_name c.args.name.now then Some c.args.name.now else None) = search rules in
    ap (option_and_then (if_owned c.args.clocks.now.owners c.args.host)) (no_clock c.args.clocks.now.clocks c.args.name.now c.requires unread)
