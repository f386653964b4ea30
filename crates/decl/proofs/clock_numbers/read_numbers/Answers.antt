use Rattle.toml.specs.View.{table_view}
use Rattle.decl.proofs.ClockTurns.{clock_made}
use Rattle.decl.proofs.clock_numbers.read_numbers.Goals as goal

pub returns : goal.returns
returns c =
    clock_made c.args.name (table_view c.args.own.now) (table_view c.args.host.now) c.in-Some.rate c.in-Some-own_nano.early c.in-Some-own_nano-2.late c.in-Some.ensures c.in-Some-own_nano.ensures
    c.in-Some-own_nano-2.ensures
