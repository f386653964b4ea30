use Rattle.std.proofs.Common.{◌≡◌, Some, None, ap, sym, option_map, nat_abs}
use Rattle.toml.specs.View.{table_view}
use Rattle.decl.specs.Values.{optional_number}
use Rattle.decl.proofs.Optional.{number_there, optional_made}
use Rattle.decl.proofs.values.optional_nano.Goals as goal

pub returns-in-Some-whole_at : goal.returns-in-Some-whole_at
returns-in-Some-whole_at c =
    let ms = table_view c.args.table.now in
    optional_made c.args.key.now ms c.in-Some.number c.in-Some.ensures (Some c.in-Some.number)
    (number_there c.args.key.now ms c.in-Some.number c.in-Some.ensures c.in-Some-whole_at.field-0 (sym c.in-Some-whole_at.ensures))

pub returns-in-None : goal.returns-in-None
returns-in-None c =
    let ms = table_view c.args.table.now in
    let none : None ≡ optional_number c.args.key.now ms = ap (option_map nat_abs) c.in-None.ensures in
    optional_made c.args.key.now ms c.in-Some.number c.in-Some.ensures None none
