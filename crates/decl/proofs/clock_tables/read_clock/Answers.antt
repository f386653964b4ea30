use Rattle.std.proofs.Common.{◌-◌, rules}
use Rattle.toml.specs.View.{table_view}
use Rattle.decl.proofs.ClockTurns.{table_wild, table_apart, table_late, table_sound}
use Rattle.decl.proofs.clock_tables.read_clock.Goals as goal

pub returns-in_default-read_numbers : goal.returns-in_default-read_numbers
returns-in_default-read_numbers c =
    table_wild (table_view c.args.host.now) (table_view c.args.own.now) c.args.book.now.clocks c.in-Some.name c.in_ok-check_table.ensures.0 c.in-Some.ensures c.in_default-read_numbers.ensures

pub returns-in_default-read_owner : goal.returns-in_default-read_owner
returns-in_default-read_owner c =
    table_apart (table_view c.args.host.now) (table_view c.args.own.now) c.args.book.now.clocks c.in-Some.name c.in_ok-check_table.ensures.0 c.in-Some.ensures (c.args.index - 1) c.in_default-read_owner.ensures

pub returns-then-is_full : goal.returns-then-is_full
returns-then-is_full c =
    table_late (table_view c.args.host.now) (table_view c.args.own.now) c.args.book.now.clocks c.in-Some.name c.in_ok-check_table.ensures.0 c.in-Some.ensures (search rules)

pub returns : goal.returns
returns c =
    table_sound (table_view c.args.host.now) (table_view c.args.own.now) c.args.book.now.clocks c.in-Some.name c.in_ok-check_table.ensures.0 c.in-Some.ensures c.in-Some-read_numbers.clock
    (c.args.index - 1) c.in-Some-read_owner.owner c.in-Some-read_numbers.ensures c.in-Some-read_owner.ensures (search rules)
