use Rattle.std.proofs.Common.{◌≡◌, ◌≤◌, Some, None, if◌then◌else◌, rules, arith}
use Rattle.toml.specs.View.{table_view}
use Rattle.decl.specs.Limits.{most_entries}
use Rattle.decl.specs.Names.{is_clock_name}
use Rattle.decl.proofs.HostTurns.{own_sound, own_wild, own_apart}
use Rattle.decl.proofs.hosts.read_own.Goals as goal

pub returns : goal.returns
returns c =
    let named : Some c.in-Some.name ≡ (if is_clock_name c.args.name.now then Some c.args.name.now else None) = search rules in
    let few : c.args.index ≤ most_entries = omega (arith, c.if-index-gt-MOST_ENTRIES.false) in
    own_sound c.args.index c.args.name.now c.in-Some.name (table_view c.args.table.now) c.in_ok-check_table.ensures.0 named c.in-Some-read_numbers.clock c.in-Some-read_owner.owner few
    (rw c.requires.empty at c.in-Some-read_numbers.ensures) (rw c.requires.empty at c.in-Some-read_owner.ensures)

pub returns-in_default-read_numbers : goal.returns-in_default-read_numbers
returns-in_default-read_numbers c =
    let named : Some c.in-Some.name ≡ (if is_clock_name c.args.name.now then Some c.args.name.now else None) = search rules in
    own_wild c.args.index c.args.name.now c.in-Some.name (table_view c.args.table.now) c.in_ok-check_table.ensures.0 named (rw c.requires.empty at c.in_default-read_numbers.ensures)

pub returns-in_default-read_owner : goal.returns-in_default-read_owner
returns-in_default-read_owner c =
    let named : Some c.in-Some.name ≡ (if is_clock_name c.args.name.now then Some c.args.name.now else None) = search rules in
    own_apart c.args.index c.args.name.now c.in-Some.name (table_view c.args.table.now) c.in_ok-check_table.ensures.0 named (rw c.requires.empty at c.in_default-read_owner.ensures)
