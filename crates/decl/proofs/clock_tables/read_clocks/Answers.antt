use Rattle.std.proofs.Common.{◌≡◌, ◌-◌, ◌<◌, ◌++◌, List, [], length, subst, rules}
use Rattle.std.specs.Prelude.{OnOk}
use Rattle.problem_model.specs.declared.items.Clock.{Clock}
use Rattle.toml.specs.View.{table_view}
use Rattle.decl.specs.Clocks.{clock_tables}
use Rattle.decl.specs.declared.items.Owner.{Owner}
use Rattle.decl.specs.declared.cause.Cause.{Cause}
use Rattle.decl.proofs.ClockTurns.{tabled_causes, tabled_clocks, tabled_owners}
use Rattle.decl.proofs.clock_tables.read_clocks.Goals as goal

pub returns-else-is_empty-clause-sound : goal.returns-else-is_empty-clause-sound
returns-else-is_empty-clause-sound c =
    let host = table_view c.args.host.now in
    let some : 0 < length c.items_or_none-values.result.now = search rules in
    subst (λ (causes : List Cause). OnOk c.add_clocks.result (causes ≡ []))
    (tabled_causes c.args.book.now.clocks c.args.clock.name host c.items_or_none-values.result.now (clock_tables host) some c.items_or_none-values.ensures) c.add_clocks.ensures.sound

pub returns-else-is_empty-clause-clocks : goal.returns-else-is_empty-clause-clocks
returns-else-is_empty-clause-clocks c =
    let host = table_view c.args.host.now in
    let some : 0 < length c.items_or_none-values.result.now = search rules in
    subst (λ (clocks : List Clock). OnOk c.add_clocks.result (c.add_clocks.new.book.clocks ≡ c.args.book.now.clocks ++ clocks))
    (tabled_clocks c.args.book.now.clocks c.args.clock.name host c.items_or_none-values.result.now (clock_tables host) some c.items_or_none-values.ensures) c.add_clocks.ensures.clocks

pub returns-else-is_empty-clause-owners : goal.returns-else-is_empty-clause-owners
returns-else-is_empty-clause-owners c =
    let host = table_view c.args.host.now in
    let some : 0 < length c.items_or_none-values.result.now = search rules in
    subst (λ (owners : List Owner). OnOk c.add_clocks.result (c.add_clocks.new.book.owners ≡ c.args.book.now.owners ++ owners))
    (tabled_owners c.args.book.now.clocks c.args.clock.name host c.items_or_none-values.result.now (clock_tables host) some c.items_or_none-values.ensures (c.args.index - 1)) c.add_clocks.ensures.owners
