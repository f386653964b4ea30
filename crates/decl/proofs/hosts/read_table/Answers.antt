use Rattle.std.proofs.Common.{◌≡◌, ◌-◌, ◌++◌, List, false, refl, sym, ap, ◌∙◌, subst}
use Rattle.toml.specs.View.{table_view}
use Rattle.decl.specs.Causes.{at, IsFirstOf}
use Rattle.decl.specs.Clocks.{clock_tables, clocks_by, owners_by}
use Rattle.decl.specs.Hosts.{has_wrong_address}
use Rattle.decl.specs.Inside.{known_in}
use Rattle.decl.specs.declared.cause.Cause.{Cause}
use Rattle.decl.specs.declared.errors.Section.TheVariants.{Hosts}
use Rattle.decl.specs.declared.clocks.ClockBook.{ClockBook}
use Rattle.decl.specs.declared.items.Owner.{Owner}
use Rattle.problem_model.specs.declared.items.Clock.{Clock}
use Rattle.decl.proofs.Faults.{not_true}
use Rattle.decl.proofs.HostTurns.{own_fault, clocks_alone}
use Rattle.decl.proofs.hosts.read_table.Goals as goal

pub returns-in-Err-clause-fault : goal.returns-in-Err-clause-fault
returns-in-Err-clause-fault c =
    own_fault c.args.index (known_in c.args.books.now) c.args.books.now.clocks.clocks c.args.name.now (table_view c.args.table.now) c.in-Err.cause c.at.result c.in-Err.ensures c.at.ensures

pub read_clocks-requires-clause-turn : goal.read_clocks-requires-clause-turn
read_clocks-requires-clause-turn c = rw c.read_addresses.ensures.clocks c.requires.turn

pub returns-in-Ok-read_clocks-clause-sound : goal.returns-in-Ok-read_clocks-clause-sound
returns-in-Ok-read_clocks-clause-sound c =
    let ms = table_view c.args.table.now in
    let fresh : has_wrong_address (known_in c.args.books.now) ms ≡ false = not_true _ (sym c.in_ok-read_addresses.ensures.fresh ∙ c.if-not-branch.false) in
    sym (clocks_alone c.args.index (known_in c.args.books.now) c.args.books.now.clocks.clocks c.read_addresses.new.books.clocks.clocks c.args.name.now c.in-Ok.own.0.name ms (clock_tables ms) c.in-Ok.ensures.0
    fresh (ap (λ (b : ClockBook). b.clocks) c.read_addresses.ensures.clocks) (ap (λ (k : Clock × Owner). k.0.name) c.in-Ok.ensures.1) refl)
    ∙ c.in-Ok-read_clocks.ensures.sound

pub returns-in-Ok-read_clocks-clause-clocks : goal.returns-in-Ok-read_clocks-clause-clocks
returns-in-Ok-read_clocks-clause-clocks c =
    let ms = table_view c.args.table.now in
    c.in-Ok-read_clocks.ensures.clocks ∙ ap (λ (b : ClockBook). b.clocks ++ clocks_by c.in-Ok.own.0.name ms (clock_tables ms)) c.read_addresses.ensures.clocks
    ∙ ap (λ (k : Clock × Owner). c.args.books.now.clocks.clocks ++ clocks_by k.0.name ms (clock_tables ms)) c.in-Ok.ensures.1

pub returns-in-Ok-read_clocks-clause-owners : goal.returns-in-Ok-read_clocks-clause-owners
returns-in-Ok-read_clocks-clause-owners c =
    let ms = table_view c.args.table.now in
    c.in-Ok-read_clocks.ensures.owners ∙ ap (λ (b : ClockBook). b.owners ++ owners_by (c.args.index - 1) ms (clock_tables ms)) c.read_addresses.ensures.clocks

pub returns-in-Err-read_clocks-clause-fault : goal.returns-in-Err-read_clocks-clause-fault
returns-in-Err-read_clocks-clause-fault c =
    let ms = table_view c.args.table.now in
    let fresh : has_wrong_address (known_in c.args.books.now) ms ≡ false = not_true _ (sym c.in_ok-read_addresses.ensures.fresh ∙ c.if-not-branch.false) in
    subst (λ (causes : List Cause). IsFirstOf (at Hosts c.args.index causes) c.in-Err-read_clocks.e)
    (clocks_alone c.args.index (known_in c.args.books.now) c.args.books.now.clocks.clocks c.read_addresses.new.books.clocks.clocks c.args.name.now c.in-Ok.own.0.name ms (clock_tables ms) c.in-Ok.ensures.0 fresh
    (ap (λ (b : ClockBook). b.clocks) c.read_addresses.ensures.clocks) (ap (λ (k : Clock × Owner). k.0.name) c.in-Ok.ensures.1) refl)
    c.in-Err-read_clocks.ensures.fault
