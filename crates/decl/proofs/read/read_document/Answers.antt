use Rattle.std.proofs.Common.{◌≡◌, ℕ, List, [], Option, ap, subst, sym, refl, ◌∙◌}
use Rattle.std.specs.Prelude.{All}
use Rattle.toml.specs.View.{items_view, table_view}
use Rattle.problem_model.specs.Name.{IsClockName}
use Rattle.problem_model.specs.declared.items.Clock.{Clock}
use Rattle.decl.specs.Declaration.{IsDeclaration}
use Rattle.decl.specs.Hosts.{HostLists, host_lists}
use Rattle.decl.specs.Inside.{hosts_and_clocks}
use Rattle.decl.specs.Labels.{labels_of}
use Rattle.decl.specs.Walk.{faults, hosts_in, labels_in}
use Rattle.decl.proofs.LabelTurns.{RiseLabels}
use Rattle.decl.proofs.Lawful.{clock_names}
use Rattle.decl.proofs.LawfulWhole.{lawful}
use Rattle.decl.proofs.Searching.{Rise}
use Rattle.decl.proofs.Walking.{top_first, source_first, no_faults, declared_is}
use Rattle.decl.proofs.read.read_document.Goals as goal

abbrev AreNamed : List Clock → Type 0
AreNamed clocks = All (λ (c : Clock). IsClockName c.name) clocks

pub read_labels-requires-clause-named : goal.read_labels-requires-clause-named
read_labels-requires-clause-named c =
    let known = c.in-Ok-read_hosts.ensures in
    subst AreNamed (sym (ap (λ (lists : HostLists). lists.clocks) known.lists)) (clock_names (table_view c.table_or_empty.result.now) known.sound)

pub read_source-requires : goal.read_source-requires
read_source-requires c =
    let known = c.in-Ok-read_hosts.ensures in
    subst AreNamed (sym (ap (λ (lists : HostLists). lists.clocks) known.lists)) (clock_names (table_view c.table_or_empty.result.now) known.sound)

pub returns-in-Err-clause-fault : goal.returns-in-Err-clause-fault
returns-in-Err-clause-fault c = top_first (table_view c.args.table.now) c.in-Err.cause c.at.result c.in-Err.ensures c.at.ensures

pub returns-in-Err-read_source-clause-fault : goal.returns-in-Err-read_source-clause-fault
returns-in-Err-read_source-clause-fault c =
    source_first (table_view c.args.table.now) c.in-Ok.ensures.0 (table_view c.table_or_empty.result.now) c.table_or_empty.ensures
    c.in-Ok-read_hosts.ensures.sound (hosts_and_clocks c.in-Ok-read_hosts.hosts) c.in-Ok-read_hosts.ensures.lists (table_view c.table_or_empty-2.result.now) c.table_or_empty-2.ensures
    c.in-Ok-read_labels.ensures.sound (items_view c.items_or_none.result.now) c.items_or_none.ensures
    (rw c.deref.ensures.value at c.in-Ok-read_links.ensures.sound) c.in-Err-read_source.cause c.at-in-Err-read_source.result c.in-Err-read_source.ensures c.at-in-Err-read_source.ensures

pub returns-clause-lawful : goal.returns-clause-lawful
returns-clause-lawful c =
    let ms = table_view c.args.table.now in
    let hosts = table_view c.table_or_empty.result.now in
    let labels = table_view c.table_or_empty-2.result.now in
    let links = items_view c.items_or_none.result.now in
    let lists = hosts_and_clocks c.in-Ok-read_hosts.hosts in
    let known = c.in-Ok-read_hosts.ensures in
    let labelled = c.in-Ok-read_labels.ensures in
    let linked = rw c.deref.ensures.value at c.in-Ok-read_links.ensures.sound in
    let link_list = rw c.deref.ensures.value at c.in-Ok-read_links.ensures.links in
    let source = c.in-Ok-read_source.ensures in
    let lists_are : lists ≡ host_lists (hosts_in ms) = known.lists ∙ ap host_lists c.table_or_empty.ensures in
    let labels_are : c.in-Ok-read_labels.labels.list.items ≡ labels_of (host_lists (hosts_in ms)) 0 (labels_in ms) = labelled.labels ∙ rw (lists_are, c.table_or_empty-2.ensures) refl in
    let none : faults ms ≡ [] = no_faults ms c.in-Ok.ensures.0 hosts c.table_or_empty.ensures known.sound lists known.lists labels c.table_or_empty-2.ensures labelled.sound links c.items_or_none.ensures linked source.0 in
    let is =
    declared_is ms hosts labels links lists c.into_lists-clocks.result.0.items c.into_lists-clocks.result.1.items c.in-Ok-read_hosts.hosts.addresses c.in-Ok-read_hosts.hosts.addresses6 c.in-Ok-read_labels.labels.list.items c.in-Ok-read_labels.labels.subnets.items c.in-Ok-read_links.links c.in-Ok.top.0 c.flag_at.result c.flag_at-2.result c.in-Ok.top.1 c.in-Ok-read_source.source
    c.table_or_empty.ensures c.table_or_empty-2.ensures c.items_or_none.ensures known.lists c.into_lists-clocks.ensures.clocks c.into_lists-clocks.ensures.owners known.addresses known.addresses6 labelled.labels labelled.subnets link_list (ap (λ (t : ℕ × Option ℕ). t.0) c.in-Ok.ensures.1) c.flag_at.ensures c.flag_at-2.ensures (ap (λ (t : ℕ × Option ℕ). t.1) c.in-Ok.ensures.1) source.1 in
    subst IsDeclaration (sym is) (lawful ms (subst Rise (ap (λ (l : HostLists). l.names) lists_are) known.rising) (subst RiseLabels labels_are labelled.rising) none)
