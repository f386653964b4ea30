use Rattle.std.proofs.Common.{◌≡◌, ◌+◌, ◌++◌, List, length, ap, arith, rules, subst, ◌∙◌, append-nil, string_bytes}
use Rattle.std.specs.Map.Iter.{deref_pair}
use Rattle.std.proofs.lemmas.Map.Iter.{rest_more, rest_all}
use Rattle.toml.specs.Data.{as_table}
use Rattle.toml.specs.View.{view, members_view}
use Rattle.toml.proofs.Views.{Entry}
use Rattle.decl.specs.Inside.{hosts_and_clocks}
use Rattle.decl.specs.Keys.{entry_table}
use Rattle.decl.specs.Labels.{labels_of}
use Rattle.decl.specs.Subnets.{subnets_in}
use Rattle.decl.proofs.LabelTurns.{label_first, label_few, labels_on, labels_more, labels_rise, subnets_counted, subnets_more, RiseLabels}
use Rattle.decl.proofs.labels.read_labels.Goals as goal

pub returns-in-Err-clause-fault : goal.returns-in-Err-clause-fault
returns-in-Err-clause-fault c =
    let next = rest_more deref_pair _ _ c.next.result (c.in-Some.name, c.in-Some.value) c.in-Some.is c.next.ensures.steps in
    let now = c.loop-name in
    label_first _ (hosts_and_clocks c.args.hosts.now) (now.index + 1) now.name-iterator c.next.new.self c.in-Some.name.now c.in-Some.value.now c.in-Err.e now.invariant.walked next (rw c.deref.ensures at c.in-Err.ensures.fault)

pub loop-name-preserved : goal.loop-name-preserved
loop-name-preserved c =
    let next = rest_more deref_pair _ _ c.next.result (c.in-Some.name, c.in-Some.value) c.in-Some.is c.next.ensures.steps in
    let sound = rw c.deref.ensures at c.in-Ok.ensures.sound in
    let label = rw c.deref.ensures at c.in-Ok.ensures.label in
    let added = c.in-Ok.ensures.added in
    let hosts = hosts_and_clocks c.args.hosts.now in
    let now = c.loop-name in
    let old = now.labels.subnets.items in
    let new = c.add_label.new.labels.subnets.items in
    let few = label_few hosts (now.index + 1) (string_bytes c.in-Some.name.now) (as_table (view c.in-Some.value.now)) sound in
    let counted : length new ≡ length old + length (subnets_in (entry_table (view c.in-Some.value.now))) = subnets_counted old new _ added in
    record {
      walked = labels_on _ hosts (now.index + 1) now.name-iterator c.next.new.self c.in-Some.name.now c.in-Some.value.now now.invariant.walked next sound;
      labelled = labels_more _ now.labels.list.items c.add_label.new.labels.list.items hosts (length old) (length new) now.name-iterator c.next.new.self c.in-Some.name.now c.in-Some.value.now now.invariant.labelled next label counted;
      given = subnets_more _ old new now.name-iterator c.next.new.self c.in-Some.name.now c.in-Some.value.now now.invariant.given next added;
      room = let small = few.1 in let room = now.invariant.room in omega (arith, small, counted, room);
      few = few.0;
    }

pub returns-clause-rising : goal.returns-clause-rising
returns-clause-rising c =
    let ended = rest_all deref_pair _ _ c.next.result c.in-None.is c.next.ensures.steps in
    let hosts = hosts_and_clocks c.args.hosts.now in
    let now = c.loop-name in
    let all : labels_of hosts 0 (members_view c.args.table.now.entries) ≡ now.labels.list.items =
    now.invariant.labelled ∙ ap (λ (left : List Entry). now.labels.list.items ++ labels_of hosts (length now.labels.subnets.items) (members_view left)) ended ∙ append-nil now.labels.list.items in
    subst RiseLabels all (labels_rise hosts 0 c.args.table.now.entries (search rules))
