use Rattle.std.proofs.Common.{◌≡◌, ℕ, ◌+◌, ◌-◌, ◌++◌, List, [], ◌∷◌, length, length-append, ap, arith, rules, subst, ◌∙◌, append-nil, string_bytes}
use Rattle.std.specs.Map.Iter.{deref_pair}
use Rattle.std.proofs.lemmas.Map.Iter.{rest_more, rest_all}
use Rattle.toml.specs.Data.{as_table}
use Rattle.toml.specs.View.{view, members_view}
use Rattle.toml.proofs.Views.{Entry}
use Rattle.decl.specs.Clocks.{clock_tables}
use Rattle.decl.specs.Hosts.{hosts_of}
use Rattle.decl.specs.Inside.{known_in}
use Rattle.decl.specs.Keys.{entry_table}
use Rattle.decl.proofs.ClockPlaces.{turn_next}
use Rattle.decl.proofs.Searching.{Rise}
use Rattle.decl.proofs.HostTurns.{host_first, host_few, hosts_on, names_on, host_clocks_on, host_owners_on, addresses_on, addresses6_on, hosts_rise}
use Rattle.decl.proofs.hosts.read_hosts.Goals as goal

pub returns-in-Err-clause-fault : goal.returns-in-Err-clause-fault
returns-in-Err-clause-fault c =
    let next = rest_more deref_pair _ _ c.next.result (c.in-Some.name, c.in-Some.value) c.in-Some.is c.next.ensures.steps in
    host_first _ (c.loop-name.index + 1) (known_in c.loop-name.books) c.loop-name.books.clocks.clocks c.loop-name.name-iterator c.next.new.self c.in-Some.name.now c.in-Some.value.now c.in-Err.e
    c.loop-name.invariant.walked next (rw c.deref.ensures at c.in-Err.ensures.fault)

pub loop-name-preserved : goal.loop-name-preserved
loop-name-preserved c =
    let next = rest_more deref_pair _ _ c.next.result (c.in-Some.name, c.in-Some.value) c.in-Some.is c.next.ensures.steps in
    let now = c.loop-name in
    let new = c.read_host.new.books in
    let name = c.in-Some.name.now in
    let value = c.in-Some.value.now in
    let sound = rw c.deref.ensures at c.in-Ok.ensures.sound in
    let clocks = rw c.deref.ensures at c.in-Ok.ensures.clocks in
    let named : c.push.new.self.items ≡ now.names.items ++ string_bytes name ∷ [] =
    c.in_ok-push.ensures.items ∙ ap (λ (n : List ℕ). now.names.items ++ n ∷ []) (c.in-Ok.ensures.named ∙ c.deref.ensures) in
    let place : now.index + 1 - 1 ≡ now.index = omega arith in
    record {
      walked = hosts_on _ (now.index + 1) (now.index + 1 - 1) now.books new now.name-iterator c.next.new.self name value now.invariant.walked next sound c.in-Ok.ensures.booked c.in-Ok.ensures.booked6 clocks;
      named = names_on _ now.names.items c.push.new.self.items now.name-iterator c.next.new.self name value now.invariant.named next named;
      clocked = host_clocks_on _ now.books.clocks.clocks new.clocks.clocks now.name-iterator c.next.new.self name value now.invariant.clocked next clocks;
      owned = host_owners_on _ now.index (now.index + 1 - 1) now.books.clocks.owners new.clocks.owners now.name-iterator c.next.new.self name value now.invariant.owned next place c.in-Ok.ensures.owners;
      booked = addresses_on _ now.index (now.index + 1 - 1) now.books.narrow new.narrow now.name-iterator c.next.new.self name value now.invariant.booked next place c.in-Ok.ensures.booked;
      booked6 = addresses6_on _ now.index (now.index + 1 - 1) now.books.wide new.wide now.name-iterator c.next.new.self name value now.invariant.booked6 next place c.in-Ok.ensures.booked6;
      turn = turn_next now.books.clocks.owners new.clocks.owners now.index (now.index + 1 - 1) (entry_table (view value)) (clock_tables (entry_table (view value))) place c.in-Ok.ensures.owners now.invariant.turn;
      counted = omega (arith, now.invariant.counted, ap length named, length-append now.names.items (string_bytes name ∷ []));
      few = host_few (now.index + 1) (known_in now.books) now.books.clocks.clocks (string_bytes name) (as_table (view value)) sound;
    }

pub returns-clause-rising : goal.returns-clause-rising
returns-clause-rising c =
    let ended = rest_all deref_pair _ _ c.next.result c.in-None.is c.next.ensures.steps in
    let all : hosts_of (members_view c.args.table.now.entries) ≡ c.loop-name.names.items =
    c.loop-name.invariant.named ∙ ap (λ (left : List Entry). c.loop-name.names.items ++ hosts_of (members_view left)) ended ∙ append-nil c.loop-name.names.items in
    subst Rise all (hosts_rise c.args.table.now.entries (search rules))
