-- A roster to which events come one after another, and which tells other messages.
use Rattle.std.proofs.Common.{◌≡◌, ◌+◌, ℕ, List, length, refl, sym, ◌∙◌, ap, subst}
use Rattle.decl.specs.Declaration.{Declaration, link_bounds}
use Rattle.problem_model.specs.declared.items.Message.{Message}
use Rattle.traces.specs.declared.event_id.Couple.{Couple}
use Rattle.traces.specs.Traces.{host_of}
use Rattle.roster.specs.Roster.{RosterLists, IsNumberUnder}
use Rattle.roster.specs.Told.{number_of, numbered_message}
use Rattle.session_graph.specs.Kept.{KeepsEvents, KeepsReadings}
use Rattle.session_graph.specs.Growth.{Gains, Retells}

-- ---- what stays
pub events_then : (a b c : RosterLists) → KeepsEvents a b → KeepsEvents b c → KeepsEvents a c
events_then a b c one two v e at =
    let (f, at', stamp, label, number, node) = one v e at in
    let (g, at'', stamp', label', number', node') = two v f at' in
    (g, at'', stamp' ∙ stamp, label' ∙ label, number' ∙ number, node' ∙ node)

pub readings_then : (a b c : RosterLists) → KeepsReadings a b → KeepsReadings b c → KeepsReadings a c
readings_then a b c one two clock s has = two clock s (one clock s has)

-- ---- other messages
pub retells_none : (r : RosterLists) → Retells r r
retells_none r = record {
  declaration = refl;
  count = refl;
  events = λ v e at. (e, at, refl, refl, refl, refl);
  readings = λ clock s has. has;
  under = refl;
  holds = λ seen holds. holds;
}

pub retells_then : (a b c : RosterLists) → Retells a b → Retells b c → Retells a c
retells_then a b c one two = record {
  declaration = two.declaration ∙ one.declaration;
  count = two.count ∙ one.count;
  events = events_then a b c one.events two.events;
  readings = readings_then a b c one.readings two.readings;
  under = two.under ∙ one.under;
  holds = λ seen holds. two.holds seen (one.holds seen holds);
}

-- a message has the same numbers
pub same_numbered : (a b : RosterLists) → b.declaration ≡ a.declaration → b.under ≡ a.under → (m : Couple) → numbered_message b m ≡ numbered_message a m
same_numbered a b declaration under m =
    let by : Declaration → List (List ℕ) → Message = λ d u.
    let bounds = link_bounds d (host_of d m.send) (host_of d m.receive) in
    record { send = number_of u m.send; receive = number_of u m.receive; least = bounds.0; most = bounds.1 } in
    ap (λ (d : Declaration). by d b.under) declaration ∙ ap (λ (u : List (List ℕ)). by a.declaration u) under

-- ---- events behind other messages
pub gains_behind : (label : ℕ) (stamps : List ℕ) (a b c : RosterLists) → Retells a b → Gains label stamps b c → Gains label stamps a c
gains_behind label stamps a b c one two = record {
  declaration = two.declaration ∙ one.declaration;
  count = two.count ∙ ap (λ (n : ℕ). n + length stamps) one.count;
  events = events_then a b c one.events two.events;
  readings = readings_then a b c one.readings two.readings;
  under = λ id v under. two.under id v (subst (λ (u : List (List ℕ)). IsNumberUnder u id v) (sym one.under) under);
  holds = λ seen own more holds at is. two.holds seen own more (one.holds seen holds) at is;
}
