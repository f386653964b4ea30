-- The events and messages of all traces are those of a problem.
use Rattle.std.proofs.Common.{◌≡◌, ◌<◌, ◌≤◌, ◌^◌, ◌+◌, ℕ, List, [], ◌∷◌, length, get_or, All, Contains, sym, arith}
use Rattle.std.proofs.lemmas.List.Elements.{All-append, All-cons, All-head, All-nil, All-tail, Contains-get_or}
use Rattle.std.proofs.lemmas.List.Sums.{get_or-le-sum_by}
use Rattle.problem_model.specs.Problem.{IsProblem}
use Rattle.problem_model.specs.Limits.{most_events}
use Rattle.decl.specs.Declaration.{Declaration, IsDeclaration}
use Rattle.traces.specs.declared.event_id.EventId.{EventId}
use Rattle.traces.specs.declared.event_id.Couple.{Couple}
use Rattle.traces.specs.Seen.{Seen}
use Rattle.traces.specs.Traces.{Placed, numbered, events_from, events_of, event_count}
use Rattle.traces.specs.Messages.{messages_of, problem_of_seen}
use Rattle.traces.proofs.Ids.{ids_differ, ids_rise, ids_within, length_events}
use Rattle.traces.proofs.MessageEnds.{ends_differ, ends_known, messages_few, sends_differ}
use Rattle.traces.specs.Making.{AreEventsOf, AreMessages, IsOneOf, StampsFit}
use Rattle.traces.proofs.Whole.{is_problem}

pub are_events : (d : Declaration) (seen : List (List Seen)) → length seen ≡ length d.labels → event_count seen ≤ most_events → AreEventsOf d (events_of seen)
are_events d seen same few = record {
  labels = λ k x within. let id : EventId = (get_or (events_of seen) k x).id in
      let under : id.label < length seen = (ids_within seen k x within).0 in omega (arith, under, same);
  numbers = λ k x within. let id : EventId = (get_or (events_of seen) k x).id in
      let under : id.label < length seen = (ids_within seen k x within).0 in
      let most : id.number ≤ length (get_or seen id.label []) = (ids_within seen k x within).2 in
      let all : length (get_or seen id.label []) ≤ event_count seen = get_or-le-sum_by length seen id.label [] under in
      omega (arith, most, all, few);
  differ = ids_differ seen;
  limit = rw (length_events seen) few;
}

send_known : (events : List Placed) (m : Couple) → Contains (messages_of events) m → IsOneOf events m.send
send_known events m held = let ends = ends_known events m held in (ends.0, ends.2, sym ends.4)

receive_known : (events : List Placed) (m : Couple) → Contains (messages_of events) m → IsOneOf events m.receive
receive_known events m held = let ends = ends_known events m held in (ends.1, ends.3, sym ends.5)

pub are_messages : (seen : List (List Seen)) → event_count seen ≤ most_events → AreMessages (events_of seen) (messages_of (events_of seen))
are_messages seen few =
    let events : List Placed = events_of seen in
    record {
      sends = λ k x within. send_known events _ (Contains-get_or (messages_of events) k x within);
      receives = λ k x within. receive_known events _ (Contains-get_or (messages_of events) k x within);
      two_ends = λ k x within. ends_differ events _ (ids_differ seen) (Contains-get_or (messages_of events) k x within);
      differ = sends_differ events (ids_rise seen);
      limit = omega (arith, messages_few events, length_events seen, few);
    }

-- ---- stamps
abbrev Stamped : Placed → Type 0
Stamped e = e.seen.stamp < 2 ^ 62

stamps_of : (label n : ℕ) (rows : List Seen) → All (λ s. s.stamp < 2 ^ 62) rows → All Stamped (numbered label n rows)
stamps_of label n [] all = All-nil Stamped
stamps_of label n (s ∷ more) all =
    let P : Seen → Type 0 = λ s. s.stamp < 2 ^ 62 in
    All-cons Stamped _ (numbered label (n + 1) more) (All-head P s more all) (stamps_of label (n + 1) more (All-tail P s more all))

stamps_from : (label : ℕ) (seen : List (List Seen)) → StampsFit seen → All Stamped (events_from label seen)
stamps_from label [] all = All-nil Stamped
stamps_from label (rows ∷ more) all =
    let P : List Seen → Type 0 = λ rows. All (λ s. s.stamp < 2 ^ 62) rows in
    All-append Stamped (numbered label 1 rows) (events_from (label + 1) more) (stamps_of label 1 rows (All-head P rows more all)) (stamps_from (label + 1) more (All-tail P rows more all))

-- a lawful declaration and not too many events make a lawful problem
pub problem_lawful : (d : Declaration) (seen : List (List Seen)) → IsDeclaration d → length seen ≡ length d.labels → event_count seen ≤ most_events → StampsFit seen → IsProblem (problem_of_seen d seen)
problem_lawful d seen lawful same few stamps = is_problem d lawful (events_of seen) (messages_of (events_of seen)) (are_events d seen same few) (are_messages seen few) (stamps_from 0 seen stamps)
