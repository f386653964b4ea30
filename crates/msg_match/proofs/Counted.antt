-- How many messages come and go.
use Rattle.std.proofs.Common.{◌≡◌, ◌≢◌, List, length, map, Bool, true, false, not, inl, inr, sym, ap, ◌∙◌, subst}
use Rattle.std.specs.Prelude.{AllPairs, Contains, filter}
use Rattle.std.specs.List.{list_any}
use Rattle.std.proofs.lemmas.Bool.{and_from, and_parts, cases_Bool, false≢true}
use Rattle.std.proofs.lemmas.List.Folds.{list_any_at}
use Rattle.std.proofs.lemmas.List.Kept.{AllPairs-filter}
use Rattle.std.proofs.lemmas.Map.Views.{Contains-from_any}
use Rattle.traces.specs.Seen.{Seen}
use Rattle.std.proofs.lemmas.List.{length-map}
use Rattle.msg_match.specs.declared.change.Change.{Change}
use Rattle.traces.specs.declared.event_id.EventId.{EventId}
use Rattle.traces.specs.declared.event_id.Couple.{Couple}
use Rattle.traces.specs.Traces.{events_of, is_same}
use Rattle.traces.specs.Messages.{is_same_couple, messages_of, missing}
use Rattle.traces.proofs.Ids.{ids_rise}
use Rattle.traces.proofs.Members.{has_passed, kept, was_in}
use Rattle.traces.proofs.MessageEnds.{sends_differ}
use Rattle.msg_match.specs.declared.changes.Changed.{Changed}
use Rattle.msg_match.specs.Ends.{AreChanges, AreNewMessages, IsChange, named}
use Rattle.msg_match.proofs.Lists.{same_many}
use Rattle.msg_match.proofs.Names.{own_id, same_id}

-- ---- couples
abbrev made : EventId → EventId → Couple
made send receive = record { send = send; receive = receive }

same_couple : (a b : Couple) → is_same_couple a b ≡ true → a ≡ b
same_couple a b same =
    let both = and_parts (is_same a.send b.send) (is_same a.receive b.receive) same in
    ap (λ (n : EventId). made n a.receive) (same_id a.send b.send both.0) ∙ ap (λ (n : EventId). made b.send n) (same_id a.receive b.receive both.1)

own_couple : (a : Couple) → is_same_couple a a ≡ true
own_couple a = and_from (is_same a.send a.send) (is_same a.receive a.receive) (own_id a.send) (own_id a.receive)

abbrev is_among : List Couple → Couple → Bool
is_among ys x = list_any (λ (y : Couple). is_same_couple x y) ys

found_among : (ys : List Couple) (x : Couple) → is_among ys x ≡ true → Contains ys x
found_among ys x found = Contains-from_any same_couple x ys found

among_found : (ys : List Couple) (x : Couple) → Contains ys x → is_among ys x ≡ true
among_found ys x (k, inside, is) =
    list_any_at (λ (y : Couple). is_same_couple x y) ys k x inside (subst (λ (y : Couple). is_same_couple x y ≡ true) (sym is) (own_couple x))

-- ---- the count
messages_once : (seen : List (List Seen)) → AllPairs (λ (a b : Couple). a ≢ b) (messages_of (events_of seen))
messages_once seen i j d below inside same = sends_differ (events_of seen) (ids_rise seen) i j d below inside (ap (λ (c : Couple). c.send) same)

module _ (before after : List (List Seen)) where
  olds : List Couple
  olds = messages_of (events_of before)

  news : List Couple
  news = messages_of (events_of after)

  is_new : Couple → Bool
  is_new x = not (is_among olds x)

  -- as many as there are after and not before
  counted : (found : List Couple) → AreNewMessages before after found → length found ≡ missing (messages_of (events_of after)) (messages_of (events_of before))
  unfolding olds news is_new
  counted found anew =
      let others : List Couple = filter is_new news in
      let apart : AllPairs (λ (a b : Couple). a ≢ b) others = AllPairs-filter (λ (a b : Couple). a ≢ b) is_new news (messages_once after) in
      let to : (m : Couple) → Contains found m → Contains others m =
      λ m held.
      let (there, new) = anew.only m held in
      let absent : is_among olds m ≡ false =
      elim (cases_Bool (is_among olds m)) [
        | inl old ↦ absurd (new (found_among olds m old))
        | inr none ↦ none
      ] in
      kept is_new news m there (ap not absent) in
      let from : (m : Couple) → Contains others m → Contains found m =
      λ m held.
      let passed : not (is_among olds m) ≡ true = has_passed is_new news m held in
      anew.all m (was_in is_new news m held, λ old. false≢true (sym (ap not (among_found olds m old)) ∙ passed)) in
      same_many found others anew.once apart to from

-- the counts of what comes and goes
pub change_counted : (ids : List EventId) (before after : List (List Seen)) (c : Change) (counts : Changed) → counts.messages ≡ length c.added.items → counts.withdrawn ≡ length c.withdrawn.items → AreChanges ids before after c → IsChange before after counts
change_counted ids before after c counts is is' changes = record {
  added = is ∙ sym (length-map c.added.items (named ids)) ∙ counted before after (map (named ids) c.added.items) changes.added;
  withdrawn = is' ∙ sym (length-map c.withdrawn.items (named ids)) ∙ counted after before (map (named ids) c.withdrawn.items) changes.withdrawn;
}
