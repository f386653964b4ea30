-- The messages of a roster while events come: those that stay, those that are withdrawn and those that come.
use Rattle.std.proofs.Common.{◌≡◌, ◌≢◌, ◌<◌, ℕ, List, ◌++◌, length, map, Contains, All, AllPairs, inl, inr, sym, ◌∙◌, ap, subst}
use Rattle.std.proofs.lemmas.List.Elements.{Contains-append_cases, Contains-append_left, Contains-append_right}
use Rattle.decl.specs.Declaration.{Declaration, link_bounds}
use Rattle.problem_model.specs.declared.items.Message.{Message}
use Rattle.traces.specs.Seen.{Seen}
use Rattle.traces.specs.declared.event_id.EventId.{EventId}
use Rattle.traces.specs.declared.event_id.Couple.{Couple}
use Rattle.traces.specs.Traces.{events_of, host_of}
use Rattle.traces.specs.Messages.{messages_of}
use Rattle.traces.proofs.Lists.{pairs_map}
use Rattle.traces.proofs.MessageEnds.{ends_known}
use Rattle.traces.specs.Making.{IsOneOf}
use Rattle.msg_match.specs.Ends.{AreNewMessages}
use Rattle.roster.specs.Roster.{RosterLists, IsRoster, IsNumberUnder, HoldsEvents}
use Rattle.roster.proofs.Turns.{from_map, into_map}
use Rattle.roster.specs.Told.{messages_by_number, number_of, numbered_message}
use Rattle.session_graph.specs.Withdrawn.{AreLeft}
use Rattle.session_graph.specs.Arrivals.{HaveOwnSends}
use Rattle.session_graph.proofs.Alike.{AreAlike}
use Rattle.session_graph.proofs.Both.{AreInBoth, each_in, in_or_not, one_send, told_by}
use Rattle.session_graph.proofs.Held.{id_under, number_is, number_inside, one_id}

abbrev all_of : List (List Seen) → List Couple
all_of seen = messages_of (events_of seen)

pub send_known : (seen : List (List Seen)) (m : Couple) → Contains (messages_of (events_of seen)) m → IsOneOf (events_of seen) m.send
send_known seen m held = let (s, w, in_s, in_w, is_s, is_w) = ends_known (events_of seen) m held in (s, in_s, sym is_s)

pub receive_known : (seen : List (List Seen)) (m : Couple) → Contains (messages_of (events_of seen)) m → IsOneOf (events_of seen) m.receive
receive_known seen m held = let (s, w, in_s, in_w, is_s, is_w) = ends_known (events_of seen) m held in (w, in_w, sym is_w)

-- a number is that of one event
one_number : (r : RosterLists) → IsRoster r → (seen : List (List Seen)) → HoldsEvents r seen → (a b : EventId) → IsOneOf (events_of seen) a → IsOneOf (events_of seen) b → number_of r.under a ≡ number_of r.under b → a ≡ b
one_number r is seen holds a b one other same =
    let (v, under) = id_under r is seen holds a one in
    let (w, under') = id_under r is seen holds b other in
    let number : v ≡ w = sym (number_is r.under a v under) ∙ same ∙ number_is r.under b w under' in
    one_id r is a b w (subst (IsNumberUnder r.under a) number under) under'

-- so messages are told by their sends
one_message : (r : RosterLists) → IsRoster r → (seen : List (List Seen)) → HoldsEvents r seen → (a b : Couple) → Contains (messages_of (events_of seen)) a → Contains (messages_of (events_of seen)) b → number_of r.under a.send ≡ number_of r.under b.send → a ≡ b
one_message r is seen holds a b held held' same = one_send seen a b held held' (one_number r is seen holds a.send b.send (send_known seen a held) (send_known seen b held') same)

-- ---- numbers stay
still_number : (old new : List (List ℕ)) (id : EventId) (v : ℕ) → IsNumberUnder old id v → IsNumberUnder new id v → number_of new id ≡ number_of old id
still_number old new id v under under' = number_is new id v under' ∙ sym (number_is old id v under)

module _ (old new : RosterLists) (is : IsRoster old) (before : List (List Seen)) (holds : HoldsEvents old before) (declaration : new.declaration ≡ old.declaration) (under : (id : EventId) (v : ℕ) → IsNumberUnder old.under id v → IsNumberUnder new.under id v) where
  pub send_stays : (m : Couple) → Contains (messages_of (events_of before)) m → number_of new.under m.send ≡ number_of old.under m.send
  send_stays m held = let (v, at) = id_under old is before holds m.send (send_known before m held) in still_number old.under new.under m.send v at (under m.send v at)

  receive_stays : (m : Couple) → Contains (messages_of (events_of before)) m → number_of new.under m.receive ≡ number_of old.under m.receive
  receive_stays m held = let (v, at) = id_under old is before holds m.receive (receive_known before m held) in still_number old.under new.under m.receive v at (under m.receive v at)

  pub message_stays : (m : Couple) → Contains (messages_of (events_of before)) m → numbered_message new m ≡ numbered_message old m
  message_stays m held =
      let by : Declaration → ℕ → ℕ → Message = λ d send receive.
      let bounds = link_bounds d (host_of d m.send) (host_of d m.receive) in
      record { send = send; receive = receive; least = bounds.0; most = bounds.1 } in
      ap (λ (d : Declaration). by d (number_of new.under m.send) (number_of new.under m.receive)) declaration
      ∙ ap (λ (n : ℕ). by old.declaration n (number_of new.under m.receive)) (send_stays m held)
      ∙ ap (λ (n : ℕ). by old.declaration (number_of old.under m.send) n) (receive_stays m held)

-- ---- what is withdrawn
module _ (r : RosterLists) (is : IsRoster r) (before after : List (List Seen)) (holds : HoldsEvents r before) (gone staying : List Couple) (went : AreNewMessages after before gone) (stay : AreInBoth (messages_of (events_of before)) (messages_of (events_of after)) staying) where
  pub gone_differ : AllPairs (λ (a b : Message). a ≢ b) (map (numbered_message r) gone)
  gone_differ =
      pairs_map (λ (a b : Message). a ≢ b) (numbered_message r) gone
      (told_by (numbered_message r) gone went.once (λ a b has has' same. one_message r is before holds a b (went.only a has).0 (went.only b has').0 (ap (λ (x : Message). x.send) same)))

  pub are_left : AreLeft (messages_by_number r before) (map (numbered_message r) gone) (map (numbered_message r) staying)
  are_left = record {
    own_sends = λ m n has has' same. (
        let (a, held, is_a) = from_map (numbered_message r) (all_of before) m has in
        let (b, held', is_b) = from_map (numbered_message r) (all_of before) n has' in
        let send : number_of r.under a.send ≡ number_of r.under b.send = ap (λ (x : Message). x.send) is_a ∙ same ∙ sym (ap (λ (x : Message). x.send) is_b) in
        sym is_a ∙ ap (numbered_message r) (one_message r is before holds a b held held' send) ∙ is_b);
    were = λ m has. (
        let (a, held, is_a) = from_map (numbered_message r) gone m has in
        subst (Contains (messages_by_number r before)) is_a (into_map (numbered_message r) (all_of before) a (went.only a held).0));
    stay = λ m has. (
        let (a, held, is_a) = from_map (numbered_message r) (all_of before) m has in
        elim (in_or_not (all_of after) a) [
          | inl still ↦ inr (subst (Contains (map (numbered_message r) staying)) is_a (into_map (numbered_message r) staying a (stay.all a held still)))
          | inr none ↦ inl (subst (Contains (map (numbered_message r) gone)) is_a (into_map (numbered_message r) gone a (went.all a (held, none))))
        ]);
    only = λ m has. (
        let (a, held, is_a) = from_map (numbered_message r) staying m has in
        subst (Contains (messages_by_number r before)) is_a (into_map (numbered_message r) (all_of before) a (stay.only a held).0));
    gone = λ m has has'. (
        let (a, held, is_a) = from_map (numbered_message r) staying m has in
        let (b, held', is_b) = from_map (numbered_message r) gone m has' in
        let send : number_of r.under a.send ≡ number_of r.under b.send = ap (λ (x : Message). x.send) (is_a ∙ sym is_b) in
        let same : a ≡ b = one_message r is before holds a b (stay.only a held).0 (went.only b held').0 send in
        (went.only b held').1 (subst (Contains (all_of after)) same (stay.only a held).1));
  }

-- ---- what comes
module _ (old new : RosterLists) (is : IsRoster old) (is' : IsRoster new) (before after : List (List Seen)) (holds : HoldsEvents old before) (holds' : HoldsEvents new after) (declaration : new.declaration ≡ old.declaration)
    (under : (id : EventId) (v : ℕ) → IsNumberUnder old.under id v → IsNumberUnder new.under id v) (added staying : List Couple) (came : AreNewMessages before after added) (stay : AreInBoth (messages_of (events_of before)) (messages_of (events_of after)) staying) where
  pub own_sends : HaveOwnSends (map (numbered_message new) added) (map (numbered_message old) staying)
  own_sends = record {
    differ = pairs_map (λ (a b : Message). a.send ≢ b.send) (numbered_message new) added
        (told_by (λ (m : Couple). number_of new.under m.send) added came.once (λ a b has has' same. one_message new is' after holds' a b (came.only a has).0 (came.only b has').0 same));
    fresh = each_in (λ (m : Message). (n : Message) → Contains (map (numbered_message old) staying) n → n.send ≢ m.send) (map (numbered_message new) added) (λ m has n has' same.
        let (c, held', is_c) = from_map (numbered_message new) added m has in
        let (a, held, is_a) = from_map (numbered_message old) staying n has' in
        let was = stay.only a held in
        let send : number_of new.under a.send ≡ number_of new.under c.send =
        send_stays old new is before holds declaration under a was.0 ∙ ap (λ (x : Message). x.send) is_a ∙ same ∙ sym (ap (λ (x : Message). x.send) is_c) in
        let one : a ≡ c = one_message new is' after holds' a c was.1 (came.only c held').0 send in
        (came.only c held').1 (subst (Contains (all_of before)) one was.0));
  }

  pub come_sends : All (λ (m : Message). m.send < length new.came) (map (numbered_message new) added)
  come_sends = each_in (λ (m : Message). m.send < length new.came) (map (numbered_message new) added) (λ m has.
      let (a, held, is_a) = from_map (numbered_message new) added m has in
      let (v, at) = id_under new is' after holds' a.send (send_known after a (came.only a held).0) in
      subst (λ (x : Message). x.send < length new.came) is_a (number_inside new is' a.send v at))

  pub come_receives : All (λ (m : Message). m.receive < length new.came) (map (numbered_message new) added)
  come_receives = each_in (λ (m : Message). m.receive < length new.came) (map (numbered_message new) added) (λ m has.
      let (a, held, is_a) = from_map (numbered_message new) added m has in
      let (v, at) = id_under new is' after holds' a.receive (receive_known after a (came.only a held).0) in
      subst (λ (x : Message). x.receive < length new.came) is_a (number_inside new is' a.receive v at))

  -- what stays and what comes is all that is there
  pub all_there : AreAlike (map (numbered_message new) added ++ map (numbered_message old) staying) (messages_by_number new after)
  all_there =
      let one : List Message = map (numbered_message new) added in
      let other : List Message = map (numbered_message old) staying in
      record {
        forth = λ m has. elim (Contains-append_cases one other m has) [
          | inl new' ↦ (
              let (a, held, is_a) = from_map (numbered_message new) added m new' in
              subst (Contains (messages_by_number new after)) is_a (into_map (numbered_message new) (all_of after) a (came.only a held).0))
          | inr old' ↦ (
              let (a, held, is_a) = from_map (numbered_message old) staying m old' in
              let was = stay.only a held in
              subst (Contains (messages_by_number new after)) (message_stays old new is before holds declaration under a was.0 ∙ is_a) (into_map (numbered_message new) (all_of after) a was.1))
        ];
        back = λ m has. (
            let (a, held, is_a) = from_map (numbered_message new) (all_of after) m has in
            elim (in_or_not (all_of before) a) [
              | inl was ↦ Contains-append_right one other m
                  (subst (Contains other) (sym (message_stays old new is before holds declaration under a was) ∙ is_a) (into_map (numbered_message old) staying a (stay.all a was held)))
              | inr none ↦ Contains-append_left one other m (subst (Contains one) is_a (into_map (numbered_message new) added a (came.all a (held, none))))
            ]);
      }
