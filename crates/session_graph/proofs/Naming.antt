-- The names of a roster's events by number, and messages by the numbers of their ends and by their names.
use Rattle.std.proofs.Common.{◌≡◌, ◌<◌, ◌+◌, ℕ, List, [], ◌∷◌, ◌++◌, length, map, slice_get, Some, refl, sym, ◌∙◌, ap, subst, arith}
use Rattle.std.proofs.lemmas.List.{ext_get_or, get_or-map, get_or_append_left, length-map, map-append}
use Rattle.std.proofs.lemmas.List.Elements.{All-head, All-tail}
use Rattle.std.proofs.lemmas.Option.{slice_get-get_or}
use Rattle.problem_model.specs.declared.items.Message.{Message}
use Rattle.decl.specs.Declaration.{link_bounds}
use Rattle.traces.specs.declared.event.Event.{Event}
use Rattle.traces.specs.Seen.{Seen, seen_events}
use Rattle.traces.specs.declared.event_id.EventId.{EventId}
use Rattle.traces.specs.Traces.{host_of}
use Rattle.msg_match.specs.declared.change.Couple.{Couple}
use Rattle.msg_match.specs.Ends.{no_name, name_as_came, named, ids_from, AreCouplesBelow}
use Rattle.roster.specs.declared.came.Came.{Came}
use Rattle.roster.specs.Groups.{group_at}
use Rattle.roster.specs.Readings.{stamps_of}
use Rattle.roster.proofs.Beside.{group_inside}
use Rattle.roster.specs.Roster.{RosterLists, IsRoster, IsNumberUnder, IsGrown, id_of, no_event, event_at, came_from}
use Rattle.roster.specs.Told.{number_of, numbered_message}
use Rattle.session_graph.specs.Numbers.{message_by, names_then}
use Rattle.session_graph.proofs.Held.{number_is, one_id}

-- ---- names
-- the label of an event is one of those that are declared
pub label_inside : (r : RosterLists) → IsRoster r → (v : ℕ) (e : Came) → slice_get r.came v ≡ Some e → e.label < length r.declaration.labels
label_inside r is v e at =
    let (k, number, at') = is.every v e at in
    let under : e.label < length r.under = group_inside r.under e.label k v at' in
    let many = is.labels in
    omega (arith, under, many)

module _ (r : RosterLists) (is : IsRoster r) where
  own_under : (v : ℕ) → v < length r.came → IsNumberUnder r.under (id_of (event_at r.came v)) v
  own_under v inside = is.every v (event_at r.came v) (slice_get-get_or r.came v no_event inside)

  -- the name that stands at a number has that number
  pub own_number : (v : ℕ) → v < length r.came → number_of r.under (id_of (event_at r.came v)) ≡ v
  own_number v inside = number_is r.under (id_of (event_at r.came v)) v (own_under v inside)

  -- rosters with the same numbers have the same names
  module _ (other : RosterLists) (is' : IsRoster other) (under : other.under ≡ r.under) (count : length other.came ≡ length r.came) where
    pub same_names : map id_of other.came ≡ map id_of r.came
    same_names =
        ext_get_or no_name (map id_of other.came) (map id_of r.came) (length-map other.came id_of ∙ count ∙ sym (length-map r.came id_of)) (λ v inside.
        let less : v < length other.came = subst (λ (n : ℕ). v < n) (length-map other.came id_of) inside in
        let less' : v < length r.came = subst (λ (n : ℕ). v < n) count less in
        get_or-map id_of other.came v no_event no_name less
        ∙ one_id r is (id_of (event_at other.came v)) (id_of (event_at r.came v)) v
        (subst (λ (u : List (List ℕ)). IsNumberUnder u (id_of (event_at other.came v)) v) under (is'.every v (event_at other.came v) (slice_get-get_or other.came v no_event less))) (own_under v less')
        ∙ sym (get_or-map id_of r.came v no_event no_name less'))

-- the names of events that come
came_ids : (label n : ℕ) (events : List Event) → map id_of (came_from label n (stamps_of events)) ≡ ids_from label n (seen_events events)
came_ids label n [] = refl
came_ids label n (e ∷ events) = let id : EventId = record { label = label; number = n } in ap (λ (l : List EventId). id ∷ l) (came_ids label (n + 1) events)

pub names_pushed : (old new : RosterLists) (label : ℕ) (events : List Event) → IsGrown old new label (stamps_of events) → map id_of new.came ≡ names_then old label (seen_events events)
names_pushed old new label events grown =
    let n : ℕ = length (group_at old.under label) + 1 in
    ap (λ (cs : List Came). map id_of cs) grown.came ∙ map-append id_of old.came (came_from label n (stamps_of events)) ∙ ap (λ (l : List EventId). map id_of old.came ++ l) (came_ids label n events)

pub names_of_same : (a b : RosterLists) (label : ℕ) (more : List Seen) → map id_of b.came ≡ map id_of a.came → b.under ≡ a.under → names_then b label more ≡ names_then a label more
names_of_same a b label more same under =
    ap (λ (l : List EventId). l ++ ids_from label (length (group_at b.under label) + 1) more) same ∙ ap (λ (us : List (List ℕ)). map id_of a.came ++ ids_from label (length (group_at us label) + 1) more) under

-- ---- messages
module _ (r : RosterLists) (is : IsRoster r) (more : List EventId) where
  name_is : (v : ℕ) → v < length r.came → name_as_came (map id_of r.came ++ more) v ≡ id_of (event_at r.came v)
  name_is v inside =
      get_or_append_left (map id_of r.came) more no_name v (subst (λ (n : ℕ). v < n) (sym (length-map r.came id_of)) inside)
      ∙ get_or-map id_of r.came v no_event no_name inside

  -- a message between numbers is that between the names which have them
  message_is : (c : Couple) → c.send < length r.came → c.receive < length r.came → message_by r c ≡ numbered_message r (named (map id_of r.came ++ more) c)
  message_is c sent received =
      let by : EventId → EventId → ℕ → ℕ → Message = λ s t v w.
      let bounds = link_bounds r.declaration (host_of r.declaration s) (host_of r.declaration t) in
      record { send = v; receive = w; least = bounds.0; most = bounds.1 } in
      let ids : List EventId = map id_of r.came ++ more in
      let send = name_is c.send sent in
      let receive = name_is c.receive received in
      let sender : number_of r.under (name_as_came ids c.send) ≡ c.send = ap (λ (x : EventId). number_of r.under x) send ∙ own_number r is c.send sent in
      let receiver : number_of r.under (name_as_came ids c.receive) ≡ c.receive = ap (λ (x : EventId). number_of r.under x) receive ∙ own_number r is c.receive received in
      ap (λ (x : EventId). by x (id_of (event_at r.came c.receive)) c.send c.receive) (sym send)
      ∙ ap (λ (x : EventId). by (name_as_came ids c.send) x c.send c.receive) (sym receive)
      ∙ ap (λ (v : ℕ). by (name_as_came ids c.send) (name_as_came ids c.receive) v c.receive) (sym sender)
      ∙ ap (λ (v : ℕ). by (name_as_came ids c.send) (name_as_came ids c.receive) (number_of r.under (name_as_came ids c.send)) v) (sym receiver)

  pub messages_are : (couples : List Couple) → AreCouplesBelow (length r.came) couples → map (message_by r) couples ≡ map (numbered_message r) (map (named (map id_of r.came ++ more)) couples)
  messages_are [] inside = refl
  messages_are (c ∷ couples) inside =
      let P : Couple → Type 0 = λ x. (x.send < length r.came) × (x.receive < length r.came) in
      let first = All-head P c couples inside in
      let ids : List EventId = map id_of r.came ++ more in
      ap (λ (m : Message). m ∷ map (message_by r) couples) (message_is c first.0 first.1)
      ∙ ap (λ (l : List Message). numbered_message r (named ids c) ∷ l) (messages_are couples (All-tail P c couples inside))
