-- The ends of messages among a roster's events while events of a label come.
use Rattle.std.proofs.Common.{◌≡◌, ◌≢◌, ◌<◌, ◌≤◌, ◌+◌, ℕ, suc, List, [], ◌∷◌, ◌++◌, length, map, get_or, All, AllPairs, Contains, refl, sym, ◌∙◌, ap, subst, arith, length-append}
use Rattle.std.proofs.lemmas.List.{length-map}
use Rattle.std.proofs.lemmas.List.Elements.{All-cons, All-nil, All-weaker}
use Rattle.std.proofs.lemmas.List.Kept.{AllPairs-cons}
use Rattle.std.proofs.lemmas.Option.{slice_get_within, slice_get-get_or}
use Rattle.problem_model.specs.Limits.{most_events, most_items}
use Rattle.decl.specs.declared.items.Label.{Label}
use Rattle.traces.specs.declared.event.Event.{Event}
use Rattle.traces.specs.Seen.{Seen, seen_event, seen_events}
use Rattle.traces.specs.declared.event_id.EventId.{EventId}
use Rattle.traces.specs.Traces.{event_count}
use Rattle.traces.proofs.Ids.{count_appended}
use Rattle.traces.proofs.Lists.{pairs_map, place_in}
use Rattle.traces.proofs.Members.{no_pairs, pairs_joined}
use Rattle.msg_match.specs.declared.change.Change.{Change}
use Rattle.msg_match.specs.Groups.{SeenItem}
use Rattle.msg_match.specs.Changes.{HaveOwnNumbers, AreMessagesAnew}
use Rattle.msg_match.specs.Ends.{AreEndsBy, AreChanges, AreCouplesBelow, ids_from, items_from}
use Rattle.msg_match.proofs.Grown.{ends_none, ends_more, ends_few, ids_many, added_within, gone_within, changes_are}
use Rattle.roster.specs.declared.came.Came.{Came}
use Rattle.roster.specs.Groups.{group_at, with_more}
use Rattle.roster.specs.Roster.{RosterLists, IsRoster, HoldsEvents, id_of}
use Rattle.roster.proofs.Turns.{from_map}
use Rattle.roster.specs.Told.{number_of}
use Rattle.session_graph.specs.Numbers.{names_then}
use Rattle.session_graph.proofs.Both.{each_in}
use Rattle.session_graph.proofs.Held.{number_is, labels_many, group_many, events_many}

abbrev Differ : EventId → EventId → Type 0
Differ a b = a ≢ b

-- ---- the names of events that come
-- an event of this label, numbered from n on
abbrev IsAbove : ℕ → ℕ → EventId → Type 0
IsAbove label n id = (id.label ≡ label) × (n ≤ id.number)

all_above : (label n : ℕ) (more : List Seen) → All (IsAbove label n) (ids_from label n more)
all_above label n [] = All-nil (IsAbove label n)
all_above label n (s ∷ more) =
    All-cons (IsAbove label n) (record { label = label; number = n }) (ids_from label (n + 1) more) (refl, omega arith)
    (All-weaker (IsAbove label (n + 1)) (IsAbove label n) (λ id above. (above.0, (let x = above.1 in omega (arith, x)))) (ids_from label (n + 1) more) (all_above label (n + 1) more))

come_differ : (label n : ℕ) (more : List Seen) → AllPairs (λ (a b : EventId). a ≢ b) (ids_from label n more)
come_differ label n [] = no_pairs Differ
come_differ label n (s ∷ more) =
    let id : EventId = record { label = label; number = n } in
    AllPairs-cons Differ id (ids_from label (n + 1) more)
    (All-weaker (IsAbove label (n + 1)) (Differ id) (λ other above same. (let x = above.1 in let number : n ≡ other.number = ap (λ (i : EventId). i.number) same in omega (arith, x, number)))
    (ids_from label (n + 1) more) (all_above label (n + 1) more))
    (come_differ label (n + 1) more)

-- ---- the names of a roster
module _ (r : RosterLists) (is : IsRoster r) where
  pub there_differ : AllPairs (λ (a b : EventId). a ≢ b) (map id_of r.came)
  there_differ = pairs_map Differ id_of r.came (λ i j d below inside same.
      let a : Came = get_or r.came i d in
      let b : Came = get_or r.came j d in
      let first : number_of r.under (id_of a) ≡ i = number_is r.under (id_of a) i (is.every i a (slice_get-get_or r.came i d (omega (arith, below, inside)))) in
      let second : number_of r.under (id_of b) ≡ j = number_is r.under (id_of b) j (is.every j b (slice_get-get_or r.came j d inside)) in
      let one : i ≡ j = sym first ∙ ap (λ (id : EventId). number_of r.under id) same ∙ second in
      omega (arith, below, one))

  -- an event that is there is numbered below those that come
  below : (label : ℕ) (id : EventId) → Contains (map id_of r.came) id → id.label ≡ label → id.number < length (group_at r.under label) + 1
  below label id has same =
      let (e, held, is_e) = from_map id_of r.came id has in
      let (v, at) = place_in r.came e held in
      let (k, number, at') = is.every v e at in
      let inside : k < length (group_at r.under (id_of e).label) = slice_get_within (group_at r.under (id_of e).label) k v at' in
      let group : length (group_at r.under (id_of e).label) ≡ length (group_at r.under label) = ap (λ (l : ℕ). length (group_at r.under l)) (ap (λ (i : EventId). i.label) is_e ∙ same) in
      let own : id.number ≡ suc k = sym (ap (λ (i : EventId). i.number) is_e) ∙ number in
      omega (arith, inside, group, own)

  pub all_differ : (label : ℕ) (more : List Seen) → AllPairs (λ (a b : EventId). a ≢ b) (names_then r label more)
  all_differ label more =
      let n : ℕ = length (group_at r.under label) + 1 in
      pairs_joined Differ (map id_of r.came) (ids_from label n more) there_differ (come_differ label n more)
      (each_in (λ (a : EventId). All (Differ a) (ids_from label n more)) (map id_of r.came) (λ a has. All-weaker (IsAbove label n) (Differ a) (λ b above same.
      let from : n ≤ b.number = above.1 in
      let number : a.number ≡ b.number = ap (λ (i : EventId). i.number) same in
      let less = below label a has (ap (λ (i : EventId). i.label) same ∙ above.0) in
      omega (arith, from, number, less)) (ids_from label n more) (all_above label n more)))

-- ---- no events yet
none_each : (labels : List Label) → All (λ (rows : List Seen). rows ≡ []) (map (λ (l : Label). []) labels)
none_each [] = All-nil (λ (rows : List Seen). rows ≡ [])
none_each (l ∷ labels) = All-cons (λ (rows : List Seen). rows ≡ []) [] (map (λ (l : Label). []) labels) refl (none_each labels)

pub no_ends : (r : RosterLists) → r.came ≡ [] → (items : List SeenItem) → items ≡ [] → AreEndsBy (map id_of r.came) items (map (λ (l : Label). []) r.declaration.labels)
no_ends r none items empty =
    let seen : List (List Seen) = map (λ (l : Label). []) r.declaration.labels in
    subst (λ (l : List SeenItem). AreEndsBy (map id_of r.came) l seen) (sym empty)
    (subst (λ (cs : List Came). AreEndsBy (map id_of cs) [] seen) (sym none) (ends_none seen (none_each r.declaration.labels)))

-- ---- events come
-- with the ends among events of a label a matcher has these ends, and the messages change so
pub record IsRematched (before : List (List Seen)) (label : ℕ) (events : List Event) (r : RosterLists) (after : List SeenItem) (c : Change) : Type 0 where
  pub changes : AreChanges (names_then r label (seen_events events)) before (with_more before label (seen_events events)) c
  pub added : AreCouplesBelow (length r.came + length events) c.added.items
  pub withdrawn : AreCouplesBelow (length r.came) c.withdrawn.items
  pub ends : AreEndsBy (names_then r label (seen_events events)) after (with_more before label (seen_events events))

module _ (before : List (List Seen)) (label : ℕ) (events : List Event) (r : RosterLists) (is : IsRoster r) (inside : label < length r.declaration.labels) (holds : HoldsEvents r before) (items : List SeenItem) (are : AreEndsBy (map id_of r.came) items before) where
  abbrev more : List Seen
  more = seen_events events

  abbrev new : List SeenItem
  new = items_from (length r.came) (seen_events events)

  within : label < length before
  within = subst (λ (n : ℕ). label < n) (sym (labels_many r is before holds)) inside

  ends_come : AreEndsBy (names_then r label (seen_events events)) (items ++ items_from (length r.came) (seen_events events)) (with_more before label (seen_events events))
  ends_come =
      subst (λ (n : ℕ). AreEndsBy (map id_of r.came ++ ids_from label (n + 1) more) (items ++ new) (with_more before label more)) (sym (group_many r is before holds label))
      (subst (λ (n : ℕ). AreEndsBy (map id_of r.came ++ ids_from label (length (group_at before label) + 1) more) (items ++ items_from n more) (with_more before label more)) (length-map r.came id_of)
      (ends_more before label (group_at before label) more (map id_of r.came) items (slice_get-get_or before label [] within) are))

  pub own_come : (first : ℕ) → first ≡ length r.came → HaveOwnNumbers (items ++ items_from first (seen_events events))
  own_come first behind = subst (λ (n : ℕ). HaveOwnNumbers (items ++ items_from n more)) (sym behind) ends_come.own

  pub few_come : (first : ℕ) → first ≡ length r.came → length r.came + length events ≤ most_events → length items + length (items_from first (seen_events events)) ≤ most_items
  few_come first behind few =
      let most = ends_few (with_more before label more) (names_then r label more) (items ++ new) ends_come in
      let count : event_count (with_more before label more) ≡ event_count before + length more = count_appended before label more within in
      let came : event_count before ≡ length r.came = events_many r is before holds in
      subst (λ (n : ℕ). length items + length (items_from n more) ≤ most_items) (sym behind) (omega (arith, few, most, count, came, length-append items new, length-map events seen_event))

  -- the matcher has got their ends
  module _ (after : List SeenItem) (first : ℕ) (c : Change) (behind : first ≡ length r.came) (matched : after ≡ items ++ items_from first (seen_events events))
      (added : AreMessagesAnew items after c.added.items) (withdrawn : AreMessagesAnew after items c.withdrawn.items) where
    abbrev come : List EventId
    come = ids_from label (length (group_at r.under label) + 1) more

    all_items : after ≡ items ++ new
    all_items = matched ∙ ap (λ (n : ℕ). items ++ items_from n more) behind

    anew : AreMessagesAnew items (items ++ new) c.added.items
    anew = subst (λ (l : List SeenItem). AreMessagesAnew items l c.added.items) all_items added

    gone : AreMessagesAnew (items ++ new) items c.withdrawn.items
    gone = subst (λ (l : List SeenItem). AreMessagesAnew l items c.withdrawn.items) all_items withdrawn

    all_names : length (names_then r label more) ≡ length r.came + length events
    all_names = omega (arith, length-append (map id_of r.came) come, length-map r.came id_of, ids_many label (length (group_at r.under label) + 1) more, length-map events seen_event)

    pub ends_rematched : IsRematched before label events r after c
    ends_rematched = record {
      changes = changes_are (map id_of r.came) come items new before (with_more before label more) c are ends_come anew gone (all_differ r is label more);
      added = subst (λ (n : ℕ). AreCouplesBelow n c.added.items) all_names (added_within (map id_of r.came) come items new before (with_more before label more) c are ends_come anew gone);
      withdrawn = subst (λ (n : ℕ). AreCouplesBelow n c.withdrawn.items) (length-map r.came id_of) (gone_within (map id_of r.came) come items new before (with_more before label more) c are ends_come anew gone);
      ends = subst (λ (l : List SeenItem). AreEndsBy (names_then r label more) l (with_more before label more)) (sym all_items) ends_come;
    }
