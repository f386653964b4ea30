-- The ends of messages among the events of all labels: how they are counted, and which labels they have.
use Rattle.std.proofs.Common.{◌≡◌, ◌<◌, ◌≤◌, ℕ, suc, List, [], ◌∷◌, ◌++◌, length, map, get_or, All, sym, subst, ◌∙◌, arith}
use Rattle.std.specs.Prelude.{filter}
use Rattle.std.proofs.lemmas.List.{length-map}
use Rattle.std.proofs.lemmas.List.Elements.{All-append, All-cons, All-filter, All-head, All-map, All-nil, All-tail}
use Rattle.std.proofs.lemmas.List.Sorted.{length_permutation}
use Rattle.problem_model.specs.Limits.{most_events, most_items}
use Rattle.decl.specs.Declaration.{Declaration}
use Rattle.traces.specs.declared.event.Side.{Side}
use Rattle.traces.specs.declared.event.Side.TheVariants.{Send, Receive}
use Rattle.traces.specs.Seen.{EventKey, Seen, SeenMark, Keyed, Unkeyed}
use Rattle.traces.specs.declared.event_id.EventId.{EventId}
use Rattle.traces.specs.Traces.{Placed, event_count, events_of}
use Rattle.traces.specs.Windows.{by_group, grouped, keys_among}
use Rattle.traces.proofs.Ids.{ids_within, length_events}
use Rattle.msg_match.specs.Groups.{SeenItem}
use Rattle.msg_match.specs.Messages.{tallies}
use Rattle.msg_match.specs.Windowed.{grouped_items}
use Rattle.msg_match.specs.Ends.{AreEndsBy, End, end_at, end_by_mark, ends_among, name_as_came}
use Rattle.msg_match.specs.Ambiguous.{ambiguous_ends, ambiguous_keys, end_group, is_end, tallies_of}
use Rattle.msg_match.proofs.ByNumber.{tallies_by, tallies_of_moved}
use Rattle.msg_match.proofs.GroupedEnds.{ends_grouped}
use Rattle.report.specs.Inside.{AreLabelled, HasLabels}

-- ---- counts
-- those of the events by number, in whatever order they came
pub counts_told : (ids : List EventId) (items : List SeenItem) (seen : List (List Seen)) → AreEndsBy ids items seen → tallies (grouped_items items) ≡ tallies_of (ends_among (grouped (events_of seen)))
counts_told ids items seen are =
    let groups : List SeenItem = grouped_items items in
    sym (tallies_by (name_as_came ids) groups) ∙ sym (tallies_of_moved (ends_among (grouped (events_of seen))) (map (end_at ids) groups) (ends_grouped ids items seen are))

-- they are no more than the events
one_more : (id : EventId) (mark : SeenMark) (ends : List End) (n : ℕ) → length ends ≤ n → length (end_by_mark id mark ++ ends) ≤ suc n
one_more id (Unkeyed reason) ends n few = omega (arith, few)
one_more id (Keyed key side) ends n few = omega (arith, few)

ends_few : (events : List Placed) → length (ends_among events) ≤ length events
ends_few [] = omega arith
ends_few (e ∷ events) = one_more e.id e.seen.mark (ends_among events) (length events) (ends_few events)

pub items_few : (ids : List EventId) (items : List SeenItem) (seen : List (List Seen)) → AreEndsBy ids items seen → event_count seen ≤ most_events → length items ≤ most_items
items_few ids items seen are few =
    let ends : List End = ends_among (events_of seen) in
    omega (arith, length-map items (end_at ids), length_permutation ends (map (end_at ids) items) are.ends, ends_few (events_of seen), length_events seen, few)

-- ---- labels
IsLabelled : Declaration → End → Type 0
IsLabelled d e = e.id.label < length d.labels

one_labelled : (d : Declaration) (id : EventId) (mark : SeenMark) → id.label < length d.labels → All (IsLabelled d) (end_by_mark id mark)
unfolding IsLabelled
one_labelled d id (Unkeyed reason) below = All-nil (IsLabelled d)
one_labelled d id (Keyed key side) below = All-cons (IsLabelled d) _ [] below (All-nil (IsLabelled d))

ends_labelled : (d : Declaration) (events : List Placed) → All (λ (e : Placed). e.id.label < length d.labels) events → All (IsLabelled d) (ends_among events)
ends_labelled d [] below = All-nil (IsLabelled d)
ends_labelled d (e ∷ events) below =
    let P : Placed → Type 0 = λ x. x.id.label < length d.labels in
    All-append (IsLabelled d) (end_by_mark e.id e.seen.mark) (ends_among events) (one_labelled d e.id e.seen.mark (All-head P e events below)) (ends_labelled d events (All-tail P e events below))

side_labelled : (d : Declaration) (ends : List End) (key : EventKey) (side : Side) → All (IsLabelled d) ends → AreLabelled d (map (λ (e : End). e.id) (filter (is_end key side) ends))
unfolding IsLabelled
side_labelled d ends key side below = All-map (λ (id : EventId). id.label < length d.labels) (λ (e : End). e.id) (filter (is_end key side) ends) (All-filter (is_end key side) (IsLabelled d) ends below)

-- each event of an ambiguous key has a label of the declaration
pub keys_labelled : (d : Declaration) (seen : List (List Seen)) → length seen ≡ length d.labels → All (HasLabels d) (ambiguous_ends (ends_among (grouped (events_of seen))))
keys_labelled d seen same =
    let events : List Placed = events_of seen in
    let ends : List End = ends_among (grouped events) in
    let below : All (IsLabelled d) ends =
    ends_labelled d (grouped events) (All-map (λ (e : Placed). e.id.label < length d.labels) (by_group (keys_among events)) events
    (λ k x within. subst (λ (n : ℕ). (get_or events k x).id.label < n) same (ids_within seen k x within).0)) in
    All-map (HasLabels d) (end_group ends) (ambiguous_keys ends) (λ k x within. (side_labelled d ends _ Send below, side_labelled d ends _ Receive below))
