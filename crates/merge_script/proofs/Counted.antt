-- Packets so long after the event that times are counted from.
use Rattle.std.proofs.Common.{◌≡◌, inl, inr, ◌⊎◌, ℕ, zero, suc, ◌<◌, ◌≤◌, ◌^◌, List, [], ◌∷◌, length, map, get_or, slice_get, Option, Some, None, Result, Ok, Err, option_map, All, true, refl, sym, ◌∙◌, ap, subst, arith}
use Rattle.std.specs.Prelude.{ℤ, IfOk, OnOk, IfSome, IfNone}
use Rattle.std.specs.List.{AllByRecursion}
use Rattle.std.proofs.lemmas.List.Sums.{get_or-le-sum_by}
use Rattle.std.proofs.lemmas.Option.{get_or_from_slice_get, slice_get-map, slice_get_within}
use Rattle.std.specs.List.Sorted.{IsPermutation}
use Rattle.std.proofs.lemmas.List.Elements.{All-head, recursion_from_All}
use Rattle.problem_model.specs.Bounds.{Times}
use Rattle.intervals.specs.declared.ends.Ends.{Ends}
use Rattle.decl.specs.Declaration.{Declaration}
use Rattle.mergecap.specs.MergedCapture.{Timed}
use Rattle.mergecap.specs.Packets.{all_timed, shift_of}
use Rattle.merged_blocks.specs.declared.dates.DatedPackets.{DatedPackets}
use Rattle.merged_blocks.specs.declared.since.MergedPackets.{MergedPackets}
use Rattle.merged_blocks.specs.declared.taps.Tap.{Tap}
use Rattle.merged_blocks.specs.MergedFile.{HaveEnds}
use Rattle.merged_blocks.specs.Ready.{AreDatedUnder, AreReady}
use Rattle.traces.specs.Seen.{Seen}
use Rattle.traces.specs.declared.event_id.EventId.{EventId}
use Rattle.traces.specs.Traces.{Placed, event_count, events_of}
use Rattle.traces.specs.Messages.{problem_of_seen}
use Rattle.traces.proofs.Ids.{length_events}
use Rattle.traces.proofs.Lists.{got}
use Rattle.replies.specs.Reply.{IsPlacedAt}
use Rattle.replies.proofs.Placing.{within}
use Rattle.session.specs.Settled.{HasEventOf, settled}
use Rattle.session.specs.Since.{AreCountedFrom, AreEndsFrom, IsFirstOfAll, IsOrigin}
use Rattle.session.specs.Stands.{Held, seen_held}
use Rattle.merge_script.specs.Dated.{IsCountedMergeOf, IsDatedMergeOf, IsOriginFor, KnowsEvent}
use Rattle.merge_script.specs.Turns.{AreKeptFor}
use Rattle.merge_script.proofs.AllPackets.{in_any_order}
use Rattle.merge_script.proofs.DatedMerges.{within_labels}
use Rattle.merge_script.proofs.Merges.{kept_events}

-- two things that are so of what was answered
pub both_ok : {A E : Type 0} (r : Result A E) (P Q R : A → Type 0) → ((a : A) → P a → Q a → R a) → IfOk r P → IfOk r Q → IfOk r R
both_ok (Ok a) P Q R turn p q = turn a p q
both_ok (Err e) P Q R turn p q = tt

pub so_on_ok : {A E : Type 0} (r : Result A E) (P : Type 0) → P → OnOk r P
so_on_ok (Ok a) P is = is
so_on_ok (Err e) P is = tt

-- ---- without any event there is no packet
label_counted : (seen : List (List Seen)) (k : ℕ) (own : List Seen) → slice_get seen k ≡ Some own → length own ≤ event_count seen
label_counted seen k own at =
    let here : get_or seen k own ≡ own = get_or_from_slice_get seen k own own at in
    subst (λ (s : List Seen). length s ≤ event_count seen) here (get_or-le-sum_by length seen k own (slice_get_within seen k own at))

no_event : (seen : List (List Seen)) (t : Timed) → events_of seen ≡ [] → HasEventOf seen t → ⊥
no_event seen t none (own, k, at, number, few) =
    let counted = label_counted seen t.key.place own at in
    let long = length_events seen in
    let empty : length (events_of seen) ≡ 0 = ap length none in
    omega (arith, counted, long, empty, few)

pub no_packets : (seen : List (List Seen)) (ts : List Timed) → events_of seen ≡ [] → All (HasEventOf seen) ts → ts ≡ []
no_packets seen [] none all = refl
no_packets seen (t ∷ ts) none all = absurd (no_event seen t none (All-head (HasEventOf seen) t ts all))

-- ---- the event that times are counted from
module _ (d : Declaration) (seen : List (List Seen)) where
  origin_placed : (name : Option (List ℕ)) (place : ℕ) (event : EventId) → IsOrigin d seen name place event → IsPlacedAt seen place event
  origin_placed None place event first = slice_get-map (λ (e : Placed). e.id) (events_of seen) place ∙ ap (option_map (λ (e : Placed). e.id)) first.first.there ∙ ap Some first.is
  origin_placed (Some name) place event (placed, named) = placed

  pub first_origin : (o : Option EventId) → IfSome o (λ event. (place : ℕ) × IsFirstOfAll d seen place event) → IfNone o (events_of seen ≡ []) → IsOriginFor d seen None o
  first_origin None some none = (none, refl)
  first_origin (Some event) (place, first) none = (place, first, origin_placed None place event first, tt)

  pub knows_origin : (name : Option (List ℕ)) (o : Option EventId) → IsOriginFor d seen name o → KnowsEvent (problem_of_seen d seen) name
  knows_origin name None (none, unnamed) = subst (KnowsEvent (problem_of_seen d seen)) (sym unnamed) tt
  knows_origin name (Some event) (place, origin, placed, known) = known

  -- what is told from the event is told from the origin
  pub counted_from : (ts : List Timed) (event other : EventId) (all : List Ends) → other ≡ event → ((place : ℕ) → IsPlacedAt seen place event → AreEndsFrom d seen place ts all) →
      (name : Option (List ℕ)) → IsOriginFor d seen name (Some event) → AreCountedFrom d seen name ts other all
  counted_from ts event other all same told name (place, origin, placed, known) =
      inl (place, subst (IsOrigin d seen name place) (sym same) origin, told place placed)

  pub counted_none : (ts : List Timed) (event : EventId) (all : List Ends) → all ≡ [] → All (HasEventOf seen) ts → (name : Option (List ℕ)) → IsOriginFor d seen name None → AreCountedFrom d seen name ts event all
  counted_none ts event all empty there name (none, unnamed) = inr (none, unnamed, no_packets seen ts none there, empty)

-- ---- packets of a session
module _ (h : Held) (kept : List Timed) (x : AreKeptFor h kept) where
  placed_label : (place : ℕ) (event : EventId) → IsPlacedAt (seen_held h.under) place event → event.label < length h.declaration.labels
  placed_label place event placed =
      let w = within (seen_held h.under) place event placed in
      let own = got (seen_held h.under) event.label w.label in
      within_labels h.declaration h.declaration.labels x.state.traces event.label own.0 (subst (λ (seen : List (List Seen)). slice_get seen event.label ≡ Some own.0) x.stands.events own.1)

  events_still : (times : Times) (ts : List Timed) → AllByRecursion (HasEventOf (seen_held h.under)) ts → AllByRecursion (HasEventOf (seen_held h.under)) (map (settled (seen_held h.under) times) ts)
  events_still times [] all = tt
  events_still times (t ∷ ts) all = (all.0, events_still times ts all.1)

  -- their events, in whatever order they are merged
  pub merged_events : (ordered : List Timed) (taps : List Tap) (shift : ℤ) → IsDatedMergeOf h.declaration (seen_held h.under) kept ordered taps shift → All (HasEventOf (seen_held h.under)) ordered
  merged_events ordered taps shift is =
      let m = is.merge in
      let moved = subst (λ (ts : List Timed). IsPermutation ts ordered) m.at_times.are m.arranged.same in
      in_any_order (HasEventOf (seen_held h.under)) (map (settled (seen_held h.under) m.at_times.times) kept) ordered moved
      (events_still m.at_times.times kept (recursion_from_All (HasEventOf (seen_held h.under)) kept (kept_events h kept x)))

  labels_told : (name : Option (List ℕ)) (ts : List Timed) (event : EventId) (all : List Ends) → AreCountedFrom h.declaration (seen_held h.under) name ts event all → All (λ (e : Ends). event.label < length h.declaration.labels) all
  labels_told name ts event all (inl (place, origin, from)) k e inside = placed_label place event (origin_placed h.declaration (seen_held h.under) name place event origin)
  labels_told name ts event all (inr (none, unnamed, no_packet, empty)) k e inside = let long : length all ≡ 0 = ap length empty in absurd (omega (arith, long, inside))

  pub ready_counted : (name : Option (List ℕ)) (m : MergedPackets) → AreDatedUnder h.declaration m.dated → HaveEnds m.since.event (all_timed m.dated.packets.items) m.since.ends.items →
      AreCountedFrom h.declaration (seen_held h.under) name (all_timed m.dated.packets.items) m.since.event m.since.ends.items → AreReady h.declaration m
  ready_counted name m dated ends counted = record { dated = dated; ends = ends; since = labels_told name (all_timed m.dated.packets.items) m.since.event m.since.ends.items counted }

  -- ---- what was answered of them
  module _ (o : Option EventId) (y : DatedPackets) (dated : IsDatedMergeOf h.declaration (seen_held h.under) kept (all_timed y.packets.items) y.taps.items (shift_of y.start)) where
    pub counted_ok : {E : Type 0} (r : Result MergedPackets E) → IfOk r (λ m. m.dated ≡ y)
        → IfOk r (λ m. (name : Option (List ℕ)) → IsOriginFor h.declaration (seen_held h.under) name o → AreCountedFrom h.declaration (seen_held h.under) name (all_timed y.packets.items) m.since.event m.since.ends.items)
        → IfOk r (λ m. (name : Option (List ℕ)) → IsOriginFor h.declaration (seen_held h.under) name o
        → IsCountedMergeOf h.declaration (seen_held h.under) name kept (all_timed m.dated.packets.items) m.dated.taps.items (shift_of m.dated.start) m.since.event m.since.ends.items)
    counted_ok (Err e) same counted = tt
    counted_ok (Ok m) same counted = λ name origin.
        subst (λ (z : DatedPackets). IsCountedMergeOf h.declaration (seen_held h.under) name kept (all_timed z.packets.items) z.taps.items (shift_of z.start) m.since.event m.since.ends.items) (sym same)
        (record { dated = dated; counted = counted name origin })

    pub ready_ok : AreDatedUnder h.declaration y → ((name : Option (List ℕ)) × IsOriginFor h.declaration (seen_held h.under) name o) → {E : Type 0} (r : Result MergedPackets E) → IfOk r (λ m. m.dated ≡ y)
        → IfOk r (λ m. (name : Option (List ℕ)) → IsOriginFor h.declaration (seen_held h.under) name o → AreCountedFrom h.declaration (seen_held h.under) name (all_timed y.packets.items) m.since.event m.since.ends.items)
        → IfOk r (λ m. HaveEnds m.since.event (all_timed y.packets.items) m.since.ends.items) → IfOk r (AreReady h.declaration)
    ready_ok able origin (Err e) same counted ends = tt
    ready_ok able origin (Ok m) same counted ends =
        ready_counted origin.0 m (subst (AreDatedUnder h.declaration) (sym same) able) (subst (λ (z : DatedPackets). HaveEnds m.since.event (all_timed z.packets.items) m.since.ends.items) (sym same) ends)
        (subst (λ (z : DatedPackets). AreCountedFrom h.declaration (seen_held h.under) origin.0 (all_timed z.packets.items) m.since.event m.since.ends.items) (sym same) (counted origin.0 origin.1))
