-- All packets of a session, settled and dated.
use Rattle.std.proofs.Common.{◌≡◌, inl, inr, ◌⊎◌, ℕ, zero, suc, ◌<◌, List, [], ◌∷◌, ◌++◌, length, map, take, drop, get_or, slice_get, Some, All, true, Result, Ok, Err, ℤ, pos, ◌≤ℤ◌, refl, sym, ◌∙◌, ap, subst, arith}
use Rattle.std.specs.Prelude.{IfOk, IfErr, Contains, Option, None}
use Rattle.std.specs.List.Sorted.{IsPermutation}
use Rattle.std.proofs.lemmas.List.Elements.{All-contains, Contains-get_or}
use Rattle.std.proofs.lemmas.List.Sorted.{Contains-permutation, IsPermutation-sym}
use Rattle.std.proofs.lemmas.Option.{slice_get_within}
use Rattle.intervals.specs.declared.ends.Ends.{Ends}
use Rattle.decl.specs.declared.items.Label.{Label}
use Rattle.decl.specs.Declaration.{Declaration}
use Rattle.problem_model.specs.Bounds.{Times}
use Rattle.mergecap.specs.declared.start.Start.{Start}
use Rattle.mergecap.specs.declared.stored.Stored.{Stored}
use Rattle.mergecap.specs.MergedCapture.{IsArranged, IsShort, Timed}
use Rattle.mergecap.specs.Packets.{all_timed, shift_of}
use Rattle.merged_blocks.specs.declared.dates.DateError.{DateError}
use Rattle.merged_blocks.specs.declared.dates.DateError.TheVariants as errors
use Rattle.merged_blocks.specs.declared.dates.DatedPackets.{DatedPackets}
use Rattle.merged_blocks.specs.declared.taps.Tap.{Tap}
use Rattle.merged_blocks.specs.Taps.{AreTapsOf, tap_of}
use Rattle.merged_blocks.specs.MergedFile.{AreDated, HasManyTaps, IsDateFault}
use Rattle.merged_blocks.specs.declared.since.MergedPackets.{MergedPackets}
use Rattle.merged_blocks.specs.MergedFile.{HaveEnds}
use Rattle.merged_blocks.specs.Ready.{AreDatedUnder, AreReady}
use Rattle.traces.specs.Seen.{Seen}
use Rattle.traces.specs.declared.event_id.EventId.{EventId}
use Rattle.traces.specs.Traces.{Traces, seen_by, seen_under}
use Rattle.traces.specs.Messages.{problem_of_seen}
use Rattle.traces.proofs.Members.{here, there, head_or_tail, none_in}
use Rattle.queries.specs.Consistent.{IsConsistent}
use Rattle.session.specs.Dates.{AreDatedBy}
use Rattle.session.specs.Settled.{HasEventOf, AreSettled, settled}
use Rattle.session.specs.Stands.{Held, seen_held}
use Rattle.session.specs.Script.{Devices, OfScript}
use Rattle.session.proofs.Places.{of_script}
use Rattle.merge_script.specs.declared.unmerged.Unmerged.{Unmerged}
use Rattle.merge_script.specs.declared.unmerged.Unmerged.TheVariants as ends
use Rattle.merge_script.specs.Gathered.{AddsScript}
use Rattle.merge_script.specs.Merged.{OfAllAdded}
use Rattle.merge_script.specs.Turns.{AreKeptFor, GathersAll}
use Rattle.merge_script.specs.Dated.{DatesNot, IsCountedMergeOf, IsDatedMergeOf, IsOriginFor, IsUndated, KnowsEvent, LacksFile, MergesDated, undated}
use Rattle.merge_script.proofs.Merges.{given_back, given_short, kept_events, settles_all}

-- ---- taps of packets at other times
module _ (seen : List (List Seen)) (times : Times) where
  from_map : (ts : List Timed) (a : Timed) → Contains (map (settled seen times) ts) a → (t : Timed) × Contains ts t × (settled seen times t ≡ a)
  from_map [] a has = absurd (none_in a has)
  from_map (t ∷ ts) a has = by (head_or_tail (settled seen times t) a (map (settled seen times) ts) has) (from_map ts a)
    where
      by : (settled seen times t ≡ a) ⊎ Contains (map (settled seen times) ts) a → (Contains (map (settled seen times) ts) a → (u : Timed) × Contains ts u × (settled seen times u ≡ a)) →
          (u : Timed) × Contains (t ∷ ts) u × (settled seen times u ≡ a)
      by (inl e) more = (t, here t ts, e)
      by (inr rest) more = let u = more rest in (u.0, there t u.0 ts u.1, u.2)

  into_map : (ts : List Timed) (t : Timed) → Contains ts t → Contains (map (settled seen times) ts) (settled seen times t)
  into_map [] t has = absurd (none_in t has)
  into_map (u ∷ ts) t has = by (head_or_tail u t ts has) (into_map ts t)
    where
      by : (u ≡ t) ⊎ Contains ts t → (Contains ts t → Contains (map (settled seen times) ts) (settled seen times t)) → Contains (map (settled seen times) (u ∷ ts)) (settled seen times t)
      by (inl e) more = subst (λ (v : Timed). Contains (map (settled seen times) (u ∷ ts)) (settled seen times v)) e (here (settled seen times u) (map (settled seen times) ts))
      by (inr rest) more = there (settled seen times u) (settled seen times t) (map (settled seen times) ts) (more rest)

  taps_before : (ts : List Timed) (taps : List Tap) → AreTapsOf (map (settled seen times) ts) taps → AreTapsOf ts taps
  taps_before ts taps are = record {
    each = λ tap has. (
        let a = are.each tap has in
        let t = from_map ts a.0 a.1 in
        (t.0, t.1, ap tap_of t.2 ∙ a.2));
    every = λ t has. are.every (settled seen times t) (into_map ts t has);
    sorted = are.sorted;
  }

-- ---- labels
pub within_labels : (d : Declaration) (labels : List Label) (traces : Traces) (k : ℕ) (own : List Seen) → slice_get (seen_under d labels traces) k ≡ Some own → k < length labels
within_labels d [] traces k own at = absurd cc
within_labels d (l ∷ labels) [] k own at = absurd cc
within_labels d (l ∷ labels) (t ∷ traces) zero own at = omega arith
within_labels d (l ∷ labels) (t ∷ traces) (suc k) own at = let inside = within_labels d labels traces k own at in omega (arith, inside)

-- a packet of a session is under one of its labels
place_inside : (h : Held) (kept : List Timed) (x : AreKeptFor h kept) (t : Timed) → Contains kept t → t.key.place < length h.declaration.labels
place_inside h kept x t has =
    let event = All-contains (HasEventOf (seen_held h.under)) kept t (kept_events h kept x) has in
    within_labels h.declaration h.declaration.labels x.state.traces t.key.place event.0
    (subst (λ (seen : List (List Seen)). slice_get seen t.key.place ≡ Some event.0) x.stands.events event.2)

-- ---- all packets of a session, settled and given back
module _ (h : Held) (old lent new : List Stored) (n : ℕ) (so : IsConsistent (problem_of_seen h.declaration (seen_held h.under)) true) (lent_is : lent ≡ old) (count : n ≡ length old)
    (settles : AreSettled h.declaration (seen_held h.under) (all_timed lent) (all_timed new)) where
  all_settled : AreSettled h.declaration (seen_held h.under) (all_timed old) (all_timed new)
  all_settled = settles_all h old lent new n so lent_is count settles

  back : take n (new ++ drop (length new) old) ≡ new
  back = given_back h old lent new n so lent_is count settles

  module _ (ordered : List Timed) (arranged : IsArranged (all_timed (take n (new ++ drop (length new) old))) ordered) where
    order_is : IsArranged (all_timed new) ordered
    order_is = subst (λ (xs : List Stored). IsArranged (all_timed xs) ordered) back arranged

    pub given_dated : (taps : List Tap) (shift : ℤ) → AreDated ordered taps shift → AreDatedBy h.declaration (seen_held h.under) shift → IsDatedMergeOf h.declaration (seen_held h.under) (all_timed old) ordered taps shift
    given_dated taps shift dated dates = record { merge = record { settled = all_timed new; at_times = all_settled; arranged = order_is }; dates = dates; taps_are = dated.are_taps }

    -- each of its taps is under a label
    pub given_labels : AreKeptFor h (all_timed old) → (taps : List Tap) → AreTapsOf ordered taps → All (λ (tap : Tap). tap.place < length h.declaration.labels) taps
    given_labels x taps are k tap inside =
        let a = are.each (get_or taps k tap) (Contains-get_or taps k tap inside) in
        let b : Contains (all_timed new) a.0 = Contains-permutation ordered (all_timed new) a.0 (IsPermutation-sym (all_timed new) ordered order_is.same) a.1 in
        let t = from_map (seen_held h.under) all_settled.times (all_timed old) a.0 (subst (λ (ts : List Timed). Contains ts a.0) all_settled.are b) in
        let same : t.0.key.place ≡ (get_or taps k tap).place = ap (λ (u : Timed). u.key.place) t.2 ∙ ap (λ (u : Tap). u.place) a.2 in
        subst (λ (p : ℕ). p < length h.declaration.labels) same (place_inside h (all_timed old) x t.0 t.1)

  -- why there is no file of them
  pub given_lacks_file : (shift : ℤ) → AreDatedBy h.declaration (seen_held h.under) shift → (why : Unmerged) → IsUndated (all_timed (take n (new ++ drop (length new) old))) shift why →
      (name : Option (List ℕ)) → KnowsEvent (problem_of_seen h.declaration (seen_held h.under)) name → LacksFile h.declaration (seen_held h.under) name (all_timed old) why
  given_lacks_file shift dates why (e, fault, is) name known =
      subst (LacksFile h.declaration (seen_held h.under) name (all_timed old)) (sym is) (lacks e (subst (λ (xs : List Stored). IsDateFault (all_timed xs) shift e) back fault))
    where
      lacks : (e : DateError) → IsDateFault (all_timed new) shift e → LacksFile h.declaration (seen_held h.under) name (all_timed old) (undated e)
      lacks errors.Range (inl late) = (so, known, inl (record { settled = all_timed new; at_times = all_settled; shift = shift; dates = dates; without = late }))
      lacks errors.Range (inr (taps, are, many)) =
          (so, known, inr (taps, taps_before (seen_held h.under) all_settled.times (all_timed old) taps (subst (λ (ts : List Timed). AreTapsOf ts taps) all_settled.are are), many))
      lacks errors.Memory none = tt

  -- what was answered of them
  module _ (start : Start) where
    pub dated_all : AreDatedBy h.declaration (seen_held h.under) (shift_of start) → {E : Type 0} (r : Result DatedPackets E) → IfOk r (λ x. IsArranged (all_timed (take n (new ++ drop (length new) old))) (all_timed x.packets.items)) → IfOk r (λ x. x.start ≡ start)
        → IfOk r (λ x. AreDated (all_timed x.packets.items) x.taps.items (shift_of start))
        → IfOk r (λ x. IsDatedMergeOf h.declaration (seen_held h.under) (all_timed old) (all_timed x.packets.items) x.taps.items (shift_of x.start))
    dated_all dates (Ok x) arranged begins dated =
        subst (λ (s : Start). IsDatedMergeOf h.declaration (seen_held h.under) (all_timed old) (all_timed x.packets.items) x.taps.items (shift_of s)) (sym begins)
        (given_dated (all_timed x.packets.items) arranged x.taps.items (shift_of start) dated dates)
    dated_all dates (Err e) arranged begins dated = tt

    pub ready_all : AreKeptFor h (all_timed old) → pos 0 ≤ℤ start.time → {E : Type 0} (r : Result DatedPackets E) → IfOk r (λ x. IsArranged (all_timed (take n (new ++ drop (length new) old))) (all_timed x.packets.items)) → IfOk r (λ x. x.start ≡ start)
        → IfOk r (λ x. AreDated (all_timed x.packets.items) x.taps.items (shift_of start)) → IfOk r (AreDatedUnder h.declaration)
    ready_all x zero_first (Ok y) arranged begins dated = record {
      dated = subst (λ (s : Start). AreDated (all_timed y.packets.items) y.taps.items (shift_of s)) (sym begins) dated;
      short = given_short h old lent new n so lent_is count settles x (all_timed y.packets.items) arranged;
      time = subst (λ (s : Start). pos 0 ≤ℤ s.time) (sym begins) zero_first;
      labels = given_labels (all_timed y.packets.items) arranged x y.taps.items dated.are_taps;
    }
    ready_all x zero_first (Err e) arranged begins dated = tt

-- ---- of the script
module _ (d : Declaration) (old new : Devices) (h : Held) (kept : List Timed) (all : GathersAll d old new h kept) where
  -- what is so of the packets that are held is so of all that were added
  of_all : (Says : List (List Seen) → List Timed → Type 0) → Says (seen_held h.under) kept → OfScript old.input.left (OfAllAdded d old new Says)
  of_all Says says =
      let s = all.are.state in
      let same : seen_held h.under ≡ seen_by d s.traces = all.are.stands.events ∙ ap (λ (x : Declaration). seen_by x s.traces) all.declared in
      of_script old.input.left (AddsScript d old new s) (OfAllAdded d old new Says)
      (λ script adds. record { state = s; adds = adds; all = kept; are = all.are.all; says = subst (λ (seen : List (List Seen)). Says seen kept) same says }) all.adds

  pub merges_dated : (name : Option (List ℕ)) (ordered : List Timed) (taps : List Tap) (shift : ℤ) (since : EventId) (each : List Ends) → IsCountedMergeOf h.declaration (seen_held h.under) name kept ordered taps shift since each →
      MergesDated d name old new ordered taps shift since each
  merges_dated name ordered taps shift since each is =
      of_all (λ seen ts. IsCountedMergeOf d seen name ts ordered taps shift since each) (subst (λ (x : Declaration). IsCountedMergeOf x (seen_held h.under) name kept ordered taps shift since each) all.declared is)

  lacks_all : (name : Option (List ℕ)) (why : Unmerged) → LacksFile d (seen_held h.under) name kept why → DatesNot d name old new why
  lacks_all name (ends.Refused said) lacks = inr (of_all (λ seen ts. LacksFile d seen name ts (ends.Refused said)) lacks)
  lacks_all name ends.Size lacks = absurd lacks
  lacks_all name ends.Inconsistent lacks = of_all (λ seen ts. LacksFile d seen name ts ends.Inconsistent) lacks
  lacks_all name ends.Links lacks = absurd lacks
  lacks_all name ends.Range lacks = of_all (λ seen ts. LacksFile d seen name ts ends.Range) lacks
  lacks_all name ends.ReadFault lacks = absurd lacks
  lacks_all name ends.Limit lacks = absurd lacks
  lacks_all name ends.Memory lacks = tt

  pub dates_not : (name : Option (List ℕ)) → {A : Type 0} (r : Result A Unmerged) → IfErr r (LacksFile h.declaration (seen_held h.under) name kept) → IfErr r (DatesNot d name old new)
  dates_not name (Ok a) lacks = tt
  dates_not name (Err why) lacks = lacks_all name why (subst (λ (x : Declaration). LacksFile x (seen_held h.under) name kept why) all.declared lacks)

  pub ready_by : {E : Type 0} (r : Result MergedPackets E) → IfOk r (AreReady h.declaration) → IfOk r (AreReady d)
  ready_by (Ok x) ready = subst (λ (declaration : Declaration). AreReady declaration x) all.declared ready
  ready_by (Err e) ready = tt

  pub dated_by : (name : Option (List ℕ)) → {E : Type 0} (r : Result MergedPackets E)
      → IfOk r (λ x. IsCountedMergeOf h.declaration (seen_held h.under) name kept (all_timed x.dated.packets.items) x.dated.taps.items (shift_of x.dated.start) x.since.event x.since.ends.items)
      → IfOk r (λ x. MergesDated d name old new (all_timed x.dated.packets.items) x.dated.taps.items (shift_of x.dated.start) x.since.event x.since.ends.items)
  dated_by name (Ok x) is = merges_dated name (all_timed x.dated.packets.items) x.dated.taps.items (shift_of x.dated.start) x.since.event x.since.ends.items is
  dated_by name (Err e) is = tt
