-- The events that a roster holds, by their ids.
use Rattle.std.proofs.Common.{◌≡◌, ℕ, ◌-◌, ◌<◌, ◌≤◌, zero, suc, List, [], ◌∷◌, length, map, get_or, slice_get, refl, sym, ◌∙◌, ap, subst, arith}
use Rattle.std.proofs.lemmas.List.{length-map}
use Rattle.std.proofs.lemmas.List.Elements.{All-contains}
use Rattle.std.proofs.lemmas.List.Sums.{sum_by-cons}
use Rattle.std.proofs.lemmas.Option.{same_Some, slice_get_within, get_or_from_slice_get}
use Rattle.traces.specs.Seen.{Seen}
use Rattle.traces.specs.declared.event_id.EventId.{EventId}
use Rattle.traces.specs.Traces.{Placed, event_count, events_of}
use Rattle.traces.proofs.Ids.{ids_within}
use Rattle.traces.specs.Making.{IsOneOf}
use Rattle.traces.proofs.Lists.{got}
use Rattle.roster.specs.Groups.{total, sizes_of, group_at}
use Rattle.roster.specs.Roster.{RosterLists, id_of, event_at, IsRoster, IsNumberUnder, HoldsEvents}
use Rattle.roster.specs.Told.{number_of}

-- ---- numbers
-- the number that is looked up by an id
pub number_is : (under : List (List ℕ)) (id : EventId) (v : ℕ) → IsNumberUnder under id v → number_of under id ≡ v
number_is under id v (k, number, at) =
    let place : id.number - 1 ≡ k = omega (arith, number) in
    ap (λ (n : ℕ). get_or (group_at under id.label) n 0) place ∙ get_or_from_slice_get (group_at under id.label) k v 0 at

-- it is that of an event
pub number_inside : (r : RosterLists) → IsRoster r → (id : EventId) (v : ℕ) → IsNumberUnder r.under id v → number_of r.under id < length r.came
number_inside r is id v (k, number, at) =
    let e = is.numbered id.label k v at in
    slice_get_within r.came (number_of r.under id) e.0 (ap (slice_get r.came) (number_is r.under id v (k, number, at)) ∙ e.1)

-- a number is that of one event
pub one_id : (r : RosterLists) → IsRoster r → (a b : EventId) (v : ℕ) → IsNumberUnder r.under a v → IsNumberUnder r.under b v → a ≡ b
one_id r is a b v (j, number, at) (k, number', at') =
    let e = is.numbered a.label j v at in
    let f = is.numbered b.label k v at' in
    let same : e.0 ≡ f.0 = same_Some e.0 f.0 (sym e.1 ∙ f.1) in
    ap (λ (n : ℕ). let i : EventId = record { label = a.label; number = n } in i) number
    ∙ sym e.2 ∙ ap id_of same ∙ f.2
    ∙ sym (ap (λ (n : ℕ). let i : EventId = record { label = b.label; number = n } in i) number')

-- ---- as many
same_long : (f : ℕ → ℕ) (under : List (List ℕ)) (seen : List (List Seen)) → map (map f) under ≡ map (λ (ss : List Seen). map (λ (s : Seen). s.stamp) ss) seen → (l : ℕ) → length (group_at under l) ≡ length (group_at seen l)
same_long f [] [] e zero = refl
same_long f [] [] e (suc l) = refl
same_long f [] (ss ∷ seen) e l = absurd (cc)
same_long f (vs ∷ under) [] e l = absurd (cc)
same_long f (vs ∷ under) (ss ∷ seen) e zero =
    let one : map f vs ≡ map (λ (s : Seen). s.stamp) ss = cc in
    omega (arith, ap length one, length-map vs f, length-map ss (λ (s : Seen). s.stamp))
same_long f (vs ∷ under) (ss ∷ seen) e (suc l) = let rest : map (map f) under ≡ map (λ (ss : List Seen). map (λ (s : Seen). s.stamp) ss) seen = cc in same_long f under seen rest l

all_long : (f : ℕ → ℕ) (under : List (List ℕ)) (seen : List (List Seen)) → map (map f) under ≡ map (λ (ss : List Seen). map (λ (s : Seen). s.stamp) ss) seen → total (sizes_of under) ≡ event_count seen
all_long f [] [] e = refl
all_long f [] (ss ∷ seen) e = absurd (cc)
all_long f (vs ∷ under) [] e = absurd (cc)
all_long f (vs ∷ under) (ss ∷ seen) e =
    let one : map f vs ≡ map (λ (s : Seen). s.stamp) ss = cc in
    let rest : map (map f) under ≡ map (λ (ss : List Seen). map (λ (s : Seen). s.stamp) ss) seen = cc in
    omega (arith, ap length one, length-map vs f, length-map ss (λ (s : Seen). s.stamp), all_long f under seen rest, sum_by-cons length ss seen)

-- ---- of a roster
module _ (r : RosterLists) (is : IsRoster r) (seen : List (List Seen)) (holds : HoldsEvents r seen) where
  abbrev stamp_by : ℕ → ℕ
  stamp_by v = (event_at r.came v).stamp

  pub labels_many : length seen ≡ length r.declaration.labels
  labels_many =
      let labels = is.labels in
      omega (arith, ap length holds, length-map r.under (map stamp_by), length-map seen (λ (ss : List Seen). map (λ (s : Seen). s.stamp) ss), labels)

  -- each label has as many numbers as events
  pub group_many : (label : ℕ) → length (group_at r.under label) ≡ length (group_at seen label)
  group_many label = same_long stamp_by r.under seen holds label

  pub events_many : event_count seen ≡ length r.came
  events_many = sym (all_long stamp_by r.under seen holds) ∙ is.count

  -- an event that is held stands under its label
  pub id_under : (id : EventId) → IsOneOf (events_of seen) id → (v : ℕ) × IsNumberUnder r.under id v
  id_under id (e, held, same) =
      let within = All-contains (λ (x : Placed). (x.id.label < length seen) × (1 ≤ x.id.number) × (x.id.number ≤ length (group_at seen x.id.label))) (events_of seen) e (ids_within seen) held in
      let least = within.1 in
      let most = within.2 in
      let inside : e.id.number - 1 < length (group_at r.under e.id.label) = omega (arith, least, most, group_many e.id.label) in
      let x = got (group_at r.under e.id.label) (e.id.number - 1) inside in
      subst (λ (i : EventId). (v : ℕ) × IsNumberUnder r.under i v) same (x.0, (e.id.number - 1, (let n : e.id.number ≡ suc (e.id.number - 1) = omega (arith, least) in n), x.1))
