-- Events without keys, counted one after another.
use Rattle.std.proofs.Common.{◌≡◌, ◌<◌, ◌≤◌, ◌+◌, ◌^◌, ℕ, List, [], ◌∷◌, length, take, get_or, Bool, cond, inl, inr, refl, ap, sym, subst, ◌∙◌, arith}
use Rattle.std.specs.Prelude.{sum_by}
use Rattle.std.proofs.lemmas.Bool.{cases_Bool}
use Rattle.std.proofs.lemmas.List.{get_or-map, length-map}
use Rattle.std.proofs.lemmas.List.Sums.{count_by-le-length, count_by_more_no, count_by_more_yes, get_or-le-sum_by, sum_by-append, sum_by-cons, sum_by_more, sum_by_more_le_part}
use Rattle.problem_model.specs.Limits.{most_events}
use Rattle.traces.specs.declared.event.Event.{Event}
use Rattle.traces.specs.declared.event.NoKey.{NoKey}
use Rattle.traces.specs.Seen.{Seen, mark_of, seen_event, seen_events}
use Rattle.traces.specs.declared.accepted.Accepted.{Accepted}
use Rattle.traces.specs.Traces.{Placed, event_count, events_from, events_of, numbered}
use Rattle.traces.specs.Held.{seen_in}
use Rattle.report.specs.Reports.{count_without, has_no_key_for}
use Rattle.report.specs.Inside.{lacking}

-- ---- one label
-- the count with the event at a place is one more where it lacks a key for this reason
pub one_more : (events : List Event) (reason : NoKey) (i : ℕ) (x : Event) (b : Bool) (n m : ℕ) → i < length events → x ≡ get_or events i x
    → b ≡ has_no_key_for reason (mark_of x.mark) → n ≡ lacking reason (take i (seen_events events)) → m ≡ cond b (n + 1) n
    → m ≡ lacking reason (take (i + 1) (seen_events events))
one_more events reason i x b n m inside is test so_far next =
    let all : List Seen = seen_events events in
    let p : Seen → Bool = λ s. has_no_key_for reason s.mark in
    let within : i < length all = subst (λ (k : ℕ). i < k) (sym (length-map events seen_event)) inside in
    let at : get_or all i (seen_event x) ≡ seen_event x = get_or-map seen_event events i x (seen_event x) inside ∙ ap seen_event (sym is) in
    elim (cases_Bool b) [
      | inl passes ↦ (
          next ∙ ap (λ (c : Bool). cond c (n + 1) n) passes ∙ ap (λ (k : ℕ). k + 1) so_far
          ∙ sym (count_by_more_yes p all i (seen_event x) within (ap p at ∙ sym test ∙ passes))
          )
      | inr fails ↦ next ∙ ap (λ (c : Bool). cond c (n + 1) n) fails ∙ so_far ∙ sym (count_by_more_no p all i (seen_event x) within (ap p at ∙ sym test ∙ fails))
    ]

-- ---- all labels
numbered_lacking : (reason : NoKey) (label n : ℕ) (seen : List Seen) → count_without (numbered label n seen) reason ≡ lacking reason seen
numbered_lacking reason label n [] = refl
numbered_lacking reason label n (s ∷ seen) =
    let e : Placed = record { id = record { label = label; number = n }; seen = s } in
    omega (
      arith,
      sum_by-cons (λ (x : Placed). cond (has_no_key_for reason x.seen.mark) 1 0) e (numbered label (n + 1) seen),
      sum_by-cons (λ (x : Seen). cond (has_no_key_for reason x.mark) 1 0) s seen,
      numbered_lacking reason label (n + 1) seen,
    )

from_lacking : (reason : NoKey) (label : ℕ) (seen : List (List Seen)) → count_without (events_from label seen) reason ≡ sum_by (lacking reason) seen
from_lacking reason label [] = refl
from_lacking reason label (s ∷ seen) =
    omega (
      arith,
      sum_by-append (λ (x : Placed). cond (has_no_key_for reason x.seen.mark) 1 0) (numbered label 1 s) (events_from (label + 1) seen),
      numbered_lacking reason label 1 s,
      from_lacking reason (label + 1) seen,
      sum_by-cons (lacking reason) s seen,
    )

-- what lacks a key among all events does so under some label
pub all_lacking : (reason : NoKey) (seen : List (List Seen)) → count_without (events_of seen) reason ≡ sum_by (lacking reason) seen
all_lacking reason seen = from_lacking reason 0 seen

module _ (accepted : List Accepted) (reason : NoKey) (i : ℕ) (x : Accepted) (inside : i < length accepted) (is : x ≡ get_or accepted i x) where
  under : Accepted → List Seen
  under a = seen_events a.events.items

  within : i < length (seen_in accepted)
  unfolding under
  within = subst (λ (k : ℕ). i < k) (sym (length-map accepted under)) inside

  at : get_or (seen_in accepted) i (under x) ≡ under x
  unfolding under
  at = get_or-map under accepted i x (under x) inside ∙ ap under (sym is)

  -- a label has no more events than all have
  pub few_under : event_count (seen_in accepted) ≤ most_events → length x.events.items ≤ most_events
  unfolding under
  few_under few =
      omega (arith, get_or-le-sum_by length (seen_in accepted) i (under x) within, ap length at, length-map x.events.items seen_event, few)

  -- the counts fit
  pub count_fits : (n m : ℕ) → n ≡ sum_by (lacking reason) (take i (seen_in accepted)) → m ≡ lacking reason (seen_events x.events.items) → event_count (seen_in accepted) ≤ most_events → n + m < 2 ^ 32
  unfolding under
  count_fits n m so_far here few =
      let p : Seen → Bool = λ s. has_no_key_for reason s.mark in
      let part : (l : List Seen) → lacking reason l ≤ length l = count_by-le-length p in
      let joined = sum_by_more_le_part (lacking reason) length (seen_in accepted) i (under x) within part in
      omega (arith, joined, ap length at, part (under x), so_far, here, few)

  -- and with this label they are the next ones
  pub label_more : (n m : ℕ) → n ≡ sum_by (lacking reason) (take i (seen_in accepted)) → m ≡ lacking reason (seen_events x.events.items) → n + m ≡ sum_by (lacking reason) (take (i + 1) (seen_in accepted))
  unfolding under
  label_more n m so_far here = omega (arith, so_far, here, sum_by_more (lacking reason) (seen_in accepted) i (under x) within, ap (lacking reason) at)
