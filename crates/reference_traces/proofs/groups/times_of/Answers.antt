use Rattle.std.proofs.Common.{rules, ◌≡◌, ◌++◌, ◌+◌, ◌∙◌, ◌∷◌, [], ℤ, List, drop, option_to_list, FitsSigned, w64, to_z-of_z, append-nil, refl, ap, sym}
use Rattle.std.specs.List.{flat_map}
use Rattle.std.proofs.lemmas.List.{at_drop_more}
use Rattle.traces.specs.declared.event_id.PlacedEvent.{PlacedEvent}
use Rattle.traces.specs.Seen.{EventKey, key_of, mark_of}
use Rattle.traces.specs.Windows.{key_in, keys_among, time_with, times_of}
use Rattle.traces.specs.Held.{placed_in, placed_of}
use Rattle.reference_traces.proofs.Latest.{taken_on, times_first}
use Rattle.reference_traces.proofs.groups.times_of.Goals.{in-Some+in_ok-push, in_default}
use Rattle.reference_traces.proofs.groups.times_of.Goals as goal

pub loop-event-preserved : goal.loop-event-preserved
loop-event-preserved c =
    let i = c.loop-event.event-index in
    let events : List PlacedEvent = c.args.events.now in
    let event : PlacedEvent = c.event-item.result in
    let key : EventKey = key_of c.args.key.now in
    let behind : List PlacedEvent = drop (i + 1) events in
    let old : List ℤ = c.loop-event.times.items in
    let own : List ℤ = flat_map (time_with key) (key_in (mark_of event.event.now.mark)) in
    let rest : List ℤ = times_of (keys_among (placed_in behind)) key in
    let all : List ℤ = times_of (keys_among (placed_in events)) key in
    let next : times_of (keys_among (placed_in (drop i events))) key ≡ own ++ rest =
    at_drop_more (λ (xs : List PlacedEvent). times_of (keys_among (placed_in xs)) key) events i event c.loop-event-test.true
    ∙ ap (λ (e : PlacedEvent). times_of (keys_among (placed_in (e ∷ behind))) key) (sym c.event-item.is)
    ∙ times_first key (placed_of event) (placed_in behind) in
    let is : old ++ (own ++ rest) ≡ all = sym (ap (λ (xs : List ℤ). old ++ xs) next) ∙ c.loop-event.invariant in
    elim c.match-time_by_mark.branch [
      | in-Some+in_ok-push w ↦
          let fits : FitsSigned w64 w.in-Some.time = search rules in
          let pushed : c.match-time_by_mark.times.items ≡ w.push.new.self.items = rw w.times-is refl in
          let time : w.in-Some.time ∷ [] ≡ own = sym (ap option_to_list w.in-Some.is) ∙ c.time_by_mark.ensures in
          let grown : c.match-time_by_mark.times.items ≡ old ++ own =
          pushed ∙ w.in_ok-push.ensures.items ∙ ap (λ (t : ℤ). old ++ t ∷ []) (to_z-of_z fits) ∙ ap (λ (ts : List ℤ). old ++ ts) time in
          taken_on old c.match-time_by_mark.times.items own rest all grown is
      | in_default w ↦
          let stays : c.match-time_by_mark.times.items ≡ old = rw w.times-is refl in
          let none : [] ≡ own = sym (ap option_to_list w.in_default.is) ∙ c.time_by_mark.ensures in
          taken_on old c.match-time_by_mark.times.items own rest all (stays ∙ sym (append-nil old) ∙ ap (λ (ts : List ℤ). old ++ ts) none) is
    ]
