-- A session in which nothing was added.
use Rattle.std.proofs.Common.{◌≡◌, List, [], map, true, sym, ◌∙◌, subst}
use Rattle.std.proofs.lemmas.List.{length-map}
use Rattle.decl.specs.declared.items.Label.{Label}
use Rattle.traces.specs.Seen.{Seen, seen_events}
use Rattle.traces.specs.declared.accepted.Accepted.{Accepted}
use Rattle.traces.specs.declared.event_id.EventId.{EventId}
use Rattle.traces.specs.Held.{seen_in}
use Rattle.session_answers.specs.declared.answers.Answers.{Answers}
use Rattle.replies.specs.Reply.{AreKept}
use Rattle.session_answers.specs.Ready.{AreAnswersOf, declared}
use Rattle.session.specs.Stands.{held_parts, solver_of, under_of}
use Rattle.session.specs.Inside.{AreEmpty}
use Rattle.session.proofs.Accepting.{IsWhole, held_ready}
use Rattle.session_answers.proofs.Beginning.{all_nothing, nothing_for}
use Rattle.replies.proofs.KeptEvents.{none_kept}
use Rattle.session.proofs.Starting.{held_start, nothing_seen, each_empty}

-- no label has any event
nothing_under : (a : Answers) (accepted : List Accepted) → AreEmpty (map under_of accepted) (declared a).labels → map (λ (l : Label). []) (declared a).labels ≡ seen_in accepted
nothing_under a accepted empty =
    let labels = (declared a).labels in
    all_nothing (map (λ (l : Label). []) labels) (seen_in accepted) (nothing_for labels) (nothing_seen accepted labels empty)
    (length-map labels (λ (l : Label). let e : List Seen = [] in e) ∙ sym (each_empty (map under_of accepted) labels empty) ∙ length-map accepted under_of ∙ sym (length-map accepted (λ (x : Accepted). seen_events x.events.items)))

pub whole_start : (accepted : List Accepted) (kept : List EventId) (a : Answers) → AreEmpty (map under_of accepted) (declared a).labels →
    AreAnswersOf (map (λ (l : Label). []) (declared a).labels) [] a → kept ≡ [] → IsWhole accepted kept true a
whole_start accepted kept a empty are none =
    let here : AreAnswersOf (seen_in accepted) kept a = subst (λ (events : List EventId). AreAnswersOf (seen_in accepted) events a) (sym none)
    (subst (λ (x : List (List Seen)). AreAnswersOf x [] a) (nothing_under a accepted empty) are) in (
      held_ready accepted kept true a (held_start (held_parts (declared a) accepted kept (solver_of true a)) are.lawful.declared empty) (λ e. here),
      subst (λ (events : List EventId). AreKept (seen_in accepted) events) (sym none) (none_kept (seen_in accepted)),
      λ e. here,
    )
