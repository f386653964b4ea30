-- The text of what a roster holds, by the roster alone.
use Rattle.std.specs.Prelude.{◌≡◌, ◌<◌, ℕ, List, [], ◌∷◌, ◌++◌, Bool, ◌&&◌, not, ◌==◌, if◌then◌else◌, length, slice_get, Option, Some, None, option_to_list, codes}
use Rattle.std.specs.List.{flat_map}
use Rattle.atto.specs.Decimal.{decimal_of}
use Rattle.line_format.specs.Words.{line_of}
use Rattle.problem_model.specs.ProblemText.{clock_line, follow_line, event_line, most_word, own_head, plain_head}
use Rattle.decl.specs.Declaration.{Declaration, link_bounds, follow_from, follows_of, has_own_bounds}
use Rattle.traces.specs.declared.event_id.EventId.{EventId}
use Rattle.traces.specs.Traces.{name_of, host_of}
use Rattle.roster.specs.declared.came.Came.{Came}
use Rattle.roster.specs.declared.came.Partner.{Partner}
use Rattle.roster.specs.Roster.{RosterLists, id_of, event_at, listed}
use Rattle.roster.specs.Rosters.{named_event}

-- the other end of each message is an event
abbrev pub HasPartners : RosterLists → Type 0
HasPartners r = (v : ℕ) (e : Came) (p : Partner) → slice_get r.came v ≡ Some e → e.partner ≡ Some p → p.event < length r.came

-- the line of the follow from the clock at place k to the next one, if there is one
abbrev pub next_line : Declaration → ℕ → List ℕ
next_line d k = flat_map (follow_line d.clocks) (option_to_list (follow_from d k))

-- the line of event v
abbrev pub came_line : RosterLists → ℕ → List ℕ
came_line r v = event_line r.declaration.clocks (named_event r.declaration (event_at r.came v))

-- the line of a message from one event to another, with the bounds of the link between their hosts
abbrev pub couple_line : Declaration → EventId → EventId → List ℕ
couple_line d send receive =
    let bounds = link_bounds d (host_of d send) (host_of d receive) in
    line_of (codes "message" ∷ name_of d send ∷ name_of d receive ∷ decimal_of bounds.0 ∷ most_word bounds.1 ∷ [])

-- the line of the message that is told of at its send, if one is
abbrev pub partner_line : RosterLists → EventId → Option Partner → List ℕ
partner_line r send None = []
partner_line r send (Some p) = couple_line r.declaration send (id_of (event_at r.came p.event))

-- the line of the message that event v sends, if it sends one
abbrev pub sent_line : RosterLists → ℕ → List ℕ
sent_line r v = partner_line r (id_of (event_at r.came v)) (event_at r.came v).partner

-- the lines of the events, by label and then by number
abbrev pub came_lines : RosterLists → List ℕ
came_lines r = flat_map (λ (e : ℕ × ℕ). came_line r e.0) (listed r).events

-- the lines of the messages that they send, in the same order
abbrev pub sent_lines : RosterLists → List ℕ
sent_lines r = flat_map (λ (e : ℕ × ℕ). sent_line r e.0) (listed r).events

-- its events have bounds of their own: some label gives any, and there is an event
abbrev pub has_bounds : RosterLists → Bool
has_bounds r = has_own_bounds r.declaration && not (length (listed r).events == 0)

-- the words of the first line
abbrev pub roster_head : RosterLists → List (List ℕ)
roster_head r = if has_bounds r then own_head else plain_head (follows_of r.declaration)

-- the whole text: the head of its version, clocks, follows, events by label and number, the messages that they send,
-- the end
abbrev pub roster_text : RosterLists → List ℕ
roster_text r = line_of (roster_head r) ++ flat_map clock_line r.declaration.clocks ++ flat_map (follow_line r.declaration.clocks) (follows_of r.declaration) ++ came_lines r ++ sent_lines r ++ line_of (codes "end" ∷ [])
