-- One more event that is kept.
use Rattle.std.proofs.Common.{◌≡◌, inl, inr, ℕ, zero, suc, ◌+◌, ◌-◌, List, [], ◌∷◌, ◌++◌, length, map, replicate, Option, Some, None, Result, Ok, Err, IfOk, OnOk, OnErr, cond, not, refl, sym, ◌∙◌, ap, subst, arith, length-append}
use Rattle.std.specs.Prelude.{max, count_by}
use Rattle.std.proofs.lemmas.List.{length-map, length-replicate}
use Rattle.std.proofs.lemmas.List.Sums.{sum_by-append, sum_by-cons}
use Rattle.problem_model.specs.Problem.{ProblemLists}
use Rattle.problem.specs.Line.{HasEvent}
use Rattle.problem.specs.Listing.{Listed, all_readings}
use Rattle.roster.specs.Roster.{Finds, listed}
use Rattle.traces.specs.Seen.{Seen}
use Rattle.traces.specs.declared.event_id.EventId.{EventId}
use Rattle.row_pool.specs.Pool.{Pool, PoolRow, free_rows, widened_row, free_row, grown}
use Rattle.repair.specs.declared.slot.Slot.{Slot}
use Rattle.repair.specs.Slots.{slot_of}
use Rattle.repair.specs.Keeping.{IsSlotNumber}
use Rattle.solver.specs.Solver.{SolverLists}
use Rattle.session_answers.specs.declared.answers.Answers.{Answers}
use Rattle.replies.specs.declared.outcome.Outcome.{Outcome}
use Rattle.replies.specs.declared.outcome.Outcome.TheVariants.{Added, Kept, Refused}
use Rattle.replies.specs.declared.refusal.Refusal.TheVariants.{UnknownEvent}
use Rattle.replies.specs.Refusals.{refusal_line}
use Rattle.replies.specs.Outcomes.{outcome_line}
use Rattle.replies.specs.Reply.{IsPlacedAt, IsAmong, KeepReply, kept_line, AreKept}
use Rattle.session_answers.specs.Ready.{AreSlotsOf, AreAnswersOf, KeepsSource, answers_problem, declared}
use Rattle.session_answers.specs.Keeping.{IsKeptNext, IsCalled}
use Rattle.problem.proofs.OwnReadings.{own_readings}
use Rattle.session_answers.proofs.RosterEvents.{event_place, placed_at, called}
use Rattle.session_answers.proofs.Slotting.{has_place, not_among, slots_more}
use Rattle.replies.proofs.KeptEvents.{kept_more}
use Rattle.session_answers.proofs.Engines.{kept_stays}
use Rattle.session_answers.proofs.AskedRows.{none_called, with_engine}

-- ---- more rows
abbrev one_free : PoolRow → ℕ
one_free row = cond (not row.taken) 1 0

widened_free : (width : ℕ) (rows : List PoolRow) → count_by (λ (row : PoolRow). not row.taken) (map (widened_row width) rows) ≡ count_by (λ (row : PoolRow). not row.taken) rows
widened_free width [] = refl
widened_free width (r ∷ rows) =
    let new = sum_by-cons one_free (widened_row width r) (map (widened_row width) rows) in
    let old = sum_by-cons one_free r rows in
    let rest = widened_free width rows in
    let same : one_free (widened_row width r) ≡ one_free r = refl in
    omega (arith, new, old, rest, same)

count_free : (n width : ℕ) → count_by (λ (row : PoolRow). not row.taken) (replicate n (free_row width)) ≡ n
count_free zero width = refl
count_free (suc n) width =
    let one = sum_by-cons one_free (free_row width) (replicate n (free_row width)) in
    let rest = count_free n width in
    omega (arith, one, rest)

-- a pool that grew has as many free rows more as it has rows more
pub grown_free : (pool new : Pool) (rows nodes : ℕ) → new ≡ grown pool rows nodes → free_rows new ≡ free_rows pool + (rows - length pool.rows)
grown_free pool new rows nodes is =
    let width : ℕ = max pool.width nodes in
    let parts = sum_by-append one_free (map (widened_row width) pool.rows) (replicate (rows - length pool.rows) (free_row width)) in
    let old = widened_free width pool.rows in
    let more = count_free (rows - length pool.rows) width in
    ap free_rows is ∙ omega (arith, parts, old, more)

pub grown_long : (pool new : Pool) (rows nodes : ℕ) → new ≡ grown pool rows nodes → length new.rows ≡ length pool.rows + (rows - length pool.rows)
grown_long pool new rows nodes is =
    let width : ℕ = max pool.width nodes in
    let parts = length-append (map (widened_row width) pool.rows) (replicate (rows - length pool.rows) (free_row width)) in
    let old = length-map pool.rows (widened_row width) in
    let more = length-replicate (rows - length pool.rows) (free_row width) in
    ap (λ (p : Pool). length p.rows) is ∙ omega (arith, parts, old, more)

-- ---- the replies
same_source : (l : Listed) (p : ProblemLists) (source stamp : Option ℕ) (old new : SolverLists) → new.kept.source ≡ old.kept.source → KeepsSource l p source stamp old → KeepsSource l p source stamp new
same_source l p None stamp old new same keeps = (keeps.0, same ∙ keeps.1)
same_source l p (Some clock) None old new same keeps = (keeps.0, same ∙ keeps.1)
same_source l p (Some clock) (Some stamp) old new same keeps = (keeps.0, same ∙ keeps.1, keeps.2)

module _ (seen : List (List Seen)) (kept : List EventId) (a : Answers) (are : AreAnswersOf seen kept a) (lawful : AreKept seen kept) (name : List ℕ) (event : EventId) (node : ℕ)
    (found : IsCalled a.graph.roster name event node) where
  abbrev problem : ProblemLists
  problem = answers_problem a seen

  abbrev place : ℕ
  place = (event_place a.graph.roster are.lawful found.known.number found.known.came found.known.there).0

  named : HasEvent problem place name
  named = (called a.graph.roster are.lawful problem (all_readings problem.events) (are.graph.solution.stands (all_readings problem.events) (own_readings problem)).listed name event node found).0

  at : IsPlacedAt seen place event
  at = placed_at a.graph.roster are.lawful seen are.graph.holds event node found.known

  -- the event has a slot
  pub kept_again : (slot : ℕ) → IsSlotNumber a.graph.solver.kept node slot → KeepReply problem seen kept name (kept_line slot) kept
  kept_again slot (x, here, k, is, there) =
      inl (place, event, named, at, inl (k, has_place a.graph.roster are.lawful a.graph.solver.graph are.graph.grown.knows kept a.graph.solver.kept.slots are.slots node event found.known k x there here, ap kept_line is, refl))

  other : slot_of a.graph.solver.kept node ≡ None → IsAmong kept event → ⊥
  other none = not_among a.graph.roster are.lawful a.graph.solver.graph are.graph.grown.knows kept a.graph.solver.kept.slots are.slots node event found.known none

  -- or it gets one, or is refused
  pub kept_now : (kept' : List EventId) (s : SolverLists) (outcome : Outcome) → slot_of a.graph.solver.kept node ≡ None → IsKeptNext event node kept kept' a.graph.solver s outcome →
      KeepReply problem seen kept name (outcome_line outcome) kept'
  kept_now kept' s (Added added) none is = absurd is
  kept_now kept' s (Kept slot) none is = inl (place, event, named, at, inr (inl (other none, is.0, ap kept_line is.1, is.2)))
  kept_now kept' s (Refused r) none is = inl (place, event, named, at, inr (inr (other none, is.1, ap refusal_line is.0, is.2)))

  pub lawful_now : (kept' : List EventId) (s : SolverLists) (outcome : Outcome) → slot_of a.graph.solver.kept node ≡ None → IsKeptNext event node kept kept' a.graph.solver s outcome → AreKept seen kept'
  lawful_now kept' s (Added added) none is = absurd is
  lawful_now kept' s (Kept slot) none is = subst (AreKept seen) (sym is.2) (kept_more seen kept event place lawful (other none) is.0 at)
  lawful_now kept' s (Refused r) none is = subst (AreKept seen) (sym is.2) lawful

  pub answers_now : (kept' : List EventId) (s : SolverLists) (outcome : Outcome) → IsKeptNext event node kept kept' a.graph.solver s outcome → AreAnswersOf seen kept' (with_engine a s)
  answers_now kept' s (Added added) is = absurd is
  answers_now kept' s (Kept slot) is = record {
    lawful = are.lawful;
    graph = kept_stays seen a.graph.roster a.graph.solver s is.4 is.5 are.graph;
    ends = are.ends;
    slots = subst (λ (events : List EventId). AreSlotsOf a.graph.roster events s.kept.slots) (sym is.2)
        (subst (λ (slots : List Slot). AreSlotsOf a.graph.roster (kept ++ event ∷ []) slots) (sym is.3.2)
        (slots_more a.graph.roster are.lawful a.graph.solver.graph are.graph.grown.knows kept a.graph.solver.kept.slots are.slots node event found.known is.3.0 is.3.1));
    source_slot = same_source (listed a.graph.roster) problem (declared a).source a.source a.graph.solver s is.3.3 are.source_slot;
    rows = is.6;
  }
  answers_now kept' s (Refused r) is =
      subst (λ (events : List EventId). AreAnswersOf seen events (with_engine a s)) (sym is.2) (subst (λ (y : SolverLists). AreAnswersOf seen kept (with_engine a y)) (sym is.3) are)

  pub kept_either : {E : Type 0} (r : Result Outcome E) (kept' : List EventId) (s : SolverLists) → slot_of a.graph.solver.kept node ≡ None → IfOk r (λ outcome. IsKeptNext event node kept kept' a.graph.solver s outcome) → OnErr r (kept' ≡ kept) →
      AreKept seen kept'
  kept_either (Ok outcome) kept' s none is stays = lawful_now kept' s outcome none is
  kept_either (Err e) kept' s none is stays = subst (AreKept seen) (sym stays) lawful

-- what holds of the answers, whatever events they are of
pub ready_after : {E : Type 0} (kept kept' : List EventId) (a : Answers) (name : List ℕ) (event : EventId) (node : ℕ) → IsCalled a.graph.roster name event node → (r : Result Outcome E) (s : SolverLists) →
    IfOk r (λ outcome. IsKeptNext event node kept kept' a.graph.solver s outcome) → OnOk r ((seen : List (List Seen)) → AreKept seen kept → AreAnswersOf seen kept a → AreAnswersOf seen kept' (with_engine a s))
ready_after kept kept' a name event node found (Ok outcome) s is = λ seen lawful are. answers_now seen kept a are lawful name event node found kept' s outcome is
ready_after kept kept' a name event node found (Err e) s is = tt

pub unknown_kept : (seen : List (List Seen)) (kept : List EventId) (a : Answers) → AreAnswersOf seen kept a → (name : List ℕ) → Finds a.graph.roster name None →
    KeepReply (answers_problem a seen) seen kept name (refusal_line UnknownEvent) kept
unknown_kept seen kept a are name none = inr (none_called a.graph.roster are.lawful (answers_problem a seen) a.graph.solver are.graph.solution name none, refl, refl)
