-- What events that are brought in make of what stood ready, and their steps.
use Rattle.std.proofs.Common.{◌≡◌, ℕ, ◌≤◌, zero, suc, List, [], ◌∷◌, ◌++◌, length, map, slice_get, slice_set, Option, Some, None, true, refl, sym, ◌∙◌, ap, subst, arith}
use Rattle.std.proofs.lemmas.List.{append-nil}
use Rattle.problem_model.specs.Problem.{ProblemLists}
use Rattle.problem.specs.Listing.{Listed}
use Rattle.decl.specs.Declaration.{Declaration}
use Rattle.sync_graph.specs.Graph.{GraphLists}
use Rattle.repair.specs.declared.slot.Slot.{Slot}
use Rattle.solver.specs.Solver.{SolverLists}
use Rattle.roster.specs.Once.{IsOn}
use Rattle.msg_match.specs.Ends.{AreEndsBy}
use Rattle.session_graph.specs.Kept.{IsKeptFor, KeepsEvents, KeepsReadings, KeepsRows}
use Rattle.session_graph.specs.Steps.{IsBetween, TakesFewToAdd}
use Rattle.solver.specs.Solution.{IsSolutionBy}
use Rattle.traces.specs.Seen.{Seen, seen_events}
use Rattle.traces.specs.declared.accepted.Accepted.{Accepted}
use Rattle.traces.specs.Held.{seen_in}
use Rattle.traces.specs.declared.event_id.EventId.{EventId}
use Rattle.traces.specs.Messages.{problem_of_seen}
use Rattle.roster.specs.Groups.{with_more}
use Rattle.roster.specs.Roster.{IsRoster, id_of, listed}
use Rattle.session_answers.specs.declared.answers.Answers.{Answers}
use Rattle.session_answers.specs.Ready.{AreAnswersOf, KeepsSource, IsAddition, declared}
use Rattle.session_answers.specs.Keeping.{AreAnswersBut, BringsEvents, BringsSource}
use Rattle.replies.proofs.Elements.{some_same}
use Rattle.session_answers.proofs.AskedRows.{listed_reading}
use Rattle.session_answers.proofs.Entering.{brought, more_is, reads_then, so_far}

-- ---- the source
-- a source that has no slot has none where no event came
no_slot : (l l' : Listed) (p : ProblemLists) (source stamp stamp' : Option ℕ) (s t : SolverLists) → IsSolutionBy l' p t → s.kept.source ≡ None → KeepsSource l p source stamp s → KeepsSource l' p source stamp' t → t.kept.source ≡ None
no_slot l l' p None stamp stamp' s t solution none is is' = is'.1
no_slot l l' p (Some clock) (Some stamp) stamp' s t solution none is is' = let no : None ≡ Some is.0 = sym none ∙ is.1 in absurd cc
no_slot l l' p (Some clock) None None s t solution none is is' = is'.1
no_slot l l' p (Some clock) None (Some stamp) s t solution none is is' = absurd (is.0 (stamp, listed_reading l' p t clock stamp is'.0.node solution is'.2))

source_same : (seen : List (List Seen)) (kept : List EventId) (a new : Answers) → AreAnswersOf seen kept a → AreAnswersOf seen kept new → declared new ≡ declared a →
    ((slot : Slot) → a.graph.solver.kept.source ≡ Some slot → new.graph.solver.kept.source ≡ Some slot) → new.graph.solver.kept.source ≡ a.graph.solver.kept.source
source_same seen kept a new are are' same stays = by a.graph.solver.kept.source refl
  where
    d : Declaration
    d = declared a

    solution : IsSolutionBy (listed new.graph.roster) (problem_of_seen d seen) new.graph.solver
    solution = subst (λ (x : Declaration). IsSolutionBy (listed new.graph.roster) (problem_of_seen x seen) new.graph.solver) same are'.graph.solution

    source : KeepsSource (listed new.graph.roster) (problem_of_seen d seen) d.source new.source new.graph.solver
    source = subst (λ (x : Declaration). KeepsSource (listed new.graph.roster) (problem_of_seen x seen) x.source new.source new.graph.solver) same are'.source_slot

    by : (o : Option Slot) → a.graph.solver.kept.source ≡ o → new.graph.solver.kept.source ≡ a.graph.solver.kept.source
    by (Some slot) is = stays slot is ∙ sym is
    by None is = no_slot (listed a.graph.roster) (listed new.graph.roster) (problem_of_seen d seen) d.source a.source new.source a.graph.solver new.graph.solver solution is are.source_slot source ∙ sym is

set_back : {A : Type 0} (xs : List A) (k : ℕ) (x : A) → slice_get xs k ≡ Some x → slice_set xs k x ≡ xs
set_back [] k x at = refl
set_back {A} (y ∷ xs) zero x at = ap (λ (z : A). z ∷ xs) (sym (some_same y x at))
set_back {A} (y ∷ xs) (suc k) x at = ap (λ (zs : List A). y ∷ zs) (set_back xs k x at)

pub nothing_of : {A : Type 0} (xs : List A) (n : ℕ) → length xs ≡ n → n ≡ 0 → xs ≡ []
nothing_of [] n long none = refl
nothing_of (x ∷ xs) n long none = absurd (omega (arith, long, none))

-- without a new event all events are those from before
same_events : (before after : List (List Seen)) (k more : ℕ) → BringsEvents before after k more → more ≡ 0 → after ≡ before
same_events before after k more b none =
    b.is ∙ ap (λ (x : List Seen). slice_set before k (b.own ++ x)) (nothing_of b.events more b.count none) ∙ ap (λ (x : List Seen). slice_set before k x) (append-nil b.own) ∙ set_back before k b.own b.was

-- so the source has its slot or none as before
pub source_idle : (before after : List (List Seen)) (kept : List EventId) (a new : Answers) (k more : ℕ) → AreAnswersOf before kept a → AreAnswersOf after kept new → BringsEvents before after k more →
    declared new ≡ declared a → ((slot : Slot) → a.graph.solver.kept.source ≡ Some slot → new.graph.solver.kept.source ≡ Some slot) → more ≡ 0 → new.graph.solver.kept.source ≡ a.graph.solver.kept.source
source_idle before after kept a new k more are are' b same stays none =
    source_same before kept a new are (subst (λ (x : List (List Seen)). AreAnswersOf x kept new) (same_events before after k more b none) are') same stays

-- ---- what the graph is brought, and then the source's slot
again : (old mid new between : SolverLists) → new.graph ≡ mid.graph → IsBetween old mid between → IsBetween old new between
again old mid new between same is = record {
  solved = is.solved;
  nodes = is.nodes;
  arcs = is.arcs;
  in_force = λ k on. (let x = is.in_force k on in (x.0, subst (λ (g : GraphLists). IsOn g k) (sym same) x.1));
  all = λ k on on'. is.all k on (subst (λ (g : GraphLists). IsOn g k) same on');
  slots = is.slots;
  source = is.source;
}

pub addition_is : (events n : ℕ) (old mid new : SolverLists) (first between last : ℕ) → n ≡ events → KeepsRows old mid → (old.earliest.is_solved ≡ true → (b : SolverLists) × IsBetween old mid b) → TakesFewToAdd n old mid first between →
    (events ≡ 0 → old.earliest.is_solved ≡ true → between ≤ first) → BringsSource mid new between last → (events ≡ 0 → new.kept.source ≡ old.kept.source) → IsAddition events old new first last
addition_is events n old mid new first between last count rows some few nothing brings idle = record {
  slots = brings.slots ∙ rows.slots;
  source = λ slot is. brings.source slot (rows.source ∙ is);
  between = λ solved. (let b = some solved in (b.0, again old mid new b.0 brings.graph b.1));
  steps = λ solved solved' source. (
      let none = brings.idle (source ∙ sym rows.source) in
      subst (λ (s : SolverLists). TakesFewToAdd events old s first last) (sym none.0)
      (subst (λ (m : ℕ). TakesFewToAdd events old mid first m) (sym none.1) (subst (λ (m : ℕ). TakesFewToAdd m old mid first between) count few)) solved solved' source);
  nothing = λ none solved. (let same = brings.idle (idle none ∙ sym rows.source) in subst (λ (m : ℕ). m ≤ first) (sym same.1) (nothing none solved));
}

-- ---- the answers with the events that came last under a label
module _ (accepted : List Accepted) (k more : ℕ) (under : Accepted) (at : slice_get accepted k ≡ Some under) (events : List Seen)
    (last : (own came : List Seen) → seen_events under.events.items ≡ own ++ came → length came ≡ more → events ≡ came) where
  -- all events are then those before and these
  pub all_then : (before : List (List Seen)) → BringsEvents before (seen_in accepted) k more → with_more before k events ≡ seen_in accepted
  all_then before b = more_is accepted before k more b events (last b.own b.events (brought accepted before k more b under at) b.count)

  -- where the graph was brought these events, the answers are those of all but for the source
  pub but_source : (before : List (List Seen)) (kept : List EventId) (a new : Answers) → AreAnswersOf before kept a → BringsEvents before (seen_in accepted) k more → IsRoster new.graph.roster →
      ((seen : List (List Seen)) → IsKeptFor seen a.graph.roster a.graph.solver → AreEndsBy (map id_of a.graph.roster.came) a.graph.matcher seen → IsKeptFor (with_more seen k events) new.graph.roster new.graph.solver) →
      ((seen : List (List Seen)) → IsKeptFor seen a.graph.roster a.graph.solver → AreEndsBy (map id_of a.graph.roster.came) a.graph.matcher seen → AreEndsBy (map id_of new.graph.roster.came) new.graph.matcher (with_more seen k events)) →
      declared new ≡ declared a → KeepsEvents a.graph.roster new.graph.roster → KeepsReadings a.graph.roster new.graph.roster → KeepsRows a.graph.solver new.graph.solver → new.source ≡ a.source →
      AreAnswersBut k (seen_in accepted) kept new
  but_source before kept a new are b lawful graph ends same ids readings rows stamp =
      let is : with_more before k events ≡ seen_in accepted = all_then before b in
      so_far k before (seen_in accepted) kept a new are lawful
      (subst (λ (seen : List (List Seen)). IsKeptFor seen new.graph.roster new.graph.solver) is (graph before are.graph are.ends))
      (subst (λ (seen : List (List Seen)). AreEndsBy (map id_of new.graph.roster.came) new.graph.matcher seen) is (ends before are.graph are.ends))
      same ids readings rows stamp (reads_then (declared a) before (seen_in accepted) k more b)
