-- What additions make of what stood ready, and their steps.
use Rattle.std.proofs.Common.{◌≡◌, ◌⊎◌, inl, inr, ℕ, ◌+◌, ◌*◌, ◌≤◌, List, [], length, map, Option, Some, None, IfSome, Bool, true, false, refl, sym, ◌∙◌, ap, subst, arith}
use Rattle.decl.specs.Declaration.{Declaration}
use Rattle.solver.specs.Solver.{SolverLists}
use Rattle.solver.specs.Current.{IsCurrent, IsSolvedNow, IsContradicted}
use Rattle.session_graph.specs.Steps.{IsBetween}
use Rattle.traces.specs.Seen.{Seen}
use Rattle.traces.specs.declared.accepted.Accepted.{Accepted}
use Rattle.traces.specs.declared.accepted.Stream.{Stream}
use Rattle.traces.specs.declared.event_id.EventId.{EventId}
use Rattle.traces.specs.Traces.{event_count}
use Rattle.session_answers.specs.declared.answers.Answers.{Answers}
use Rattle.session.specs.Stands.{Held, Under, IsHeldInSession, IsKeptUp, AddsSo, held_parts, seen_held, solver_of, under_of}
use Rattle.session_answers.specs.Ready.{IsAddition}
use Rattle.session.proofs.Holding.{count_grown}
use Rattle.session.proofs.Accepting.{Extended}

-- ---- where nothing is added
at_most : (n a b : ℕ) → n ≤ n + a + b
at_most n a b = omega arith

all_alike : (n : ℕ) → n ≤ n
all_alike n = omega arith

solved_now : (s : SolverLists) → IsSolvedNow s ⊎ IsContradicted s → s.earliest.is_solved ≡ true → IsSolvedNow s
solved_now s (inl is) solved = is
solved_now s (inr is) solved = let no : true ≡ false = sym solved ∙ is.unsolved in absurd cc

more_arcs : (n events : ℕ) → n ≤ n + 8 * events
more_arcs n events = omega arith

as_it_is : (s : SolverLists) → IsCurrent s → s.earliest.is_solved ≡ true → IsBetween s s s
as_it_is s is solved = record {
  solved = record { graph = is.set_up.graph; now = solved_now s is.answer solved };
  nodes = refl;
  arcs = refl;
  in_force = λ k on. (on, on);
  all = λ k on on'. on;
  slots = refl;
  source = refl;
}

stays : (events n : ℕ) (s : SolverLists) → IsCurrent s → IsAddition events s s n n
stays events n s is = record {
  slots = refl;
  source = λ slot at. at;
  between = λ solved. (s, as_it_is s is solved);
  steps = λ solved solved' source. record {
    start = s;
    is_between = as_it_is s is solved;
    stages = [];
    lead = refl;
    arcs = more_arcs (length s.graph.arcs) events;
    few = λ between part is' w. at_most n part 0;
  };
  nothing = λ none solved. all_alike n;
}

-- a session that stays as it was, without a step
pub adds_nothing : (h h' : Held) (n : ℕ) → h ≡ h' → IsHeldInSession h → AddsSo h' h' n n
adds_nothing h h' n same is = subst (λ (x : Held). AddsSo x x n n) same (λ events count. by events h.answers is.kept_up)
  where
    by : (events : ℕ) (o : Option SolverLists) → IfSome o (IsKeptUp h) → IfSome o (λ before. IfSome o (λ after. IsAddition events before after n n))
    by events None kept = tt
    by events (Some s) kept = stays events n s kept.solution.current

-- nothing is said where no answers stand ready afterwards
pub adds_none : (h h' : Held) (first last : ℕ) → h'.answers ≡ None → AddsSo h h' first last
adds_none h h' first last none events count = by h.answers h'.answers none
  where
    by : (o o' : Option SolverLists) → o' ≡ None → IfSome o (λ before. IfSome o' (λ after. IsAddition events before after first last))
    by None o' is = tt
    by (Some s) None is = tt
    by (Some s) (Some t) is = absurd cc

-- ---- where events were added
pub added_so : (d d' : Declaration) (accepted new then : List Accepted) (kept : List EventId) (ready : Bool) (a b : Answers) (held : Held) (k n : ℕ) (events : List Seen) (size : ℕ) (stream : Stream) (first last : ℕ) →
    Extended d accepted new kept (solver_of ready a) held k events size stream → then ≡ new → n ≡ length events → IsAddition n a.graph.solver b.graph.solver first last → AddsSo held (held_parts d' then kept (solver_of true b)) first last
added_so d d' accepted new then kept ready a b held k n events size stream first last e is many adds =
    subst (λ (h : Held). AddsSo h (held_parts d' then kept (solver_of true b)) first last) e.same
    (subst (λ (l : List Accepted). AddsSo (held_parts d accepted kept (solver_of ready a)) (held_parts d' l kept (solver_of true b)) first last) (sym is) (λ m count. by ready m (same m count)))
  where
    grown : event_count (seen_held (map under_of new)) ≡ event_count (seen_held (map under_of accepted)) + length events
    grown = ap (λ (u : List Under). event_count (seen_held u)) e.grew.is ∙ count_grown (map under_of accepted) k e.grew.at events size stream e.grew.was

    same : (m : ℕ) → event_count (seen_held (map under_of new)) ≡ event_count (seen_held (map under_of accepted)) + m → m ≡ n
    same m count = let all = grown in omega (arith, all, count, many)

    by : (r : Bool) (m : ℕ) → m ≡ n → IfSome (solver_of r a) (λ before. IsAddition m before b.graph.solver first last)
    by true m is' = subst (λ (x : ℕ). IsAddition x a.graph.solver b.graph.solver first last) (sym is') adds
    by false m is' = tt
