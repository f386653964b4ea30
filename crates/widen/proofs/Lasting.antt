-- A contradiction of a problem that is widened is one of the problem that is widened further, where its sum is below 0 still.
use Rattle.std.proofs.Common.{◌≡◌, ◌<◌, ◌≤◌, ◌^◌, ℕ, List, [], ◌∷◌, length, map, get_or, refl, sym, ◌∙◌, ap, subst, arith}
use Rattle.std.specs.Prelude.{pos, ◌<ℤ◌, All, unsigned_abs}
use Rattle.std.proofs.lemmas.List.{length-map}
use Rattle.std.proofs.lemmas.List.Elements.{All-nil, All-cons, All-head, All-tail, All-map, All-weaker}
use Rattle.problem_model.specs.declared.items.Bound.{Bound}
use Rattle.problem_model.specs.declared.items.Node.{Node}
use Rattle.problem_model.specs.Problem.{ProblemLists, IsProblem}
use Rattle.problem_model.specs.Bounds.{Declares}
use Rattle.problem_model.specs.Nodes.{Reading, AreReadings}
use Rattle.problem.proofs.ListedNodes.{few_nodes}
use Rattle.problem_model.specs.Numbers.{IsUpTo}
use Rattle.problem_model.specs.Solutions.{WeighedBound, Leads, weight_of, IsContradictionOf}
use Rattle.problem_model.specs.Limits.{most_nodes}
use Rattle.sync_graph.specs.declared.arc.Arc.{Arc}
use Rattle.cert.specs.declared.chain.Step.{Step}
use Rattle.cert.specs.Shows.{weighed_bounds}
use Rattle.cert_check.specs.declared.what.What.{What}
use Rattle.cert_check.specs.Widened.{widened}
use Rattle.cert_check.proofs.Comparing.{HaveSameStamps, declared_back, ends_same, widened_stamps}
use Rattle.attain.specs.Tight.{IsUnder}
use Rattle.widen.specs.Weighed.{IsNameOf, IsWeighed, unweighed, weighed_arcs, step_of, arc_of}
use Rattle.widen.specs.Found.{IsCycleAt, IsCycleFor}
use Rattle.widen.proofs.Summing.{up_from}
use Rattle.widen.proofs.Weighing.{abs_under, name_same, head_same, tail_same}

-- ---- chains of the same arcs with other weights
module _ (q r : ProblemLists) (events : HaveSameStamps q r) where
  leads_on : (arcs others : List Arc) (m n : Node) → map unweighed others ≡ map unweighed arcs → All (IsWeighed r) others → Leads q m (weighed_arcs arcs) n → Leads r m (weighed_arcs others) n
  leads_on [] [] m n same weighed leads = leads
  leads_on [] (b ∷ others) m n same weighed leads = absurd cc
  leads_on (a ∷ arcs) [] m n same weighed leads = absurd cc
  leads_on (a ∷ arcs) (b ∷ others) m n same weighed (c, declares, weighs, begins, rest) =
      let one : unweighed b ≡ unweighed a = head_same (unweighed b) (unweighed a) (map unweighed others) (map unweighed arcs) same in
      let here = All-head (IsWeighed r) b others weighed in
      let ends = ends_same q r events b.name c here.0 (subst (λ (name : Bound). Declares q name c) (sym (name_same a b one)) declares) here.1 in (
        here.0,
        here.1,
        here.2,
        sym ends.0 ∙ begins,
        subst (λ (k : Node). Leads r k (weighed_arcs others) n) ends.1
            (leads_on arcs others c.to n (tail_same (unweighed b) (unweighed a) (map unweighed others) (map unweighed arcs) same) (All-tail (IsWeighed r) b others weighed) rest),
      )

-- the arcs are bounds that are declared with their weights
led_names : (what : What) (p : ProblemLists) (e : ℕ) (arcs : List Arc) (m n : Node) → Leads (widened what p e) m (weighed_arcs arcs) n → All (IsNameOf p) arcs
led_names what p e [] m n leads = All-nil (IsNameOf p)
led_names what p e (a ∷ arcs) m n (c, declares, weighs, begins, rest) = All-cons (IsNameOf p) a arcs (declared_back what p e a.name c declares) (led_names what p e arcs c.to n rest)

steps_weighed : (arcs : List Arc) → weighed_bounds (map step_of arcs) ≡ weighed_arcs arcs
steps_weighed [] = refl
steps_weighed (a ∷ arcs) = ap (λ (rest : List WeighedBound). (a.name, a.weight) ∷ rest) (steps_weighed arcs)

steps_as_arcs : (steps : List Step) → weighed_arcs (map arc_of steps) ≡ weighed_bounds steps
steps_as_arcs [] = refl
steps_as_arcs (s ∷ steps) = ap (λ (rest : List WeighedBound). (s.bound, s.weight) ∷ rest) (steps_as_arcs steps)

-- the arcs of its steps are the contradiction that a cycle is
pub cycle_as_arcs : (what : What) (p : ProblemLists) (e : ℕ) (cycle : List Step) → IsCycleAt what p e cycle → IsCycleFor what p e (map arc_of cycle)
cycle_as_arcs what p e cycle found = record {
  contradiction = subst (IsContradictionOf (widened what p e)) (sym (steps_as_arcs cycle)) found.contradiction;
  short = λ readings are. (let short = found.short readings are in omega (arith, short, length-map cycle arc_of));
  small = All-map (λ (a : Arc). IsUnder 93 a.weight) arc_of cycle found.small;
}

pub same_long : (arcs others : List Arc) → map unweighed others ≡ map unweighed arcs → length others ≡ length arcs
same_long arcs others same = sym (length-map others unweighed) ∙ ap length same ∙ length-map arcs unweighed

module _ (what : What) (p : ProblemLists) (e : ℕ) (arcs : List Arc) (lawful : IsProblem p) (found : IsCycleFor what p e arcs) where
  pub few_arcs : (readings : List Reading) → AreReadings p readings → length arcs ≤ most_nodes
  few_arcs readings are = let few = few_nodes p readings lawful are in let short = found.short readings are in omega (arith, few, short)

  pub weights_up : All (λ a. IsUpTo 93 a.weight) arcs
  weights_up i d inside = up_from (get_or arcs i d).weight (found.small i d inside)

  pub names : All (IsNameOf p) arcs
  names = led_names what p e arcs found.contradiction.closed.0 found.contradiction.closed.0 found.contradiction.closed.1

  pub cycle_there : (cycle : List Step) → cycle ≡ map step_of arcs → IsCycleAt what p e cycle
  cycle_there cycle is = subst (IsCycleAt what p e) (sym is) (record {
    contradiction = subst (IsContradictionOf (widened what p e)) (sym (steps_weighed arcs)) found.contradiction;
    short = λ readings are. (let short = found.short readings are in omega (arith, short, length-map arcs step_of));
    small = All-map (λ (s : Step). IsUnder 93 s.weight) step_of arcs found.small;
  })

  -- with the weights that it has where the problem is widened by so much, maybe in another way
  pub later_cycle : (other : What) (last : ℕ) (others : List Arc) → map unweighed others ≡ map unweighed arcs → All (IsWeighed (widened other p last)) others → All (λ a. unsigned_abs a.weight < 2 ^ 93) others
      → weight_of (weighed_arcs others) <ℤ pos 0 → IsCycleFor other p last others
  later_cycle other last others same weighed small negative = record {
    contradiction = record {
      closed = (found.contradiction.closed.0, leads_on (widened what p e) (widened other p last) (widened_stamps what other p e last) arcs others found.contradiction.closed.0 found.contradiction.closed.0 same weighed found.contradiction.closed.1);
      negative = negative;
    };
    short = λ readings are. (let short = found.short readings are in omega (arith, short, same_long arcs others same));
    small = All-weaker (λ (a : Arc). unsigned_abs a.weight < 2 ^ 93) (λ a. IsUnder 93 a.weight) (λ a. abs_under a.weight) others small;
  }
