-- Nodes and bounds of a problem that are brought in.
use Rattle.std.proofs.Common.{◌≡◌, ◌≤◌, ◌+◌, ◌-◌, ℕ, zero, suc, true, List, [], ◌∷◌, ◌++◌, length, map, max, not, replicate, count_by, cond, slice_get, Some, None, refl, sym, ◌∙◌, ap, subst, arith, append_assoc, append-nil, length-append}
use Rattle.std.specs.Prelude.{All}
use Rattle.std.proofs.lemmas.List.{length-map, length-replicate}
use Rattle.std.proofs.lemmas.List.Elements.{All-append, All-nil, All-cons}
use Rattle.std.proofs.lemmas.List.Sums.{sum_by-cons}
use Rattle.problem_model.specs.declared.items.Node.{Node}
use Rattle.problem_model.specs.declared.items.Bound.{Bound}
use Rattle.problem_model.specs.Problem.{ProblemLists, IsProblem}
use Rattle.problem_model.specs.Nodes.{Reading, AreReadings, nodes_of}
use Rattle.problem_model.specs.Limits.{most_arcs}
use Rattle.problem_model.proofs.OneList.{readings_one}
use Rattle.problem.proofs.AllReadings.{few_readings}
use Rattle.sync_graph.specs.declared.arc.Arc.{Arc}
use Rattle.sync_graph.specs.Graph.{GraphLists, with_arc, no_graph}
use Rattle.problem_graph.specs.BoundArcs.{IsBoundAmong}
use Rattle.problem_graph.specs.Standing.{HasBounds, IsArcDeclared, NodesLeft}
use Rattle.problem_graph.proofs.Numbering.{next_less}
use Rattle.row_pool.specs.Pool.{PoolRow, Pool, free_rows, free_row, grown}
use Rattle.solver.specs.Solver.{SolverLists, HasRoom, with_new_node}
use Rattle.repair.specs.Slots.{KeptRows, with_room}
use Rattle.solver.specs.Changes.{KeepsSlots, KeepsAnswer}
use Rattle.solver.specs.Current.{IsCurrent}
use Rattle.problem_graph.specs.HeldBounds.{HasShortList, HoldsShortList}
use Rattle.problem_solver.specs.declared.items.Ranked.{Ranked}
use Rattle.problem_solver.specs.Items.{AreItems, items_of}
use Rattle.solver.specs.Solution.{IsSolution}
use Rattle.problem_solver.specs.Pushing.{HasNodesOf, NodesCome, AddsBounds}
use Rattle.problem_graph.proofs.HeldStanding.{own_standing}

-- ---- one arc
-- an arc between nodes of the problem is declared over its readings
declared_over : (p : ProblemLists) (readings : List Reading) (all : List Node) (a : Arc) → all ≡ nodes_of p readings → IsBoundAmong p all a → IsArcDeclared p readings a
declared_over p readings all a is (c, declares, tail, head, weighs) = (
  c,
  declares,
  record {
    tail = subst (λ (ns : List Node). slice_get ns a.from ≡ Some c.from) is tail;
    head = subst (λ (ns : List Node). slice_get ns a.to ≡ Some c.to) is head;
    weighs = weighs;
  },
)

map_end : {X Y : Type 0} (f : X → Y) (xs : List X) (x : X) → map f (xs ++ x ∷ []) ≡ map f xs ++ f x ∷ []
map_end f [] x = refl
map_end f (y ∷ xs) x = ap (λ v. f y ∷ v) (map_end f xs x)

-- one more bound is an arc
has_one_more : (p : ProblemLists) (readings : List Reading) (done : List Bound) (g : GraphLists) (a : Arc) → IsArcDeclared p readings a → HasBounds p readings done g → HasBounds p readings (done ++ a.name ∷ []) (with_arc g a)
has_one_more p readings done g a declared has = record {
  nodes_are = has.nodes_are;
  all_in_force = ap (λ v. v ++ true ∷ []) has.all_in_force ∙ sym (map_end (λ (b : Arc). true) g.arcs a);
  named = map_end (λ (b : Arc). b.name) g.arcs a ∙ ap (λ v. v ++ a.name ∷ []) has.named;
  declared = All-append (IsArcDeclared p readings) g.arcs (a ∷ []) has.declared (All-cons (IsArcDeclared p readings) a [] declared (All-nil (IsArcDeclared p readings)));
}

pub adds_one : (p : ProblemLists) (a : Arc) (old new : SolverLists) → IsBoundAmong p old.graph.nodes a
    → new.graph ≡ with_arc old.graph a → IsCurrent new → KeepsSlots old new → AddsBounds p (a.name ∷ []) old new
adds_one p a old new declared is current keeps = record {
  current = current;
  nodes = ap (λ (g : GraphLists). g.nodes) is;
  count = ap (λ (g : GraphLists). length g.arcs) is ∙ length-append old.graph.arcs (a ∷ []);
  added = λ readings done are has. subst (HasBounds p readings (done ++ a.name ∷ [])) (sym is) (has_one_more p readings done old.graph a (declared_over p readings old.graph.nodes a has.nodes_are declared) has);
  slots = keeps.slots;
  source = keeps.source;
  rows = keeps.rows.count;
  free = keeps.free;
}

pub adds_none : (p : ProblemLists) (s : SolverLists) → IsCurrent s → AddsBounds p [] s s
adds_none p s current = record {
  current = current;
  nodes = refl;
  count = omega arith;
  added = λ readings done are has. subst (λ (bs : List Bound). HasBounds p readings bs s.graph) (sym (append-nil done)) has;
  slots = refl;
  source = refl;
  rows = refl;
  free = refl;
}

pub adds_then : (p : ProblemLists) (first second : List Bound) (old mid new : SolverLists) → AddsBounds p first old mid → AddsBounds p second mid new → AddsBounds p (first ++ second) old new
adds_then p first second old mid new one two = record {
  current = two.current;
  nodes = two.nodes ∙ one.nodes;
  count = omega (arith, one.count, two.count, length-append first second);
  added = λ readings done are has. subst (λ (bs : List Bound). HasBounds p readings bs new.graph) (append_assoc done first second) (two.added readings (done ++ first) are (one.added readings done are has));
  slots = two.slots ∙ one.slots;
  source = two.source ∙ one.source;
  rows = two.rows ∙ one.rows;
  free = two.free ∙ one.free;
}

pub nodes_still : (p : ProblemLists) (bounds : List Bound) (old new : SolverLists) → AddsBounds p bounds old new → HasNodesOf p old → HasNodesOf p new
nodes_still p bounds old new adds nodes readings are = adds.nodes ∙ nodes readings are

-- ---- nodes
module _ (p : ProblemLists) (readings : List Reading) (n : Node) (rest : List Node) (s : SolverLists) (come : NodesCome p readings (n ∷ rest) s) where
  pub room_next : HasRoom (length s.graph.nodes + 1) s
  room_next =
      let whole : length (s.graph.nodes ++ n ∷ rest) ≡ length (nodes_of p readings) = ap length come.left.nodes_are in
      let long = length-append s.graph.nodes (n ∷ rest) in
      record {
        rows = omega (arith, whole, long, come.room.rows);
        found = omega (arith, whole, long, come.room.found);
        front = omega (arith, whole, long, come.room.front);
      }

  pub come_next : (new : SolverLists) → new ≡ with_new_node s n → IsCurrent new → NodesCome p readings rest new
  come_next new is current = record {
    current = current;
    left = subst (λ (v : SolverLists). NodesLeft p readings rest v.graph) (sym is) (next_less p readings n rest s.graph come.left);
    room = subst (HasRoom (length (nodes_of p readings))) (sym is) (record { rows = come.room.rows; found = come.room.found; front = come.room.front });
  }

-- where all nodes are there, they are those of the problem, and no bound is an arc
pub nodes_there : (p : ProblemLists) (readings : List Reading) (s : SolverLists) → NodesCome p readings [] s → HasBounds p readings [] s.graph
nodes_there p readings s come = record {
  nodes_are = sym (append-nil s.graph.nodes) ∙ come.left.nodes_are;
  all_in_force = come.left.no_flags ∙ ap (map (λ (a : Arc). true)) (sym come.left.no_arcs);
  named = ap (map (λ (a : Arc). a.name)) come.left.no_arcs;
  declared = subst (All (IsArcDeclared p readings)) (sym come.left.no_arcs) (All-nil (IsArcDeclared p readings));
}

-- ---- the start
count_free : (n : ℕ) (width : ℕ) → count_by (λ (row : PoolRow). not row.taken) (replicate n (free_row width)) ≡ n
count_free zero width = refl
count_free (suc n) width =
    let f : PoolRow → ℕ = λ r. cond (not r.taken) 1 0 in
    let one : count_by (λ (row : PoolRow). not row.taken) (free_row width ∷ replicate n (free_row width)) ≡ f (free_row width) + count_by (λ (row : PoolRow). not row.taken) (replicate n (free_row width)) =
    sum_by-cons f (free_row width) (replicate n (free_row width)) in
    let rest = count_free n width in
    omega (arith, one, rest)

pub all_free : (pool new : Pool) (rows nodes : ℕ) → pool.rows ≡ [] → new ≡ grown pool rows nodes → free_rows new ≡ rows
all_free pool new rows nodes none is =
    ap free_rows is
    ∙ subst (λ (rs : List PoolRow). free_rows (grown (record { width = pool.width; rows = rs }) rows nodes) ≡ rows) (sym none)
    (let all : rows - 0 ≡ rows = omega arith in
    ap (λ (n : ℕ). count_by (λ (row : PoolRow). not row.taken) (replicate n (free_row (max pool.width nodes)))) all ∙ count_free rows (max pool.width nodes))

pub all_rows : (pool new : Pool) (rows nodes : ℕ) → pool.rows ≡ [] → new ≡ grown pool rows nodes → length new.rows ≡ rows
all_rows pool new rows nodes none is =
    ap (λ (v : Pool). length v.rows) is
    ∙ subst (λ (rs : List PoolRow). length (grown (record { width = pool.width; rows = rs }) rows nodes).rows ≡ rows) (sym none)
    (let all : rows - 0 ≡ rows = omega arith in
    ap (λ (n : ℕ). length (replicate n (free_row (max pool.width nodes)))) all ∙ length-replicate rows (free_row (max pool.width nodes)))

-- ---- the end
module _ (p : ProblemLists) (readings : List Reading) (bounds : List Bound) (start s : SolverLists) (are : AreReadings p readings) (come : NodesCome p readings [] start)
    (adds : AddsBounds p bounds start s) (short : HasShortList p readings bounds)
  where
    pub holds_bounds : HoldsShortList p s.graph
    holds_bounds others are' =
        let one : readings ≡ others = readings_one p readings others are are' in (
          bounds,
          subst (λ (rs : List Reading). HasShortList p rs bounds) one short,
          adds.added others [] are' (subst (λ (rs : List Reading). HasBounds p rs [] start.graph) one (nodes_there p readings start come)),
        )

    pub is_solution : IsProblem p → IsSolution p s
    is_solution lawful = record {
      current = adds.current;
      stands = λ others are'.
          let holds = holds_bounds others are' in
          own_standing p others lawful are' s.graph adds.current.set_up.graph holds.0 holds.2 holds.1;
    }

-- ---- from nothing to the end
pub come_first : (p : ProblemLists) (readings : List Reading) (rows n : ℕ) (empty s : SolverLists) → empty.graph ≡ no_graph → KeepsAnswer empty s → IsCurrent s
    → s.pool ≡ grown empty.pool rows n → s.kept ≡ with_room empty.kept (max empty.kept.room n) → s.front ≡ empty.front + (n - empty.front) → n ≡ length (nodes_of p readings)
    → NodesCome p readings (nodes_of p readings) s
come_first p readings rows n empty s none answer current pool kept front count =
    let graph : s.graph ≡ no_graph = answer.graph ∙ none in
    let wide : s.pool.width ≡ max empty.pool.width n = ap (λ (v : Pool). v.width) pool in
    let found : s.kept.room ≡ max empty.kept.room n = ap (λ (v : KeptRows). v.room) kept in
    record {
      current = current;
      left = subst (NodesLeft p readings (nodes_of p readings)) (sym graph) (record { nodes_are = refl; no_arcs = refl; no_flags = refl });
      room = record {
        rows = omega (arith, wide, count);
        found = omega (arith, found, count);
        front = omega (arith, front, count);
      };
    }

module _ (p : ProblemLists) (readings : List Reading) (lawful : IsProblem p) (are : AreReadings p readings) (s : SolverLists) (come : NodesCome p readings [] s) where
  pub nodes_all : HasNodesOf p s
  nodes_all others are' = (nodes_there p readings s come).nodes_are ∙ ap (nodes_of p) (readings_one p readings others are are')

  pub come_all : (others : List Reading) → AreReadings p others → NodesCome p others [] s
  come_all others are' = subst (λ (rs : List Reading). NodesCome p rs [] s) (readings_one p readings others are are') come

pub few_enough : (p : ProblemLists) (readings : List Reading) (ranked : List Ranked) → IsProblem p → AreReadings p readings
    → AreItems p readings (length readings - 1) (length p.clocks) (length p.events) (length p.messages) (items_of ranked) → length ranked + length ranked ≤ most_arcs
few_enough p readings ranked lawful are items =
    let same : length (items_of ranked) ≡ length ranked = length-map ranked (λ (r : Ranked). r.item) in
    omega (arith, same, items.few, few_readings p readings are, lawful.fits.clock_limit, lawful.fits.event_limit, lawful.fits.message_limit)
