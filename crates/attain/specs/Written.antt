-- What is written of the ends of an interval, by a graph, the rows of one of its nodes, and a listing.
use Rattle.std.specs.Prelude.{◌≡◌, ℕ, ◌<◌, ◌≤◌, ◌↔◌, Bool, true, false, List, [], ◌∷◌, ◌++◌, length, slice_index_or, All, AllPairs, Contains, codes, ℤ, neg_ℤ}
use Rattle.std.specs.List.{flat_map}
use Rattle.atto.specs.NsText.{ns_text}
use Rattle.line_format.specs.Words.{line_of}
use Rattle.problem_model.specs.declared.items.Bound.{Bound}
use Rattle.problem_model.specs.Executions.{at}
use Rattle.problem_model.specs.Numbers.{IsUpTo}
use Rattle.problem_model.specs.Rows.{IsGreatestLead, IsLeastLead, attaining, least_differences}
use Rattle.problem_model.specs.Parents.{Cells}
use Rattle.problem_model.specs.Limits.{path_bits}
use Rattle.sync_graph.specs.declared.arc.Arc.{Arc}
use Rattle.sync_graph.specs.Graph.{GraphLists, arc_at}
use Rattle.problem.specs.Listing.{Listed, name_at, listed_nodes}
use Rattle.cert.specs.Listed.{HasNames, listed_step, listed_values, certified}

-- ---- text
-- one end as it is written: where it is, the steps of a path, and a real time for the number of each node; or the
-- clocks inside a cut, and real times
pub data WrittenEnd : Type 0 where
  Limit : ℤ → List (Bound × ℤ) → (ℕ → ℤ) → WrittenEnd
  NoLimit : List ℕ → (ℕ → ℤ) → WrittenEnd

-- the line of a clock inside a cut
abbrev pub written_inside : Listed → ℕ → List ℕ
written_inside l clock = line_of (codes "inside" ∷ name_at l.clock_names clock ∷ [])

-- the lines of one end
abbrev pub written_end : Listed → List ℕ → List ℕ → WrittenEnd → List ℕ
written_end l part unlimited (Limit value steps x) =
    line_of (part ∷ ns_text value ∷ []) ++ flat_map (listed_step l) steps ++ listed_values l x
written_end l part unlimited (NoLimit inside x) =
    line_of (part ∷ unlimited ∷ []) ++ flat_map (written_inside l) inside ++ listed_values l x

-- the certificate of the ends of the interval between two events, by their numbers
abbrev pub written_ends : Listed → ℕ → ℕ → WrittenEnd → WrittenEnd → List ℕ
written_ends l first second upper lower = certified (
    line_of (codes "ends" ∷ name_at l.event_names first ∷ name_at l.event_names second ∷ [])
    ++ written_end l (codes "upper") (codes "+inf") upper ++ written_end l (codes "lower") (codes "-inf") lower)

-- ---- paths
-- the node at which parents go on: behind the arc in a row from its node, before it in a row towards it
abbrev pub next_node : Bool → Arc → ℕ
next_node true a = a.from
next_node false a = a.to

-- the names and weights of the parents' arcs, from node k to node p; the row is one from p, or else one towards p
abbrev pub NamesParents : Bool → GraphLists → Cells → ℕ → ℕ → List (Bound × ℤ) → Type 0
NamesParents outward g c p k [] = k ≡ p
NamesParents outward g c p k (s ∷ steps) = (slice_index_or g.in_force (c.parent k) false ≡ true)
    × (s ≡ ((arc_at g.arcs (c.parent k)).name, (arc_at g.arcs (c.parent k)).weight))
    × NamesParents outward g c p (next_node outward (arc_at g.arcs (c.parent k))) steps

-- ---- cuts
-- rising, the clocks of all listed readings whose nodes are known, or of all whose nodes are not
pub record AreClocksOf (l : Listed) (c : Cells) (known : Bool) (inside : List ℕ) : Type 0 where
  pub rising : AllPairs (λ j k. j < k) inside
  pub each : (clock : ℕ) → Contains inside clock ↔ ((r : ℕ × ℕ × ℕ) × Contains l.readings r × (r.0 ≡ clock) × (c.known r.2 ≡ known))

-- ---- ends
-- the upper end at node q: by the row from p, its value, the path along parents, and each known node at its distance; or the
-- clocks of the known readings, with the values themselves
abbrev pub IsUpperWritten : Listed → GraphLists → List ℤ → Cells → ℕ → ℕ → WrittenEnd → Type 0
IsUpperWritten l g values c p q (Limit value steps x) = (K : ℤ) × (c.known q ≡ true) × (value ≡ c.value q)
    × IsGreatestLead (length g.nodes) c.known c.value values K
    × NamesParents true g c p q steps × (length steps < length g.nodes)
    × ((k : ℕ) → k < length g.nodes → x k ≡ attaining c.known c.value values K k)
IsUpperWritten l g values c p q (NoLimit inside x) = (c.known q ≡ false) × AreClocksOf l c true inside × (x ≡ at values)

-- the lower end at node q: by the row towards p, the negative of its value, the path along parents, and each known node at
-- the negative of its distance; or the clocks of the readings that are not known, with the values themselves
abbrev pub IsLowerWritten : Listed → GraphLists → List ℤ → Cells → ℕ → ℕ → WrittenEnd → Type 0
IsLowerWritten l g values c p q (Limit value steps x) = (K : ℤ) × (c.known q ≡ true) × (value ≡ neg_ℤ (c.value q))
    × IsLeastLead (length g.nodes) c.known (least_differences c.value) values K
    × NamesParents false g c p q steps × (length steps < length g.nodes)
    × ((k : ℕ) → k < length g.nodes → x k ≡ attaining c.known (least_differences c.value) values K k)
IsLowerWritten l g values c p q (NoLimit inside x) = (c.known q ≡ false) × AreClocksOf l c false inside × (x ≡ at values)

-- ---- arcs
-- the bound of each arc in force is over clocks or events that have names
abbrev pub NamesArcs : Listed → GraphLists → Type 0
NamesArcs l g = (j : ℕ) → slice_index_or g.in_force j false ≡ true → HasNames l (arc_at g.arcs j).name

-- the listing is one of the graph: it has the names of arcs in force, and lists nodes of the graph, readings by rising clocks
pub record ListsGraph (l : Listed) (g : GraphLists) : Type 0 where
  pub named : NamesArcs l g
  pub nodes : All (λ (k : ℕ). k < length g.nodes) (listed_nodes l)
  pub rising : AllPairs (λ (r s : ℕ × ℕ × ℕ). r.0 ≤ s.0) l.readings

-- ---- sizes
-- values and known distances are at most 2^118 in absolute value
pub record AreMiddling (nodes : ℕ) (values : List ℤ) (c : Cells) : Type 0 where
  pub at_nodes : (k : ℕ) → k < nodes → IsUpTo path_bits (at values k)
  pub distances : (k : ℕ) → c.known k ≡ true → IsUpTo path_bits (c.value k)
