-- Kinds of bounds: with the nodes that a bound is between they tell its name.
use Rattle.std.specs.Prelude.{ℕ, ℤ, pos, List, [], ◌∷◌, map, drop, slice_index_or}
use Rattle.problem_model.specs.declared.items.Node.{Node}
use Rattle.problem_model.specs.declared.items.Node.TheVariants as nodes
use Rattle.problem_model.specs.declared.items.Bound.{Bound}
use Rattle.problem_model.specs.declared.items.Bound.TheVariants as bounds
use Rattle.sync_graph.specs.declared.arc.Arc.{Arc}
use Rattle.sync_graph.specs.declared.arcs.Ends.{Ends}
use Rattle.sync_graph.specs.declared.arcs.Kind.{Kind}
use Rattle.sync_graph.specs.declared.arcs.Kind.TheVariants as kinds
use Rattle.sync_graph.specs.declared.arcs.KindArc.{KindArc}

-- the kind of a bound of this name
abbrev pub bound_kind : Bound → Kind
bound_kind (bounds.SpanMost clock s t) = kinds.SpanMost
bound_kind (bounds.SpanLeast clock s t) = kinds.SpanLeast
bound_kind (bounds.Late e) = kinds.Late
bound_kind (bounds.Early e) = kinds.Early
bound_kind (bounds.Follow c s d t) = kinds.Follow
bound_kind (bounds.DelayMost send receive) = kinds.DelayMost
bound_kind (bounds.DelayLeast send receive) = kinds.DelayLeast

-- the place of an event, and the clock and the stamp of a reading
abbrev pub place_of_node : Node → ℕ
place_of_node (nodes.Event e) = e
place_of_node (nodes.Reading clock stamp) = 0

abbrev pub clock_of_node : Node → ℕ
clock_of_node (nodes.Event e) = 0
clock_of_node (nodes.Reading clock stamp) = clock

abbrev pub stamp_of_node : Node → ℕ
stamp_of_node (nodes.Event e) = 0
stamp_of_node (nodes.Reading clock stamp) = stamp

-- the name of the bound of this kind from the first node to the second
abbrev pub name_between : Kind → Node → Node → Bound
name_between kinds.SpanMost m n = bounds.SpanMost (clock_of_node m) (stamp_of_node m) (stamp_of_node n)
name_between kinds.SpanLeast m n = bounds.SpanLeast (clock_of_node m) (stamp_of_node n) (stamp_of_node m)
name_between kinds.Late m n = bounds.Late (place_of_node n)
name_between kinds.Early m n = bounds.Early (place_of_node m)
name_between kinds.Follow m n = bounds.Follow (clock_of_node n) (stamp_of_node n) (clock_of_node m) (stamp_of_node m)
name_between kinds.DelayMost m n = bounds.DelayMost (place_of_node m) (place_of_node n)
name_between kinds.DelayLeast m n = bounds.DelayLeast (place_of_node n) (place_of_node m)

-- an arc with its kind in place of its name
abbrev pub of_kind : Arc → KindArc
of_kind a = record { from = a.from; to = a.to; weight = a.weight; kind = bound_kind a.name }

-- the node of a number
abbrev pub node_at : List Node → ℕ → Node
node_at all k = slice_index_or all k (nodes.Event 0)

-- an arc with its name, by its nodes
abbrev pub named_arc : List Node → KindArc → Arc
named_arc all a = record { from = a.from; to = a.to; weight = a.weight; name = name_between a.kind (node_at all a.from) (node_at all a.to) }

-- arcs with their names
abbrev pub named_arcs : List Node → List KindArc → List Arc
named_arcs all arcs = map (named_arc all) arcs

-- arcs by their ends, their weights and their kinds, which stand in three lists
abbrev pub joined : List Ends → List ℤ → List Kind → List KindArc
joined [] ws ks = []
joined (e ∷ es) ws ks = record {
  from = e.from;
  to = e.to;
  weight = slice_index_or ws 0 (pos 0);
  kind = slice_index_or ks 0 kinds.Late;
} ∷ joined es (drop 1 ws) (drop 1 ks)
