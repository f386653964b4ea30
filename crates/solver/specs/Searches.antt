-- The searches that make rows.
use Rattle.sync_graph.specs.Graph.{GraphLists}
use Rattle.earliest.specs.Values.{Values}
use Rattle.distances.specs.declared.side.Side.TheVariants.{From}
use Rattle.distances.specs.Searched.{Searched}

-- that from nodes, over these values
abbrev pub search_from : GraphLists → Values → Searched
search_from g e = record { graph = g; values = e.values; side = From }
