-- How large a problem may be, and how large the numbers are that follow from it.
use Rattle.std.specs.Prelude.{ℕ, ◌^◌}

-- the most clocks of a problem: 65,536
abbrev pub most_clocks : ℕ
most_clocks = 65536

-- the most events of a problem: 2^24, which is 16,777,216
abbrev pub most_events : ℕ
most_events = 2 ^ 24

-- the most messages of a problem: as many
abbrev pub most_messages : ℕ
most_messages = 2 ^ 24

-- the most events that are matched, those of pieces not yet accepted among them: twice as many
abbrev pub most_items : ℕ
most_items = 2 ^ 25

-- the most nodes of a graph or of a list of real times: each event, and the reading of its clock
abbrev pub most_nodes : ℕ
most_nodes = 2 ^ 25

-- the bits of the number of a node
abbrev pub node_bits : ℕ
node_bits = 25

-- the most arcs of a graph, in force or not
abbrev pub most_arcs : ℕ
most_arcs = 2 ^ 28

-- the most steps of a cycle or of a path
abbrev pub most_steps : ℕ
most_steps = 2 ^ 26

-- a sum of the weights of fewer bounds than there are nodes, each below 2^93 in absolute value, is below 2 to this
abbrev pub path_bits : ℕ
path_bits = 118

-- and a sum of the weights of as many bounds as a walk has steps is below 2 to this
abbrev pub walk_bits : ℕ
walk_bits = 119

-- the numbers of which sums and differences are made are at most 2 to this, so that those fit into 128 bits
abbrev pub term_bits : ℕ
term_bits = 124
