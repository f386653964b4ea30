use Rattle.std.proofs.Common.{◌≡◌, ◌++◌, drop}
use Rattle.traces.specs.Held.{placed_in}
use Rattle.replies.specs.Merged.{keys_from}
use Rattle.replies.specs.Writing.{times_by}
use Rattle.replies.proofs.keys.keys_of.Given as goal

-- the keys so far and those of the events from this place on are all
abbrev pub invariant-loop-place : goal.invariant-loop-place
invariant-loop-place g l =
    l.keys.items ++ keys_from (times_by (g.N.Listing.listed l.names) l.e.values) l.place (placed_in (drop l.place l.events))
    ≡ keys_from (times_by (g.N.Listing.listed l.names) l.e.values) 0 (placed_in l.events)
