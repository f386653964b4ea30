use Rattle.std.proofs.Common.{◌≡◌, take}
use Rattle.msg_match.specs.Held.{seen_items}
use Rattle.msg_match.specs.Series.{AreStops, series_of}
use Rattle.msg_match.proofs.series.stops_of.Given as goal

-- the events so far stand in their series, which are all there
abbrev pub invariant-loop-place : goal.invariant-loop-place
invariant-loop-place l = (l.series ≡ series_of (seen_items (take l.place l.items))) × AreStops (seen_items (take l.place l.items)) l.stops.items
