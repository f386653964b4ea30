-- Series of events, and when the groups among them begin. A series has the events of one message and one window.
use Rattle.std.specs.Prelude.{◌≡◌, ◌<◌, ℕ, ◌-◌, ℤ, pos, ◌-ℤ◌, nat_abs, nat_lt, ◌==◌, ◌&&◌, not, if◌then◌else◌, List, [], ◌∷◌, ◌++◌, length, map, slice_get, slice_index_or, All, AllPairs, ◌≢◌, Option, Some, None, option_map, Bool}
use Rattle.std.specs.List.{list_any}
use Rattle.traces.specs.Seen.{EventKey, SeenMoment, is_same_key}
use Rattle.msg_match.specs.declared.series.Stop.{Stop}
use Rattle.msg_match.specs.Groups.{SeenItem, each_once}
use Rattle.msg_match.specs.Windowed.{group_item, item_keys}

-- ---- times
-- a moment of another time
abbrev pub moment_at : Option SeenMoment → ℤ → Option SeenMoment
moment_at moment time = option_map (λ (m : SeenMoment). record { time = time; window = m.window }) moment

-- a key of another time, where it has one
abbrev pub key_at : EventKey → ℤ → EventKey
key_at key time = record { message = key.message; moment = moment_at key.moment time }

-- an event of another time
abbrev pub item_at : SeenItem → ℤ → SeenItem
item_at x time = record { event = x.event; side = x.side; key = key_at x.key time }

-- the moment, and the time 0 and no window where there is none
abbrev pub moment_or_none : Option SeenMoment → SeenMoment
moment_or_none None = record { time = pos 0; window = 0 }
moment_or_none (Some m) = m

-- ---- series
-- what a series is known by: the key of its events without their times
abbrev pub timeless : EventKey → EventKey
timeless key = key_at key (pos 0)

-- the series of events, in the order in which they first came
abbrev pub series_of : List SeenItem → List EventKey
series_of items = each_once is_same_key (map (λ (x : SeenItem). timeless x.key) items)

-- a key more, where it is not there
abbrev pub with_series : List EventKey → EventKey → List EventKey
with_series series key = if list_any (is_same_key key) series then series else series ++ key ∷ []

-- the event stands so in its series, and at this place among all
pub record IsStop (series : List EventKey) (x : SeenItem) (k : ℕ) (s : Stop) : Type 0 where
  pub number : slice_get series s.series ≡ Some (timeless x.key)
  pub time : s.time ≡ (moment_or_none x.key.moment).time
  pub window : s.window ≡ (moment_or_none x.key.moment).window
  pub place : s.place ≡ k

-- the events stand so, each at its place
pub record AreStopsBy (series : List EventKey) (items : List SeenItem) (stops : List Stop) : Type 0 where
  pub many : length stops ≡ length items
  pub each : (k : ℕ) (x : SeenItem) (s : Stop) → k < length stops → IsStop series (slice_index_or items k x) k (slice_index_or stops k s)

abbrev pub AreStops : List SeenItem → List Stop → Type 0
AreStops items stops = AreStopsBy (series_of items) items stops

-- ---- the scan
-- all places are those of a list, and no two are one
pub record HaveOwnPlaces (stops : List Stop) : Type 0 where
  pub within : All (λ (s : Stop). s.place < length stops) stops
  pub differ : AllPairs (λ (a b : Stop). a.place ≢ b.place) stops

-- what stands for no event
abbrev pub no_stop : Stop
no_stop = record { series = 0; time = pos 0; window = 0; place = 0 }

-- when the group of an event begins that stands behind another one, whose group begins then
abbrev pub begin_behind : Stop → ℤ → Stop → ℤ
begin_behind last begin stop = if (last.series == stop.series) && not (nat_lt stop.window (nat_abs (stop.time -ℤ last.time))) then begin else stop.time

-- when the group of the event at k begins, by when those before it do
abbrev pub begin_at : List Stop → List ℤ → ℕ → ℤ
begin_at stops begins k =
    let last = slice_index_or stops (k - 1) no_stop in
    if k == 0 then (slice_index_or stops k no_stop).time else begin_behind last (slice_index_or begins last.place (pos 0)) (slice_index_or stops k no_stop)

-- the first n events have these beginnings at their places
abbrev pub AreBegun : ℕ → List Stop → List ℤ → Type 0
AreBegun n stops begins = (k : ℕ) → k < n → slice_index_or begins (slice_index_or stops k no_stop).place (pos 0) ≡ begin_at stops begins k

-- ---- beginnings
-- the groups of events begin at these times
pub record AreBeginnings (items : List SeenItem) (begins : List ℤ) : Type 0 where
  pub many : length begins ≡ length items
  pub each : (k : ℕ) (x : SeenItem) (t : ℤ) → k < length items → item_at (slice_index_or items k x) (slice_index_or begins k t) ≡ group_item (item_keys items) (slice_index_or items k x)
