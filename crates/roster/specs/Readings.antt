-- The readings of one clock: its stamps, each with the number of its node.
use Rattle.std.specs.Prelude.{◌≡◌, ℕ, ◌+◌, ◌<◌, ◌≤◌, ◌⊎◌, List, Option, Some, None, map, length, All, AllPairs, Contains}
use Rattle.problem_model.specs.Nodes.{IsEarlierReading}
use Rattle.traces.specs.declared.event.Event.{Event}

-- a stamp and the number of its node
abbrev pub Stamped : Type 0
Stamped = ℕ × ℕ

-- each stamp is below the next
abbrev pub Rise : List Stamped → Type 0
Rise readings = AllPairs (λ (a b : Stamped). a.0 < b.0) readings

-- one of the readings has this stamp
abbrev pub HasStamp : List Stamped → ℕ → Type 0
HasStamp readings stamp = (node : ℕ) × Contains {X = Stamped} readings (stamp, node)

-- the greatest stamp of the readings below this one, and None where there is none
abbrev pub IsLastUnder : List Stamped → ℕ → Option ℕ → Type 0
IsLastUnder readings stamp (Some s) = HasStamp readings s × (s < stamp) × ((t : ℕ) → HasStamp readings t → t < stamp → t ≤ s)
IsLastUnder readings stamp None = (t : ℕ) → HasStamp readings t → t < stamp → ⊥

-- the least stamp of the readings above this one, and None where there is none
abbrev pub IsFirstOver : List Stamped → ℕ → Option ℕ → Type 0
IsFirstOver readings stamp (Some s) = HasStamp readings s × (stamp < s) × ((t : ℕ) → HasStamp readings t → stamp < t → s ≤ t)
IsFirstOver readings stamp None = (t : ℕ) → HasStamp readings t → stamp < t → ⊥

-- the stamps of events
abbrev pub stamps_of : List Event → List ℕ
stamps_of events = map (λ (e : Event). e.stamp) events

-- the least stamp of the readings, and None where there is none
abbrev pub IsFirstStamp : List Stamped → Option ℕ → Type 0
IsFirstStamp readings (Some s) = HasStamp readings s × ((t : ℕ) → HasStamp readings t → s ≤ t)
IsFirstStamp readings None = (t : ℕ) → HasStamp readings t → ⊥

-- the greatest stamp of the readings, and None where there is none
abbrev pub IsLastStamp : List Stamped → Option ℕ → Type 0
IsLastStamp readings (Some s) = HasStamp readings s × ((t : ℕ) → HasStamp readings t → t ≤ s)
IsLastStamp readings None = (t : ℕ) → HasStamp readings t → ⊥

-- the readings with those of more stamps: all that were there, and one with node 0 for each stamp that was not
pub record JoinsStamps (old : List Stamped) (stamps : List ℕ) (new : List Stamped) : Type 0 where
  pub rise : Rise new
  pub kept : (r : Stamped) → Contains old r → Contains new r
  pub added : (stamp : ℕ) → Contains stamps stamp → HasStamp new stamp
  pub only : (r : Stamped) → Contains new r → Contains old r ⊎ (Contains stamps r.0 × (r.1 ≡ 0))
  pub few : length new ≤ length old + length stamps

-- these are the readings of those of the stamps that none of the old readings has
pub record AreFresh (old : List Stamped) (stamps : List ℕ) (fresh : List Stamped) : Type 0 where
  pub each : (r : Stamped) → Contains fresh r → Contains stamps r.0 × (r.1 ≡ 0) × (HasStamp old r.0 → ⊥)
  pub every : (stamp : ℕ) → Contains stamps stamp → HasStamp old stamp ⊎ Contains {X = Stamped} fresh (stamp, 0)
  pub few : length fresh ≤ length stamps

-- each reading of the first list comes before each of the second
abbrev pub AreBefore : List Stamped → List Stamped → Type 0
AreBefore first second = All (λ (a : Stamped). All (λ (b : Stamped). a.0 < b.0) second) first

-- the second list has the elements of the first one, each once and in order
pub record AreSorted (all sorted : List Stamped) : Type 0 where
  pub each : (r : Stamped) → Contains sorted r → Contains all r
  pub every : (r : Stamped) → Contains all r → Contains sorted r
  pub rising : AllPairs IsEarlierReading sorted
  pub few : length sorted ≤ length all
