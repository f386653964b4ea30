-- What a roster holds, and what it lists.
use Rattle.std.specs.Prelude.{◌≡◌, ℕ, ◌+◌, ◌≤◌, ◌⊎◌, suc, List, [], ◌∷◌, ◌++◌, map, length, slice_get, slice_set, slice_index_or, Option, Some, None, Contains}
use Rattle.std.specs.List.{range_with_len}
use Rattle.problem_model.specs.declared.items.Clock.{Clock}
use Rattle.problem_model.specs.Limits.{most_events}
use Rattle.problem.specs.Listing.{Listed}
use Rattle.decl.specs.Declaration.{Declaration, IsDeclaration}
use Rattle.traces.specs.Seen.{Seen}
use Rattle.traces.specs.declared.event_id.EventId.{EventId}
use Rattle.traces.specs.Traces.{name_of, clock_of}
use Rattle.roster.specs.declared.came.Came.{Came}
use Rattle.roster.specs.Groups.{total, sizes_of, group_at, with_more}
use Rattle.roster.specs.Readings.{Stamped, Rise, HasStamp}

-- the declaration; the events by number, in the order in which they came; the numbers of the events of each label, in their
-- order there; the readings of each clock
pub record RosterLists : Type 0 where
  pub declaration : Declaration
  pub came : List Came
  pub under : List (List ℕ)
  pub readings : List (List Stamped)

-- ---- events
-- which event of which label
abbrev pub id_of : Came → EventId
id_of e = record { label = e.label; number = e.number }

-- the event that stands for none
abbrev pub no_event : Came
no_event = record { stamp = 0; label = 0; number = 0; node = 0; partner = None }

-- the event with this number
abbrev pub event_at : List Came → ℕ → Came
event_at came v = slice_index_or came v no_event

-- event v is the one that its label numbers so
abbrev pub IsNumbered : List Came → ℕ → ℕ → ℕ → Type 0
IsNumbered came v label number = (e : Came) × (slice_get came v ≡ Some e) × (id_of e ≡ record { label = label; number = number })

-- v is the number of the event that a label numbers so, from 1 on
abbrev pub IsNumberUnder : List (List ℕ) → EventId → ℕ → Type 0
IsNumberUnder under id v = (k : ℕ) × (id.number ≡ suc k) × (slice_get (group_at under id.label) k ≡ Some v)

-- an event was stamped so on this clock
abbrev pub IsStamp : Declaration → List Came → ℕ → ℕ → Type 0
IsStamp d came clock stamp = (e : Came) × Contains came e × (clock_of d (id_of e) ≡ clock) × (e.stamp ≡ stamp)

-- the readings of each clock are the stamps of its events and no others, each once and rising
pub record AreOnClocks (d : Declaration) (came : List Came) (readings : List (List Stamped)) : Type 0 where
  pub rise : (c : ℕ) → Rise (group_at readings c)
  pub each : (c stamp : ℕ) → HasStamp (group_at readings c) stamp → IsStamp d came c stamp
  pub every : (c stamp : ℕ) → IsStamp d came c stamp → HasStamp (group_at readings c) stamp
  pub few : total (sizes_of readings) ≤ length came

-- a group for each label and each clock; what a label numbers k has number k there, and each event stands under its
-- label; there are at most 2^24 events
pub record IsRoster (r : RosterLists) : Type 0 where
  pub declared : IsDeclaration r.declaration
  pub labels : length r.under ≡ length r.declaration.labels
  pub clocks : length r.readings ≡ length r.declaration.clocks
  pub numbered : (label k v : ℕ) → slice_get (group_at r.under label) k ≡ Some v → IsNumbered r.came v label (suc k)
  pub every : (v : ℕ) (e : Came) → slice_get r.came v ≡ Some e → IsNumberUnder r.under (id_of e) v
  pub count : total (sizes_of r.under) ≡ length r.came
  pub few : length r.came ≤ most_events
  pub on_clocks : AreOnClocks r.declaration r.came r.readings

-- ---- what was accepted
-- the stamps of the events of each label
abbrev pub stamps_by : RosterLists → List (List ℕ)
stamps_by r = map (λ (vs : List ℕ). map (λ (v : ℕ). (event_at r.came v).stamp) vs) r.under

-- under each label stand as many events as these, with the same stamps
abbrev pub HoldsEvents : RosterLists → List (List Seen) → Type 0
HoldsEvents r seen = stamps_by r ≡ map (λ (events : List Seen). map (λ (s : Seen). s.stamp) events) seen

-- ---- what is listed
-- all elements, one group behind the other, each by its group and itself; the first group has number g
abbrev pub in_turn : {T X : Type 0} → (ℕ → T → X) → ℕ → List (List T) → List X
in_turn f g [] = []
in_turn f g (group ∷ groups) = map (f g) group ++ in_turn f (g + 1) groups

-- names by number; events by label and then by number there; readings by clock and then by stamp
abbrev pub listed : RosterLists → Listed
listed r = record {
  clock_names = map (λ (c : Clock). c.name) r.declaration.clocks;
  event_names = map (λ (e : Came). name_of r.declaration (id_of e)) r.came;
  events = in_turn {T = ℕ} {X = ℕ × ℕ} (λ g v. (v, (event_at r.came v).node)) 0 r.under;
  readings = in_turn {T = Stamped} {X = ℕ × ℕ × ℕ} (λ c s. (c, s.0, s.1)) 0 r.readings;
}

-- the event of a name, or none where no event has it
abbrev pub Finds : RosterLists → List ℕ → Option ℕ → Type 0
Finds r name (Some v) = slice_get (listed r).event_names v ≡ Some name
Finds r name None = (v : ℕ) → slice_get (listed r).event_names v ≡ Some name → ⊥

-- ---- what changes
-- events of a label with these stamps, numbered there from n on; their nodes are not known yet
abbrev pub came_from : ℕ → ℕ → List ℕ → List Came
came_from label n [] = []
came_from label n (stamp ∷ stamps) = (record { stamp = stamp; label = label; number = n; node = 0; partner = None }) ∷ came_from label (n + 1) stamps

-- the roster with events of a label more, behind all others: nodes and partners stay, and so do readings
pub record IsGrown (old new : RosterLists) (label : ℕ) (stamps : List ℕ) : Type 0 where
  pub declaration : new.declaration ≡ old.declaration
  pub came : new.came ≡ old.came ++ came_from label (length (group_at old.under label) + 1) stamps
  pub under : new.under ≡ with_more old.under label (range_with_len (length old.came) (length stamps))
  pub readings : (clock : ℕ) (s : Stamped) → Contains (group_at old.readings clock) s → Contains (group_at new.readings clock) s
  pub fresh : (clock : ℕ) (s : Stamped) → Contains (group_at new.readings clock) s → Contains (group_at old.readings clock) s ⊎ (s.1 ≡ 0)

-- the same but for the node of one reading
pub record SetsReading (old new : RosterLists) (clock stamp node : ℕ) : Type 0 where
  pub place : ℕ
  pub was : ℕ
  pub there : slice_get {X = Stamped} (group_at old.readings clock) place ≡ Some (stamp, was)
  pub is : new ≡ record old { readings = slice_set old.readings clock (slice_set (group_at old.readings clock) place (stamp, node)) }
