-- What is tested of a message before it is left out.
use Rattle.std.specs.Prelude.{◌≡◌, ℕ, ◌<◌, Bool, false, List, length, slice_get, Some}
use Rattle.problem_model.specs.declared.items.Message.{Message}
use Rattle.problem_model.specs.Problem.{ProblemLists}
use Rattle.thinning.specs.Thinned.{IsMarked}
use Rattle.thinning.specs.Thinning.{HaveSameBounds, HasNearEnds, IsAsFast, IsMessageEnd}

-- both events are events of the problem
abbrev pub HasEnds : ProblemLists → Message → Type 0
HasEnds p m = (m.send < length p.events) × (m.receive < length p.events)

-- a message that is kept in any case
abbrev pub IsFixed : ProblemLists → List Bool → Message → Type 0
IsFixed p fixed k = (place : ℕ) × (slice_get p.messages place ≡ Some k) × IsMarked fixed place

-- a fixed message is as fast as m; and where m has a greatest delay, m is as fast as a fixed one
pub record IsCoveredBy (p : ProblemLists) (fixed : List Bool) (m : Message) : Type 0 where
  pub fast : (k : Message) × IsFixed p fixed k × HaveSameBounds k m × HasNearEnds p k m × IsAsFast p 0 k m
  pub slow : (most : ℕ) → m.most ≡ Some most → (k : Message) × IsFixed p fixed k × HaveSameBounds k m × HasNearEnds p k m × IsAsFast p 0 m k

-- neither event of the message has a mark
abbrev pub IsUnmarked : List Bool → Message → Type 0
IsUnmarked marks m = (slice_get marks m.send ≡ Some false) × (slice_get marks m.receive ≡ Some false)

-- the events of the first so many messages are seen, and one of two of them is shared
pub record AreMarked (messages : List Message) (count : ℕ) (seen shared : List Bool) : Type 0 where
  pub seen_ends : (i : ℕ) (m : Message) (e : ℕ) → i < count → slice_get messages i ≡ Some m → IsMessageEnd e m → IsMarked seen e
  pub shared_ends : (i j : ℕ) (m n : Message) (e : ℕ) → i < j → j < count → slice_get messages i ≡ Some m → slice_get messages j ≡ Some n
      → IsMessageEnd e m → IsMessageEnd e n → IsMarked shared e

-- an event of two messages has a mark
pub record MarksShared (p : ProblemLists) (shared : List Bool) : Type 0 where
  pub each : length shared ≡ length p.events
  pub marks : (i j : ℕ) (m n : Message) (e : ℕ) → i < j → slice_get p.messages i ≡ Some m → slice_get p.messages j ≡ Some n
      → IsMessageEnd e m → IsMessageEnd e n → IsMarked shared e

-- an event is taken: it was seen, and where it had been seen before it is shared
pub record Notes (seen shared : List Bool) (event : ℕ) (seen' shared' : List Bool) : Type 0 where
  pub seen_on : (e : ℕ) → IsMarked seen e → IsMarked seen' e
  pub shared_on : (e : ℕ) → IsMarked shared e → IsMarked shared' e
  pub now_seen : IsMarked seen' event
  pub now_shared : IsMarked seen event → IsMarked shared' event

-- the message at the place is not fixed, fixed ones cover it, and its events are of no other message and are not asked about
pub record MayGo (p : ProblemLists) (fixed shared asked : List Bool) (place : ℕ) : Type 0 where
  pub message : Message
  pub there : slice_get p.messages place ≡ Some message
  pub not_fixed : slice_get fixed place ≡ Some false
  pub covered : IsCoveredBy p fixed message
  pub alone : IsUnmarked shared message
  pub unasked : IsUnmarked asked message
