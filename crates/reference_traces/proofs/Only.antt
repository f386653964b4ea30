-- The only one of some events.
use Rattle.std.proofs.Common.{◌≡◌, Bool, true, false, cond, refl}
use Rattle.std.specs.Prelude.{List, [], ◌∷◌, Option, Some, None}
use Rattle.traces.specs.declared.event_id.EventId.{EventId}
use Rattle.traces.specs.Traces.{Placed}
use Rattle.reference_traces.specs.Ends.{only_event}

-- the only one of an event that may have been found and those behind it
abbrev pub only_behind : Option EventId → List Placed → Option EventId
only_behind None events = only_event events
only_behind (Some id) [] = Some id
only_behind (Some id) (e ∷ more) = None

-- an event that is not asked for changes nothing
pub only_passed : (b : Bool) (e : Placed) (rest : List Placed) (found : Option EventId) → b ≡ false → only_behind found (cond b (e ∷ rest) rest) ≡ only_behind found rest
only_passed b e rest found is = rw is refl

-- the first one that is asked for is the only one so far
pub only_taken : (b : Bool) (e : Placed) (rest : List Placed) (found : Option EventId) → b ≡ true → found ≡ None
    → only_behind found (cond b (e ∷ rest) rest) ≡ only_behind (Some e.id) rest
only_taken b e [] found is none = rw is (rw none refl)
only_taken b e (f ∷ rest) found is none = rw is (rw none refl)
