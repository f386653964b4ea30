-- When the groups begin that times fall into: neighbours that lie a window apart at most are of one group.
use Rattle.std.specs.Prelude.{◌≡◌, ℕ, ℤ, pos, ◌-ℤ◌, int_lt, Contains, IsTrue, List, [], ◌∷◌, filter, Bool, not, ◌&&◌, if◌then◌else◌}
use Rattle.std.specs.List.{list_any}

-- a time lies before another one, and not further than the window
abbrev pub lies_just_before : ℕ → ℤ → ℤ → Bool
lies_just_before window before time = int_lt before time && not (int_lt (pos window) (time -ℤ before))

-- a time begins a group: none of these times lies just before it
abbrev pub begins : ℕ → List ℤ → ℤ → Bool
begins window times time = not (list_any (λ t. lies_just_before window t time) times)

-- the latest of times, and another time where there is none
abbrev pub latest : List ℤ → ℤ → ℤ
latest [] other = other
latest (t ∷ []) other = t
latest (t ∷ s ∷ more) other = if int_lt t (latest (s ∷ more) other) then latest (s ∷ more) other else t

-- whether a time begins a group and is not after another one
abbrev pub begins_by : ℕ → List ℤ → ℤ → ℤ → Bool
begins_by window times time t = not (int_lt time t) && begins window times t

-- when the group of a time begins: at the latest of these times that begins one and is not after it
abbrev pub beginning : ℕ → List ℤ → ℤ → ℤ
beginning window times time = latest (filter (begins_by window times time) times) time

-- ---- chains
-- these times lead from one time to another one: each lies just behind the one before
abbrev pub AreSteps : ℕ → List ℤ → ℤ → List ℤ → ℤ → Type 0
AreSteps window times from [] to = from ≡ to
AreSteps window times from (t ∷ more) to = Contains times t × IsTrue (lies_just_before window from t) × AreSteps window times t more to

-- some of the times do
abbrev pub IsLinked : ℕ → List ℤ → ℤ → ℤ → Type 0
IsLinked window times from to = (steps : List ℤ) × AreSteps window times from steps to
