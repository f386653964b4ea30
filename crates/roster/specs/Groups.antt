-- Lists of several groups, and the place of an element among all.
use Rattle.std.specs.Prelude.{◌≡◌, ℕ, ◌+◌, ◌-◌, ◌<◌, ◌≤◌, zero, suc, List, [], ◌∷◌, ◌++◌, map, length, take, slice_set, slice_index_or}
use Rattle.std.specs.Global.{Vec}

-- how many elements groups of these sizes have
abbrev pub total : List ℕ → ℕ
total [] = 0
total (size ∷ sizes) = size + total sizes

-- the place is that of element k of group g, in groups of these sizes
abbrev pub IsPlaceOf : List ℕ → ℕ → ℕ → ℕ → Type 0
IsPlaceOf [] place g k = ⊥
IsPlaceOf (size ∷ sizes) place zero k = (k ≡ place) × (k < size)
IsPlaceOf (size ∷ sizes) place (suc g) k = (size ≤ place) × IsPlaceOf sizes (place - size) g k

-- the sizes of groups
abbrev pub sizes_of : {T : Type 0} → List (List T) → List ℕ
sizes_of groups = map length groups

-- one group
abbrev pub group_at : {T : Type 0} → List (List T) → ℕ → List T
group_at groups g = slice_index_or groups g []

-- the groups with these behind those of one of them
abbrev pub with_more : {T : Type 0} → List (List T) → ℕ → List T → List (List T)
with_more groups g more = slice_set groups g (group_at groups g ++ more)

-- the groups with this in place of what stands in one of them from place k on
abbrev pub with_tail : {T : Type 0} → List (List T) → ℕ → ℕ → List T → List (List T)
with_tail groups g k tail = slice_set groups g (take k (group_at groups g) ++ tail)

-- what lists of the code hold
abbrev pub lists_of : {T : Type 0} → List (Vec T) → List (List T)
lists_of {T} lists = map (λ (l : Vec T). l.items) lists
