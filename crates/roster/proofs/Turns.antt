-- All elements of groups, one group behind the other.
use Rattle.std.proofs.Common.{◌≡◌, ℕ, ◌+◌, ◌-◌, ◌<◌, ◌≤◌, zero, suc, List, [], ◌∷◌, ◌++◌, length, map, get_or, slice_get, Some, AllPairs, Contains, option_map, refl, sym, ◌∙◌, ap, subst, arith, inl, inr, length-append}
use Rattle.std.proofs.lemmas.List.{length-map, map-append}
use Rattle.std.proofs.lemmas.List.Elements.{Contains-append_cases, Contains-append_left, Contains-append_right}
use Rattle.std.proofs.lemmas.Option.{slice_get-map}
use Rattle.problem_model.specs.Nodes.{Reading, IsEarlierReading}
use Rattle.traces.proofs.Members.{here, there, head_or_tail, none_in, no_pairs, pairs_joined}
use Rattle.roster.specs.Groups.{total, sizes_of, group_at, IsPlaceOf}
use Rattle.roster.specs.Readings.{Stamped, Rise}
use Rattle.roster.specs.Roster.{in_turn}
use Rattle.roster.proofs.Pushing.{get_left, get_right}

pub place_is : {T : Type 0} (groups : List (List T)) (place h k : ℕ) → IsPlaceOf (sizes_of groups) place h k → (h < length groups) × (k < length (group_at groups h))
place_is [] place h k at = absurd at
place_is (group ∷ groups) place zero k at = (omega arith, at.1)
place_is (group ∷ groups) place (suc h) k at = let more = place_is groups (place - length group) h k at.1 in ((let l = more.0 in omega (arith, l)), more.1)

pub in_turn_at : {T X : Type 0} (f : ℕ → T → X) (g : ℕ) (groups : List (List T)) (place h k : ℕ) (x : T) → IsPlaceOf (sizes_of groups) place h k → slice_get (group_at groups h) k ≡ Some x →
    slice_get (in_turn f g groups) place ≡ Some (f (g + h) x)
in_turn_at f g [] place h k x at is = absurd at
in_turn_at f g (group ∷ groups) place zero k x at is =
    let first : slice_get (map (f g) group) k ≡ Some (f g x) = slice_get-map (f g) group k ∙ ap (option_map (f g)) is in
    get_left (map (f g) group) (in_turn f (g + 1) groups) place (f (g + 0) x)
    (subst (λ (n : ℕ). slice_get (map (f g) group) n ≡ Some (f (g + 0) x)) at.0 (first ∙ ap (λ (n : ℕ). Some (f n x)) (let e : g ≡ g + 0 = omega arith in e)))
in_turn_at f g (group ∷ groups) place (suc h) k x at is =
    let past : length group ≤ place = at.0 in
    let long : length (map (f g) group) ≡ length group = length-map group (f g) in
    get_right (map (f g) group) (in_turn f (g + 1) groups) place (place - length group) (omega (arith, past, long))
    ∙ in_turn_at f (g + 1) groups (place - length group) h k x at.1 is ∙ ap (λ (n : ℕ). Some (f n x)) (let e : g + 1 + h ≡ g + suc h = omega arith in e)

pub length-in_turn : {T X : Type 0} (f : ℕ → T → X) (g : ℕ) (groups : List (List T)) → length (in_turn f g groups) ≡ total (sizes_of groups)
length-in_turn f g [] = refl
length-in_turn f g (group ∷ groups) =
    let more = length-in_turn f (g + 1) groups in
    omega (arith, more, length-append (map (f g) group) (in_turn f (g + 1) groups), length-map group (f g))

pub map-map : {T X Y : Type 0} (h : X → Y) (f : T → X) (xs : List T) → map h (map f xs) ≡ map (λ x. h (f x)) xs
map-map h f [] = refl
map-map h f (x ∷ xs) = ap (λ l. h (f x) ∷ l) (map-map h f xs)

pub map-in_turn : {T X Y : Type 0} (h : X → Y) (f : ℕ → T → X) (g : ℕ) (groups : List (List T)) → map h (in_turn f g groups) ≡ in_turn (λ n x. h (f n x)) g groups
map-in_turn h f g [] = refl
map-in_turn h f g (group ∷ groups) =
    map-append h (map (f g) group) (in_turn f (g + 1) groups)
    ∙ ap (λ l. l ++ map h (in_turn f (g + 1) groups)) (map-map h (f g) group)
    ∙ ap (λ l. map (λ x. h (f g x)) group ++ l) (map-in_turn h f (g + 1) groups)

-- ---- members
pub from_map : {T X : Type 0} (f : T → X) (xs : List T) (y : X) → Contains (map f xs) y → (x : T) × Contains xs x × (f x ≡ y)
from_map f [] y c = absurd (none_in y c)
from_map f (x ∷ xs) y c = elim (head_or_tail (f x) y (map f xs) c) [
  | inl same ↦ (x, here x xs, same)
  | inr more ↦ (let rest = from_map f xs y more in (rest.0, there x rest.0 xs rest.1, rest.2))
]

pub into_map : {T X : Type 0} (f : T → X) (xs : List T) (x : T) → Contains xs x → Contains (map f xs) (f x)
into_map f [] x c = absurd (none_in x c)
into_map {T} {X} f (a ∷ xs) x c = elim (head_or_tail a x xs c) [
  | inl same ↦ subst (λ (z : T). Contains (map f (a ∷ xs)) (f z)) same (here (f a) (map f xs))
  | inr more ↦ there (f a) (f x) (map f xs) (into_map f xs x more)
]

pub from_turn : {T X : Type 0} (f : ℕ → T → X) (g : ℕ) (groups : List (List T)) (y : X) → Contains (in_turn f g groups) y → (h : ℕ) × (x : T) × Contains (group_at groups h) x × (f (g + h) x ≡ y)
from_turn f g [] y c = absurd (none_in y c)
from_turn f g (group ∷ groups) y c = elim (Contains-append_cases (map (f g) group) (in_turn f (g + 1) groups) y c) [
  | inl first ↦ (let x = from_map (f g) group y first in (0, x.0, x.1, ap (λ (n : ℕ). f n x.0) (let e : g + 0 ≡ g = omega arith in e) ∙ x.2))
  | inr more ↦ (let rest = from_turn f (g + 1) groups y more in (suc rest.0, rest.1, rest.2, ap (λ (n : ℕ). f n rest.1) (let e : g + suc rest.0 ≡ g + 1 + rest.0 = omega arith in e) ∙ rest.3))
]

pub into_turn : {T X : Type 0} (f : ℕ → T → X) (g : ℕ) (groups : List (List T)) (h : ℕ) (x : T) → Contains (group_at groups h) x → Contains (in_turn f g groups) (f (g + h) x)
into_turn f g [] zero x c = absurd (none_in x c)
into_turn f g [] (suc h) x c = absurd (none_in x c)
into_turn {T} {X} f g (group ∷ groups) zero x c =
    Contains-append_left (map (f g) group) (in_turn f (g + 1) groups) (f (g + 0) x)
    (subst (λ (n : ℕ). Contains (map (f g) group) (f n x)) (let e : g ≡ g + 0 = omega arith in e) (into_map (f g) group x c))
into_turn {T} {X} f g (group ∷ groups) (suc h) x c =
    Contains-append_right (map (f g) group) (in_turn f (g + 1) groups) (f (g + suc h) x)
    (subst (λ (n : ℕ). Contains (in_turn f (g + 1) groups) (f n x)) (let e : g + 1 + h ≡ g + suc h = omega arith in e) (into_turn f (g + 1) groups h x c))

-- ---- readings in their order
abbrev pub on_clock : ℕ → Stamped → Reading
on_clock c s = (c, s.0)

behind : (g c : ℕ) (groups : List (List Stamped)) (x : Reading) → g ≤ c → Contains (in_turn on_clock c groups) x → g ≤ x.0
behind g c [] x le among = absurd (none_in x among)
behind g c (group ∷ groups) x le among = elim (Contains-append_cases (map (on_clock c) group) (in_turn on_clock (c + 1) groups) x among) [
  | inl first ↦ (let y = from_map (on_clock c) group x first in let e : c ≡ x.0 = ap (λ (z : Reading). z.0) y.2 in omega (arith, le, e))
  | inr more ↦ behind g (c + 1) groups x (omega (arith, le)) more
]

at_place : (c : ℕ) (rs : List Stamped) (k : ℕ) (d : Reading) (e : Stamped) → k < length rs → get_or (map (on_clock c) rs) k d ≡ on_clock c (get_or rs k e)
at_place c [] k d e within = absurd (omega (arith, within))
at_place c (x ∷ rs) zero d e within = refl
at_place c (x ∷ rs) (suc k) d e within = at_place c rs k d e (omega (arith, within))

one_clock : (c : ℕ) (rs : List Stamped) → Rise rs → AllPairs IsEarlierReading (map (on_clock c) rs)
one_clock c rs rise i j d less inside =
    let long = length-map rs (on_clock c) in
    let a : get_or (map (on_clock c) rs) i d ≡ on_clock c (get_or rs i d) = at_place c rs i d d (omega (arith, less, inside, long)) in
    let b : get_or (map (on_clock c) rs) j d ≡ on_clock c (get_or rs j d) = at_place c rs j d d (omega (arith, inside, long)) in
    let before : IsEarlierReading (on_clock c (get_or rs i d)) (on_clock c (get_or rs j d)) = inr (refl, rise i j d less (omega (arith, inside, long))) in
    subst (λ (x : Reading). IsEarlierReading x (get_or (map (on_clock c) rs) j d)) (sym a) (subst (λ (y : Reading). IsEarlierReading (on_clock c (get_or rs i d)) y) (sym b) before)

contains_of : {X : Type 0} (xs : List X) (k : ℕ) (d : X) → k < length xs → Contains xs (get_or xs k d)
contains_of [] k d inside = absurd (omega (arith, inside))
contains_of (x ∷ xs) zero d inside = here x xs
contains_of (x ∷ xs) (suc k) d inside = there x (get_or xs k d) xs (contains_of xs k d (omega (arith, inside)))

pub turns_rise : (c : ℕ) (groups : List (List Stamped)) → ((h : ℕ) → Rise (group_at groups h)) → AllPairs IsEarlierReading (in_turn on_clock c groups)
turns_rise c [] rise = no_pairs IsEarlierReading
turns_rise c (group ∷ groups) rise =
    pairs_joined IsEarlierReading (map (on_clock c) group) (in_turn on_clock (c + 1) groups) (one_clock c group (rise 0)) (turns_rise (c + 1) groups (λ h. rise (suc h)))
    (λ i d inside j e within.
    let x : Reading = get_or (map (on_clock c) group) i d in
    let y : Reading = get_or (in_turn on_clock (c + 1) groups) j e in
    let first = from_map (on_clock c) group x (contains_of (map (on_clock c) group) i d inside) in
    let own : c ≡ x.0 = ap (λ (z : Reading). z.0) first.2 in
    let past : c + 1 ≤ y.0 = behind (c + 1) (c + 1) groups y (omega arith) (contains_of (in_turn on_clock (c + 1) groups) j e within) in
    inl (omega (arith, own, past)))
