-- The latest of times, one after the other; and the times of events.
use Rattle.std.proofs.Common.{◌≡◌, ℤ, ◌<ℤ◌, ◌≤ℤ◌, int_lt, if◌then◌else◌, List, [], ◌∷◌, ◌++◌, Bool, true, false, Option, Some, None, option_to_list, filter, append_assoc, refl, sym, ap, ◌∙◌, arith}
use Rattle.std.specs.List.{flat_map}
use Rattle.std.proofs.lemmas.Int.{ints, by_lt_z}
use Rattle.std.proofs.lemmas.List.Concat.{flat_map-append}
use Rattle.traces.specs.Seen.{EventKey}
use Rattle.traces.specs.Traces.{Placed}
use Rattle.traces.specs.Beginnings.{latest}
use Rattle.traces.specs.Windows.{key_in, keys_among, time_with, times_of}
use Rattle.reference_traces.specs.Groups.{later}

less : (a b : ℤ) → a <ℤ b → int_lt a b ≡ true
less a b h = grind (arith, ints)

not_less : (a b : ℤ) → b ≤ℤ a → int_lt a b ≡ false
not_less a b h = grind (arith, ints)

-- the later of two integers
abbrev later_one : ℤ → ℤ → ℤ
later_one a b = if int_lt a b then b else a

three : (u t l : ℤ) → later_one u (later_one t l) ≡ later_one (later_one u t) l
three u t l =
    by_lt_z {P = later_one u (later_one t l) ≡ later_one (later_one u t) l} t l
    (λ tl. by_lt_z {P = later_one u (later_one t l) ≡ later_one (later_one u t) l} u t
    (λ ut. let ul : u <ℤ l = omega (arith, ints, tl, ut) in rw (less t l tl, less u t ut, less u l ul, less t l tl) refl)
    (λ tu. rw (less t l tl, not_less u t tu) refl))
    (λ lt. by_lt_z {P = later_one u (later_one t l) ≡ later_one (later_one u t) l} u t
    (λ ut. rw (not_less t l lt, less u t ut, not_less t l lt) refl)
    (λ tu. let lu : l ≤ℤ u = omega (arith, ints, lt, tu) in rw (not_less t l lt, not_less u t tu, not_less u l lu) refl))

-- one time more is the later one of it and the latest so far
pub later_first : (found : Option ℤ) (t : ℤ) (more : List ℤ) (other : ℤ) → latest (option_to_list found ++ t ∷ more) other ≡ latest (later found t ∷ more) other
later_first None t more other = refl
later_first (Some u) t [] other = refl
later_first (Some u) t (s ∷ more) other = three u t (latest (s ∷ more) other)

-- a time that is passed over changes nothing
pub passed_over : (p : ℤ → Bool) (found now : Option ℤ) (t : ℤ) (rest : List ℤ) (other : ℤ) → p t ≡ false → now ≡ found
    → latest (option_to_list now ++ filter p rest) other ≡ latest (option_to_list found ++ filter p (t ∷ rest)) other
passed_over p found now t rest other not_so same = rw (not_so, same) refl

-- one that passes is found, or an earlier one that is later
pub taken_in : (p : ℤ → Bool) (found now : Option ℤ) (t : ℤ) (rest : List ℤ) (other : ℤ) → p t ≡ true → now ≡ Some (later found t)
    → latest (option_to_list now ++ filter p rest) other ≡ latest (option_to_list found ++ filter p (t ∷ rest)) other
taken_in p found now t rest other so same = rw (so, same) (sym (later_first found t (filter p rest) other))

-- the times of an event and of those behind it
pub times_first : (key : EventKey) (e : Placed) (more : List Placed) → times_of (keys_among (e ∷ more)) key ≡ flat_map (time_with key) (key_in e.seen.mark) ++ times_of (keys_among more) key
times_first key e more = flat_map-append (time_with key) (key_in e.seen.mark) (keys_among more)

-- times that were taken from the front of what is left
pub taken_on : (old now own rest all : List ℤ) → now ≡ old ++ own → old ++ (own ++ rest) ≡ all → now ++ rest ≡ all
taken_on old now own rest all grown is = ap (λ (xs : List ℤ). xs ++ rest) grown ∙ append_assoc old own rest ∙ is
