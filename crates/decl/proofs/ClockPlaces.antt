-- The places of clocks, by their names and by their hosts.
use Rattle.std.proofs.Common.{◌≡◌, ◌≢◌, ℕ, zero, suc, ◌+◌, ◌<◌, ◌≤◌, ◌==◌, Bool, true, false, if◌then◌else◌, is_some, List, [], ◌∷◌, ◌++◌, length, length-append, map, slice_get, Option, Some, None, eq-eqb, eqb-true, refl, sym, ap, ◌∙◌, subst, arith, append_assoc, inl, inr}
use Rattle.std.proofs.lemmas.List.{map-append}
use Rattle.std.specs.List.{position, position_from}
use Rattle.std.specs.Option.{option_or}
use Rattle.std.specs.Str.{bytes_eq}
use Rattle.std.proofs.lemmas.Bool.{cases_lt}
use Rattle.std.proofs.lemmas.Option.{none-some, slice_get_past}
use Rattle.std.proofs.lemmas.Iterator.Adapters.{position_from-zero}
use Rattle.std.proofs.lemmas.Slice.Eq.{bytes_eq-Decides}
use Rattle.problem_model.specs.declared.items.Clock.{Clock}
use Rattle.problem_model.specs.Limits.{most_clocks}
use Rattle.toml.specs.Data.{Items, no_items, item, Members, no_members}
use Rattle.decl.specs.Clocks.{first_clock_place, is_taken, have_no_room, owner_by, owners_by, table_owners}
use Rattle.decl.specs.Inside.{IsTurnOf}
use Rattle.decl.specs.Keys.{entry_table}
use Rattle.decl.specs.Places.{clock_place}
use Rattle.decl.specs.declared.items.Owner.{Owner}
use Rattle.decl.proofs.Searching.{position_same}

-- ---- by name

-- tests that agree find the same place
same_test : {A : Type 0} (s t : A → Bool) → ((a : A) → s a ≡ t a) → (i : ℕ) (xs : List A) → position_from s i xs ≡ position_from t i xs
same_test s t same i [] = refl
same_test s t same i (x ∷ xs) = rw (same x) (ap (λ (o : Option ℕ). if t x then Some i else o) (same_test s t same (i + 1) xs))

turned : (a b : List ℕ) → bytes_eq a b ≡ bytes_eq b a
turned a b = grind (arith, bytes_eq-Decides a b, bytes_eq-Decides b a)

-- the place of a name among the names of clocks is that of its clock
pub place_is : (name : List ℕ) (names : List (List ℕ)) (clocks : List Clock) → names ≡ map (λ (c : Clock). c.name) clocks → position (bytes_eq name) names ≡ clock_place clocks name
place_is name names clocks own =
    position_from-zero (bytes_eq name) names ∙ same_test (bytes_eq name) (λ n. bytes_eq n name) (λ n. turned name n) 0 names
    ∙ ap (λ (ns : List (List ℕ)). position_from (λ n. bytes_eq n name) 0 ns) own ∙ position_same name 0 clocks

-- ---- by host

-- the first of two lists that has one
position_more : {A : Type 0} (t : A → Bool) (i : ℕ) (xs ys : List A) → position_from t i (xs ++ ys) ≡ option_or (position_from t i xs) (position_from t (i + length xs) ys)
position_more t i [] ys = ap (λ (n : ℕ). position_from t n ys) (omega arith)
position_more t i (x ∷ xs) ys = go (t x) refl (position_more t (i + 1) xs ys)
  where
    go : (b : Bool) → t x ≡ b → position_from t (i + 1) (xs ++ ys) ≡ option_or (position_from t (i + 1) xs) (position_from t (i + 1 + length xs) ys)
        → position_from t i (x ∷ xs ++ ys) ≡ option_or (position_from t i (x ∷ xs)) (position_from t (i + length (x ∷ xs)) ys)
    go true is more = rw is refl
    go false is more = rw is (more ∙ ap (λ (n : ℕ). option_or (position_from t (i + 1) xs) (position_from t n ys)) (omega arith))

pub first_more : (owners more : List Owner) (host : ℕ) → first_clock_place (owners ++ more) host ≡ option_or (first_clock_place owners host) (position_from (λ (o : Owner). o.host == host) (0 + length owners) more)
first_more owners more host = position_more (λ (o : Owner). o.host == host) 0 owners more

get_front : {A : Type 0} (xs ys : List A) (k : ℕ) → k < length xs → slice_get (xs ++ ys) k ≡ slice_get xs k
get_front [] ys k inside = absurd (omega (arith, inside))
get_front (x ∷ xs) ys zero inside = refl
get_front (x ∷ xs) ys (suc k) inside = get_front xs ys k (omega (arith, inside))

get_seam : {A : Type 0} (xs : List A) (y : A) (ys : List A) → slice_get (xs ++ y ∷ ys) (length xs) ≡ Some y
get_seam [] y ys = refl
get_seam (x ∷ xs) y ys = get_seam xs y ys

-- a place within a list has something
got : {A : Type 0} (xs : List A) (k : ℕ) → k < length xs → (x : A) × (slice_get xs k ≡ Some x)
got [] k inside = absurd (omega (arith, inside))
got (x ∷ xs) zero inside = (x, refl)
got (x ∷ xs) (suc k) inside = got xs k (omega (arith, inside))

or_some : (o p : Option ℕ) (k : ℕ) → o ≡ Some k → option_or o p ≡ Some k
or_some o p k e = rw e refl

or_none : (o p : Option ℕ) → o ≡ None → option_or o p ≡ p
or_none o p e = rw e refl

-- where the first clocks of hosts stand, when an owner comes
module _ (firsts : List ℕ) (owners : List Owner) (o : Owner) (held : (host : ℕ) → slice_get firsts host ≡ first_clock_place owners host) (turn : IsTurnOf owners o.host) where
  -- a host that has a first clock keeps it
  kept : (host : ℕ) → host < length firsts → slice_get firsts host ≡ first_clock_place (owners ++ o ∷ []) host
  kept host inside =
      let (k, at) = got firsts host inside in
      at ∙ sym (first_more owners (o ∷ []) host ∙ or_some _ _ k (sym (held host) ∙ at))

  -- another host has none still
  still : (host : ℕ) → length firsts ≤ host → o.host ≢ host → None ≡ first_clock_place (owners ++ o ∷ []) host
  still host past other =
      sym (first_more owners (o ∷ []) host ∙ or_none _ _ (sym (held host) ∙ slice_get_past firsts host past) ∙ apart (o.host == host) refl)
    where
      apart : (b : Bool) → (o.host == host) ≡ b → position_from (λ (p : Owner). p.host == host) (0 + length owners) (o ∷ []) ≡ None
      apart true e = absurd (other (eqb-true o.host host e))
      apart false e = rw e refl

  -- the hosts before this one have clocks
  reached : o.host ≤ length firsts
  reached = elim (cases_lt (length firsts) o.host) [
    | inl below ↦ absurd (turn.before (length firsts) below (sym (held (length firsts)) ∙ slice_get_past firsts (length firsts) (omega arith)))
    | inr le ↦ le
  ]

  -- the host has none yet
  pub firsts_new : o.host ≡ length firsts → (host : ℕ) → slice_get (firsts ++ length owners ∷ []) host ≡ first_clock_place (owners ++ o ∷ []) host
  firsts_new new host = elim (cases_lt host (length firsts)) [
    | inl below ↦ get_front firsts (length owners ∷ []) host below ∙ kept host below
    | inr le ↦ elim (cases_lt (length firsts) host) [
      | inl above ↦ slice_get_past (firsts ++ length owners ∷ []) host (omega (arith, above, length-append firsts (length owners ∷ []))) ∙ still host le (λ same. omega (arith, same, new, above))
      | inr ge ↦ subst (λ (h : ℕ). slice_get (firsts ++ length owners ∷ []) h ≡ first_clock_place (owners ++ o ∷ []) h) (let same : length firsts ≡ host = omega (arith, le, ge) in same) here
    ]
  ]
    where
      own : (o.host == length firsts) ≡ true
      own = eq-eqb o.host (length firsts) new

      here : slice_get (firsts ++ length owners ∷ []) (length firsts) ≡ first_clock_place (owners ++ o ∷ []) (length firsts)
      here =
          get_seam firsts (length owners) []
          ∙ sym (first_more owners (o ∷ []) (length firsts) ∙ or_none _ _ (sym (held (length firsts)) ∙ slice_get_past firsts (length firsts) (omega arith)) ∙ rw own (ap Some (omega arith)))

  -- the host has one
  pub firsts_same : o.host ≢ length firsts → (host : ℕ) → slice_get firsts host ≡ first_clock_place (owners ++ o ∷ []) host
  firsts_same other host = elim (cases_lt host (length firsts)) [
    | inl below ↦ kept host below
    | inr le ↦ slice_get_past firsts host le ∙ still host le (λ same. other (omega (arith, same, le, reached)))
  ]

-- ---- turns of hosts

-- each clock of the host whose turn it is leaves it its turn
pub turn_stays : (owners : List Owner) (o : Owner) → IsTurnOf owners o.host → IsTurnOf (owners ++ o ∷ []) o.host
turn_stays owners o turn = record {
  before = λ other below none. turn.before other below (left _ _ (sym (first_more owners (o ∷ []) other) ∙ none));
  behind = λ other above. first_more owners (o ∷ []) other ∙ or_none _ _ (turn.behind other above) ∙ apart other above (o.host == other) refl;
}
  where
    left : (a b : Option ℕ) → option_or a b ≡ None → a ≡ None
    left None b e = refl
    left (Some k) b e = absurd (none-some k (sym e))

    apart : (other : ℕ) → o.host < other → (b : Bool) → (o.host == other) ≡ b → position_from (λ (p : Owner). p.host == other) (0 + length owners) (o ∷ []) ≡ None
    apart other above true e = let same = eqb-true o.host other e in absurd (omega (arith, same, above))
    apart other above false e = rw e refl

moved : (owners : List Owner) (o : Owner) → IsTurnOf owners o.host → IsTurnOf (owners ++ o ∷ []) (o.host + 1)
moved owners o turn = record {
  before = λ other below none. elim (cases_lt other o.host) [
    | inl less ↦ (turn_stays owners o turn).before other less none
    | inr le ↦ here other (omega (arith, below, le)) (sym (first_more owners (o ∷ []) other) ∙ none)
  ];
  behind = λ other above. (turn_stays owners o turn).behind other (omega (arith, above));
}
  where
    own : (p : Option ℕ) (k : ℕ) → option_or p (Some k) ≡ None → ⊥
    own None k e = absurd (none-some k (sym e))
    own (Some m) k e = absurd (none-some m (sym e))

    here : (other : ℕ) → o.host ≡ other → option_or (first_clock_place owners other) (position_from (λ (p : Owner). p.host == other) (0 + length owners) (o ∷ [])) ≡ None → ⊥
    here other same none = own (first_clock_place owners other) (0 + length owners) (rw (eq-eqb o.host other same) at none)

-- clocks of a host give the next one its turn
pub turn_moves : (owners : List Owner) (place : ℕ) (host own : Members) (ds : Items) → IsTurnOf owners place → IsTurnOf (owners ++ owner_by place own host ∷ table_owners place host ds) (place + 1)
turn_moves owners place host own no_items turn = moved owners (owner_by place own host) turn
turn_moves owners place host own (item d ds) turn =
    let o : Owner = owner_by place own host in
    subst (λ (os : List Owner). IsTurnOf os (place + 1)) (append_assoc owners (o ∷ []) (table_owners place host (item d ds)))
    (turn_moves (owners ++ o ∷ []) place host (entry_table d) ds (turn_stays owners o turn))

pub turn_next : (owners new : List Owner) (place same : ℕ) (host : Members) (ds : Items) → same ≡ place → new ≡ owners ++ owners_by same host ds → IsTurnOf owners place → IsTurnOf new (place + 1)
turn_next owners new place same host ds e added turn =
    subst (λ (os : List Owner). IsTurnOf os (place + 1)) (sym (added ∙ ap (λ (p : ℕ). owners ++ owners_by p host ds) e)) (go ds)
  where
    go : (items : Items) → IsTurnOf (owners ++ owners_by place host items) (place + 1)
    go no_items = turn_moves owners place host no_members no_items turn
    go (item d items) = turn_moves owners place host (entry_table d) items turn

-- ---- a book with a clock more

is_none_of : (o : Option ℕ) → is_some o ≡ false → o ≡ None
is_none_of None e = refl
is_none_of (Some k) e = cc

-- a name that is not taken stands nowhere
pub name_new : (name : List ℕ) (names : List (List ℕ)) (clocks : List Clock) → names ≡ map (λ (c : Clock). c.name) clocks → is_taken clocks name ≡ false → position (bytes_eq name) names ≡ None
name_new name names clocks own free = is_none_of _ (ap is_some (place_is name names clocks own) ∙ free)

-- what holds of the lists of a book holds when a clock comes
pub book_more : (names more : List (List ℕ)) (clocks all : List Clock) (owners whose : List Owner) (firsts : List ℕ) (clock : Clock) (owner : Owner) → names ≡ map (λ (c : Clock). c.name) clocks
    → length owners ≡ length clocks → have_no_room clocks ≡ false → more ≡ names ++ clock.name ∷ [] → all ≡ clocks ++ clock ∷ [] → whose ≡ owners ++ owner ∷ []
    → ((host : ℕ) → slice_get firsts host ≡ first_clock_place (owners ++ owner ∷ []) host)
    → (more ≡ map (λ (c : Clock). c.name) all) × (length whose ≡ length all) × (length all ≤ most_clocks) × ((host : ℕ) → slice_get firsts host ≡ first_clock_place whose host)
book_more names more clocks all owners whose firsts clock owner own owned room p q r held = (
  p ∙ ap (λ (ns : List (List ℕ)). ns ++ clock.name ∷ []) own ∙ sym (ap (map (λ (c : Clock). c.name)) q ∙ map-append (λ (c : Clock). c.name) clocks (clock ∷ [])),
  omega (arith, owned, ap length r, ap length q, length-append owners (owner ∷ []), length-append clocks (clock ∷ [])),
  omega (arith, below, ap length q, length-append clocks (clock ∷ [])),
  subst (λ (os : List Owner). (host : ℕ) → slice_get firsts host ≡ first_clock_place os host) (sym r) held,
)
  where
    below : length clocks < most_clocks
    below = grind (arith, room)
