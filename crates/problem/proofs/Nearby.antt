-- The nearest clock before a clock that has a reading, and the ends of a clock.
use Rattle.std.proofs.Common.{◌≡◌, ◌<◌, ◌≤◌, ℕ, zero, suc, List, [], ◌∷◌, length, get_or, ltb, leb, true, false, Option, Some, None, refl, sym, ◌∙◌, ap, subst, arith, inl, inr}
use Rattle.std.specs.Prelude.{AllPairs, slice_get, IfSome, IfNone}
use Rattle.std.specs.Option.{option_or}
use Rattle.std.specs.List.Sorted.{IsNonDecreasingBy, IsPartitionedBy, IsPartitionPoint}
use Rattle.std.proofs.lemmas.List.Sorted.{IsPartitionedBy-ltb, IsPartitionedBy-leb}
use Rattle.std.proofs.lemmas.Bool.Decides.{nat_tests}
use Rattle.std.proofs.lemmas.Bool.{cases_lt}
use Rattle.std.proofs.lemmas.Option.{slice_get_within, slice_get-get_or, get_or_from_slice_get}
use Rattle.problem_model.specs.declared.items.Follow.{Follow}
use Rattle.problem_model.specs.Problem.{ProblemLists, IsChained}
use Rattle.problem_model.specs.declared.items.Bound.TheVariants as bounds
use Rattle.problem_model.specs.Bounds.{IsReading, ComesAfter, Declares}
use Rattle.problem_model.specs.Nodes.{Reading, IsEarlierReading, AreReadings}
use Rattle.problem_model.specs.ShortList.{follow_to, clocks_before, first_reading, last_reading, nearest_reading, follow_bound}
use Rattle.problem_model.proofs.Chains.{Among, among, Rises, rises}
use Rattle.problem_model.proofs.OneList.{contained}
use Rattle.problem_model.proofs.Following.{IsLast, IsFirst, last_is, first_is, ends_rise, one_line, line_more}
use Rattle.problem.specs.Nearest.{gap_between}
use Rattle.problem.proofs.Linked.{found_end}

-- ---- the clocks before a clock
module _ (p : ProblemLists) (chained : IsChained p) where
  pub rise_to : (d : ℕ) (f : Follow) → follow_to p.follows d ≡ Some f → f.earlier < d
  rise_to d f is =
      let found = found_end (λ g. g.later) p.follows d f is in
      let rise = (ends_rise p chained [] tt f found.0).0 in
      let same = found.1 in omega (arith, rise, same)

  -- the clocks before a clock to which this line leads
  abbrev along : ℕ → Option Follow → List ℕ
  along n o = elim o [ None ↦ [] | Some f ↦ f.earlier ∷ clocks_before p.follows n f.earlier ]

  by_line_to : (n d : ℕ) (o : Option Follow) → follow_to p.follows d ≡ o → clocks_before p.follows (suc n) d ≡ along n o
  by_line_to n d o line = ap (along n) line

  none_before : (n d : ℕ) → d ≡ 0 → clocks_before p.follows n d ≡ []
  none_before zero d is = refl
  none_before (suc n) d is = by_line (follow_to p.follows d) refl
    where
      by_line : (o : Option Follow) → follow_to p.follows d ≡ o → clocks_before p.follows (suc n) d ≡ []
      by_line None line = by_line_to n d None line
      by_line (Some f) line = absurd (let rise = rise_to d f line in omega (arith, rise, is))

  enough : (n m d : ℕ) → d ≤ n → d ≤ m → clocks_before p.follows n d ≡ clocks_before p.follows m d
  enough zero m d low high = sym (none_before m d (omega (arith, low)))
  enough (suc n) zero d low high = none_before (suc n) d (omega (arith, high))
  enough (suc n) (suc m) d low high = by_line (follow_to p.follows d) refl (λ f rise. enough n m f.earlier (omega (arith, rise, low)) (omega (arith, rise, high)))
    where
      by_line : (o : Option Follow) → follow_to p.follows d ≡ o → ((f : Follow) → f.earlier < d → clocks_before p.follows n f.earlier ≡ clocks_before p.follows m f.earlier)
          → clocks_before p.follows (suc n) d ≡ clocks_before p.follows (suc m) d
      by_line None line further = by_line_to n d None line ∙ sym (by_line_to m d None line)
      by_line (Some f) line further = by_line_to n d (Some f) line ∙ ap (λ (cs : List ℕ). f.earlier ∷ cs) (further f (rise_to d f line)) ∙ sym (by_line_to m d (Some f) line)

  pub none_on : (readings : List Reading) (d : ℕ) → follow_to p.follows d ≡ None → nearest_reading readings (clocks_before p.follows d d) ≡ None
  none_on readings zero line = refl
  none_on readings (suc n) line = ap (nearest_reading readings) (by_line_to n (suc n) None line)

  pub nearest_on : (readings : List Reading) (d : ℕ) (f : Follow) → follow_to p.follows d ≡ Some f →
      nearest_reading readings (clocks_before p.follows d d) ≡ option_or (last_reading readings f.earlier) (nearest_reading readings (clocks_before p.follows f.earlier f.earlier))
  nearest_on readings zero f line = absurd (let rise = rise_to 0 f line in omega (arith, rise))
  nearest_on readings (suc n) f line =
      let low : f.earlier ≤ n = (let rise = rise_to (suc n) f line in omega (arith, rise)) in
      ap (nearest_reading readings) (by_line_to n (suc n) (Some f) line)
      ∙ ap (λ (cs : List ℕ). option_or (last_reading readings f.earlier) (nearest_reading readings cs)) (enough n f.earlier f.earlier low (omega arith))

  pub last_here : (readings : List Reading) (d : ℕ) (f : Follow) (r : Reading) → Some f ≡ follow_to p.follows d → Some r ≡ last_reading readings f.earlier →
      Some r ≡ nearest_reading readings (clocks_before p.follows d d)
  last_here readings d f r line is =
      sym (nearest_on readings d f (sym line) ∙ ap (λ (o : Option Reading). option_or o (nearest_reading readings (clocks_before p.follows f.earlier f.earlier))) (sym is))

  pub last_further : (readings : List Reading) (d : ℕ) (f : Follow) → Some f ≡ follow_to p.follows d → None ≡ last_reading readings f.earlier →
      nearest_reading readings (clocks_before p.follows f.earlier f.earlier) ≡ nearest_reading readings (clocks_before p.follows d d)
  last_further readings d f line is =
      sym (nearest_on readings d f (sym line) ∙ ap (λ (o : Option Reading). option_or o (nearest_reading readings (clocks_before p.follows f.earlier f.earlier))) (sym is))

  -- ---- the reading that is found
  some_same : {X : Type 0} (a b : X) → Some a ≡ Some b → a ≡ b
  some_same a b e = cc

  module _ (readings : List Reading) (rising : Rises readings) where
    reach_step : (d e : ℕ) (o rest : Option Reading) (r : Reading) → ComesAfter p e d → IsLast e readings o → (rest ≡ Some r → Among readings r × ComesAfter p r.0 d)
        → option_or o rest ≡ Some r → Among readings r × ComesAfter p r.0 d
    reach_step d e None rest r after last further is = further is
    reach_step d e (Some q) rest r after last further is =
        let one : q ≡ r = some_same q r is in
        subst (λ (v : Reading). Among readings v × ComesAfter p v.0 d) one (last.1, subst (λ (k : ℕ). ComesAfter p k d) (sym last.0) after)

    reach_on : (d : ℕ) (f : Follow) (r : Reading) → follow_to p.follows d ≡ Some f → Among readings r × ComesAfter p r.0 f.earlier → Among readings r × ComesAfter p r.0 d
    reach_on d f r line reached =
        let found = found_end (λ g. g.later) p.follows d f line in
        (reached.0, subst (λ (k : ℕ). ComesAfter p r.0 k) found.1 (line_more p r.0 f found.0 reached.1))

    pub reached : (n d : ℕ) (r : Reading) → nearest_reading readings (clocks_before p.follows n d) ≡ Some r → Among readings r × ComesAfter p r.0 d
    reached zero d r is = absurd cc
    reached (suc n) d r is = by_line (follow_to p.follows d) refl (λ f. reached n f.earlier r) is
      where
        by_line : (o : Option Follow) → follow_to p.follows d ≡ o
            → ((f : Follow) → nearest_reading readings (clocks_before p.follows n f.earlier) ≡ Some r → Among readings r × ComesAfter p r.0 f.earlier)
            → nearest_reading readings (elim o [ None ↦ [] | Some g ↦ g.earlier ∷ clocks_before p.follows n g.earlier ]) ≡ Some r → Among readings r × ComesAfter p r.0 d
        by_line None line further is = absurd cc
        by_line (Some f) line further is =
            let found = found_end (λ g. g.later) p.follows d f line in
            reach_step d f.earlier (last_reading readings f.earlier) _ r (subst (λ (k : ℕ). ComesAfter p f.earlier k) found.1 (one_line p f found.0))
            (last_is f.earlier readings rising) (λ rest. reach_on d f r line (further f rest)) is

-- ---- the first and the last reading of a clock are one
pair_same : (a b : Reading) → a.0 ≡ b.0 → a.1 ≡ b.1 → a ≡ b
pair_same a b first second = rw (first, second) refl

on_it : (readings : List Reading) (clock : ℕ) (r : Reading) → r.0 ≡ clock → Among readings r → Among readings (clock, r.1)
on_it readings clock r is at = subst (λ (k : ℕ). Among readings (k, r.1)) is at

first_one : (clock : ℕ) (readings : List Reading) (a b : Option Reading) → IsFirst clock readings a → IsFirst clock readings b → a ≡ b
first_one clock readings None None x y = refl
first_one clock readings None (Some b) x y = absurd (x b.1 (on_it readings clock b y.0 y.1))
first_one clock readings (Some a) None x y = absurd (y a.1 (on_it readings clock a x.0 x.1))
first_one clock readings (Some a) (Some b) x y =
    let low = x.2 b.1 (on_it readings clock b y.0 y.1) in
    let high = y.2 a.1 (on_it readings clock a x.0 x.1) in
    ap (λ (v : Reading). Some v) (pair_same a b (x.0 ∙ sym y.0) (omega (arith, low, high)))

last_one : (clock : ℕ) (readings : List Reading) (a b : Option Reading) → IsLast clock readings a → IsLast clock readings b → a ≡ b
last_one clock readings None None x y = refl
last_one clock readings None (Some b) x y = absurd (x b.1 (on_it readings clock b y.0 y.1))
last_one clock readings (Some a) None x y = absurd (y a.1 (on_it readings clock a x.0 x.1))
last_one clock readings (Some a) (Some b) x y =
    let low = x.2 b.1 (on_it readings clock b y.0 y.1) in
    let high = y.2 a.1 (on_it readings clock a x.0 x.1) in
    ap (λ (v : Reading). Some v) (pair_same a b (x.0 ∙ sym y.0) (omega (arith, low, high)))

-- ---- where a clock's readings begin and end
module _ (clock : ℕ) (readings : List Reading) (rising : AllPairs IsEarlierReading readings) where
  up : (i j : ℕ) (d : Reading) → i ≤ j → j < length readings → (get_or readings i d).0 ≤ (get_or readings j d).0
  up i j d le inside = elim (cases_lt i j) [
    | inl below ↦ no_less (rising i j d below inside)
    | inr above ↦ (let same : i ≡ j = omega (arith, le, above) in subst (λ (k : ℕ). (get_or readings i d).0 ≤ (get_or readings k d).0) same (omega arith))
  ]
    where
      no_less : {a b : Reading} → IsEarlierReading a b → a.0 ≤ b.0
      no_less (inl less) = omega (arith, less)
      no_less (inr later) = let same = later.0 in omega (arith, same)

  pub starts_below : IsNonDecreasingBy (λ (r : Reading). r.0) readings
  starts_below i j d le inside = up i j d le inside

  stamp_up : (a b : Reading) → IsEarlierReading a b → a.0 ≡ b.0 → a.1 ≤ b.1
  stamp_up a b (inl less) same = absurd (omega (arith, less, same))
  stamp_up a b (inr later) same = omega (arith, later.1)

  stamps_up : (i j : ℕ) (d : Reading) → i ≤ j → j < length readings → (get_or readings i d).0 ≡ (get_or readings j d).0 → (get_or readings i d).1 ≤ (get_or readings j d).1
  stamps_up i j d le inside same = elim (cases_lt i j) [
    | inl below ↦ stamp_up (get_or readings i d) (get_or readings j d) (rising i j d below inside) same
    | inr above ↦ (let one : i ≡ j = omega (arith, le, above) in subst (λ (k : ℕ). (get_or readings i d).1 ≤ (get_or readings k d).1) one (omega arith))
  ]

  -- the readings before the place are of clocks before, the others of this clock or of later ones
  abbrev pub IsStart : ℕ → Type 0
  IsStart at = ((k : ℕ) (d : Reading) → k < at → (get_or readings k d).0 < clock) × ((k : ℕ) (d : Reading) → at ≤ k → k < length readings → clock ≤ (get_or readings k d).0)

  -- the readings before the place are of this clock or of clocks before, the others of later ones
  abbrev pub IsEnd : ℕ → Type 0
  IsEnd at = ((k : ℕ) (d : Reading) → k < at → (get_or readings k d).0 ≤ clock) × ((k : ℕ) (d : Reading) → at ≤ k → k < length readings → clock < (get_or readings k d).0)

  place_of : (s : ℕ) → Among readings (clock, s) → (k : ℕ) × (k < length readings) × (get_or readings k (clock, s) ≡ (clock, s))
  place_of s at = contained readings (clock, s) at

  pub parted_below : IsPartitionedBy (λ (r : Reading). ltb r.0 clock) readings
  parted_below = IsPartitionedBy-ltb (λ (r : Reading). r.0) readings clock starts_below

  pub parted_to : IsPartitionedBy (λ (r : Reading). leb r.0 clock) readings
  parted_to = IsPartitionedBy-leb (λ (r : Reading). r.0) readings clock starts_below

  pub starts_at : (at : ℕ) → IsPartitionPoint (λ (r : Reading). ltb r.0 clock ≡ true) (λ (r : Reading). ltb r.0 clock ≡ false) readings at → IsStart at
  starts_at at point = (
    (λ k d below. let is = point.0 k d (omega arith) below in grind (arith, nat_tests, is)),
    (λ k d above inside. let is = point.1 k d above inside in grind (arith, nat_tests, is)),
  )

  pub ends_at : (at : ℕ) → IsPartitionPoint (λ (r : Reading). leb r.0 clock ≡ true) (λ (r : Reading). leb r.0 clock ≡ false) readings at → IsEnd at
  ends_at at point = (
    (λ k d below. let is = point.0 k d (omega arith) below in grind (arith, nat_tests, is)),
    (λ k d above inside. let is = point.1 k d above inside in grind (arith, nat_tests, is)),
  )

  -- what stands at a place
  abbrev pub StandsAt : ℕ → Option Reading → Type 0
  StandsAt at o = IfSome o (λ r. (slice_get readings at ≡ Some r) × (r.0 ≡ clock)) × IfNone o ((r : Reading) → slice_get readings at ≡ Some r → r.0 ≡ clock → ⊥)

  pub first_at : (at : ℕ) (r : Reading) → IsStart at → slice_get readings at ≡ Some r → r.0 ≡ clock → Some r ≡ first_reading readings clock
  first_at at r start got on = first_one clock readings (Some r) (first_reading readings clock) (on, contained_among, least) (first_is clock readings (rises readings rising))
    where
      inside : at < length readings
      inside = slice_get_within readings at r got

      is : (d : Reading) → get_or readings at d ≡ r
      is d = get_or_from_slice_get readings at r d got

      contained_among : Among readings r
      contained_among = among readings r (at, inside, is r)

      least : (s : ℕ) → Among readings (clock, s) → r.1 ≤ s
      least s there =
          let place = place_of s there in
          elim (cases_lt place.0 at) [
            | inl below ↦ absurd (let less = start.0 place.0 (clock, s) below in let same = ap (λ (v : Reading). v.0) place.2 in omega (arith, less, same))
            | inr above ↦
                let here : get_or readings at (clock, s) ≡ r = is (clock, s) in
                let one : (get_or readings at (clock, s)).0 ≡ (get_or readings place.0 (clock, s)).0 = ap (λ (v : Reading). v.0) here ∙ on ∙ sym (ap (λ (v : Reading). v.0) place.2) in
                let le = stamps_up at place.0 (clock, s) above place.1 one in
                let left = ap (λ (v : Reading). v.1) here in
                let right = ap (λ (v : Reading). v.1) place.2 in omega (arith, le, left, right)
          ]

  pub first_none : (at : ℕ) → IsStart at → ((r : Reading) → slice_get readings at ≡ Some r → r.0 ≡ clock → ⊥) → None ≡ first_reading readings clock
  first_none at start apart = first_one clock readings None (first_reading readings clock) none (first_is clock readings (rises readings rising))
    where
      none : (s : ℕ) → Among readings (clock, s) → ⊥
      none s there =
          let place = place_of s there in
          let same = ap (λ (v : Reading). v.0) place.2 in
          let within = place.1 in
          elim (cases_lt place.0 at) [
            | inl below ↦ (let less = start.0 place.0 (clock, s) below in omega (arith, less, same))
            | inr above ↦
                let inside : at < length readings = omega (arith, above, within) in
                let low = start.1 at (clock, s) (omega arith) inside in
                let high = up at place.0 (clock, s) above within in
                apart (get_or readings at (clock, s)) (slice_get-get_or readings at (clock, s) inside) (omega (arith, low, high, same))
          ]

  pub last_at : (at : ℕ) (r : Reading) → IsEnd (suc at) → slice_get readings at ≡ Some r → r.0 ≡ clock → Some r ≡ last_reading readings clock
  last_at at r end got on = last_one clock readings (Some r) (last_reading readings clock) (on, contained_among, most) (last_is clock readings (rises readings rising))
    where
      inside : at < length readings
      inside = slice_get_within readings at r got

      is : (d : Reading) → get_or readings at d ≡ r
      is d = get_or_from_slice_get readings at r d got

      contained_among : Among readings r
      contained_among = among readings r (at, inside, is r)

      most : (s : ℕ) → Among readings (clock, s) → s ≤ r.1
      most s there =
          let place = place_of s there in
          elim (cases_lt at place.0) [
            | inl above ↦ absurd (let less = end.1 place.0 (clock, s) (omega (arith, above)) place.1 in let same = ap (λ (v : Reading). v.0) place.2 in omega (arith, less, same))
            | inr below ↦
                let here : get_or readings at (clock, s) ≡ r = is (clock, s) in
                let one : (get_or readings place.0 (clock, s)).0 ≡ (get_or readings at (clock, s)).0 = ap (λ (v : Reading). v.0) place.2 ∙ sym on ∙ sym (ap (λ (v : Reading). v.0) here) in
                let le = stamps_up place.0 at (clock, s) below inside one in
                let left = ap (λ (v : Reading). v.1) here in
                let right = ap (λ (v : Reading). v.1) place.2 in omega (arith, le, left, right)
          ]

  pub last_none : (end : ℕ) → IsEnd end → end ≤ length readings → ((at : ℕ) (r : Reading) → suc at ≡ end → slice_get readings at ≡ Some r → r.0 ≡ clock → ⊥) → None ≡ last_reading readings clock
  last_none end bounds fits apart = last_one clock readings None (last_reading readings clock) none (last_is clock readings (rises readings rising))
    where
      by_end : (n : ℕ) → n ≡ end → (s k : ℕ) → k < length readings → (get_or readings k (clock, s)).0 ≡ clock → k < n → ⊥
      by_end zero is s k within same below = omega (arith, below)
      by_end (suc at) is s k within same below =
          let inside : at < length readings = omega (arith, is, fits) in
          let high = up k at (clock, s) (omega (arith, below)) inside in
          let low = bounds.0 at (clock, s) (omega (arith, is)) in
          apart at (get_or readings at (clock, s)) is (slice_get-get_or readings at (clock, s) inside) (omega (arith, low, high, same))

      none : (s : ℕ) → Among readings (clock, s) → ⊥
      none s there =
          let place = place_of s there in
          let same = ap (λ (v : Reading). v.0) place.2 in
          let within = place.1 in
          elim (cases_lt place.0 end) [
            | inl below ↦ by_end end refl s place.0 within same below
            | inr above ↦ (let less = bounds.1 place.0 (clock, s) above within in omega (arith, less, same))
          ]

  -- ---- what a look at the place finds
  pub first_found : (at : ℕ) (o : Option Reading) → IsStart at → StandsAt at o → o ≡ first_reading readings clock
  first_found at None start stands = first_none at start stands.1
  first_found at (Some r) start stands = first_at at r start stands.0.0 stands.0.1

  pub last_found : (at : ℕ) (o : Option Reading) → IsEnd (suc at) → suc at ≤ length readings → StandsAt at o → o ≡ last_reading readings clock
  last_found at None end fits stands = last_none (suc at) end fits (λ k r is got on. stands.1 r (let same : k ≡ at = omega (arith, is) in subst (λ (n : ℕ). slice_get readings n ≡ Some r) same got) on)
  last_found at (Some r) end fits stands = last_at at r end stands.0.0 stands.0.1

  pub none_found : IsEnd 0 → None ≡ last_reading readings clock
  none_found end = last_none 0 end (omega arith) (λ at r is got on. absurd (omega (arith, is)))

-- ---- the bound of the nearest reading and the first one
module _ (p : ProblemLists) (chained : IsChained p) (readings : List Reading) (are : AreReadings p readings) (later : ℕ) where
  pub none_first : (last : Option Reading) → None ≡ first_reading readings later → follow_bound last (first_reading readings later) ≡ []
  none_first last none = ap (λ (o : Option Reading). follow_bound last o) (sym none) ∙ no_bound last
    where
      no_bound : (o : Option Reading) → follow_bound o None ≡ []
      no_bound None = refl
      no_bound (Some r) = refl

  module _ (f : Follow) (a b : Reading) (line : Some f ≡ follow_to p.follows later) (last : Some a ≡ nearest_reading readings (clocks_before p.follows later later)) (first : Some b ≡ first_reading readings later) where
    first_on : (b.0 ≡ later) × Among readings b
    first_on = let is : IsFirst later readings (Some b) = subst (λ (o : Option Reading). IsFirst later readings o) (sym first) (first_is later readings (rises readings are.rising)) in (is.0, is.1)

    pub bound_is : follow_bound (nearest_reading readings (clocks_before p.follows later later)) (first_reading readings later) ≡ bounds.Follow a.0 a.1 later b.1 ∷ []
    bound_is =
        ap (λ (o : Option Reading). follow_bound o (first_reading readings later)) (sym last) ∙ ap (λ (o : Option Reading). follow_bound (Some a) o) (sym first)
        ∙ ap (λ (k : ℕ). bounds.Follow a.0 a.1 k b.1 ∷ []) first_on.0

    read : (r : Reading) → Among readings r → IsReading p r.0 r.1
    read r at = are.each r.0 r.1 (contained readings r at)

    pub declared : Declares p (bounds.Follow a.0 a.1 later b.1) (gap_between a.0 a.1 later b.1 f.gap)
    declared =
        let found = found_end (λ g. g.later) p.follows later f (sym line) in
        let way = reached p chained readings (rises readings are.rising) later later a (sym last) in
        (f, found.0, found.1, way.1, read a way.0, subst (λ (k : ℕ). IsReading p k b.1) first_on.0 (read b first_on.1), refl)
