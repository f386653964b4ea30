-- A search among what stands in the byte order of its names finds the place.
use Rattle.std.proofs.Common.{◌≡◌, ◌≢◌, ℕ, zero, suc, ◌+◌, ◌<◌, ◌≤◌, Bool, true, false, List, [], ◌∷◌, get_or, length, map, Some, None, refl, sym, ap, ◌∙◌, subst, arith, inl, inr}
use Rattle.std.specs.Prelude.{AllPairs}
use Rattle.std.specs.List.{position, position_from}
use Rattle.std.specs.List.Sorted.{IsNonDecreasingBy, IsPartitionPoint}
use Rattle.std.specs.Ordering.{nat_cmp, is_eq, ordering_index, ordering_reverse}
use Rattle.std.specs.Cmp.Lexicographic.{slice_cmp}
use Rattle.std.specs.declared.cmp.Ordering.{Ordering}
use Rattle.std.specs.declared.cmp.Ordering.TheVariants.{Less, Equal, Greater}
use Rattle.std.specs.Str.{bytes_eq}
use Rattle.std.proofs.lemmas.Bool.{cases_lt}
use Rattle.std.proofs.lemmas.Iterator.Adapters.{position_from-zero}
use Rattle.std.proofs.lemmas.Cmp.{nat_list_cmp_total}
use Rattle.std.proofs.lemmas.Map.Text.{is_eq-slice_cmp}
use Rattle.problem_model.specs.declared.items.Clock.{Clock}
use Rattle.decl.specs.Declaration.{Precedes}
use Rattle.decl.specs.declared.items.Label.{Label}
use Rattle.decl.specs.Places.{host_place}

abbrev pub name_cmp : List ℕ → List ℕ → Ordering
name_cmp name c = slice_cmp nat_cmp c name

abbrev pub Rise : List (List ℕ) → Type 0
Rise hosts = AllPairs (λ (a b : List ℕ). Precedes a b) hosts

-- the other way round
flipped : (a b : List ℕ) (o : Ordering) → slice_cmp nat_cmp a b ≡ o → slice_cmp nat_cmp b a ≡ ordering_reverse o
flipped a b o e = nat_list_cmp_total.antisymm b a ∙ ap ordering_reverse e

-- a later name compares no less
later : (a b name : List ℕ) → Precedes a b → ordering_index (slice_cmp nat_cmp a name) ≤ ordering_index (slice_cmp nat_cmp b name)
later a b name before = go (slice_cmp nat_cmp a name) refl
  where
    go : (o : Ordering) → slice_cmp nat_cmp a name ≡ o → ordering_index (slice_cmp nat_cmp a name) ≤ ordering_index (slice_cmp nat_cmp b name)
    go Less e = rw e (omega arith)
    go Equal e =
        let ahead : slice_cmp nat_cmp name b ≡ Less = sym (nat_list_cmp_total.congr a name b e) ∙ before in
        rw (e, flipped name b Less ahead) (omega arith)
    go Greater e =
        let ahead : slice_cmp nat_cmp name b ≡ Less = nat_list_cmp_total.trans name a b (flipped a name Greater e) before in
        rw (e, flipped name b Less ahead) (omega arith)

-- ---- a list whose entries rise by their names
module _ {A : Type 0} (name_of : A → List ℕ) where
  -- entries rise by their names
  abbrev pub RiseBy : List A → Type 0
  RiseBy entries = AllPairs (λ (a b : A). Precedes (name_of a) (name_of b)) entries

  abbrev pub entry_cmp : List ℕ → A → Ordering
  entry_cmp name a = slice_cmp nat_cmp (name_of a) name

  -- the test by which a place is found
  abbrev is_named : List ℕ → A → Bool
  is_named name a = bytes_eq (name_of a) name

  rising_index : (entries : List A) (name : List ℕ) → RiseBy entries → IsNonDecreasingBy (λ a. ordering_index (entry_cmp name a)) entries
  rising_index entries name rising i j d le inside =
      elim (cases_lt i j) [
        | inl below ↦ later (name_of (get_or entries i d)) (name_of (get_or entries j d)) name (rising i j d below inside)
        | inr le' ↦
            let same : i ≡ j = omega (arith, le, le') in
            subst (λ (k : ℕ). ordering_index (entry_cmp name (get_or entries i d)) ≤ ordering_index (entry_cmp name (get_or entries k d))) same (omega arith)
      ]

  tested : (name : List ℕ) (a : A) (o : Ordering) → entry_cmp name a ≡ o → is_named name a ≡ is_eq o
  tested name a o e = sym (is_eq-slice_cmp (name_of a) name) ∙ ap is_eq e

  position_found : (t : A → Bool) (i : ℕ) (entries : List A) (k : ℕ) (d : A) → k < length entries → ((j : ℕ) → j < k → t (get_or entries j d) ≡ false) → t (get_or entries k d) ≡ true
      → position_from t i entries ≡ Some (i + k)
  position_found t i [] k d inside before here = absurd (omega (arith, inside))
  position_found t i (a ∷ entries) zero d inside before here = rw here (ap Some (omega arith))
  position_found t i (a ∷ entries) (suc k) d inside before here =
      let first : t a ≡ false = before 0 (omega arith) in
      let more = position_found t (i + 1) entries k d (omega (arith, inside)) (λ j below. before (suc j) (omega (arith, below))) here in
      rw first (more ∙ ap Some (omega arith))

  position_none : (t : A → Bool) (i : ℕ) (entries : List A) → ((j : ℕ) (d : A) → j < length entries → t (get_or entries j d) ≡ false) → position_from t i entries ≡ None
  position_none t i [] none = refl
  position_none t i (a ∷ entries) none =
      let first : t a ≡ false = none 0 a (omega arith) in
      rw first (position_none t (i + 1) entries (λ j d below. none (suc j) d (omega (arith, below))))

  earlier : (a b name : List ℕ) → Precedes a b → slice_cmp nat_cmp b name ≡ Equal → slice_cmp nat_cmp a name ≡ Less
  earlier a b name less same = flipped name a Greater (sym (nat_list_cmp_total.congr b name a same) ∙ flipped a b Less less)

  -- where the search ends at an entry, the name stands there first
  pub entry_found : (entries : List A) (name : List ℕ) (place : ℕ) → RiseBy entries → place < length entries → ((d : A) → entry_cmp name (get_or entries place d) ≡ Equal)
      → Some place ≡ position_from (is_named name) 0 entries
  entry_found [] name place rising inside is = absurd (omega (arith, inside))
  entry_found (a ∷ entries) name place rising inside is =
      let here : is_named name (get_or (a ∷ entries) place a) ≡ true = tested name (get_or (a ∷ entries) place a) Equal (is a) in
      let before : (j : ℕ) → j < place → is_named name (get_or (a ∷ entries) j a) ≡ false =
      λ j below. tested name (get_or (a ∷ entries) j a) Less (earlier (name_of (get_or (a ∷ entries) j a)) (name_of (get_or (a ∷ entries) place a)) name (rising j place a below inside) (is a)) in
      sym (position_found (is_named name) 0 (a ∷ entries) place a inside before here ∙ ap Some (omega arith))

  -- where it ends between two, the name stands nowhere
  pub entry_none : (entries : List A) (name : List ℕ) (place : ℕ) → RiseBy entries
      → (IsNonDecreasingBy (λ a. ordering_index (entry_cmp name a)) entries → IsPartitionPoint (λ a. entry_cmp name a ≡ Less) (λ a. entry_cmp name a ≡ Greater) entries place)
      → None ≡ position_from (is_named name) 0 entries
  entry_none entries name place rising parted =
      let point = parted (rising_index entries name rising) in
      sym (position_none (is_named name) 0 entries (λ j d inside. elim (cases_lt j place) [
        | inl below ↦ tested name (get_or entries j d) Less (point.0 j d (omega arith) below)
        | inr le ↦ tested name (get_or entries j d) Greater (point.1 j d le inside)
      ]))

pub place_found : (hosts : List (List ℕ)) (name : List ℕ) (place : ℕ) → Rise hosts → place < length hosts → ((d : List ℕ) → name_cmp name (get_or hosts place d) ≡ Equal) → Some place ≡ host_place hosts name
place_found hosts name place rising inside is = entry_found (λ (host : List ℕ). host) hosts name place rising inside is

pub place_none : (hosts : List (List ℕ)) (name : List ℕ) (place : ℕ) → Rise hosts
    → (IsNonDecreasingBy (λ c. ordering_index (name_cmp name c)) hosts → IsPartitionPoint (λ c. name_cmp name c ≡ Less) (λ c. name_cmp name c ≡ Greater) hosts place)
    → None ≡ host_place hosts name
place_none hosts name place rising parted = entry_none (λ (host : List ℕ). host) hosts name place rising parted

-- ---- labels
abbrev label_name : Label → List ℕ
label_name l = l.name

abbrev pub label_cmp : List ℕ → Label → Ordering
label_cmp name l = slice_cmp nat_cmp l.name name

pub label_found : (labels : List Label) (name : List ℕ) (place : ℕ) → AllPairs (λ (a b : Label). Precedes a.name b.name) labels → place < length labels
    → ((d : Label) → label_cmp name (get_or labels place d) ≡ Equal) → Some place ≡ position (λ (l : Label). bytes_eq l.name name) labels
label_found labels name place rising inside is = entry_found label_name labels name place rising inside is ∙ sym (position_from-zero (λ (l : Label). bytes_eq l.name name) labels)

pub label_none : (labels : List Label) (name : List ℕ) (place : ℕ) → AllPairs (λ (a b : Label). Precedes a.name b.name) labels
    → (IsNonDecreasingBy (λ l. ordering_index (label_cmp name l)) labels → IsPartitionPoint (λ l. label_cmp name l ≡ Less) (λ l. label_cmp name l ≡ Greater) labels place)
    → None ≡ position (λ (l : Label). bytes_eq l.name name) labels
label_none labels name place rising parted = entry_none label_name labels name place rising parted ∙ sym (position_from-zero (λ (l : Label). bytes_eq l.name name) labels)

-- the place of a host is that of its clock, which has its name
pub position_same : (name : List ℕ) (i : ℕ) (clocks : List Clock) → position_from (λ host. bytes_eq host name) i (map (λ (c : Clock). c.name) clocks) ≡ position_from (λ (c : Clock). bytes_eq c.name name) i clocks
position_same name i [] = refl
position_same name i (c ∷ clocks) = go (bytes_eq c.name name) refl (position_same name (i + 1) clocks)
  where
    go : (b : Bool) → bytes_eq c.name name ≡ b
        → position_from (λ host. bytes_eq host name) (i + 1) (map (λ (c : Clock). c.name) clocks) ≡ position_from (λ (c : Clock). bytes_eq c.name name) (i + 1) clocks
        → position_from (λ host. bytes_eq host name) i (map (λ (c : Clock). c.name) (c ∷ clocks)) ≡ position_from (λ (c : Clock). bytes_eq c.name name) i (c ∷ clocks)
    go true is more = rw is refl
    go false is more = rw is more

-- a name that comes before another is not the same
pub precedes_differ : (a b : List ℕ) → Precedes a b → a ≢ b
precedes_differ a b less e =
    let own : slice_cmp nat_cmp a a ≡ Less = subst (λ x. slice_cmp nat_cmp a x ≡ Less) (sym e) less in
    let turned : slice_cmp nat_cmp a a ≡ ordering_reverse (slice_cmp nat_cmp a a) = nat_list_cmp_total.antisymm a a in
    let both : Less ≡ ordering_reverse Less = rw own at turned in
    absurd (cc)
