-- The stamps beside one that is there.
use Rattle.std.proofs.Common.{◌≡◌, ◌<◌, ◌≤◌, ℕ, suc, List, [], length, get_or, slice_get, Option, Some, None, arith, ap, sym, subst, inl, inr}
use Rattle.std.specs.Prelude.{IfSome, IfNone}
use Rattle.std.proofs.lemmas.Bool.{cases_lt}
use Rattle.std.proofs.lemmas.List.{get_or_past}
use Rattle.std.proofs.lemmas.Option.{none-some, slice_get_within, get_or_from_slice_get}
use Rattle.traces.proofs.Lists.{place_in}
use Rattle.roster.specs.Readings.{Stamped, Rise, IsLastUnder, IsFirstOver, IsFirstStamp, IsLastStamp}
use Rattle.traces.specs.declared.event_id.EventId.{EventId}
use Rattle.roster.specs.Groups.{group_at}
use Rattle.roster.specs.Roster.{IsNumberUnder}
use Rattle.roster.proofs.Telling.{among}

module _ (readings : List Stamped) (rise : Rise readings) where
  rises : (i j : ℕ) (a b : Stamped) → slice_get readings i ≡ Some a → slice_get readings j ≡ Some b → i < j → a.0 < b.0
  rises i j a b at at' less =
      let before : (get_or readings i a).0 < (get_or readings j a).0 = rise i j a less (slice_get_within readings j b at') in
      let first : (get_or readings i a).0 ≡ a.0 = ap (λ (s : Stamped). s.0) (get_or_from_slice_get readings i a a at) in
      let second : (get_or readings j a).0 ≡ b.0 = ap (λ (s : Stamped). s.0) (get_or_from_slice_get readings j b a at') in
      omega (arith, before, first, second)

  -- of two places with stamps, the later one has no lesser stamp
  keeps : (i j : ℕ) (a b : Stamped) → slice_get readings i ≡ Some a → slice_get readings j ≡ Some b → i ≤ j → a.0 ≤ b.0
  keeps i j a b at at' le = elim (cases_lt i j) [
    | inl less ↦ (let before = rises i j a b at at' less in omega (arith, before))
    | inr past ↦ (
        let same : i ≡ j = omega (arith, le, past) in
        let first : (get_or readings i a).0 ≡ a.0 = ap (λ (s : Stamped). s.0) (get_or_from_slice_get readings i a a at) in
        let second : (get_or readings j a).0 ≡ b.0 = ap (λ (s : Stamped). s.0) (get_or_from_slice_get readings j b a at') in
        let one : (get_or readings i a).0 ≡ (get_or readings j a).0 = ap (λ (k : ℕ). (get_or readings k a).0) same in
        omega (arith, first, second, one))
  ]

  pub first_of : (o : Option ℕ) → IfSome o (λ s. (n : ℕ) × (slice_get {X = Stamped} readings 0 ≡ Some (s, n))) → IfNone o (length readings ≤ 0) → IsFirstStamp readings o
  first_of None some none = λ t (m, is_in).
      let i = place_in {X = Stamped} readings (t, m) is_in in
      let inside = slice_get_within readings i.0 (t, m) i.1 in
      omega (arith, inside, none)
  first_of (Some s) some none = (
    (some.0, among {X = Stamped} readings 0 (s, some.0) some.1),
    λ t (m, is_in). (let i = place_in {X = Stamped} readings (t, m) is_in in keeps 0 i.0 (s, some.0) (t, m) some.1 i.1 (omega arith)),
  )

  pub last_of : (k : ℕ) → length readings ≡ suc k → (o : Option ℕ) → IfSome o (λ s. (n : ℕ) × (slice_get {X = Stamped} readings k ≡ Some (s, n))) → IfNone o (length readings ≤ k) → IsLastStamp readings o
  last_of k long None some none = absurd (omega (arith, long, none))
  last_of k long (Some s) some none = (
    (some.0, among {X = Stamped} readings k (s, some.0) some.1),
    λ t (m, is_in). (
        let i = place_in {X = Stamped} readings (t, m) is_in in
        let inside = slice_get_within readings i.0 (t, m) i.1 in
        keeps i.0 k (t, m) (s, some.0) i.1 some.1 (omega (arith, inside, long))),
  )

  pub no_stamp : length readings ≡ 0 → IsLastStamp readings None
  no_stamp none = λ t (m, is_in).
      let i = place_in {X = Stamped} readings (t, m) is_in in
      let inside = slice_get_within readings i.0 (t, m) i.1 in
      omega (arith, inside, none)

  module _ (stamp node : ℕ) where
    pub none_under : slice_get {X = Stamped} readings 0 ≡ Some (stamp, node) → IsLastUnder readings stamp None
    none_under at t (m, is_in) less =
        let k = place_in {X = Stamped} readings (t, m) is_in in
        let first : stamp ≤ t = keeps 0 k.0 (stamp, node) (t, m) at k.1 (omega arith) in
        omega (arith, first, less)

    pub last_under : (k : ℕ) → slice_get {X = Stamped} readings (suc k) ≡ Some (stamp, node) → (o : Option ℕ) → IfSome o (λ s. (n : ℕ) × (slice_get {X = Stamped} readings k ≡ Some (s, n))) → IfNone o (length readings ≤ k) → IsLastUnder readings stamp o
    last_under k at None some none = (let inside = slice_get_within readings (suc k) (stamp, node) at in absurd (omega (arith, inside, none)))
    last_under k at (Some s) some none = (
      (some.0, among {X = Stamped} readings k (s, some.0) some.1),
      rises k (suc k) (s, some.0) (stamp, node) some.1 at (omega arith),
      λ t (m, is_in) less. (
          let i = place_in {X = Stamped} readings (t, m) is_in in
          elim (cases_lt k i.0) [
            | inl past ↦ (let later : stamp ≤ t = keeps (suc k) i.0 (stamp, node) (t, m) at i.1 (omega (arith, past)) in absurd (omega (arith, later, less)))
            | inr before ↦ keeps i.0 k (t, m) (s, some.0) i.1 some.1 before
          ]),
    )

    pub first_over : (k : ℕ) → slice_get {X = Stamped} readings k ≡ Some (stamp, node) → (o : Option ℕ) → IfSome o (λ s. (n : ℕ) × (slice_get {X = Stamped} readings (suc k) ≡ Some (s, n))) → IfNone o (length readings ≤ suc k) → IsFirstOver readings stamp o
    first_over k at None some none = λ t (m, is_in) more.
        let i = place_in {X = Stamped} readings (t, m) is_in in
        let inside = slice_get_within readings i.0 (t, m) i.1 in
        let before : t ≤ stamp = keeps i.0 k (t, m) (stamp, node) i.1 at (omega (arith, inside, none)) in
        omega (arith, before, more)
    first_over k at (Some s) some none = (
      (some.0, among {X = Stamped} readings (suc k) (s, some.0) some.1),
      rises k (suc k) (stamp, node) (s, some.0) at some.1 (omega arith),
      λ t (m, is_in) more. (
          let i = place_in {X = Stamped} readings (t, m) is_in in
          elim (cases_lt k i.0) [
            | inl past ↦ keeps (suc k) i.0 (s, some.0) (t, m) some.1 i.1 (omega (arith, past))
            | inr before ↦ (let earlier : t ≤ stamp = keeps i.0 k (t, m) (stamp, node) i.1 at before in absurd (omega (arith, earlier, more)))
          ]),
    )

-- ---- numbers under a label
pub group_inside : (under : List (List ℕ)) (label k v : ℕ) → slice_get (group_at under label) k ≡ Some v → label < length under
group_inside under label k v at = elim (cases_lt label (length under)) [
  | inl inside ↦ inside
  | inr past ↦ absurd (
      let none : group_at under label ≡ [] = get_or_past under label [] past in
      none-some v (subst (λ (vs : List ℕ). slice_get vs k ≡ Some v) none at))
]

pub under_of : (under : List (List ℕ)) (id : EventId) (group : List ℕ) (v : ℕ) → slice_get under id.label ≡ Some group → IsNumberUnder under id v → (k : ℕ) × (w : ℕ) × (id.number ≡ suc k) × (slice_get group k ≡ Some w)
under_of under id group v own (k, is, at) = (k, v, is, subst (λ (vs : List ℕ). slice_get vs k ≡ Some v) (get_or_from_slice_get under id.label group [] own) at)

pub is_under : (under : List (List ℕ)) (id : EventId) (group : List ℕ) (v : ℕ) → slice_get under id.label ≡ Some group → ((k : ℕ) × (id.number ≡ suc k) × (slice_get group k ≡ Some v)) → IsNumberUnder under id v
is_under under id group v own (k, is, at) = (k, is, subst (λ (vs : List ℕ). slice_get vs k ≡ Some v) (sym (get_or_from_slice_get under id.label group [] own)) at)

-- ---- places that were found
pub found : (o : Option ℕ) (k : ℕ) (P : ℕ → Type 0) → o ≡ Some k → IfSome o P → P k
found (Some j) k P is p = let same : j ≡ k = cc in subst P same p
found None k P is p = absurd (cc)

pub next_place : (readings : List Stamped) (i j : ℕ) (s : Stamped) → i ≡ j → slice_get readings i ≡ Some s → slice_get readings j ≡ Some s
next_place readings i j s same at = subst (λ (k : ℕ). slice_get readings k ≡ Some s) same at
