-- A scan over events by series and time finds when the group of each begins.
use Rattle.std.proofs.Common.{◌≡◌, ◌⊎◌, ◌<◌, ◌≤◌, ◌+◌, ◌-◌, ℕ, zero, suc, List, [], ◌∷◌, length, get_or, set, cond, Bool, true, false, ◌==◌, inl, inr, refl, sym, ap, ◌∙◌, subst, arith}
use Rattle.std.specs.Prelude.{ℤ, pos, negsuc, ◌-ℤ◌, ◌≤ℤ◌, ◌<ℤ◌, nat_abs, nat_lt, Contains}
use Rattle.std.specs.List.Sorted.{IsSortedByKey}
use Rattle.std.specs.declared.cmp.Ordering.{Ordering}
use Rattle.std.specs.declared.cmp.Ordering.TheVariants.{Less, Equal, Greater}
use Rattle.std.specs.Ordering.{MatchOrdering, nat_cmp, int_cmp, ordering_then, is_lt}
use Rattle.std.specs.Cmp.{IsTotalOrder}
use Rattle.std.proofs.lemmas.Bool.{cases_Bool, cases_lt, eqb-false, eqb-true, ltb-false, ltb-true, ne_eqb, true≢false}
use Rattle.std.proofs.lemmas.Cmp.{int_cmp_total, int_ranked, nat_cmp_total, on_total, ranked, then_total}
use Rattle.std.proofs.lemmas.Int.{ints}
use Rattle.std.proofs.lemmas.List.{get_or-set_other, get_or-set_same, get_or_default, length-set}
use Rattle.std.proofs.lemmas.List.Elements.{Contains-get_or}
use Rattle.std.proofs.lemmas.List.Sorted.{ranks_by, sorted_far}
use Rattle.traces.proofs.Beginnings.{IsBeginning, begins_anew, first_begins, goes_on}
use Rattle.msg_match.specs.declared.series.Stop.{Stop}
use Rattle.msg_match.specs.Series.{AreBegun, HaveOwnPlaces, begin_at, begin_behind, no_stop}

-- ---- order
-- an event stands before another one: in a series before its, or no later in the same one
abbrev pub IsNoLater : Stop → Stop → Type 0
IsNoLater a b = (a.series < b.series) ⊎ ((a.series ≡ b.series) × (a.time ≤ℤ b.time))

-- what events are sorted by
abbrev pub turn : Stop → ℕ × ℤ
turn s = (s.series, s.time)

abbrev pub turn_cmp : ℕ × ℤ → ℕ × ℤ → Ordering
turn_cmp a b = ordering_then (nat_cmp a.0 b.0) (int_cmp a.1 b.1)

turn_total : IsTotalOrder turn_cmp
turn_total = then_total (on_total (λ (r : ℕ × ℤ). r.0) nat_cmp_total) (on_total (λ (r : ℕ × ℤ). r.1) int_cmp_total)

told : (a b : Stop) (l n : Ordering) → MatchOrdering l (b.series < a.series) (b.series ≡ a.series) (a.series < b.series) → MatchOrdering n (b.time <ℤ a.time) (b.time ≡ a.time) (a.time <ℤ b.time)
    → is_lt (ordering_then l n) ≡ false → IsNoLater a b
told a b Less n series time e = absurd (true≢false e)
told a b Greater n series time e = inl series
told a b Equal Less series time e = absurd (true≢false e)
told a b Equal Greater series time e = inr (sym series, omega (arith, ints, time))
told a b Equal Equal series time e = inr (sym series, omega (arith, ints, time))

no_later : (a b : Stop) → is_lt (turn_cmp (turn b) (turn a)) ≡ false → IsNoLater a b
no_later a b = told a b (nat_cmp b.series a.series) (int_cmp b.time a.time) (ranked b.series a.series _ refl) (int_ranked b.time a.time _ refl)

no_later_time : (a b : Stop) → a.series ≡ b.series → IsNoLater a b → a.time ≤ℤ b.time
no_later_time a b same (inl less) = absurd (omega (arith, same, less))
no_later_time a b same (inr both) = both.1

no_later_series : (a b : Stop) → IsNoLater a b → a.series ≤ b.series
no_later_series a b (inl less) = omega (arith, less)
no_later_series a b (inr both) = let same = both.0 in omega (arith, same)

-- ---- one step
-- how far a time lies behind another one
abs_near : (z : ℤ) (w : ℕ) → pos 0 ≤ℤ z → nat_lt w (nat_abs z) ≡ false → z ≤ℤ pos w
abs_near (pos n) w up near = let low : n ≤ w = ltb-false w n near in omega (arith, ints, low)
abs_near (negsuc n) w up near = absurd (omega (arith, ints, up))

abs_far : (z : ℤ) (w : ℕ) → pos 0 ≤ℤ z → nat_lt w (nat_abs z) ≡ true → pos w <ℤ z
abs_far (pos n) w up far = let high : w < n = ltb-true w n far in omega (arith, ints, high)
abs_far (negsuc n) w up far = absurd (omega (arith, ints, up))

begin_cases : (P : ℤ → Type 0) (p s : Stop) (b : ℤ) → (p.series ≡ s.series → nat_lt s.window (nat_abs (s.time -ℤ p.time)) ≡ false → P b) → (p.series ≡ s.series → nat_lt s.window (nat_abs (s.time -ℤ p.time)) ≡ true → P s.time)
    → ((p.series ≡ s.series → ⊥) → P s.time) → P (begin_behind p b s)
begin_cases P p s b near far other = elim (cases_Bool (p.series == s.series)) [
  | inl same ↦ elim (cases_Bool (nat_lt s.window (nat_abs (s.time -ℤ p.time)))) [
    | inl wide ↦ rw (same, wide) (far (eqb-true p.series s.series same) wide)
    | inr narrow ↦ rw (same, narrow) (near (eqb-true p.series s.series same) narrow)
  ]
  | inr differ ↦ rw differ (other (eqb-false p.series s.series differ))
]

-- behind the first event, each goes by the one before it
begin_next : (stops : List Stop) (begins : List ℤ) (k : ℕ) → begin_at stops begins (suc k) ≡ begin_behind (get_or stops k no_stop) (get_or begins (get_or stops k no_stop).place (pos 0)) (get_or stops (suc k) no_stop)
begin_next stops begins k =
    let later : (suc k == 0) ≡ false = ne_eqb (suc k) 0 (λ is. omega (arith, is)) in
    let back : suc k - 1 ≡ k = omega arith in
    ap (λ (b : Bool). cond b (get_or stops (suc k) no_stop).time (begin_behind (get_or stops (suc k - 1) no_stop) (get_or begins (get_or stops (suc k - 1) no_stop).place (pos 0)) (get_or stops (suc k) no_stop))) later
    ∙ ap (λ (n : ℕ). begin_behind (get_or stops n no_stop) (get_or begins (get_or stops n no_stop).place (pos 0)) (get_or stops (suc k) no_stop)) back

-- ---- the loop
-- what an event goes by
begin_by : (stops : List Stop) (begins others : List ℤ) (k : ℕ) → get_or others (get_or stops (k - 1) no_stop).place (pos 0) ≡ get_or begins (get_or stops (k - 1) no_stop).place (pos 0) → begin_at stops others k ≡ begin_at stops begins k
begin_by stops begins others k same = ap (λ (b : ℤ). cond (k == 0) (get_or stops k no_stop).time (begin_behind (get_or stops (k - 1) no_stop) b (get_or stops k no_stop))) same

-- the first goes by none
begin_first : (stops : List Stop) (begins others : List ℤ) (k : ℕ) → (k == 0) ≡ true → begin_at stops others k ≡ begin_at stops begins k
begin_first stops begins others k first = rw first refl

-- one event more
pub begun_more : (stops : List Stop) (begins : List ℤ) (k : ℕ) (b : ℤ) → HaveOwnPlaces stops → k < length stops → AreBegun k stops begins × (length begins ≡ length stops) → b ≡ begin_at stops begins k
    → AreBegun (k + 1) stops (set begins (get_or stops k no_stop).place b) × (length (set begins (get_or stops k no_stop).place b) ≡ length stops)
begun_more stops begins k b own inside so_far is = (begun, length-set begins (get_or stops k no_stop).place b ∙ so_far.1)
  where
    left : (j : ℕ) → j < k → get_or (set begins (get_or stops k no_stop).place b) (get_or stops j no_stop).place (pos 0) ≡ get_or begins (get_or stops j no_stop).place (pos 0)
    left j before = get_or-set_other begins (get_or stops k no_stop).place (get_or stops j no_stop).place b (pos 0) (own.differ j k no_stop before inside)

    same : (j : ℕ) → j < k + 1 → begin_at stops (set begins (get_or stops k no_stop).place b) j ≡ begin_at stops begins j
    same j before = elim (cases_Bool (j == 0)) [
      | inl first ↦ begin_first stops begins (set begins (get_or stops k no_stop).place b) j first
      | inr later ↦ (let up = eqb-false j 0 later in begin_by stops begins (set begins (get_or stops k no_stop).place b) j (left (j - 1) (omega (arith, before, positive j up))))
    ]
      where
        positive : (n : ℕ) → (n ≡ 0 → ⊥) → 0 < n
        positive zero none = absurd (none refl)
        positive (suc n) none = omega arith

    begun : AreBegun (k + 1) stops (set begins (get_or stops k no_stop).place b)
    begun j before = elim (cases_lt j k) [
      | inl earlier ↦ left j earlier ∙ so_far.0 j earlier ∙ sym (same j before)
      | inr last ↦ (
          let at : k ≡ j = omega (arith, before, last) in
          subst (λ (n : ℕ). get_or (set begins (get_or stops k no_stop).place b) (get_or stops n no_stop).place (pos 0) ≡ begin_at stops (set begins (get_or stops k no_stop).place b) n) at
          (get_or-set_same begins (get_or stops k no_stop).place b (pos 0) (subst (λ (n : ℕ). (get_or stops k no_stop).place < n) (sym so_far.1) (own.within k no_stop inside)) ∙ is ∙ sym (same k (omega arith))))
    ]

-- ---- the scan
-- the times of a series
abbrev pub IsTimeIn : List Stop → ℕ → ℤ → Type 0
IsTimeIn stops n t = (r : Stop) × Contains stops r × (r.series ≡ n) × (r.time ≡ t)

module _ (stops : List Stop) (up : IsSortedByKey turn turn_cmp stops) (windows : (r s : Stop) → Contains stops r → Contains stops s → r.series ≡ s.series → r.window ≡ s.window) (begins : List ℤ)
    (begun : AreBegun (length stops) stops begins) where
  at : ℕ → Stop
  at k = get_or stops k no_stop

  in_order : (i j : ℕ) → i ≤ j → j < length stops → IsNoLater (at i) (at j)
  unfolding at
  in_order i j before inside = no_later (at i) (at j) (sorted_far _ (ranks_by turn_total turn) stops up i j no_stop before inside)

  placed : (r : Stop) (j : ℕ) → j < length stops → get_or stops j r ≡ r → at j ≡ r
  unfolding at
  placed r j inside is = get_or_default stops j no_stop r inside ∙ is

  own : (k : ℕ) → k < length stops → IsTimeIn stops (at k).series (at k).time
  unfolding at
  own k inside = (at k, Contains-get_or stops k no_stop inside, refl, refl)

  -- those of a series that stand behind are no earlier
  behind : (k : ℕ) (r : Stop) (j : ℕ) (t : ℤ) → k ≤ j → j < length stops → get_or stops j r ≡ r → r.series ≡ (at k).series → r.time ≡ t → (at k).time ≤ℤ t
  behind k r j t order inside is series time =
      let there : at j ≡ r = placed r j inside is in
      subst (λ (u : ℤ). (at k).time ≤ℤ u) time
      (subst (λ (q : Stop). (at k).time ≤ℤ q.time) there (no_later_time (at k) (at j) (sym series ∙ ap (λ (q : Stop). q.series) (sym there)) (in_order k j order inside)))

  ahead : (k : ℕ) (r : Stop) (j : ℕ) (t : ℤ) → j ≤ k → k < length stops → j < length stops → get_or stops j r ≡ r → r.series ≡ (at k).series → r.time ≡ t → t ≤ℤ (at k).time
  ahead k r j t order inside' inside is series time =
      let there : at j ≡ r = placed r j inside is in
      subst (λ (u : ℤ). u ≤ℤ (at k).time) time
      (subst (λ (q : Stop). q.time ≤ℤ (at k).time) there (no_later_time (at j) (at k) (ap (λ (q : Stop). q.series) there ∙ series) (in_order j k order inside')))

  -- the neighbour before is of another series: none of this one stands before
  alone : (k : ℕ) (r : Stop) (j : ℕ) → suc k < length stops → j ≤ k → j < length stops → get_or stops j r ≡ r → r.series ≡ (at (suc k)).series → (at k).series ≡ (at (suc k)).series
  alone k r j inside' order inside is series =
      let there : at j ≡ r = placed r j inside is in
      let low : (at j).series ≤ (at k).series = no_later_series (at j) (at k) (in_order j k order (omega (arith, inside'))) in
      let high : (at k).series ≤ (at (suc k)).series = no_later_series (at k) (at (suc k)) (in_order k (suc k) (omega arith) inside') in
      let same : (at j).series ≡ (at (suc k)).series = ap (λ (q : Stop). q.series) there ∙ series in
      omega (arith, low, high, same)

  abbrev begin_of : ℕ → ℤ
  begin_of k = get_or begins (at k).place (pos 0)

  abbrev IsBegun : ℕ → ℤ → Type 0
  IsBegun k b = IsBeginning (at k).window (IsTimeIn stops (at k).series) (at k).time b

  step : (k : ℕ) → suc k < length stops → IsBegun k (begin_of k) → IsBegun (suc k) (begin_behind (at k) (begin_of k) (at (suc k)))
  unfolding at own
  step k inside before =
      let p = at k in
      let s = at (suc k) in
      let b = begin_of k in
      let In = IsTimeIn stops s.series in
      let near_own : Contains stops p = (own k (omega (arith, inside))).1 in
      let own_s = own (suc k) inside in
      begin_cases (λ c. IsBeginning s.window In s.time c) p s b
      (λ same near.
      let order : p.time ≤ℤ s.time = no_later_time p s same (in_order k (suc k) (omega arith) inside) in
      goes_on s.window In p.time s.time b (subst (λ (n : ℕ). IsTimeIn stops n p.time) same (own k (omega (arith, inside)))) order (next same)
      (abs_near (s.time -ℤ p.time) s.window (omega (arith, ints, order)) near)
      (subst (λ (w : ℕ). IsBeginning w In p.time b) (windows p s near_own own_s.1 same) (subst (λ (n : ℕ). IsBeginning p.window (IsTimeIn stops n) p.time b) same before)))
      (λ same far.
      let order : p.time ≤ℤ s.time = no_later_time p s same (in_order k (suc k) (omega arith) inside) in
      begins_anew s.window In p.time s.time own_s (next same) (abs_far (s.time -ℤ p.time) s.window (omega (arith, ints, order)) far))
      (λ other.
      first_begins s.window In s.time own_s
      (λ t held.
      elim (cases_lt held.1.0 (suc k)) [
        | inl early ↦ absurd (other (alone k held.0 held.1.0 inside (omega (arith, early)) held.1.1 held.1.2 held.2))
        | inr late ↦ behind (suc k) held.0 held.1.0 t late held.1.1 held.1.2 held.2 held.3
      ]))
    where
      next : (at k).series ≡ (at (suc k)).series → (t : ℤ) → IsTimeIn stops (at (suc k)).series t → (t ≤ℤ (at k).time) ⊎ ((at (suc k)).time ≤ℤ t)
      next same t held = elim (cases_lt held.1.0 (suc k)) [
        | inl early ↦ inl (ahead k held.0 held.1.0 t (omega (arith, early)) (omega (arith, inside)) held.1.1 held.1.2 (held.2 ∙ sym same) held.3)
        | inr late ↦ inr (behind (suc k) held.0 held.1.0 t late held.1.1 held.1.2 held.2 held.3)
      ]

  begun_next : (k : ℕ) → suc k < length stops → begin_of (suc k) ≡ begin_behind (at k) (begin_of k) (at (suc k))
  unfolding at
  begun_next k inside = begun (suc k) inside ∙ begin_next stops begins k

  -- each event's group begins then
  pub scanned : (k : ℕ) → k < length stops → IsBeginning (get_or stops k no_stop).window (IsTimeIn stops (get_or stops k no_stop).series) (get_or stops k no_stop).time (get_or begins (get_or stops k no_stop).place (pos 0))
  unfolding at
  scanned zero inside =
      subst (λ (b : ℤ). IsBegun 0 b) (sym (begun 0 inside))
      (first_begins (at 0).window (IsTimeIn stops (at 0).series) (at 0).time (own 0 inside) (λ t held. behind 0 held.0 held.1.0 t (omega arith) held.1.1 held.1.2 held.2 held.3))
  scanned (suc k) inside = subst (λ (b : ℤ). IsBegun (suc k) b) (sym (begun_next k inside)) (step k inside (scanned k (omega (arith, inside))))
