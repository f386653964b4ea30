-- Link types and times of packets, and what arranged packets keep of them.
use Rattle.std.proofs.Common.{◌≡◌, ◌≢◌, ◌<◌, ◌↔◌, ℕ, suc, ◌⊎◌, Bool, true, false, List, [], ◌∷◌, length, get_or, All, Any, Contains, pos, ◌≤ℤ◌, ◌<ℤ◌, IsTrue, MatchBool, refl, sym, ◌∙◌, ap, subst, arith, inl, inr, true≢false}
use Rattle.std.proofs.lemmas.Bool.{cases_lt}
use Rattle.std.proofs.lemmas.Int.{by_lt_z}
use Rattle.std.proofs.lemmas.List.{get_or-map, length-map}
use Rattle.std.proofs.lemmas.List.Elements.{All-map, All-nil, All-cons, All-contains}
use Rattle.std.proofs.lemmas.List.Sorted.{All-permutation, Contains-permutation, IsPermutation-sym}
use Rattle.mergecap.specs.declared.stored.Stored.{Stored}
use Rattle.mergecap.specs.MergedCapture.{AreWritable, HasOneLink, HasTwoLinks, HasNoRecord, IsArranged, IsInRange, Timed, header_nanos, link_type_of, time_limit, whole_nanos}
use Rattle.mergecap.specs.Packets.{timed, all_timed}

timed_at : (kept : List Stored) (k : ℕ) (s : Stored) → k < length kept → get_or kept k s ≡ s → Contains (all_timed kept) (timed s)
timed_at kept k s inside at =
    let long : length (all_timed kept) ≡ length kept = length-map kept timed in
    (k, omega (arith, inside, long), get_or-map timed kept k s (timed s) inside ∙ ap timed at)

-- where not all are so, one is not
one_not_so : {X : Type 0} (P Q : X → Type 0) → ((x : X) → P x ⊎ Q x) → (xs : List X) → (All P xs → ⊥) → Any Q xs
one_not_so P Q decide [] none = absurd (none (All-nil P))
one_not_so P Q decide (x ∷ xs) none =
    elim (decide x) [
      | inl is ↦
          let later = one_not_so P Q decide xs (λ all. none (All-cons P x xs is all)) in
          (suc later.0, later.1, omega (arith, later.2), later.3, later.4)
      | inr other ↦ (0, x, omega arith, refl, other)
    ]

-- ---- link types
same_or_other : (x y : ℕ) → (x ≡ y) ⊎ (x ≢ y)
same_or_other x y =
    elim (cases_lt x y) [
      | inl below ↦ inr (λ e. omega (arith, e, below))
      | inr above ↦ elim (cases_lt y x) [
        | inl over ↦ inr (λ e. omega (arith, e, over))
        | inr under ↦ inl (omega (arith, above, under))
      ]
    ]

two_links : (kept : List Stored) → Any (λ (s : Stored). s.packet.link ≢ link_type_of (all_timed kept)) kept → HasTwoLinks (all_timed kept)
two_links [] (k, s, inside, at, other) = absurd (omega (arith, inside))
two_links (t ∷ kept) (k, s, inside, at, other) = (timed t, timed s, (0, omega arith, refl), timed_at (t ∷ kept) k s inside at, λ same. other (sym same))

one_link : (kept : List Stored) (link : ℕ) → All (λ (s : Stored). s.packet.link ≡ link) kept → HasOneLink (all_timed kept)
one_link kept link all a b first second =
    let each : All (λ (t : Timed). t.packet.link ≡ link) (all_timed kept) = All-map (λ (t : Timed). t.packet.link ≡ link) timed kept all in
    All-contains (λ (t : Timed). t.packet.link ≡ link) (all_timed kept) a each first ∙ sym (All-contains (λ (t : Timed). t.packet.link ≡ link) (all_timed kept) b each second)

pub links_told : (kept : List Stored) (link : ℕ) (b : Bool) → link ≡ link_type_of (all_timed kept) → IsTrue b ↔ All (λ (s : Stored). s.packet.link ≡ link) kept → MatchBool b (HasOneLink (all_timed kept)) (HasTwoLinks (all_timed kept))
links_told kept link true is told = one_link kept link (told.0 refl)
links_told kept link false is told =
    two_links kept (subst (λ (l : ℕ). Any (λ (s : Stored). s.packet.link ≢ l) kept) is
    (one_not_so (λ (s : Stored). s.packet.link ≡ link) (λ (s : Stored). s.packet.link ≢ link) (λ s. same_or_other s.packet.link link) kept (λ all. true≢false (sym (told.1 all)))))

-- what was told of packets with one link type, by the same list
pub one_of : (kept now : List Stored) (b : Bool) → now ≡ kept → MatchBool b (HasOneLink (all_timed now)) (HasTwoLinks (all_timed now)) → b ≡ true → HasOneLink (all_timed kept)
one_of kept now true is told so = subst (λ (l : List Stored). HasOneLink (all_timed l)) is told
one_of kept now false is told so = absurd (true≢false (sym so))

-- ---- times
-- the code's test of a time that is not below 0
abbrev pub IsHeld : Stored → Type 0
IsHeld s = (s.value <ℤ time_limit) × (whole_nanos s.value ≢ header_nanos)

held_or_not : (s : Stored) → IsHeld s ⊎ HasNoRecord (timed s)
held_or_not s =
    by_lt_z s.value time_limit
    (λ less. elim (same_or_other (whole_nanos s.value) header_nanos) [
      | inl same ↦ inr (inr same)
      | inr other ↦ inl (less, other)
    ])
    (λ over. inr (inl over))

without : (kept : List Stored) → Any (λ (s : Stored). HasNoRecord (timed s)) kept → Any HasNoRecord (all_timed kept)
without kept (k, s, inside, at, over) =
    let there = timed_at kept k s inside at in
    (there.0, timed s, there.1, there.2, over)

pub late_told : (kept : List Stored) → (All IsHeld kept → ⊥) → Any HasNoRecord (all_timed kept)
late_told kept none = without kept (one_not_so IsHeld (λ (s : Stored). HasNoRecord (timed s)) held_or_not kept none)

pub in_range : (kept : List Stored) → All (λ (s : Stored). pos 0 ≤ℤ s.value) kept → All IsHeld kept → All IsInRange (all_timed kept)
in_range kept low held = All-map IsInRange timed kept (λ k d inside. let is = held k d inside in record { low = low k d inside; high = is.0; other = is.1 })

-- ---- arranged packets
pub still_writable : (old new : List Timed) → IsArranged old new → HasOneLink old → All IsInRange old → AreWritable new
still_writable old new is one range =
    let back = IsPermutation-sym old new is.same in
    record {
      one_link = λ a b first second. one a b (Contains-permutation new old a back first) (Contains-permutation new old b back second);
      in_range = All-permutation IsInRange old new is.same range;
    }
