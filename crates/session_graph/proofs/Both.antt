-- Messages of two lists of events.
use Rattle.std.proofs.Common.{◌≡◌, ◌≢◌, ◌⊎◌, ℕ, Bool, true, false, List, [], ◌∷◌, map, get_or, Contains, All, AllPairs, inl, inr, refl, sym, ◌∙◌, ap, subst, arith}
use Rattle.std.specs.Bool.{Decides}
use Rattle.std.specs.List.Sorted.{IsPermutation}
use Rattle.std.proofs.lemmas.Bool.{cases_eq}
use Rattle.std.proofs.lemmas.List.{get_or-map, length-map}
use Rattle.std.proofs.lemmas.List.Elements.{All-contains, Contains-get_or}
use Rattle.std.proofs.lemmas.List.Sorted.{IsPermutation-map}
use Rattle.std.proofs.lemmas.Map.Keys.{IsDistinct-IsPermutation}
use Rattle.std.proofs.lemmas.Map.Made.{AllPairs-from_IsDistinct, IsDistinct-from_AllPairs}
use Rattle.traces.specs.Seen.{Seen}
use Rattle.traces.specs.declared.event_id.EventId.{EventId}
use Rattle.traces.specs.declared.event_id.Couple.{Couple}
use Rattle.traces.specs.Traces.{events_of}
use Rattle.traces.specs.Messages.{messages_of}
use Rattle.traces.proofs.Ids.{ids_rise}
use Rattle.traces.proofs.Lists.{pairs_map}
use Rattle.traces.proofs.Members.{here, there, head_or_tail, none_in, first_of_pairs, rest_of_pairs}
use Rattle.traces.proofs.MessageEnds.{sends_differ}

-- ---- elements that are told by something of theirs
pub one_of : {X Y : Type 0} (f : X → Y) (xs : List X) (a b : X) → AllPairs (λ (x y : X). f x ≢ f y) xs → Contains xs a → Contains xs b → f a ≡ f b → a ≡ b
one_of f [] a b differ has has' same = absurd (none_in a has)
one_of {X} f (x ∷ xs) a b differ has has' same =
    let R : X → X → Type 0 = λ y z. f y ≢ f z in
    elim (head_or_tail x a xs has) [
      | inl is ↦ elim (head_or_tail x b xs has') [
        | inl is' ↦ sym is ∙ is'
        | inr more' ↦ absurd (All-contains (R x) xs b (first_of_pairs R x xs differ) more' (ap f is ∙ same))
      ]
      | inr more ↦ elim (head_or_tail x b xs has') [
        | inl is' ↦ absurd (All-contains (R x) xs a (first_of_pairs R x xs differ) more (ap f is' ∙ sym same))
        | inr more' ↦ one_of f xs a b (rest_of_pairs R x xs differ) more more' same
      ]
    ]

pub told_by : {X Y : Type 0} (f : X → Y) (xs : List X) → AllPairs (λ (x y : X). x ≢ y) xs → ((a b : X) → Contains xs a → Contains xs b → f a ≡ f b → a ≡ b) → AllPairs (λ (x y : X). f x ≢ f y) xs
told_by f xs differ tell i j d less inside same =
    differ i j d less inside (tell (get_or xs i d) (get_or xs j d) (Contains-get_or xs i d (omega (arith, less, inside))) (Contains-get_or xs j d inside) same)

pub each_in : {X : Type 0} (P : X → Type 0) (xs : List X) → ((x : X) → Contains xs x → P x) → All P xs
each_in P xs each k d inside = each (get_or xs k d) (Contains-get_or xs k d inside)

-- a message is told by its send
pub one_send : (seen : List (List Seen)) (a b : Couple) → Contains (messages_of (events_of seen)) a → Contains (messages_of (events_of seen)) b → a.send ≡ b.send → a ≡ b
one_send seen a b held held' same = one_of (λ (m : Couple). m.send) (messages_of (events_of seen)) a b (sends_differ (events_of seen) (ids_rise seen)) held held' same

-- ---- messages that are in a list, and those that are not
same_or_not : (a b : EventId) → (a ≡ b) ⊎ (a ≢ b)
same_or_not a b = elim (cases_eq a.label b.label) [
  | inl l ↦ elim (cases_eq a.number b.number) [
    | inl n ↦ inl (ap (λ (k : ℕ). let i : EventId = record { label = k; number = a.number } in i) l ∙ ap (λ (k : ℕ). let i : EventId = record { label = b.label; number = k } in i) n)
    | inr other ↦ inr (λ same. other (ap (λ (i : EventId). i.number) same))
  ]
  | inr other ↦ inr (λ same. other (ap (λ (i : EventId). i.label) same))
]

one_or_not : (a b : Couple) → (a ≡ b) ⊎ (a ≢ b)
one_or_not a b = elim (same_or_not a.send b.send) [
  | inl s ↦ elim (same_or_not a.receive b.receive) [
    | inl r ↦ inl (ap (λ (i : EventId). let m : Couple = record { send = i; receive = a.receive } in m) s ∙ ap (λ (i : EventId). let m : Couple = record { send = b.send; receive = i } in m) r)
    | inr other ↦ inr (λ same. other (ap (λ (m : Couple). m.receive) same))
  ]
  | inr other ↦ inr (λ same. other (ap (λ (m : Couple). m.send) same))
]

-- whether it holds
abbrev flag : {P : Type 0} → P ⊎ (P → ⊥) → Bool
flag (inl is) = true
flag (inr none) = false

flag_decides : {P : Type 0} (w : P ⊎ (P → ⊥)) → Decides (flag w) P
flag_decides (inl is) = (λ t. is, λ p. refl)
flag_decides (inr none) = (λ t. absurd (let z : ⊥ = cc in z), λ p. absurd (none p))

flag_alike : {P Q : Type 0} (w : P ⊎ (P → ⊥)) (u : Q ⊎ (Q → ⊥)) → (P → Q) → (Q → P) → flag w ≡ flag u
flag_alike (inl is) (inl is') forth back = refl
flag_alike (inl is) (inr none) forth back = absurd (none (forth is))
flag_alike (inr none) (inl is) forth back = absurd (none (back is))
flag_alike (inr none) (inr none') forth back = refl

-- numbers that differ do so in any order
numbers_permuted : (some others : List ℕ) → IsPermutation some others → AllPairs (λ (a b : ℕ). a ≢ b) some → AllPairs (λ (a b : ℕ). a ≢ b) others
numbers_permuted some others permuted differ =
    AllPairs-from_IsDistinct (λ a b. flag_decides (cases_eq a b)) others
    (IsDistinct-IsPermutation (λ (a b : ℕ). flag (cases_eq a b)) (λ a b. flag_alike (cases_eq a b) (cases_eq b a) sym sym) some others permuted
    (IsDistinct-from_AllPairs (λ a b. flag_decides (cases_eq a b)) some differ))

-- and so do elements that differ by a number of theirs
pub differ_permuted : {X : Type 0} (f : X → ℕ) (some others : List X) → IsPermutation some others → AllPairs (λ (a b : X). f a ≢ f b) some → AllPairs (λ (a b : X). f a ≢ f b) others
differ_permuted f some others permuted differ i j d below inside same =
    let numbers : AllPairs (λ (a b : ℕ). a ≢ b) (map f others) = numbers_permuted (map f some) (map f others) (IsPermutation-map f some others permuted) (pairs_map (λ (a b : ℕ). a ≢ b) f some differ) in
    numbers i j (f d) below (omega (arith, inside, length-map others f)) (get_or-map f others i d (f d) (omega (arith, below, inside)) ∙ same ∙ sym (get_or-map f others j d (f d) inside))

pub in_or_not : (ms : List Couple) (m : Couple) → Contains ms m ⊎ (Contains ms m → ⊥)
in_or_not [] m = inr (λ has. none_in m has)
in_or_not (n ∷ ms) m = elim (one_or_not n m) [
  | inl same ↦ inl (subst (Contains (n ∷ ms)) same (here n ms))
  | inr other ↦ elim (in_or_not ms m) [
    | inl has ↦ inl (there n m ms has)
    | inr none ↦ inr (λ has. elim (head_or_tail n m ms has) [ inl same ↦ other same | inr more ↦ none more ])
  ]
]

-- these are the messages that are in both lists
pub record AreInBoth (first second both : List Couple) : Type 0 where
  pub only : (m : Couple) → Contains both m → Contains first m × Contains second m
  pub all : (m : Couple) → Contains first m → Contains second m → Contains both m

pub in_both : (first second : List Couple) → (both : List Couple) × AreInBoth first second both
in_both [] second = ([], record { only = λ m has. absurd (none_in m has); all = λ m has also. absurd (none_in m has) })
in_both (n ∷ first) second =
    let (both, are) = in_both first second in
    elim (in_or_not second n) [
      | inl has ↦ (
        n ∷ both,
        record {
          only = λ m held. elim (head_or_tail n m both held) [
            | inl same ↦ (subst (Contains (n ∷ first)) same (here n first), subst (Contains second) same has)
            | inr more ↦ (let x = are.only m more in (there n m first x.0, x.1))
          ];
          all = λ m held also. elim (head_or_tail n m first held) [
            | inl same ↦ subst (Contains (n ∷ both)) same (here n both)
            | inr more ↦ there n m both (are.all m more also)
          ];
        },
      )
      | inr none ↦ (
        both,
        record {
          only = λ m held. (let x = are.only m held in (there n m first x.0, x.1));
          all = λ m held also. elim (head_or_tail n m first held) [
            | inl same ↦ absurd (none (subst (Contains second) (sym same) also))
            | inr more ↦ are.all m more also
          ];
        },
      )
    ]
