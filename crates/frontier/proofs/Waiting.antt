-- What waits after the key of one node has changed, and which of two nodes comes out first.
use Rattle.std.proofs.Common.{◌≡◌, ℕ, ◌<◌, List, length, set, get_or, ap, sym, ◌∙◌, subst, refl, arith, inl, inr, true, false, ℤ, get_or-set_same, get_or-set_other}
use Rattle.std.specs.Prelude.{◌≢◌, ◌<ℤ◌, ◌≤ℤ◌, int_lt, pos, Option, Some, None, slice_get, unwrap_or}
use Rattle.std.proofs.lemmas.Int.{ints}
use Rattle.std.proofs.lemmas.Bool.{cases_Bool}
use Rattle.std.proofs.lemmas.List.{length-set}
use Rattle.std.proofs.lemmas.Option.{slice_get_within, slice_get-get_or, get_or_from_slice_get}
use Rattle.frontier.specs.Keys.{Waits, IsFreeNode, IsFirstKey}
use Rattle.frontier.specs.Heap.{waiting_key, IsWaiting, IsAhead}

pub waits_within : (keys : List (Option ℤ)) (node : ℕ) (key : ℤ) → Waits keys node key → node < length keys
waits_within keys node key w = slice_get_within keys node (Some key) w

pub waiting_within : (keys : List (Option ℤ)) (node : ℕ) → IsWaiting keys node → node < length keys
waiting_within keys node w = waits_within keys node w.0 w.1

-- what waits stands in the list, and the other way round
read : (keys : List (Option ℤ)) (node : ℕ) (key : ℤ) → Waits keys node key → get_or keys node None ≡ Some key
read keys node key w = get_or_from_slice_get keys node (Some key) None w

written : (keys : List (Option ℤ)) (node : ℕ) (key : ℤ) → node < length keys → get_or keys node None ≡ Some key → Waits keys node key
written keys node key l e = slice_get-get_or keys node None l ∙ ap (λ v. Some v) e

pub key_of_waits : (keys : List (Option ℤ)) (node : ℕ) (key : ℤ) → Waits keys node key → waiting_key keys node ≡ key
key_of_waits keys node key w = ap (λ v. unwrap_or v (pos 0)) (read keys node key w)

pub waits_key_of : (keys : List (Option ℤ)) (node : ℕ) → IsWaiting keys node → Waits keys node (waiting_key keys node)
waits_key_of keys node w = subst (Waits keys node) (sym (key_of_waits keys node w.0 w.1)) w.1

pub free_apart : (keys : List (Option ℤ)) (free node : ℕ) → IsFreeNode keys free → IsWaiting keys node → node ≢ free
free_apart keys free node f w e =
    let g : slice_get keys free ≡ Some None = f in
    let h : slice_get keys free ≡ Some (Some w.0) = subst (λ n. slice_get keys n ≡ Some (Some w.0)) e w.1 in
    cc

module _ (keys : List (Option ℤ)) (node : ℕ) (v : Option ℤ) where
  pub waits_before : (other : ℕ) (key : ℤ) → other ≢ node → Waits (set keys node v) other key → Waits keys other key
  waits_before other key n w =
      written keys other key (omega (arith, waits_within (set keys node v) other key w, length-set keys node v))
      (sym (get_or-set_other keys node other v None n) ∙ read (set keys node v) other key w)

  pub waits_after : (other : ℕ) (key : ℤ) → other ≢ node → Waits keys other key → Waits (set keys node v) other key
  waits_after other key n w =
      written (set keys node v) other key (omega (arith, waits_within keys other key w, length-set keys node v))
      (get_or-set_other keys node other v None n ∙ read keys other key w)

  pub waiting_after : (other : ℕ) → other ≢ node → IsWaiting keys other → IsWaiting (set keys node v) other
  waiting_after other n w = (w.0, waits_after other w.0 n w.1)

  pub key_of_after : (other : ℕ) → other ≢ node → waiting_key (set keys node v) other ≡ waiting_key keys other
  key_of_after other n = ap (λ u. unwrap_or u (pos 0)) (get_or-set_other keys node other v None n)

  pub ahead_after : (first other : ℕ) → first ≢ node → other ≢ node → IsAhead keys first other → IsAhead (set keys node v) first other
  ahead_after first other n m a =
      subst (λ k. IsFirstKey k first (waiting_key (set keys node v) other) other) (sym (key_of_after first n))
      (subst (λ k. IsFirstKey (waiting_key keys first) first k other) (sym (key_of_after other m)) a)

pub waits_put : (keys : List (Option ℤ)) (node : ℕ) (key : ℤ) → node < length keys → Waits (set keys node (Some key)) node key
waits_put keys node key l = written (set keys node (Some key)) node key (omega (arith, length-set keys node (Some key))) (get_or-set_same keys node (Some key) None l)

-- a node that is taken out does not wait
pub taken_apart : (keys : List (Option ℤ)) (node other : ℕ) (key : ℤ) → Waits (set keys node None) other key → other ≢ node
taken_apart keys node other key w e =
    let u : Waits (set keys node None) node key = subst (λ n. Waits (set keys node None) n key) e w in
    let l : node < length keys = omega (arith, waits_within (set keys node None) node key u, length-set keys node None) in
    let a : get_or (set keys node None) node None ≡ None = get_or-set_same keys node None None l in
    let b : get_or (set keys node None) node None ≡ Some key = read (set keys node None) node key u in
    cc

pub free_taken : (keys : List (Option ℤ)) (node : ℕ) → node < length keys → IsFreeNode (set keys node None) node
free_taken keys node l =
    slice_get-get_or (set keys node None) node None (omega (arith, length-set keys node None)) ∙ ap (λ v. Some v) (get_or-set_same keys node None None l)

lt_from : (a b : ℤ) → int_lt a b ≡ true → a <ℤ b
lt_from a b h = grind (arith, ints)

eq_from : (a b : ℤ) → a ≤ℤ b → int_lt a b ≡ false → a ≡ b
eq_from a b l h = grind (arith, ints)

first_on : (j k l : ℤ) (a b c : ℕ) → IsFirstKey j a k b → IsFirstKey k b l c → IsFirstKey j a l c
first_on j k l a b c x y = elim x [
  | inl p ↦ elim y [ inl q ↦ inl (omega (arith, ints)) | inr q ↦ inl (omega (arith, ints, q.0)) ]
  | inr p ↦ elim y [ inl q ↦ inl (omega (arith, ints, p.0)) | inr q ↦ inr (p.0 ∙ q.0, omega (arith, p.1, q.1)) ]
]

pub ahead_on : (keys : List (Option ℤ)) (a b c : ℕ) → IsAhead keys a b → IsAhead keys b c → IsAhead keys a c
ahead_on keys a b c x y = first_on (waiting_key keys a) (waiting_key keys b) (waiting_key keys c) a b c x y

pub ahead_same : (keys : List (Option ℤ)) (a : ℕ) → IsAhead keys a a
ahead_same keys a = inr (refl, omega arith)

no_later : (j k : ℤ) (a : ℕ) → j ≤ℤ k → IsFirstKey j a k a
no_later j k a l = elim (cases_Bool (int_lt j k)) [ inl t ↦ inl (lt_from j k t) | inr f ↦ inr (eq_from j k l f, omega arith) ]

-- a node whose key is made less is still ahead of what it was ahead of
pub lowered_ahead : (keys : List (Option ℤ)) (node other : ℕ) (before key : ℤ) → Waits keys node before → key ≤ℤ before → other ≢ node → IsAhead keys node other → IsAhead (set keys node (Some key)) node other
lowered_ahead keys node other before key w l n a =
    let l2 : node < length keys = waits_within keys node before w in
    let e : waiting_key (set keys node (Some key)) node ≡ key = key_of_waits (set keys node (Some key)) node key (waits_put keys node key l2) in
    let old : waiting_key keys node ≡ before = key_of_waits keys node before w in
    let same : waiting_key (set keys node (Some key)) other ≡ waiting_key keys other = key_of_after keys node (Some key) other n in
    first_on (waiting_key (set keys node (Some key)) node) (waiting_key keys node) (waiting_key (set keys node (Some key)) other) node node other
    (no_later (waiting_key (set keys node (Some key)) node) (waiting_key keys node) node (omega (arith, ints)))
    (subst (λ k. IsFirstKey (waiting_key keys node) node k other) (sym same) a)

pub free_within : (keys : List (Option ℤ)) (node : ℕ) → IsFreeNode keys node → node < length keys
free_within keys node f = slice_get_within keys node None f
