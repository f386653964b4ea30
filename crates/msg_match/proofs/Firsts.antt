-- The first event of each key among ends that stand in the order of their events.
use Rattle.std.proofs.Common.{◌≡◌, ◌≢◌, List, [], ◌∷◌, map, Bool, true, false, not, cond, ◌&&◌, inl, inr, sym, ap, ◌∙◌, subst, arith}
use Rattle.std.specs.Prelude.{All, AllPairs, Contains, filter}
use Rattle.std.specs.List.{list_any}
use Rattle.std.specs.List.Sorted.{IsPermutation}
use Rattle.std.proofs.lemmas.Bool.{and_left, cases_Bool, false≢true, or_cases}
use Rattle.std.proofs.lemmas.List.Elements.{All-contains}
use Rattle.std.proofs.lemmas.List.Kept.{AllPairs-cons, AllPairs-filter}
use Rattle.std.proofs.lemmas.List.Sorted.{Contains-permutation, IsPermutation-sym}
use Rattle.std.proofs.lemmas.Map.Views.{Contains-from_any}
use Rattle.traces.specs.declared.event.Side.{Side}
use Rattle.traces.specs.declared.event.Side.TheVariants.{Send, Receive}
use Rattle.traces.specs.Seen.{EventKey, is_same_key, is_same_side}
use Rattle.msg_match.specs.Groups.{each_once}
use Rattle.msg_match.proofs.Distinct.{any_once, known_at, once_apart, turned}
use Rattle.msg_match.proofs.Grouping.{exact_keys}
use Rattle.traces.specs.declared.event_id.EventId.{EventId}
use Rattle.traces.specs.Pairs.{ComesBefore}
use Rattle.traces.proofs.Members.{first_of_pairs, has_passed, here, kept, rest_of_pairs, there, was_in}
use Rattle.msg_match.specs.Ends.{End}
use Rattle.msg_match.specs.Ambiguous.{is_end, names_with}
use Rattle.msg_match.specs.EndsInside.{AreRising, comes_first, earlier, first_with}
use Rattle.msg_match.proofs.Lists.{each_in, from_map, in_map}
use Rattle.msg_match.proofs.Rising.{differ_apart, pairs_weaker, same_elements}

abbrev pub keys_among : List End → List EventKey
keys_among ends = each_once is_same_key (map (λ (e : End). e.key) ends)

-- ---- keys
-- a key is among those of the ends, each once, where some end has it
pub key_once : (keys : List EventKey) (k : EventKey) → Contains keys k → Contains (each_once is_same_key keys) k
key_once keys k (p, inside, is) =
    Contains-from_any exact_keys.one k (each_once is_same_key keys) (any_once is_same_key exact_keys k keys ∙ known_at is_same_key exact_keys keys p k k inside is)

pub key_from : (keys : List EventKey) (k : EventKey) → Contains (each_once is_same_key keys) k → Contains keys k
key_from keys k (p, inside, is) =
    Contains-from_any exact_keys.one k keys (sym (any_once is_same_key exact_keys k keys) ∙ known_at is_same_key exact_keys (each_once is_same_key keys) p k k inside is)

-- keys in another order are, each once, the same
pub keys_moved : (p : EventKey → Bool) (xs ys : List EventKey) → IsPermutation xs ys → IsPermutation (filter p (each_once is_same_key xs)) (filter p (each_once is_same_key ys))
keys_moved p xs ys moved =
    let R : EventKey → EventKey → Type 0 = λ a b. a ≢ b in
    let differ : (ks : List EventKey) → AllPairs R (filter p (each_once is_same_key ks)) =
    λ ks. AllPairs-filter R p (each_once is_same_key ks) (differ_apart is_same_key exact_keys (each_once is_same_key ks) (once_apart is_same_key exact_keys ks)) in
    let over : (us vs : List EventKey) → IsPermutation us vs → (z : EventKey) → Contains (filter p (each_once is_same_key us)) z → Contains (filter p (each_once is_same_key vs)) z =
    λ us vs same z held.
    kept p (each_once is_same_key vs) z
    (key_once vs z (Contains-permutation us vs z same (key_from us z (was_in p (each_once is_same_key us) z held))))
    (has_passed p (each_once is_same_key us) z held) in
    same_elements is_same_key exact_keys (filter p (each_once is_same_key xs)) (filter p (each_once is_same_key ys)) (differ xs) (differ ys) (over xs ys moved) (over ys xs (IsPermutation-sym xs ys moved))

-- ---- the first event of a key
first_among : (ends : List End) (key : EventKey) → Contains (map (λ (e : End). e.key) ends) key → Contains (map (λ (e : End). e.id) ends) (first_with ends key)
first_among ends key (p, inside, is) = among ends (known_at is_same_key exact_keys (map (λ (e : End). e.key) ends) p key key inside is)
  where
    among : (es : List End) → list_any (is_same_key key) (map (λ (e : End). e.key) es) ≡ true → Contains (map (λ (e : End). e.id) es) (first_with es key)
    among [] known = absurd (false≢true known)
    among (e ∷ es) known = elim (cases_Bool (is_same_key e.key key)) [
      | inl same ↦ rw same (here e.id (map (λ (e : End). e.id) es))
      | inr other ↦ elim (or_cases (is_same_key key e.key) (list_any (is_same_key key) (map (λ (e : End). e.key) es)) known) [
        | inl same ↦ absurd (false≢true (sym other ∙ turned is_same_key exact_keys e.key key ∙ same))
        | inr more ↦ rw other (there e.id (first_with es key) (map (λ (e : End). e.id) es) (among es more))
      ]
    ]

-- all events behind the first end come after it
behind_first : (e : End) (ends : List End) → AreRising (e ∷ ends) → All (ComesBefore e.id) (map (λ (x : End). x.id) ends)
behind_first e ends rising =
    each_in (ComesBefore e.id) (map (λ (x : End). x.id) ends)
    (λ id held.
    let (x, among, is) = from_map (λ (y : End). y.id) ends id held in
    subst (ComesBefore e.id) is (All-contains (λ (y : End). ComesBefore e.id y.id) ends x (first_of_pairs (λ (a b : End). ComesBefore a.id b.id) e ends rising) among))

-- keys, each once, stand in the order of their first events
pub firsts_rise : (ends : List End) → AreRising ends → AllPairs (λ (j k : EventKey). ComesBefore (first_with ends j) (first_with ends k)) (keys_among ends)
firsts_rise [] rising = λ i j d below inside. absurd (omega (arith, inside))
firsts_rise (e ∷ ends) rising =
    let R : EventKey → EventKey → Type 0 = λ j k. ComesBefore (first_with ends j) (first_with ends k) in
    let S : EventKey → EventKey → Type 0 = λ j k. ComesBefore (first_with (e ∷ ends) j) (first_with (e ∷ ends) k) in
    let other : EventKey → Bool = λ k. not (is_same_key e.key k) in
    let keys : List EventKey = keys_among ends in
    let rest : List EventKey = filter other keys in
    let later : (k : EventKey) → other k ≡ true → first_with (e ∷ ends) k ≡ first_with ends k = λ k passes. first_later e ends k passes in
    let own : first_with (e ∷ ends) e.key ≡ e.id = ap (λ (b : Bool). cond b e.id (first_with ends e.key)) (exact_keys.own e.key) in
    AllPairs-cons S e.key rest
    (each_in (S e.key) rest
    (λ k held.
    let held' : Contains (map (λ (x : End). x.key) ends) k = key_from (map (λ (x : End). x.key) ends) k (was_in other keys k held) in
    let after : ComesBefore e.id (first_with ends k) = All-contains (ComesBefore e.id) (map (λ (x : End). x.id) ends) (first_with ends k) (behind_first e ends rising) (first_among ends k held') in
    subst (λ (id : EventId). ComesBefore id (first_with (e ∷ ends) k)) (sym own) (subst (ComesBefore e.id) (sym (later k (has_passed other keys k held))) after)))
    (pairs_weaker (λ (k : EventKey). other k ≡ true) R S rest
    (each_in (λ (k : EventKey). other k ≡ true) rest (λ k held. has_passed other keys k held))
    (AllPairs-filter R other keys (firsts_rise ends (rest_of_pairs (λ (a b : End). ComesBefore a.id b.id) e ends rising)))
    (λ j k passes passes' before. subst (λ (id : EventId). ComesBefore id (first_with (e ∷ ends) k)) (sym (later j passes)) (subst (ComesBefore (first_with ends j)) (sym (later k passes')) before)))
  where
    first_later : (e : End) (ends : List End) (k : EventKey) → not (is_same_key e.key k) ≡ true → first_with (e ∷ ends) k ≡ first_with ends k
    first_later e ends k passes = elim (cases_Bool (is_same_key e.key k)) [
      | inl same ↦ absurd (false≢true (sym (ap not same) ∙ passes))
      | inr none ↦ ap (λ (b : Bool). cond b e.id (first_with ends k)) none
    ]

-- ---- of a send and a receive, the one that comes first
is_before : (a b : EventId) → ComesBefore a b → comes_first a b ≡ true
is_before a b (inl less) = grind (arith, less)
is_before a b (inr later) = grind (arith, later.0, later.1)

is_behind : (a b : EventId) → ComesBefore b a → comes_first a b ≡ false
is_behind a b (inl less) = grind (arith, less)
is_behind a b (inr later) = grind (arith, later.0, later.1)

-- the names with a key and a side are names of ends
names_among : (ends : List End) (key : EventKey) (side : Side) (id : EventId) → Contains (names_with ends key side) id → Contains (map (λ (e : End). e.id) ends) id
names_among ends key side id held =
    let (x, among, is) = from_map (λ (e : End). e.id) (filter (is_end key side) ends) id held in
    subst (Contains (map (λ (e : End). e.id) ends)) is (in_map (λ (e : End). e.id) ends x (was_in (is_end key side) ends x among))

abbrev made : EventId → EventKey → Side → End
made id key side = record { id = id; key = key; side = side }

skipped : (e : End) (ends : List End) (key : EventKey) (side : Side) → is_end key side e ≡ false → names_with (e ∷ ends) key side ≡ names_with ends key side
skipped e ends key side fails = ap (λ (b : Bool). map (λ (x : End). x.id) (cond b (e ∷ filter (is_end key side) ends) (filter (is_end key side) ends))) fails

taken : (e : End) (ends : List End) (key : EventKey) (side : Side) → is_end key side e ≡ true → names_with (e ∷ ends) key side ≡ e.id ∷ names_with ends key side
taken e ends key side passes = ap (λ (b : Bool). map (λ (x : End). x.id) (cond b (e ∷ filter (is_end key side) ends) (filter (is_end key side) ends))) passes

heads_same : {X : Type 0} (x y : X) (xs ys : List X) → x ∷ xs ≡ y ∷ ys → x ≡ y
heads_same x y xs ys is = cc

-- the first event of a key is the first of its sends or the first of its receives
pub first_is : (ends : List End) (key : EventKey) (s r : EventId) (ss rs : List EventId) → AreRising ends → names_with ends key Send ≡ s ∷ ss → names_with ends key Receive ≡ r ∷ rs → earlier s r ≡ first_with ends key
first_is [] key s r ss rs rising sends receives = absurd cc
first_is (e ∷ ends) key s r ss rs rising sends receives = elim (cases_Bool (is_same_key e.key key)) [
  | inr other ↦ (
      let fails : (side : Side) → is_end key side e ≡ false = λ side. and_left (is_same_key e.key key) (is_same_side e.side side) other in
      let rest : earlier s r ≡ first_with ends key =
      first_is ends key s r ss rs (rest_of_pairs (λ (a b : End). ComesBefore a.id b.id) e ends rising) (sym (skipped e ends key Send (fails Send)) ∙ sends) (sym (skipped e ends key Receive (fails Receive)) ∙ receives) in
      rest ∙ ap (λ (b : Bool). cond b e.id (first_with ends key)) (sym other)
      )
  | inl same ↦ (by_side e.id e.key e.side rising sends receives same ∙ ap (λ (b : Bool). cond b e.id (first_with ends key)) (sym same))
]
  where
    by_side : (id : EventId) (other : EventKey) (side : Side) → AreRising (made id other side ∷ ends) → names_with (made id other side ∷ ends) key Send ≡ s ∷ ss → names_with (made id other side ∷ ends) key Receive ≡ r ∷ rs
        → is_same_key other key ≡ true → earlier s r ≡ id
    by_side id other Send up is is' same =
        let head : id ≡ s = heads_same id s (names_with ends key Send) ss (sym (taken (made id other Send) ends key Send (ap (λ (b : Bool). b && true) same)) ∙ is) in
        let among : names_with ends key Receive ≡ r ∷ rs = sym (skipped (made id other Send) ends key Receive (ap (λ (b : Bool). b && false) same)) ∙ is' in
        let after : ComesBefore id r =
        All-contains (ComesBefore id) (map (λ (x : End). x.id) ends) r (behind_first (made id other Send) ends up) (names_among ends key Receive r (subst (λ (l : List EventId). Contains l r) (sym among) (here r rs))) in
        ap (λ (b : Bool). cond b s r) (is_before s r (subst (λ (x : EventId). ComesBefore x r) head after)) ∙ sym head
    by_side id other Receive up is is' same =
        let head : id ≡ r = heads_same id r (names_with ends key Receive) rs (sym (taken (made id other Receive) ends key Receive (ap (λ (b : Bool). b && true) same)) ∙ is') in
        let among : names_with ends key Send ≡ s ∷ ss = sym (skipped (made id other Receive) ends key Send (ap (λ (b : Bool). b && false) same)) ∙ is in
        let after : ComesBefore id s =
        All-contains (ComesBefore id) (map (λ (x : End). x.id) ends) s (behind_first (made id other Receive) ends up) (names_among ends key Send s (subst (λ (l : List EventId). Contains l s) (sym among) (here s ss))) in
        ap (λ (b : Bool). cond b s r) (is_behind s r (subst (λ (x : EventId). ComesBefore x s) head after)) ∙ sym head
