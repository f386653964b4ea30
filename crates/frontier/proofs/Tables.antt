-- The keys by node that the table of keys and the one of places say, after one of the tables has changed.
use Rattle.std.proofs.Common.{◌≡◌, ℕ, zero, suc, ◌+◌, ◌-◌, ◌/◌, ◌<◌, ◌≤◌, List, [], ◌∷◌, ◌++◌, length, set, take, drop, get_or, refl, ap, sym, ◌∙◌, subst, arith, inl, inr, ℤ, pos}
use Rattle.std.specs.Prelude.{◌≢◌, ◌==◌, if◌then◌else◌, Option, Some, None, replicate}
use Rattle.std.proofs.lemmas.Bool.{cases_eq, eq-eqb, ne_eqb, cond-true, cond-false}
use Rattle.std.proofs.lemmas.List.{take_at}
use Rattle.frontier.specs.Keys.{Waits, IsFirstKey}
use Rattle.frontier.specs.Heap.{nowhere, waiting_keys, heap_node, waiting_key, heap_place, IsChildPlace, IsWaiting, IsAhead, ComesOutFirst, IsHeap, HasHole}
use Rattle.frontier.proofs.Waiting.{waiting_within, key_of_waits}

-- what one key and one place say
abbrev entry : ℤ → ℕ → Option ℤ
entry key place = if place == nowhere then None else Some key

entry_some : (key : ℤ) (place : ℕ) → place ≢ nowhere → entry key place ≡ Some key
entry_some key place n = cond-false (place == nowhere) None (Some key) (ne_eqb place nowhere n)

entry_none : (key : ℤ) (place : ℕ) → place ≡ nowhere → ◌≡◌ {A = Option ℤ} (entry key place) None
entry_none key place e = cond-true (place == nowhere) None (Some key) (eq-eqb place nowhere e)

entry_waits : (key : ℤ) (place : ℕ) (held : ℤ) → Some (entry key place) ≡ Some (Some held) → (key ≡ held) × (place ≢ nowhere)
entry_waits key place held w = elim (cases_eq place nowhere) [
  | inl e ↦ (let n : ◌≡◌ {A = Option ℤ} (entry key place) None = entry_none key place e in absurd cc)
  | inr n ↦ (let s : entry key place ≡ Some key = entry_some key place n in (cc, n))
]

pub as_long : (keys : List ℤ) (places : List ℕ) → length places ≤ length keys → length (waiting_keys keys places) ≡ length places
unfolding waiting_keys
as_long [] [] l = refl
as_long [] (p ∷ places) l = absurd (omega arith)
as_long (k ∷ keys) [] l = refl
as_long (k ∷ keys) (p ∷ places) l = (let e : length (waiting_keys keys places) ≡ length places = as_long keys places (omega arith) in omega arith)

pub no_longer : (keys : List ℤ) (places : List ℕ) → (length (waiting_keys keys places) ≤ length keys) × (length (waiting_keys keys places) ≤ length places)
unfolding waiting_keys
no_longer [] places = (omega arith, omega arith)
no_longer (k ∷ keys) [] = (omega arith, omega arith)
no_longer (k ∷ keys) (p ∷ places) =
    let r : (length (waiting_keys keys places) ≤ length keys) × (length (waiting_keys keys places) ≤ length places) = no_longer keys places in
    let r0 : length (waiting_keys keys places) ≤ length keys = r.0 in
    let r1 : length (waiting_keys keys places) ≤ length places = r.1 in
    (omega arith, omega arith)

pub key_within : (keys : List ℤ) (places : List ℕ) (node : ℕ) → IsWaiting (waiting_keys keys places) node → node < length keys
key_within keys places node w = omega (arith, waiting_within (waiting_keys keys places) node w, (no_longer keys places).0)

pub place_within : (keys : List ℤ) (places : List ℕ) (node : ℕ) → IsWaiting (waiting_keys keys places) node → node < length places
place_within keys places node w = omega (arith, waiting_within (waiting_keys keys places) node w, (no_longer keys places).1)

pub seen_place : (keys : List ℤ) (places : List ℕ) (node : ℕ) → node < length (waiting_keys keys places) → node < length places
seen_place keys places node l = omega (arith, (no_longer keys places).1)

-- a node that waits has a place, and its key stands in the table
pub stored : (keys : List ℤ) (places : List ℕ) (node : ℕ) (key : ℤ) → Waits (waiting_keys keys places) node key → (get_or keys node (pos 0) ≡ key) × (heap_place places node ≢ nowhere)
unfolding waiting_keys
stored [] places node key w = absurd cc
stored (k ∷ keys) [] node key w = absurd cc
stored (k ∷ keys) (p ∷ places) zero key w = entry_waits k p key w
stored (k ∷ keys) (p ∷ places) (suc node) key w = stored keys places node key w

-- what is seen of a node is its key where it has a place, and else nothing
pub at_nowhere : (keys : List ℤ) (places : List ℕ) (node : ℕ) → heap_place places node ≡ nowhere → ◌≡◌ {A = Option ℤ} (get_or (waiting_keys keys places) node None) None
unfolding waiting_keys
at_nowhere [] places node e = refl
at_nowhere (k ∷ keys) [] node e = refl
at_nowhere (k ∷ keys) (p ∷ places) zero e = entry_none k p e
at_nowhere (k ∷ keys) (p ∷ places) (suc node) e = at_nowhere keys places node e

pub at_somewhere : (keys : List ℤ) (places : List ℕ) (node : ℕ) → node < length places → length places ≤ length keys → heap_place places node ≢ nowhere → get_or (waiting_keys keys places) node None ≡ Some (get_or keys node (pos 0))
unfolding waiting_keys
at_somewhere keys [] node l m n = absurd (omega arith)
at_somewhere [] (p ∷ places) node l m n = absurd (omega arith)
at_somewhere (k ∷ keys) (p ∷ places) zero l m n = entry_some k p n
at_somewhere (k ∷ keys) (p ∷ places) (suc node) l m n = at_somewhere keys places node (omega arith) (omega arith) n

pub key_stored : (keys : List ℤ) (places : List ℕ) (node : ℕ) → IsWaiting (waiting_keys keys places) node → waiting_key (waiting_keys keys places) node ≡ get_or keys node (pos 0)
key_stored keys places node w = key_of_waits (waiting_keys keys places) node w.0 w.1 ∙ sym (stored keys places node w.0 w.1).0

pub below_apart : (place over : ℕ) → IsChildPlace place over → place ≢ over
below_apart place over b q = (let p : 0 < place = b.0 in let e : (place - 1) / 2 ≡ over = b.1 in omega arith)

-- of two nodes that wait, the order by the table is the order by what is seen
pub ahead_stored : (keys : List ℤ) (places : List ℕ) (a b : ℕ) → IsWaiting (waiting_keys keys places) a → IsWaiting (waiting_keys keys places) b → ComesOutFirst keys a b → IsAhead (waiting_keys keys places) a b
ahead_stored keys places a b v w h =
    subst (λ k. IsFirstKey k a (waiting_key (waiting_keys keys places) b) b) (sym (key_stored keys places a v))
    (subst (λ k. IsFirstKey (get_or keys a (pos 0)) a k b) (sym (key_stored keys places b w)) h)

-- so the one that comes first below the hole by the table is so by what is seen
pub first_stored : (keys : List ℤ) (places heap places' : List ℕ) (hole node : ℕ) → HasHole (waiting_keys keys places) heap places' hole node → (first : ℕ) → first < length heap → IsChildPlace first hole
    → ((k : ℕ) → k < length heap → IsChildPlace k hole → k ≢ first → ComesOutFirst keys (heap_node heap first) (heap_node heap k))
    → (k : ℕ) → k < length heap → IsChildPlace k hole → k ≢ first → IsAhead (waiting_keys keys places) (heap_node heap first) (heap_node heap k)
first_stored keys places heap places' hole node h first lf bf least k l b n =
    ahead_stored keys places (heap_node heap first) (heap_node heap k) (h.waiting first lf (below_apart first hole bf)) (h.waiting k l (below_apart k hole b)) (least k l b n)

-- a node that waits gets another place
pub place_moved : (keys : List ℤ) (places : List ℕ) (node place : ℕ) → IsWaiting (waiting_keys keys places) node → place ≢ nowhere → waiting_keys keys (set places node place) ≡ waiting_keys keys places
unfolding waiting_keys
place_moved [] places node place w n = refl
place_moved (k ∷ keys) [] node place w n = refl
place_moved (k ∷ keys) (p ∷ places) zero place w n = ap (λ e. e ∷ waiting_keys keys places) (entry_some k place n ∙ sym (entry_some k p (entry_waits k p w.0 w.1).1))
place_moved (k ∷ keys) (p ∷ places) (suc node) place w n = ap (λ e. entry k p ∷ e) (place_moved keys places node place (w.0, w.1) n)

-- a node loses its place
pub place_lost : (keys : List ℤ) (places : List ℕ) (node : ℕ) → waiting_keys keys (set places node nowhere) ≡ set (waiting_keys keys places) node None
unfolding waiting_keys
place_lost [] places node = refl
place_lost (k ∷ keys) [] node = refl
place_lost (k ∷ keys) (p ∷ places) zero = refl
place_lost (k ∷ keys) (p ∷ places) (suc node) = ap (λ e. entry k p ∷ e) (place_lost keys places node)

-- a node gets a key and a place
pub key_put : (keys : List ℤ) (places : List ℕ) (node : ℕ) (key : ℤ) (place : ℕ) → place ≢ nowhere → waiting_keys (set keys node key) (set places node place) ≡ set (waiting_keys keys places) node (Some key)
unfolding waiting_keys
key_put [] places node key place n = refl
key_put (k ∷ keys) [] zero key place n = refl
key_put (k ∷ keys) [] (suc node) key place n = refl
key_put (k ∷ keys) (p ∷ places) zero key place n = ap (λ e. e ∷ waiting_keys keys places) (entry_some key place n)
key_put (k ∷ keys) (p ∷ places) (suc node) key place n = ap (λ e. entry k p ∷ e) (key_put keys places node key place n)

-- a node that waits gets another key
pub key_changed : (keys : List ℤ) (places : List ℕ) (node : ℕ) (key : ℤ) → IsWaiting (waiting_keys keys places) node → waiting_keys (set keys node key) places ≡ set (waiting_keys keys places) node (Some key)
unfolding waiting_keys
key_changed [] places node key w = refl
key_changed (k ∷ keys) [] zero key w = refl
key_changed (k ∷ keys) [] (suc node) key w = refl
key_changed (k ∷ keys) (p ∷ places) zero key w = ap (λ e. e ∷ waiting_keys keys places) (entry_some key p (entry_waits k p w.0 w.1).1)
key_changed (k ∷ keys) (p ∷ places) (suc node) key w = ap (λ e. entry k p ∷ e) (key_changed keys places node key (w.0, w.1))

-- the keys of the places are the same
abbrev pub AreSame : List ℤ → List ℤ → List ℕ → Type 0
AreSame keys keys' places = (k : ℕ) → k < length places → get_or keys' k (pos 0) ≡ get_or keys k (pos 0)

pub kept : (keys keys' : List ℤ) (places : List ℕ) → length places ≤ length keys → length places ≤ length keys' → AreSame keys keys' places → waiting_keys keys' places ≡ waiting_keys keys places
unfolding waiting_keys
kept [] [] places l m same = refl
kept [] (k ∷ keys') [] l m same = refl
kept [] (k ∷ keys') (p ∷ places) l m same = absurd (omega arith)
kept (k ∷ keys) [] [] l m same = refl
kept (k ∷ keys) [] (p ∷ places) l m same = absurd (omega arith)
kept (k ∷ keys) (j ∷ keys') [] l m same = refl
kept (k ∷ keys) (j ∷ keys') (p ∷ places) l m same =
    ap (λ x. entry x p ∷ waiting_keys keys' places) (same 0 (omega arith))
    ∙ ap (λ e. entry k p ∷ e) (kept keys keys' places (omega arith) (omega arith) (λ n l. same (suc n) (omega arith)))

-- nodes beyond the room get a key each, and no place
unplaced : (keys : List ℤ) (more : ℕ) → more ≤ length keys → waiting_keys keys (replicate more nowhere) ≡ replicate more None
unfolding waiting_keys
unplaced [] zero l = refl
unplaced [] (suc more) l = absurd (omega arith)
unplaced (k ∷ keys) zero l = refl
unplaced (k ∷ keys) (suc more) l = ap (λ e. None ∷ e) (unplaced keys more (omega arith))

pub grown : (keys keys' : List ℤ) (places : List ℕ) (more : ℕ) → length places ≤ length keys → length places + more ≤ length keys' → AreSame keys keys' places → waiting_keys keys' (places ++ replicate more nowhere) ≡ waiting_keys keys places ++ replicate more None
unfolding waiting_keys
grown [] keys' [] more l m same = unplaced keys' more (omega arith)
grown [] keys' (p ∷ places) more l m same = absurd (omega arith)
grown (k ∷ keys) keys' [] more l m same = unplaced keys' more (omega arith)
grown (k ∷ keys) [] (p ∷ places) more l m same = absurd (omega arith)
grown (k ∷ keys) (j ∷ keys') (p ∷ places) more l m same =
    ap (λ x. entry x p ∷ waiting_keys keys' (places ++ replicate more nowhere)) (same 0 (omega arith))
    ∙ ap (λ e. entry k p ∷ e) (grown keys keys' places more (omega arith) (omega arith) (λ n l. same (suc n) (omega arith)))

-- what a call on slices says of the tables, said of the tables that were lent
pub settled : (keys given : List ℤ) (heap places before : List ℕ) → given ≡ keys → waiting_keys given places ≡ waiting_keys given before → IsHeap (waiting_keys given before) heap places → IsHeap (waiting_keys keys places) heap places
settled keys given heap places before e k h = subst (λ g. IsHeap (waiting_keys g places) heap places) e (subst (λ s. IsHeap s heap places) (sym k) h)

pub settled_keys : (keys given : List ℤ) (places before lent : List ℕ) → given ≡ keys → before ≡ lent → waiting_keys given places ≡ waiting_keys given before → waiting_keys keys places ≡ waiting_keys keys lent
settled_keys keys given places before lent e b k = subst (λ g. waiting_keys g places ≡ waiting_keys g lent) e (k ∙ ap (waiting_keys given) b)

-- a slice that was lent goes back whole
pub given_back : (len : ℕ) (new old : List ℕ) → length new ≡ len → take len (new ++ drop (length new) old) ≡ new
given_back len new old e = take_at new (drop (length new) old) len e
