-- One event more among the events of each key.
use Rattle.std.proofs.Common.{◌≡◌, ℕ, zero, suc, ◌<◌, ◌+◌, cond, List, [], ◌∷◌, ◌++◌, length, map, set, get_or, Bool, true, false, inl, inr, refl, sym, ap, ◌∙◌, subst, arith}
use Rattle.std.specs.Prelude.{filter}
use Rattle.std.specs.List.{list_any}
use Rattle.std.proofs.lemmas.Bool.{and_from, and_left, and_right, cases_Bool, false≢true, or_cases, or_parts}
use Rattle.std.proofs.lemmas.List.{append-nil, map_push}
use Rattle.std.proofs.lemmas.List.Elements.{filter-append}
use Rattle.traces.specs.declared.event.Side.{Side}
use Rattle.traces.specs.declared.event.Side.TheVariants.{Send, Receive}
use Rattle.traces.specs.Seen.{EventKey, is_same_key, is_same_side}
use Rattle.traces.proofs.Keys.{keys_tell}
use Rattle.msg_match.specs.Groups.{SeenItem, SeenGroup, events_with, group_of, has_mark, group_size}
use Rattle.msg_match.specs.Parts.{with_entry}
use Rattle.msg_match.proofs.Distinct.{AreApart, IsExact, last_place, turned}

pub exact_keys : IsExact is_same_key
exact_keys = record { one = λ a b same. (keys_tell a b).0 same; own = λ a. (keys_tell a a).1 refl }

-- ---- events with a key and a side
pushed_in : (p : SeenItem → Bool) (items : List SeenItem) (y : SeenItem) → p y ≡ true → map (λ (x : SeenItem). x.event) (filter p (items ++ y ∷ [])) ≡ map (λ (x : SeenItem). x.event) (filter p items) ++ y.event ∷ []
pushed_in p items y passes =
    let kept : filter p (items ++ y ∷ []) ≡ filter p items ++ y ∷ [] = filter-append p items (y ∷ []) ∙ rw passes refl in
    ap (map (λ (x : SeenItem). x.event)) kept ∙ map_push (λ (x : SeenItem). x.event) (filter p items) y

pushed_out : (p : SeenItem → Bool) (items : List SeenItem) (y : SeenItem) → p y ≡ false → map (λ (x : SeenItem). x.event) (filter p (items ++ y ∷ [])) ≡ map (λ (x : SeenItem). x.event) (filter p items)
pushed_out p items y fails =
    let kept : filter p (items ++ y ∷ []) ≡ filter p items = filter-append p items (y ∷ []) ∙ rw fails (append-nil (filter p items)) in
    ap (map (λ (x : SeenItem). x.event)) kept

pub more_with : (items : List SeenItem) (y : SeenItem) (key : EventKey) (side : Side) → has_mark key side y ≡ true → events_with (items ++ y ∷ []) key side ≡ events_with items key side ++ y.event ∷ []
more_with items y key side has = pushed_in (has_mark key side) items y has

pub same_with : (items : List SeenItem) (y : SeenItem) (key : EventKey) (side : Side) → has_mark key side y ≡ false → events_with (items ++ y ∷ []) key side ≡ events_with items key side
same_with items y key side has = pushed_out (has_mark key side) items y has

abbrev pub made : EventKey → List ℕ → List ℕ → SeenGroup
made key sends receives = record { key = key; sends = sends; receives = receives }

-- ---- the group of a key
-- an event of another key changes nothing
pub group_other : (items : List SeenItem) (y : SeenItem) (key : EventKey) → is_same_key y.key key ≡ false → group_of (items ++ y ∷ []) key ≡ group_of items key
group_other items y key other =
    let sends = same_with items y key Send (and_left (is_same_key y.key key) (is_same_side y.side Send) other) in
    let receives = same_with items y key Receive (and_left (is_same_key y.key key) (is_same_side y.side Receive) other) in
    ap (λ (l : List ℕ). made key l (events_with (items ++ y ∷ []) key Receive)) sends ∙ ap (λ (l : List ℕ). made key (events_with items key Send) l) receives

group_more : (items : List SeenItem) (event : ℕ) (side : Side) (key : EventKey) → group_of (items ++ (record { event = event; side = side; key = key }) ∷ []) key ≡ with_entry (group_of items key) side event
group_more items event Send key =
    let y : SeenItem = record { event = event; side = Send; key = key } in
    let own : is_same_key key key ≡ true = exact_keys.own key in
    let sends = more_with items y key Send (and_from (is_same_key key key) true own refl) in
    let receives = same_with items y key Receive (and_right (is_same_key key key) false refl) in
    ap (λ (l : List ℕ). made key l (events_with (items ++ y ∷ []) key Receive)) sends ∙ ap (λ (l : List ℕ). made key (events_with items key Send ++ event ∷ []) l) receives
group_more items event Receive key =
    let y : SeenItem = record { event = event; side = Receive; key = key } in
    let own : is_same_key key key ≡ true = exact_keys.own key in
    let sends = same_with items y key Send (and_right (is_same_key key key) false refl) in
    let receives = more_with items y key Receive (and_from (is_same_key key key) true own refl) in
    ap (λ (l : List ℕ). made key l (events_with (items ++ y ∷ []) key Receive)) sends ∙ ap (λ (l : List ℕ). made key (events_with items key Send) l) receives

-- one of its own comes last on its side
pub group_own : (items : List SeenItem) (y : SeenItem) → group_of (items ++ y ∷ []) y.key ≡ with_entry (group_of items y.key) y.side y.event
group_own items y = group_more items y.event y.side y.key

-- ---- the groups of many keys
pub map_others : (items : List SeenItem) (y : SeenItem) (ks : List EventKey) → list_any (is_same_key y.key) ks ≡ false → map (group_of (items ++ y ∷ [])) ks ≡ map (group_of items) ks
map_others items y [] none = refl
map_others items y (k ∷ ks) none =
    let both = or_parts (is_same_key y.key k) (list_any (is_same_key y.key) ks) none in
    ap (λ (g : SeenGroup). g ∷ map (group_of (items ++ y ∷ [])) ks) (group_other items y k both.0) ∙ ap (λ (l : List SeenGroup). group_of items k ∷ l) (map_others items y ks both.1)

-- one event more changes the group of its key, and no other one
pub map_at : (items : List SeenItem) (y : SeenItem) (ks : List EventKey) (p : ℕ) (d : EventKey) (g : SeenGroup) → AreApart is_same_key ks → p < length ks → get_or ks p d ≡ y.key
    → set (map (group_of items) ks) p (with_entry (get_or (map (group_of items) ks) p g) y.side y.event) ≡ map (group_of (items ++ y ∷ [])) ks
map_at items y [] p d g apart inside at = absurd (omega (arith, inside))
map_at items y (k ∷ ks) zero d g apart inside at =
    let first : with_entry (group_of items k) y.side y.event ≡ group_of (items ++ y ∷ []) k = subst (λ (key : EventKey). with_entry (group_of items key) y.side y.event ≡ group_of (items ++ y ∷ []) key) (sym at) (sym (group_own items y)) in
    let rest : map (group_of (items ++ y ∷ [])) ks ≡ map (group_of items) ks = map_others items y ks (subst (λ (key : EventKey). list_any (is_same_key key) ks ≡ false) at apart.0) in
    ap (λ (h : SeenGroup). h ∷ map (group_of items) ks) first ∙ ap (λ (l : List SeenGroup). group_of (items ++ y ∷ []) k ∷ l) (sym rest)
map_at items y (k ∷ ks) (suc p) d g apart inside at =
    let inside' : p < length ks = omega (arith, inside) in
    let first : group_of (items ++ y ∷ []) k ≡ group_of items k = elim (cases_Bool (is_same_key y.key k)) [
      | inl same ↦ absurd (last_place is_same_key exact_keys ks p d k apart.0 inside' (at ∙ exact_keys.one y.key k same))
      | inr other ↦ group_other items y k other
    ] in
    ap (λ (l : List SeenGroup). group_of items k ∷ l) (map_at items y ks p d g apart.1 inside' at) ∙ ap (λ (h : SeenGroup). h ∷ map (group_of (items ++ y ∷ [])) ks) (sym first)

-- ---- keys with no events
pub none_with : (items : List SeenItem) (key : EventKey) (side : Side) → list_any (is_same_key key) (map (λ (x : SeenItem). x.key) items) ≡ false → events_with items key side ≡ []
none_with [] key side none = refl
none_with (x ∷ items) key side none =
    let both = or_parts (is_same_key key x.key) (list_any (is_same_key key) (map (λ (y : SeenItem). y.key) items)) none in
    let fails : has_mark key side x ≡ false = and_left (is_same_key x.key key) (is_same_side x.side side) (turned is_same_key exact_keys x.key key ∙ both.0) in
    rw fails (none_with items key side both.1)

-- an event is one of its key's
pub size_cons : (event : ℕ) (side : Side) (k : EventKey) (items : List SeenItem) (key : EventKey)
    → group_size (group_of ((record { event = event; side = side; key = k }) ∷ items) key) ≡ cond (is_same_key k key) 1 0 + group_size (group_of items key)
size_cons event Send k items key = elim (cases_Bool (is_same_key k key)) [
  | inl same ↦ rw same (omega arith)
  | inr other ↦ rw other (omega arith)
]
size_cons event Receive k items key = elim (cases_Bool (is_same_key k key)) [
  | inl same ↦ rw same (omega arith)
  | inr other ↦ rw other (omega arith)
]

-- where an event has the key, there are some
pub some_with : (items : List SeenItem) (key : EventKey) → list_any (is_same_key key) (map (λ (x : SeenItem). x.key) items) ≡ true → 0 < group_size (group_of items key)
some_with [] key known = absurd (false≢true known)
some_with (x ∷ items) key known = elim (or_cases (is_same_key key x.key) (list_any (is_same_key key) (map (λ (y : SeenItem). y.key) items)) known) [
  | inl same ↦ (let one' : ◌≡◌ {A = ℕ} (cond (is_same_key x.key key) 1 0) 1 = ap (λ (b : Bool). cond b 1 0) (turned is_same_key exact_keys x.key key ∙ same) in omega (arith, size_cons x.event x.side x.key items key, one'))
  | inr more ↦ omega (arith, size_cons x.event x.side x.key items key, some_with items key more)
]
