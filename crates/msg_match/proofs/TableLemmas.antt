-- Groups in a table, with one of them changed.
use Rattle.std.proofs.Common.{◌≡◌, ℕ, ◌<◌, ◌-◌, List, [], ◌∷◌, ◌++◌, length, set, take, get_or, Bool, true, false, ◌==◌, cond, refl, sym, ap, subst, ◌∙◌}
use Rattle.std.specs.Prelude.{Result, Ok, Err, IfOk, OnOk, OnErr}
use Rattle.std.proofs.lemmas.List.{get_or-map, length-map, map_push, map-set, set-get_or, take-map}
use Rattle.interner.specs.Numbers.{IsLast}
use Rattle.traces.specs.declared.event.Side.{Side}
use Rattle.traces.specs.declared.event.Side.TheVariants.{Send, Receive}
use Rattle.traces.specs.Seen.{EventKey, is_same_key, key_of}
use Rattle.msg_match.specs.declared.entry.Entry.{Entry}
use Rattle.msg_match.specs.declared.group.Group.{Group}
use Rattle.msg_match.specs.Groups.{SeenGroup, group_size}
use Rattle.msg_match.specs.Held.{seen_group, seen_groups}
use Rattle.msg_match.specs.Parts.{group_at_place, group_before, groups_before, keys_in, no_key, shorter, without_last}
use Rattle.msg_match.proofs.Grouping.{exact_keys}

abbrev key_at : SeenGroup → EventKey
key_at g = g.key

-- one group is changed
pub changed : (groups : List Group) (i : ℕ) (old new : Group) (d : SeenGroup) (f : SeenGroup → SeenGroup) → i < length groups → old ≡ get_or groups i old → seen_group new ≡ f (seen_group old)
    → seen_groups (set groups i new) ≡ set (seen_groups groups) i (f (get_or (seen_groups groups) i d))
changed groups i old new d f inside is step =
    let at : get_or (seen_groups groups) i d ≡ seen_group old = get_or-map seen_group groups i old d inside ∙ ap seen_group (sym is) in
    map-set seen_group groups i new ∙ ap (λ (g : SeenGroup). set (seen_groups groups) i g) (step ∙ ap f (sym at))

-- or stays
pub same : (groups : List Group) (i : ℕ) (old new : Group) → i < length groups → old ≡ get_or groups i old → seen_group new ≡ seen_group old → seen_groups (set groups i new) ≡ seen_groups groups
same groups i old new inside is step =
    changed groups i old new (seen_group old) (λ (g : SeenGroup). g) inside is step ∙ set-get_or (seen_groups groups) i (seen_group old)

-- the group at a place
pub seen_at : (groups : List Group) (i : ℕ) (g : Group) (d : SeenGroup) → i < length groups → g ≡ get_or groups i g → seen_group g ≡ get_or (seen_groups groups) i d
seen_at groups i g d inside is = ap seen_group is ∙ sym (get_or-map seen_group groups i g d inside)

module _ (groups : List Group) (e : Entry) (old new : Group) (inside : e.place < length groups) (is : old ≡ get_or groups e.place old) (step : seen_group new ≡ without_last (seen_group old) e.side) where
  less : seen_groups (set groups e.place new) ≡ set (seen_groups groups) e.place (group_before (seen_groups groups) e)
  less = changed groups e.place old new (group_at_place [] 0) (λ (g : SeenGroup). without_last g e.side) inside is step

  group_is : seen_group new ≡ group_before (seen_groups groups) e
  group_is = step ∙ ap (λ (g : SeenGroup). without_last g e.side) (ap seen_group is ∙ sym (get_or-map seen_group groups e.place old (group_at_place [] 0) inside))

  -- other events are left
  pub some_left : (group_size (seen_group new) == 0) ≡ false → seen_groups (set groups e.place new) ≡ groups_before (seen_groups groups) e
  some_left flag =
      let other : (group_size (group_before (seen_groups groups) e) == 0) ≡ false = ap (λ (g : SeenGroup). group_size g == 0) (sym group_is) ∙ flag in
      less ∙ ap (λ (b : Bool). cond b (shorter (set (seen_groups groups) e.place (group_before (seen_groups groups) e))) (set (seen_groups groups) e.place (group_before (seen_groups groups) e))) (sym other)

  -- none is left
  pub none_left : (after : List Group) → (group_size (seen_group new) == 0) ≡ true → after ≡ take (length (set groups e.place new) - 1) (set groups e.place new) → seen_groups after ≡ groups_before (seen_groups groups) e
  none_left after flag taken =
      let empty : (group_size (group_before (seen_groups groups) e) == 0) ≡ true = ap (λ (g : SeenGroup). group_size g == 0) (sym group_is) ∙ flag in
      ap seen_groups taken
      ∙ sym (take-map seen_group (length (set groups e.place new) - 1) (set groups e.place new))
      ∙ ap (λ (n : ℕ). take (n - 1) (seen_groups (set groups e.place new))) (sym (length-map (set groups e.place new) seen_group))
      ∙ ap (λ (gs : List SeenGroup). shorter gs) less
      ∙ ap (λ (b : Bool). cond b (shorter (set (seen_groups groups) e.place (group_before (seen_groups groups) e))) (set (seen_groups groups) e.place (group_before (seen_groups groups) e))) (sym empty)

  key_less : (g : SeenGroup) (side : Side) → (without_last g side).key ≡ g.key
  key_less g Send = refl
  key_less g Receive = refl

  -- the keys stay
  same_keys : keys_in (seen_groups (set groups e.place new)) ≡ keys_in (seen_groups groups)
  same_keys =
      let gs = seen_groups groups in
      let within : e.place < length gs = subst (λ (n : ℕ). e.place < n) (sym (length-map groups seen_group)) inside in
      let key : (group_before gs e).key ≡ get_or (keys_in gs) e.place no_key = key_less (group_at_place gs e.place) e.side ∙ sym (get_or-map key_at gs e.place (group_at_place [] 0) no_key within) in
      ap keys_in less ∙ map-set key_at gs e.place (group_before gs e) ∙ ap (λ (k : EventKey). set (keys_in gs) e.place k) key ∙ set-get_or (keys_in gs) e.place no_key

  -- so the last group has the last key
  pub last_has : (keys : List EventKey) (rest : List Group) (last : Group) → keys_in (seen_groups groups) ≡ keys → set groups e.place new ≡ rest ++ last ∷ [] → IsLast (is_same_key (key_of last.key)) keys
  last_has keys rest last kept is = (
    keys_in (seen_groups rest),
    key_of last.key,
    sym kept ∙ sym same_keys ∙ ap (λ (gs : List Group). keys_in (seen_groups gs)) is ∙ ap keys_in (map_push seen_group rest last) ∙ map_push key_at (seen_groups rest) (seen_group last),
    exact_keys.own (key_of last.key),
  )

-- ---- what a call answers
-- whether it went well or not
pub either : {T E : Type 0} (r : Result T E) {A B C D : Type 0} (P : Type 0) → OnOk r A → OnOk r B → OnErr r C → OnErr r D → (A → B → P) → (C → D → P) → P
either (Ok x) P a b c d went failed = went a b
either (Err e) P a b c d went failed = failed c d

pub either3 : {T E : Type 0} (r : Result T E) {A B C A' B' C' : Type 0} (P : Type 0) → OnOk r A → OnOk r B → OnOk r C → OnErr r A' → OnErr r B' → OnErr r C' → (A → B → C → P) → (A' → B' → C' → P) → P
either3 (Ok x) P a b c a' b' c' went failed = went a b c
either3 (Err e) P a b c a' b' c' went failed = failed a' b' c'

pub then_ok : {T E : Type 0} (r : Result T E) {A : Type 0} (P : Type 0) → OnOk r A → (A → P) → OnOk r P
then_ok (Ok x) P a so = so a
then_ok (Err e) P a so = tt

pub then_ok2 : {T E : Type 0} (r : Result T E) {A B : Type 0} (P : Type 0) → OnOk r A → OnOk r B → (A → B → P) → OnOk r P
then_ok2 (Ok x) P a b so = so a b
then_ok2 (Err e) P a b so = tt

-- what is so whether it went well or not
pub so_err : {T E : Type 0} (r : Result T E) (P : Type 0) → P → OnErr r P
so_err (Ok x) P p = tt
so_err (Err e) P p = p

-- what is so of a value by two facts of it
pub if_ok2 : {T E : Type 0} (r : Result T E) (P Q R : T → Type 0) → IfOk r P → IfOk r Q → ((x : T) → P x → Q x → R x) → IfOk r R
if_ok2 (Ok x) P Q R a b so = so x a b
if_ok2 (Err e) P Q R a b so = tt

-- ---- events of a table
-- the key of a group is the one at its place
pub key_there : (keys : List EventKey) (groups : List Group) (place : ℕ) (g : Group) → keys_in (seen_groups groups) ≡ keys → place < length keys → g ≡ get_or groups place g → key_of g.key ≡ get_or keys place no_key
key_there keys groups place g kept inside is =
    let gs = seen_groups groups in
    let many : length gs ≡ length keys = sym (length-map gs key_at) ∙ ap length kept in
    let within : place < length gs = subst (λ (n : ℕ). place < n) (sym many) inside in
    let within' : place < length groups = subst (λ (n : ℕ). place < n) (length-map groups seen_group) within in
    ap (λ (h : SeenGroup). h.key) (seen_at groups place g (group_at_place [] 0) within' is)
    ∙ sym (get_or-map key_at gs place (group_at_place [] 0) no_key within)
    ∙ ap (λ (ks : List EventKey). get_or ks place no_key) kept
