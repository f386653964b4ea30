-- Links one by one, as the code reads them.
use Rattle.std.proofs.Common.{◌≡◌, ℕ, ◌+◌, ◌-◌, ◌≤◌, ◌<◌, Bool, true, false, not, ◌||◌, if◌then◌else◌, unwrap_or, nat_lt, List, [], ◌∷◌, ◌++◌, length, get_or, drop, Option, Some, None, codes, refl, sym, ap, ◌∙◌, subst, arith, append_assoc}
use Rattle.std.specs.Prelude.{◌==◌, ◌&&◌, cond}
use Rattle.std.specs.Ordering.{nat_cmp, ordering_then, is_eq}
use Rattle.std.proofs.lemmas.List.Folds.{list_any-append}
use Rattle.toml.proofs.Views.{items_view-drop}
use Rattle.toml.specs.Data.{as_table, Items, item, Members}
use Rattle.toml.specs.View.{view, items_view}
use Rattle.toml.specs.declared.value.Value.{Value}
use Rattle.decl.specs.Causes.{at, when, first, fault_of_entry, IsFirstOf}
use Rattle.decl.specs.Hosts.{is_one_too_many}
use Rattle.decl.specs.Keys.{table_causes, entry_causes, entry_table}
use Rattle.decl.specs.Labels.{host_at_key}
use Rattle.decl.specs.Limits.{most_entries, nano_limit}
use Rattle.decl.specs.Links.{has_link, is_astray, most_at, link_causes, link_of, links_faults, links_of}
use Rattle.decl.specs.Values.{whole_or_zero, number_at, is_up_to}
use Rattle.decl.specs.declared.cause.Cause.{Cause}
use Rattle.decl.specs.declared.cause.Cause.TheVariants.{Name, Number}
use Rattle.decl.specs.declared.errors.DeclError.{DeclError}
use Rattle.decl.specs.declared.errors.Section.TheVariants.{Links}
use Rattle.decl.specs.declared.items.Link.{Link}
use Rattle.decl.specs.declared.keys.Form.TheVariants as form
use Rattle.decl.proofs.Faults.{few_index, neither_of, second_of, no_parts, not_so, neither, some_if, some_unless, none_if, fault_front, fault_at, none_at}

-- what is wrong with names, an index and numbers
none_wrong : (c : List Cause) (n w : Bool) → c ≡ [] → n ≡ false → w ≡ false → c ++ when n Name ++ when w Number ≡ []
none_wrong c n w p q r = rw (p, q, r) refl

number_wrong : (c : List Cause) (n w : Bool) → c ≡ [] → n ≡ false → w ≡ true → first (c ++ when n Name ++ when w Number) ≡ Some Number
number_wrong c n w p q r = rw (p, q, r) refl

same_link : (from from' to to' least least' : ℕ) (most most' : Option ℕ) → from ≡ from' → to ≡ to' → least ≡ least' → most ≡ most'
    → (let a : Link = record { from = from; to = to; least = least; most = most } in a) ≡ (let b : Link = record { from = from'; to = to'; least = least'; most = most' } in b)
same_link from from' to to' least least' most most' p q r s = rw (p, q, r, s) refl

module _ (hosts : List (List ℕ)) (index : ℕ) (before : List Link) (ms : Members) (from to : ℕ) (table : table_causes form.Link ms ≡ [])
    (ends : ◌≡◌ {A = Option (ℕ × ℕ)} (Some (from, to)) (if is_astray before (host_at_key hosts (codes "from") ms) (host_at_key hosts (codes "to") ms) then None
    else Some (unwrap_or (host_at_key hosts (codes "from") ms) 0, unwrap_or (host_at_key hosts (codes "to") ms) 0))) where
  known : is_astray before (host_at_key hosts (codes "from") ms) (host_at_key hosts (codes "to") ms) ≡ false
  known = (some_unless (is_astray before (host_at_key hosts (codes "from") ms) (host_at_key hosts (codes "to") ms)) (from, to) _ ends).0

  ends_are : ◌≡◌ {A = ℕ × ℕ} (from, to) (unwrap_or (host_at_key hosts (codes "from") ms) 0, unwrap_or (host_at_key hosts (codes "to") ms) 0)
  ends_are = (some_unless (is_astray before (host_at_key hosts (codes "from") ms) (host_at_key hosts (codes "to") ms)) (from, to) _ ends).1

  tame_of : (a b : Bool) → a ≡ true → b ≡ true → (not a || not b) ≡ false
  tame_of a b p q = rw (p, q) refl

  wild_first : (a b : Bool) → a ≡ false → (not a || not b) ≡ true
  wild_first a b p = rw p refl

  wild_second : (a b : Bool) → b ≡ false → (not a || not b) ≡ true
  wild_second true b p = rw p refl
  wild_second false b p = refl

  pub link_sound : (least : ℕ) (most : Option ℕ) → index ≤ most_entries
      → Some least ≡ (if is_up_to (nano_limit - 1) (whole_or_zero (codes "least") ms) then Some (number_at (codes "least") ms) else None)
      → ◌≡◌ {A = Option (Option ℕ)} (Some most) (if is_up_to (nano_limit - 1) (whole_or_zero (codes "most") ms) then Some (most_at ms) else None)
      → (link_causes hosts index before ms ≡ []) × ((let l : Link = record { from = from; to = to; least = least; most = most } in l) ≡ link_of hosts ms)
  link_sound least most few p q =
      let (first, least_is) = some_if (is_up_to (nano_limit - 1) (whole_or_zero (codes "least") ms)) least (number_at (codes "least") ms) p in
      let (second, most_is) = some_if (is_up_to (nano_limit - 1) (whole_or_zero (codes "most") ms)) most (most_at ms) q in (
        none_wrong _ _ _ table known (neither_of _ _ (few_index index few) (tame_of _ _ first second)),
        same_link _ _ _ _ _ _ _ _ (ap (λ (p : ℕ × ℕ). p.0) ends_are) (ap (λ (p : ℕ × ℕ). p.1) ends_are) least_is most_is,
      )

  pub least_wild : None ≡ (if is_up_to (nano_limit - 1) (whole_or_zero (codes "least") ms) then Some (number_at (codes "least") ms) else None) → first (link_causes hosts index before ms) ≡ Some Number
  least_wild p =
      number_wrong _ _ _ table known (second_of (is_one_too_many index) _ (wild_first _ (is_up_to (nano_limit - 1) (whole_or_zero (codes "most") ms)) (none_if (is_up_to (nano_limit - 1) (whole_or_zero (codes "least") ms)) (number_at (codes "least") ms) p)))

  pub most_wild : ◌≡◌ {A = Option (Option ℕ)} None (if is_up_to (nano_limit - 1) (whole_or_zero (codes "most") ms) then Some (most_at ms) else None) → first (link_causes hosts index before ms) ≡ Some Number
  most_wild p =
      number_wrong _ _ _ table known (second_of (is_one_too_many index) _ (wild_second (is_up_to (nano_limit - 1) (whole_or_zero (codes "least") ms)) _ (none_if (is_up_to (nano_limit - 1) (whole_or_zero (codes "most") ms)) (most_at ms) p)))

-- a link without a fault has an index that may be
pub link_few : (hosts : List (List ℕ)) (index : ℕ) (before : List Link) (o : Option Members) → entry_causes (link_causes hosts index before) o ≡ [] → index ≤ most_entries
link_few hosts index before None e = cc
link_few hosts index before (Some ms) e =
    let last = (no_parts (table_causes form.Link ms ++ when (is_astray before (host_at_key hosts (codes "from") ms) (host_at_key hosts (codes "to") ms)) Name) _ e).1 in
    let many : nat_lt most_entries index ≡ false = (neither _ _ (not_so _ Number last)).0 in
    grind (arith, many)

module _ (all : List DeclError) (hosts : List (List ℕ)) (index : ℕ) (before : List Link) (items : List Value) (i : ℕ) (d : Value) (within : i < length items)
    (is : all ≡ links_faults hosts index before (items_view (drop i items))) where
  next : all ≡ links_faults hosts index before (item (view (get_or items i d)) (items_view (drop (i + 1) items)))
  next = is ∙ ap (λ (ds : Items). links_faults hosts index before ds) (items_view-drop items i d within)

  -- the first fault of the next link
  pub link_first : (cause : Cause) (e : DeclError) → first (entry_causes (link_causes hosts index before) (as_table (view (get_or items i d)))) ≡ Some cause → e ≡ fault_of_entry Links index cause → IsFirstOf all e
  link_first cause e h placed =
      subst (λ (fs : List DeclError). IsFirstOf fs e) (sym next) (fault_front (at Links index (entry_causes (link_causes hosts index before) (as_table (view (get_or items i d))))) _ e (fault_at Links index _ cause e h placed))

  -- behind a link without a fault
  pub links_on : (link : Link) (new : List Link) → entry_causes (link_causes hosts index before) (as_table (view (get_or items i d))) ≡ [] → link ≡ link_of hosts (entry_table (view (get_or items i d)))
      → new ≡ before ++ link ∷ [] → all ≡ links_faults hosts (index + 1) new (items_view (drop (i + 1) items))
  links_on link new none made added =
      next ∙ none_at Links index _ (links_faults hosts (index + 1) (before ++ link_of hosts (entry_table (view (get_or items i d))) ∷ []) (items_view (drop (i + 1) items))) none
      ∙ ap (λ (b : List Link). links_faults hosts (index + 1) b (items_view (drop (i + 1) items))) (ap (λ (l : Link). before ++ l ∷ []) (sym made) ∙ sym added)

pub links_more : (all before new : List Link) (hosts : List (List ℕ)) (link : Link) (items : List Value) (i : ℕ) (d : Value) → i < length items → all ≡ before ++ links_of hosts (items_view (drop i items))
    → link ≡ link_of hosts (entry_table (view (get_or items i d))) → new ≡ before ++ link ∷ [] → all ≡ new ++ links_of hosts (items_view (drop (i + 1) items))
links_more all before new hosts link items i d within is made added =
    is ∙ ap (λ (ds : Items). before ++ links_of hosts ds) (items_view-drop items i d within)
    ∙ ap (λ (l : Link). before ++ l ∷ links_of hosts (items_view (drop (i + 1) items))) (sym made)
    ∙ sym (append_assoc before (link ∷ []) (links_of hosts (items_view (drop (i + 1) items))))
    ∙ ap (λ (front : List Link). front ++ links_of hosts (items_view (drop (i + 1) items))) (sym added)

same_ends : (a b c d : ℕ) → is_eq (ordering_then (nat_cmp a c) (nat_cmp b d)) ≡ (a == c && b == d)
same_ends a b c d = grind arith

or_last : (b t o : Bool) → b ≡ t → cond b true o ≡ (o || (t || false))
or_last true true true e = refl
or_last true true false e = refl
or_last false false true e = refl
or_last false false false e = refl
or_last true false o e = cc
or_last false true o e = cc

-- one link more
pub has_link_more : (links : List Link) (link : Link) (q : ℕ × ℕ) (old : Bool) → old ≡ has_link links q.0 q.1
    → cond (is_eq (ordering_then (nat_cmp link.from q.0) (nat_cmp link.to q.1))) true old ≡ has_link (links ++ link ∷ []) q.0 q.1
has_link_more links link q old is =
    ap (cond (is_eq (ordering_then (nat_cmp link.from q.0) (nat_cmp link.to q.1))) true) is
    ∙ or_last _ (link.from == q.0 && link.to == q.1) (has_link links q.0 q.1) (same_ends link.from link.to q.0 q.1)
    ∙ sym (list_any-append (λ (l : Link). l.from == q.0 && l.to == q.1) links (link ∷ []))
