-- Clocks of a host one by one, as the code reads them.
use Rattle.std.proofs.Common.{◌≡◌, ℕ, suc, ◌+◌, ◌-◌, ◌<◌, Bool, true, false, not, ◌||◌, if◌then◌else◌, List, [], ◌∷◌, ◌++◌, drop, length, get_or, Option, Some, None, codes, refl, sym, ap, ◌∙◌, subst, arith, append_assoc, drop-cons}
use Rattle.toml.specs.Data.{Data, as_table, Items, item, Members}
use Rattle.toml.specs.View.{view, items_view}
use Rattle.toml.specs.declared.value.Value.{Value}
use Rattle.atto.specs.Span.{RateParts}
use Rattle.problem_model.specs.declared.items.Clock.{Clock}
use Rattle.decl.specs.Causes.{at, when, first, fault_of_entry, IsFirstOf}
use Rattle.decl.specs.Clocks.{own_or_host, own_number, has_wild_rate, has_wild_number, has_wild_owner, rate_of, clock_by_name, owner_by, clock_causes, name_in, is_taken, have_no_room, table_clocks, table_owners, tables_causes, clocks_causes, clocks_by, owners_by}
use Rattle.decl.specs.Keys.{table_causes, entry_causes, entry_table}
use Rattle.decl.specs.Limits.{nano_limit}
use Rattle.decl.specs.Names.{is_clock_name}
use Rattle.decl.specs.Values.{is_up_to}
use Rattle.decl.specs.declared.cause.Cause.{Cause}
use Rattle.decl.specs.declared.cause.Cause.TheVariants.{Name, Number}
use Rattle.decl.specs.declared.errors.DeclError.{DeclError}
use Rattle.decl.specs.declared.errors.Section.TheVariants.{Hosts}
use Rattle.decl.specs.declared.items.Owner.{Owner}
use Rattle.decl.specs.declared.keys.Form.TheVariants as form
use Rattle.decl.proofs.Faults.{some_if, some_unless, none_unless, no_parts, not_so, neither, neither_of, second_of, fault_at}

three : {V : Type 0} (w a b : Bool) (made right : V) → w ≡ false → a ≡ true → b ≡ true → made ≡ right → Some made ≡ (if (w || not a) || not b then None else Some right)
three w a b made right p q r e = rw (p, q, r) (ap Some e)

same_clock : (name : List ℕ) (rate rate' : RateParts) (early early' late late' : ℕ) → rate ≡ rate' → early ≡ early' → late ≡ late'
    → (let a : Clock = record { name = name; rate = rate; early = early; late = late } in a) ≡ (let b : Clock = record { name = name; rate = rate'; early = early'; late = late' } in b)
same_clock name rate rate' early early' late late' p q r = rw (p, q, r) refl

-- the clock of numbers in their ranges
pub clock_made : (name : List ℕ) (own host : Members) (rate : RateParts) (early late : ℕ) → Some rate ≡ (if has_wild_rate own host then None else Some (rate_of own host))
    → Some early ≡ (if is_up_to (nano_limit - 1) (own_or_host (codes "early") own host) then Some (own_number (codes "early") own host) else None)
    → Some late ≡ (if is_up_to (nano_limit - 1) (own_or_host (codes "late") own host) then Some (own_number (codes "late") own host) else None)
    → Some (let c : Clock = record { name = name; rate = rate; early = early; late = late } in c) ≡ (if has_wild_number own host then None else Some (clock_by_name name own host))
clock_made name own host rate early late p q r =
    let (tame, rate_is) = some_unless (has_wild_rate own host) rate (rate_of own host) p in
    let (first, early_is) = some_if _ early (own_number (codes "early") own host) q in
    let (second, late_is) = some_if _ late (own_number (codes "late") own host) r in
    three _ _ _ _ _ tame first second (same_clock name _ _ _ _ _ _ rate_is early_is late_is)

-- a clock and its owner
pub pair_of : {clock right : Clock} {owner whose : Owner} → clock ≡ right → owner ≡ whose → (let a : Clock × Owner = (clock, owner) in a) ≡ (right, whose)
pair_of p q = rw (p, q) refl

-- causes of a table, of a name and of numbers
pub none_wrong : (t : List Cause) (n w : Bool) → t ≡ [] → n ≡ false → w ≡ false → t ++ when n Name ++ when w Number ≡ []
none_wrong t n w p q r = rw (p, q, r) refl

pub number_wrong : (t : List Cause) (n w : Bool) → t ≡ [] → n ≡ false → w ≡ true → first (t ++ when n Name ++ when w Number) ≡ Some Number
number_wrong t n w p q r = rw (p, q, r) refl

pub first_of : (a b : Bool) → a ≡ true → (a || b) ≡ true
first_of true b e = refl
first_of false b e = cc

-- a cause of an entry is its fault
pub entry_fault : (index : ℕ) (causes : Members → List Cause) (o : Option Members) (ms : Members) (cause : Cause) (e : DeclError) → Some ms ≡ o → first (causes ms) ≡ Some cause
    → e ≡ fault_of_entry Hosts index cause → IsFirstOf (at Hosts index (entry_causes causes o)) e
entry_fault index causes o ms cause e is h placed = subst (λ (t : Option Members). IsFirstOf (at Hosts index (entry_causes causes t)) e) is (fault_at Hosts index (causes ms) cause e h placed)

-- ---- a clock's table
abbrev is_misnamed : List Clock → Members → Bool
is_misnamed before own = not (is_clock_name (name_in own)) || is_taken before (name_in own)

module _ (host own : Members) (before : List Clock) (name : List ℕ) (table : table_causes form.Clock own ≡ []) (named : Some name ≡ (if is_misnamed before own then None else Some (name_in own))) where
  right_name : is_misnamed before own ≡ false
  right_name = (some_unless (is_misnamed before own) name (name_in own) named).0

  -- a number is out of its range
  pub table_wild : None ≡ (if has_wild_number own host then None else Some (clock_by_name name own host)) → first (clock_causes host before own) ≡ Some Number
  table_wild e =
      number_wrong _ _ _ table right_name
      (first_of (has_wild_number own host || has_wild_owner own host) _ (first_of (has_wild_number own host) _ (none_unless (has_wild_number own host) (clock_by_name name own host) e)))

  -- the gap or the offset is
  pub table_apart : (place : ℕ) → None ≡ (if has_wild_owner own host then None else Some (owner_by place own host)) → first (clock_causes host before own) ≡ Some Number
  table_apart place e =
      number_wrong _ _ _ table right_name
      (first_of (has_wild_number own host || has_wild_owner own host) _ (second_of (has_wild_number own host) _ (none_unless (has_wild_owner own host) (owner_by place own host) e)))

  -- there is no room
  pub table_late : have_no_room before ≡ true → first (clock_causes host before own) ≡ Some Number
  table_late full = number_wrong _ _ _ table right_name (second_of (has_wild_number own host || has_wild_owner own host) _ full)

  -- nothing is wrong
  pub table_sound : (clock : Clock) (place : ℕ) (owner : Owner) → Some clock ≡ (if has_wild_number own host then None else Some (clock_by_name name own host))
      → Some owner ≡ (if has_wild_owner own host then None else Some (owner_by place own host)) → have_no_room before ≡ false
      → (clock_causes host before own ≡ []) × ((let a : Clock × Owner = (clock, owner) in a) ≡ (clock_by_name (name_in own) own host, owner_by place own host))
  table_sound clock place owner numbers owned room =
      let (tame, clock_is) = some_unless (has_wild_number own host) clock (clock_by_name name own host) numbers in
      let (near, owner_is) = some_unless (has_wild_owner own host) owner (owner_by place own host) owned in
      let name_is = (some_unless (is_misnamed before own) name (name_in own) named).1 in (
        none_wrong _ _ _ table right_name (neither_of _ _ (neither_of (has_wild_number own host) _ tame near) room),
        pair_of (clock_is ∙ ap (λ (n : List ℕ). clock_by_name n own host) name_is) owner_is,
      )

pub table_room : (host own : Members) (before : List Clock) → clock_causes host before own ≡ [] → have_no_room before ≡ false
table_room host own before e = (neither (has_wild_number own host || has_wild_owner own host) _ (not_so _ Number (no_parts (table_causes form.Clock own ++ when (is_misnamed before own) Name) _ e).1)).1

-- ---- table by table
-- the next table
pub next_item : (values : List Value) (k : ℕ) (v : Value) → k < length values → v ≡ get_or values k v → items_view (drop k values) ≡ item (view v) (items_view (drop (k + 1) values))
next_item values k v inside is = ap items_view (drop-cons values k v inside) ∙ ap (λ (w : Value). item (view w) (items_view (drop (suc k) values))) (sym is) ∙ ap (λ (n : ℕ). item (view v) (items_view (drop n values))) (let same : suc k ≡ k + 1 = omega arith in same)

pub tables_on : (all : List Cause) (host : Members) (before now : List Clock) (d : Data) (ds rest : Items) → all ≡ tables_causes host before ds → ds ≡ item d rest
    → entry_causes (clock_causes host before) (as_table d) ≡ [] → now ≡ before ++ clock_by_name (name_in (entry_table d)) (entry_table d) host ∷ [] → all ≡ tables_causes host now rest
tables_on all host before now d ds rest is next none added =
    is ∙ ap (tables_causes host before) next ∙ ap (λ (front : List Cause). front ++ tables_causes host (before ++ clock_by_name (name_in (entry_table d)) (entry_table d) host ∷ []) rest) none
    ∙ ap (λ (clocks : List Clock). tables_causes host clocks rest) (sym added)

pub clocks_on : (all : List Clock) (host : Members) (before now : List Clock) (d : Data) (ds rest : Items) → all ≡ before ++ table_clocks host ds → ds ≡ item d rest
    → now ≡ before ++ clock_by_name (name_in (entry_table d)) (entry_table d) host ∷ [] → all ≡ now ++ table_clocks host rest
clocks_on all host before now d ds rest is next added =
    is ∙ ap (λ (items : Items). before ++ table_clocks host items) next ∙ sym (append_assoc before (clock_by_name (name_in (entry_table d)) (entry_table d) host ∷ []) (table_clocks host rest))
    ∙ ap (λ (clocks : List Clock). clocks ++ table_clocks host rest) (sym added)

pub owners_on : (all : List Owner) (place : ℕ) (host : Members) (before now : List Owner) (d : Data) (ds rest : Items) → all ≡ before ++ table_owners place host ds → ds ≡ item d rest
    → now ≡ before ++ owner_by place (entry_table d) host ∷ [] → all ≡ now ++ table_owners place host rest
owners_on all place host before now d ds rest is next added =
    is ∙ ap (λ (items : Items). before ++ table_owners place host items) next
    ∙ sym (append_assoc before (owner_by place (entry_table d) host ∷ []) (table_owners place host rest))
    ∙ ap (λ (owners : List Owner). owners ++ table_owners place host rest) (sym added)

-- where a host has tables of clocks
module _ (before : List Clock) (name : List ℕ) (host : Members) (values : List Value) (ds : Items) (some : 0 < length values) (are : items_view values ≡ ds) where
  pub tabled_causes : tables_causes host before (items_view values) ≡ clocks_causes before name host ds
  tabled_causes = go values some ∙ ap (clocks_causes before name host) are
    where
      go : (vs : List Value) → 0 < length vs → tables_causes host before (items_view vs) ≡ clocks_causes before name host (items_view vs)
      go [] inside = absurd (omega (arith, inside))
      go (v ∷ vs) inside = refl

  pub tabled_clocks : table_clocks host (items_view values) ≡ clocks_by name host ds
  tabled_clocks = go values some ∙ ap (clocks_by name host) are
    where
      go : (vs : List Value) → 0 < length vs → table_clocks host (items_view vs) ≡ clocks_by name host (items_view vs)
      go [] inside = absurd (omega (arith, inside))
      go (v ∷ vs) inside = refl

  pub tabled_owners : (place : ℕ) → table_owners place host (items_view values) ≡ owners_by place host ds
  tabled_owners place = go values some ∙ ap (owners_by place host) are
    where
      go : (vs : List Value) → 0 < length vs → table_owners place host (items_view vs) ≡ owners_by place host (items_view vs)
      go [] inside = absurd (omega (arith, inside))
      go (v ∷ vs) inside = refl
