-- What hosts without a fault declare is lawful.
use Rattle.std.proofs.Common.{◌≡◌, ◌≢◌, ℕ, zero, suc, ◌+◌, ◌-◌, ◌<◌, ◌≤◌, ◌==◌, Bool, true, false, not, ◌||◌, nat_abs, unwrap_or, option_map, is_some, option_to_list, List, [], ◌∷◌, ◌++◌, length, length-append, map, get_or, slice_get, Option, Some, None, ℤ, pos, codes, eq-eqb, refl, sym, ap, ◌∙◌, subst, arith, append_assoc, append-nil}
use Rattle.std.specs.Prelude.{All, AllPairs, IfSome, ⊤}
use Rattle.std.specs.List.{position_from, list_any}
use Rattle.std.specs.Str.{bytes_eq}
use Rattle.std.specs.Int.{from_be_bytes, w32}
use Rattle.std.proofs.lemmas.Bool.{false≢true}
use Rattle.std.proofs.lemmas.List.Elements.{All-cons, All-nil, All-append}
use Rattle.std.proofs.lemmas.List.Kept.{AllPairs-cons}
use Rattle.std.proofs.lemmas.List.{get_or-map, length-map}
use Rattle.std.proofs.lemmas.Slice.Eq.{bytes_eq-Decides}
use Rattle.problem_model.specs.Name.{IsClockName}
use Rattle.problem_model.specs.Problem.{ClockFits}
use Rattle.problem_model.specs.declared.items.Clock.{Clock}
use Rattle.problem_model.specs.Limits.{most_clocks}
use Rattle.toml.specs.Data.{Data, as_table, Items, no_items, item, Members, no_members, member}
use Rattle.decl.specs.Addresses.{Known, address_of, address6_of, at_host, has_bad_address, is_bad_address, none_known, numbers_of, written}
use Rattle.decl.specs.Causes.{at, when}
use Rattle.decl.specs.Clocks.{own_or_host, has_wild_rate, has_wild_number, has_wild_gap, has_wild_owner, clock_by_name, owner_by, name_in, is_taken, have_no_room, clock_causes, clock_tables, table_clocks, tables_causes, table_owners, clocks_by, owners_by, clocks_causes}
use Rattle.decl.specs.Declaration.{IsClockOf}
use Rattle.decl.specs.Hosts.{address_texts, address6_texts, is_one_too_many, own_causes, host_causes, addresses_in, addresses6_in, known_behind, clocks_in, hosts_faults, hosts_of, clocks_of, owners_in, owners_from, addresses_from, addresses6_from}
use Rattle.decl.specs.Keys.{table_causes, entry_causes, entry_table}
use Rattle.decl.specs.Limits.{most_entries, most_short, most_long, nano_limit, address_limit}
use Rattle.decl.specs.Names.{is_clock_name}
use Rattle.decl.specs.Values.{is_up_to, is_within, whole_or_zero}
use Rattle.decl.specs.declared.cause.Cause.TheVariants as cause
use Rattle.decl.specs.declared.errors.Section.TheVariants.{Hosts}
use Rattle.decl.specs.declared.items.Address.{Address}
use Rattle.decl.specs.declared.items.Owner.{Owner}
use Rattle.decl.specs.declared.keys.Form.TheVariants as form
use Rattle.decl.proofs.ClockNames.{clock_name_is}
use Rattle.decl.proofs.Dotted.{address_found}
use Rattle.decl.proofs.Faults.{neither, no_causes, no_parts, not_false, not_so}
use Rattle.decl.proofs.Fresh.{IsFresh, all_apart, fresh_append}
use Rattle.decl.proofs.HostTurns.{numbers_at_host, numbers_more}

-- ---- numbers

pub up_to_le : (limit : ℕ) (z : ℤ) → is_up_to limit z ≡ true → nat_abs z ≤ limit
up_to_le limit z e = grind (arith, e)

pub below_62 : (z : ℤ) → is_up_to (nano_limit - 1) z ≡ true → nat_abs z < nano_limit
below_62 z e = omega (arith, up_to_le (nano_limit - 1) z e)

within_62 : (z : ℤ) → is_within (nano_limit - 1) z ≡ true → nat_abs z < nano_limit
within_62 z e =
    let le : nat_abs z ≤ nano_limit - 1 = grind (arith, e) in
    omega (arith, le)

pub optional_fits : (o : Option ℤ) → is_up_to (nano_limit - 1) (unwrap_or o (pos 0)) ≡ true → IfSome (option_map nat_abs o) (λ n. n < nano_limit)
optional_fits None e = tt
optional_fits (Some z) e = below_62 z e

pub wild : (a b : Bool) → (not a || not b) ≡ false → (a ≡ true) × (b ≡ true)
wild true true e = (refl, refl)
wild true false e = cc
wild false b e = cc

clock_fits : (name : List ℕ) (own host : Members) → has_wild_number own host ≡ false → ClockFits (clock_by_name name own host)
clock_fits name own host tame =
    let (front, late) = neither (has_wild_rate own host || not (is_up_to (nano_limit - 1) (own_or_host (codes "early") own host))) _ tame in
    let (rate, early) = neither (has_wild_rate own host) _ front in
    let (short, long) = wild (is_up_to most_short (own_or_host (codes "short") own host)) (is_up_to most_long (own_or_host (codes "long") own host)) rate in (
      up_to_le most_short (own_or_host (codes "short") own host) short,
      up_to_le most_long (own_or_host (codes "long") own host) long,
      below_62 (own_or_host (codes "early") own host) (not_false _ early),
      below_62 (own_or_host (codes "late") own host) (not_false _ late),
    )

-- the gap and the offset are in their ranges
abbrev OwnerFits : Owner → Type 0
OwnerFits o = (o.gap < nano_limit) × (nat_abs o.offset < nano_limit)

owner_fits : (place : ℕ) (own host : Members) → has_wild_owner own host ≡ false → OwnerFits (owner_by place own host)
owner_fits place own host tame =
    let (gap, offset) = neither (has_wild_gap own) _ tame in
    (below_62 (whole_or_zero (codes "gap") own) (not_false _ gap), within_62 (own_or_host (codes "offset") own host) (not_false _ offset))

-- ---- clocks, one behind the other

-- what is known of a clock without a fault behind these clocks
record GoodClock (before : List Clock) (c : Clock) : Type 0 where
  named : IsClockName c.name
  fits : ClockFits c
  fresh : is_taken before c.name ≡ false
  room : length before < most_clocks

-- each of these clocks is one, behind those before it
abbrev AreGood : List Clock → List Clock → Type 0
AreGood before [] = ⊤
AreGood before (c ∷ clocks) = GoodClock before c × AreGood (before ++ c ∷ []) clocks

good_append : (before xs ys : List Clock) → AreGood before xs → AreGood (before ++ xs) ys → AreGood before (xs ++ ys)
good_append before [] ys good more = subst (λ (b : List Clock). AreGood b ys) (append-nil before) more
good_append before (x ∷ xs) ys good more = (good.0, good_append (before ++ x ∷ []) xs ys good.1 (subst (λ (b : List Clock). AreGood b ys) (sym (append_assoc before (x ∷ []) xs)) more))

good_all : (P : Clock → Type 0) → ((before : List Clock) (c : Clock) → GoodClock before c → P c) → (before clocks : List Clock) → AreGood before clocks → All P clocks
good_all P each before [] good = All-nil P
good_all P each before (c ∷ clocks) good = All-cons P _ _ (each before c good.0) (good_all P each (before ++ c ∷ []) clocks good.1)

good_few : (before clocks : List Clock) → length before ≤ most_clocks → AreGood before clocks → length before + length clocks ≤ most_clocks
good_few before [] le good = omega (arith, le)
good_few before (c ∷ clocks) le good =
    let long = length-append before (c ∷ []) in
    let room : length before < most_clocks = good.0.room in
    let more = good_few (before ++ c ∷ []) clocks (omega (arith, long, room)) good.1 in
    omega (arith, long, more)

abbrev same_name : Clock → Clock → Bool
same_name b c = bytes_eq b.name c.name

none_passes : (t : Clock → Bool) (i : ℕ) (clocks : List Clock) → is_some (position_from t i clocks) ≡ false → list_any t clocks ≡ false
none_passes t i [] e = refl
none_passes t i (c ∷ clocks) e = go (t c) refl (none_passes t (i + 1) clocks)
  where
    go : (b : Bool) → t c ≡ b → (is_some (position_from t (i + 1) clocks) ≡ false → list_any t clocks ≡ false) → list_any t (c ∷ clocks) ≡ false
    go true is more = absurd (false≢true (sym (rw is at e)))
    go false is more = rw is (more (rw is at e))

good_fresh : (before clocks : List Clock) → AreGood before clocks → IsFresh same_name before clocks
good_fresh before [] good = tt
good_fresh before (c ∷ clocks) good = (none_passes (λ (b : Clock). bytes_eq b.name c.name) 0 before good.0.fresh, good_fresh (before ++ c ∷ []) clocks good.1)

names_differ : (clocks : List Clock) → AllPairs (λ (a b : Clock). same_name a b ≡ false) clocks → AllPairs (λ (a b : Clock). a.name ≢ b.name) clocks
names_differ clocks apart i j d below inside same =
    false≢true (sym (apart i j d below inside) ∙ (bytes_eq-Decides (get_or clocks i d).name (get_or clocks j d).name).1 same)

room_is : (before : List Clock) → have_no_room before ≡ false → length before < most_clocks
room_is before e = grind (arith, e)

-- ---- the clocks of a host

-- what is known of a clock's table without a fault
record GoodTable (host : Members) (before : List Clock) (own : Members) : Type 0 where
  clock : GoodClock before (clock_by_name (name_in own) own host)
  owner : (place : ℕ) → OwnerFits (owner_by place own host)

good_table : (host : Members) (before : List Clock) (o : Option Members) → entry_causes (clock_causes host before) o ≡ [] → GoodTable host before (unwrap_or o no_members)
good_table host before None e = cc
good_table host before (Some own) e =
    let (front, numbers) = no_parts (table_causes form.Clock own ++ when (not (is_clock_name (name_in own)) || is_taken before (name_in own)) cause.Name) _ e in
    let (_, names) = no_parts (table_causes form.Clock own) _ front in
    let (named, fresh) = neither (not (is_clock_name (name_in own))) _ (not_so _ cause.Name names) in
    let (tame, full) = neither (has_wild_number own host || has_wild_owner own host) _ (not_so _ cause.Number numbers) in
    let (fits, near) = neither (has_wild_number own host) _ tame in
    record {
      clock = record {
        named = clock_name_is (name_in own) (not_false _ named);
        fits = clock_fits (name_in own) own host fits;
        fresh = fresh;
        room = room_is before full;
      };
      owner = λ place. owner_fits place own host near;
    }

-- the first table and the others
table_here : (host : Members) (before : List Clock) (d : Data) (ds : Items) → tables_causes host before (item d ds) ≡ [] → GoodTable host before (entry_table d)
table_here host before d ds e = good_table host before (as_table d) (no_parts (entry_causes (clock_causes host before) (as_table d)) _ e).0

tables_behind : (host : Members) (before : List Clock) (d : Data) (ds : Items) → tables_causes host before (item d ds) ≡ []
    → tables_causes host (before ++ clock_by_name (name_in (entry_table d)) (entry_table d) host ∷ []) ds ≡ []
tables_behind host before d ds e = (no_parts (entry_causes (clock_causes host before) (as_table d)) _ e).1

tables_good : (host : Members) (before : List Clock) (ds : Items) → tables_causes host before ds ≡ [] → AreGood before (table_clocks host ds)
tables_good host before no_items e = tt
tables_good host before (item d ds) e =
    ((table_here host before d ds e).clock, tables_good host (before ++ clock_by_name (name_in (entry_table d)) (entry_table d) host ∷ []) ds (tables_behind host before d ds e))

table_owners_fit : (place : ℕ) (host : Members) (before : List Clock) (ds : Items) → tables_causes host before ds ≡ [] → All OwnerFits (table_owners place host ds)
table_owners_fit place host before no_items e = All-nil OwnerFits
table_owners_fit place host before (item d ds) e =
    All-cons OwnerFits _ _ ((table_here host before d ds e).owner place)
    (table_owners_fit place host (before ++ clock_by_name (name_in (entry_table d)) (entry_table d) host ∷ []) ds (tables_behind host before d ds e))

clocks_good : (before : List Clock) (name : List ℕ) (host : Members) (ds : Items) → IsClockName name → has_wild_number no_members host ≡ false → clocks_causes before name host ds ≡ [] → AreGood before (clocks_by name host ds)
clocks_good before name host no_items named tame e =
    let (taken, full) = no_parts (when (is_taken before name) cause.Name) _ e in
    (record { named = named; fits = clock_fits name no_members host tame; fresh = not_so _ cause.Name taken; room = room_is before (not_so _ cause.Number full) }, tt)
clocks_good before name host (item d ds) named tame e = tables_good host before (item d ds) e

host_owners_fit : (place : ℕ) (before : List Clock) (name : List ℕ) (host : Members) (ds : Items) → has_wild_owner no_members host ≡ false → clocks_causes before name host ds ≡ [] → All OwnerFits (owners_by place host ds)
host_owners_fit place before name host no_items tame e = All-cons OwnerFits (owner_by place no_members host) [] (owner_fits place no_members host tame) (All-nil OwnerFits)
host_owners_fit place before name host (item d ds) tame e = table_owners_fit place host before (item d ds) e

-- ---- hosts

-- what is known of a host without a fault
record GoodHost (index : ℕ) (before : Known) (clocks : List Clock) (name : List ℕ) (ms : Members) : Type 0 where
  named : IsClockName name
  few : index ≤ most_entries
  fresh : has_bad_address address_of before.narrow (address_texts ms) ≡ false
  fresh6 : has_bad_address address6_of before.wide (address6_texts ms) ≡ false
  good : AreGood clocks (clocks_by name ms (clock_tables ms))
  owners : (place : ℕ) → All OwnerFits (owners_by place ms (clock_tables ms))

few_is : (index : ℕ) → is_one_too_many index ≡ false → index ≤ most_entries
few_is index e = grind (arith, e)

good_host : (index : ℕ) (before : Known) (clocks : List Clock) (name : List ℕ) (o : Option Members) → entry_causes (host_causes index before clocks name) o ≡ [] → GoodHost index before clocks name (unwrap_or o no_members)
good_host index before clocks name None e = cc
good_host index before clocks name (Some ms) e =
    let (own, behind) = no_parts (own_causes index before name ms) _ e in
    let (clock, bad) = no_parts (table_causes form.Host ms ++ when (not (is_clock_name name)) cause.Name ++ when (is_one_too_many index || has_wild_number no_members ms || has_wild_owner no_members ms) cause.Number) _ own in
    let (front, numbers) = no_parts (table_causes form.Host ms ++ when (not (is_clock_name name)) cause.Name) _ clock in
    let (table, names) = no_parts (table_causes form.Host ms) _ front in
    let (front_tame, near) = neither (is_one_too_many index || has_wild_number no_members ms) _ (not_so _ cause.Number numbers) in
    let (few, tame) = neither (is_one_too_many index) _ front_tame in
    let (fresh, fresh6) = neither (has_bad_address address_of before.narrow (address_texts ms)) _ (not_so _ cause.Address bad) in
    let named : IsClockName name = clock_name_is name (not_false _ (not_so _ cause.Name names)) in
    record {
      named = named;
      few = few_is index few;
      fresh = fresh;
      fresh6 = fresh6;
      good = clocks_good clocks name ms (clock_tables ms) named tame behind;
      owners = λ place. host_owners_fit place clocks name ms (clock_tables ms) near behind;
    }

-- the first host and the others
host_here : (index : ℕ) (before : Known) (clocks : List Clock) (name : List ℕ) (d : Data) (ms : Members) → hosts_faults index before clocks (member name d ms) ≡ [] → GoodHost index before clocks name (entry_table d)
host_here index before clocks name d ms e =
    good_host index before clocks name (as_table d) (no_causes Hosts index _ (no_parts (at Hosts index (entry_causes (host_causes index before clocks name) (as_table d))) _ e).0)

hosts_behind : (index : ℕ) (before : Known) (clocks : List Clock) (name : List ℕ) (d : Data) (ms : Members) → hosts_faults index before clocks (member name d ms) ≡ []
    → hosts_faults (index + 1) (known_behind before d) (clocks ++ clocks_in name d) ms ≡ []
hosts_behind index before clocks name d ms e = (no_parts (at Hosts index (entry_causes (host_causes index before clocks name) (as_table d))) _ e).1

hosts_named : (index : ℕ) (before : Known) (clocks : List Clock) (ms : Members) → hosts_faults index before clocks ms ≡ [] → All IsClockName (hosts_of ms)
hosts_named index before clocks no_members e = All-nil IsClockName
hosts_named index before clocks (member name d ms) e =
    All-cons IsClockName _ _ (host_here index before clocks name d ms e).named
    (hosts_named (index + 1) (known_behind before d) (clocks ++ clocks_in name d) ms (hosts_behind index before clocks name d ms e))

hosts_few : (index : ℕ) (before : Known) (clocks : List Clock) (ms : Members) → index ≤ most_entries + 1 → hosts_faults index before clocks ms ≡ [] → index + length (hosts_of ms) ≤ most_entries + 1
hosts_few index before clocks no_members le e = omega (arith, le)
hosts_few index before clocks (member name d ms) le e =
    let here : index ≤ most_entries = (host_here index before clocks name d ms e).few in
    let more = hosts_few (index + 1) (known_behind before d) (clocks ++ clocks_in name d) ms (omega (arith, here)) (hosts_behind index before clocks name d ms e) in
    omega (arith, more)

hosts_good : (index : ℕ) (before : Known) (clocks : List Clock) (ms : Members) → hosts_faults index before clocks ms ≡ [] → AreGood clocks (clocks_of ms)
hosts_good index before clocks no_members e = tt
hosts_good index before clocks (member name d ms) e =
    good_append clocks (clocks_in name d) (clocks_of ms) (host_here index before clocks name d ms e).good
    (hosts_good (index + 1) (known_behind before d) (clocks ++ clocks_in name d) ms (hosts_behind index before clocks name d ms e))

-- ---- owners

tables_counted : (place : ℕ) (host : Members) (ds : Items) → length (table_owners place host ds) ≡ length (table_clocks host ds)
tables_counted place host no_items = refl
tables_counted place host (item d ds) = ap suc (tables_counted place host ds)

host_counted : (place : ℕ) (name : List ℕ) (host : Members) (ds : Items) → length (owners_by place host ds) ≡ length (clocks_by name host ds)
host_counted place name host no_items = refl
host_counted place name host (item d ds) = tables_counted place host (item d ds)

owners_counted : (place : ℕ) (ms : Members) → length (owners_from place ms) ≡ length (clocks_of ms)
owners_counted place no_members = refl
owners_counted place (member name d ms) =
    let here = host_counted place name (entry_table d) (clock_tables (entry_table d)) in
    let more = owners_counted (place + 1) ms in
    let left = length-append (owners_in place d) (owners_from (place + 1) ms) in
    let right = length-append (clocks_in name d) (clocks_of ms) in
    left ∙ ap (λ (n : ℕ). n + length (owners_from (place + 1) ms)) here ∙ ap (λ (n : ℕ). length (clocks_in name d) + n) more ∙ sym right

-- what holds of each owner by a host holds of all of its owners
module _ (P : Owner → Type 0) (place : ℕ) (host : Members) (each : (own : Members) → P (owner_by place own host)) where
  owners_of_tables : (ds : Items) → All P (table_owners place host ds)
  owners_of_tables no_items = All-nil P
  owners_of_tables (item d ds) = All-cons P _ _ (each (entry_table d)) (owners_of_tables ds)

  owners_of_host : (ds : Items) → All P (owners_by place host ds)
  owners_of_host no_items = All-cons P (owner_by place no_members host) [] (each no_members) (All-nil P)
  owners_of_host (item d ds) = owners_of_tables (item d ds)

owners_placed : (place : ℕ) (ms : Members) (n : ℕ) → place + length (hosts_of ms) ≡ n → All (λ (o : Owner). o.host < n) (owners_from place ms)
owners_placed place no_members n e = All-nil (λ (o : Owner). o.host < n)
owners_placed place (member name d ms) n e =
    All-append (λ (o : Owner). o.host < n) (owners_in place d) (owners_from (place + 1) ms)
    (owners_of_host (λ (o : Owner). o.host < n) place (entry_table d) (λ own. omega (arith, e)) (clock_tables (entry_table d)))
    (owners_placed (place + 1) ms n (omega (arith, e)))

owners_above : (least place : ℕ) (ms : Members) → least ≤ place → All (λ (o : Owner). least ≤ o.host) (owners_from place ms)
owners_above least place no_members le = All-nil (λ (o : Owner). least ≤ o.host)
owners_above least place (member name d ms) le =
    All-append (λ (o : Owner). least ≤ o.host) (owners_in place d) (owners_from (place + 1) ms)
    (owners_of_host (λ (o : Owner). least ≤ o.host) place (entry_table d) (λ own. le) (clock_tables (entry_table d)))
    (owners_above least (place + 1) ms (omega (arith, le)))

-- owners of a host before those of hosts behind it
host_rises : (place : ℕ) (front more : List Owner) → All (λ (o : Owner). o.host ≡ place) front → All (λ (o : Owner). place ≤ o.host) more → AllPairs (λ (a b : Owner). a.host ≤ b.host) more
    → AllPairs (λ (a b : Owner). a.host ≤ b.host) (front ++ more)
host_rises place [] more same above rise = rise
host_rises place (o ∷ front) more same above rise =
    let here : o.host ≡ place = same 0 o (omega arith) in
    let rest : All (λ (p : Owner). p.host ≡ place) front = λ k p below. same (suc k) p (omega (arith, below)) in
    AllPairs-cons (λ (a b : Owner). a.host ≤ b.host) _ _
    (All-append (λ (p : Owner). o.host ≤ p.host) front more
    (λ k p below. let is : (get_or front k p).host ≡ place = rest k p below in omega (arith, here, is))
    (λ k p below. let le : place ≤ (get_or more k p).host = above k p below in omega (arith, here, le)))
    (host_rises place front more rest above rise)

owners_rise_from : (place : ℕ) (ms : Members) → AllPairs (λ (a b : Owner). a.host ≤ b.host) (owners_from place ms)
owners_rise_from place no_members = λ i j d below inside. absurd (omega (arith, inside))
owners_rise_from place (member name d ms) =
    host_rises place (owners_in place d) (owners_from (place + 1) ms)
    (owners_of_host (λ (o : Owner). o.host ≡ place) place (entry_table d) (λ own. refl) (clock_tables (entry_table d)))
    (owners_above place (place + 1) ms (omega arith)) (owners_rise_from (place + 1) ms)

owners_fit : (index place : ℕ) (before : Known) (clocks : List Clock) (ms : Members) → hosts_faults index before clocks ms ≡ [] → All OwnerFits (owners_from place ms)
owners_fit index place before clocks no_members e = All-nil OwnerFits
owners_fit index place before clocks (member name d ms) e =
    All-append OwnerFits (owners_in place d) (owners_from (place + 1) ms)
    ((host_here index before clocks name d ms e).owners place)
    (owners_fit (index + 1) (place + 1) (known_behind before d) (clocks ++ clocks_in name d) ms (hosts_behind index before clocks name d ms e))

-- each host has a first clock
first_owned : (place : ℕ) (host : Members) (ds : Items) (more : List Owner) → IsClockOf (owners_by place host ds ++ more) place 0
first_owned place host no_items more = (owner_by place no_members host, refl, refl)
first_owned place host (item d ds) more = (owner_by place (entry_table d) host, refl, refl)

get_behind : (front more : List Owner) (k : ℕ) → slice_get (front ++ more) (length front + k) ≡ slice_get more k
get_behind [] more k = ap (λ (n : ℕ). slice_get more n) (let none : 0 + k ≡ k = omega arith in none)
get_behind (o ∷ front) more k =
    ap (λ (n : ℕ). slice_get (o ∷ front ++ more) n) (let on : suc (length front) + k ≡ suc (length front + k) = omega arith in on) ∙ get_behind front more k

owned_behind : (front more : List Owner) (host clock : ℕ) → IsClockOf more host clock → IsClockOf (front ++ more) host (length front + clock)
owned_behind front more host clock owned = (owned.0, get_behind front more clock ∙ owned.1, owned.2)

host_owned : (place : ℕ) (ms : Members) (host : ℕ) → host < length (hosts_of ms) → (clock : ℕ) × IsClockOf (owners_from place ms) (place + host) clock
host_owned place no_members host inside = absurd (omega (arith, inside))
host_owned place (member name d ms) zero inside =
    (0, subst (λ (h : ℕ). IsClockOf (owners_from place (member name d ms)) h 0) (let same : place ≡ place + 0 = omega arith in same) (first_owned place (entry_table d) (clock_tables (entry_table d)) (owners_from (place + 1) ms)))
host_owned place (member name d ms) (suc host) inside =
    let front = owners_in place d in
    let more = host_owned (place + 1) ms host (omega (arith, inside)) in (
      length front + more.0,
      owned_behind front (owners_from (place + 1) ms) (place + suc host) more.0
          (subst (λ (h : ℕ). IsClockOf (owners_from (place + 1) ms) h more.0) (let same : place + 1 + host ≡ place + suc host = omega arith in same) more.1),
    )

-- ---- addresses

addresses_of_host : (P : Address → Type 0) (place : ℕ) (numbers : List ℕ) → All (λ (n : ℕ). P (let a : Address = record { address = n; host = place } in a)) numbers → All P (at_host place numbers)
addresses_of_host P place [] all = All-nil P
addresses_of_host P place (n ∷ numbers) all = All-cons P _ _ (all 0 n (omega arith)) (addresses_of_host P place numbers (λ k d below. all (suc k) d (omega (arith, below))))

addresses_placed : (place : ℕ) (ms : Members) (n : ℕ) → place + length (hosts_of ms) ≡ n → All (λ (a : Address). a.host < n) (addresses_from place ms)
addresses_placed place no_members n e = All-nil (λ (a : Address). a.host < n)
addresses_placed place (member name d ms) n e =
    All-append (λ (a : Address). a.host < n) (at_host place (addresses_in d)) (addresses_from (place + 1) ms)
    (addresses_of_host (λ (a : Address). a.host < n) place (addresses_in d) (λ k m below. omega (arith, e)))
    (addresses_placed (place + 1) ms n (omega (arith, e)))

addresses6_placed : (place : ℕ) (ms : Members) (n : ℕ) → place + length (hosts_of ms) ≡ n → All (λ (a : Address). a.host < n) (addresses6_from place ms)
addresses6_placed place no_members n e = All-nil (λ (a : Address). a.host < n)
addresses6_placed place (member name d ms) n e =
    All-append (λ (a : Address). a.host < n) (at_host place (addresses6_in d)) (addresses6_from (place + 1) ms)
    (addresses_of_host (λ (a : Address). a.host < n) place (addresses6_in d) (λ k m below. omega (arith, e)))
    (addresses6_placed (place + 1) ms n (omega (arith, e)))

octets_below : (octets : List ℕ) (a b c d : ℕ) → octets ≡ a ∷ b ∷ c ∷ d ∷ [] → a < 256 → b < 256 → c < 256 → d < 256 → from_be_bytes w32 octets < address_limit
octets_below octets a b c d e p q r s = rw e (omega (arith, p, q, r, s))

address_below : (text : List ℕ) (address : ℕ) → address_of text ≡ Some address → address < address_limit
address_below text address e =
    let found = address_found text address e in
    let dotted = found.dotted in
    let below = octets_below found.octets dotted.a dotted.b dotted.c dotted.d dotted.value dotted.fit.0 dotted.fit.1 dotted.fit.2 dotted.fit.3 in
    subst (λ (n : ℕ). n < address_limit) (sym found.value) below

-- what these texts write is below a limit that each of them keeps
written_below : (read : List ℕ → Option ℕ) (limit : ℕ) → ((text : List ℕ) (n : ℕ) → read text ≡ Some n → n < limit) → (texts : List (List ℕ)) → All (λ (n : ℕ). n < limit) (written read texts)
written_below read limit low [] = All-nil (λ (n : ℕ). n < limit)
written_below read limit low (text ∷ texts) = All-append (λ (n : ℕ). n < limit) (option_to_list (read text)) (written read texts) (one (read text) refl) (written_below read limit low texts)
  where
    one : (o : Option ℕ) → read text ≡ o → All (λ (n : ℕ). n < limit) (option_to_list o)
    one None e = All-nil (λ (n : ℕ). n < limit)
    one (Some n) e = All-cons (λ (m : ℕ). m < limit) n [] (low text n e) (All-nil (λ (m : ℕ). m < limit))

addresses_fit_from : (place : ℕ) (ms : Members) → All (λ (a : Address). a.address < address_limit) (addresses_from place ms)
addresses_fit_from place no_members = All-nil (λ (a : Address). a.address < address_limit)
addresses_fit_from place (member name d ms) =
    All-append (λ (a : Address). a.address < address_limit) (at_host place (addresses_in d)) (addresses_from (place + 1) ms)
    (addresses_of_host (λ (a : Address). a.address < address_limit) place (addresses_in d) (written_below address_of address_limit address_below (address_texts (entry_table d)))) (addresses_fit_from (place + 1) ms)

abbrev same_number : ℕ → ℕ → Bool
same_number b x = x == b

texts_fresh : (read : List ℕ → Option ℕ) (before : List ℕ) (texts : List (List ℕ)) → has_bad_address read before texts ≡ false → IsFresh same_number before (written read texts)
texts_fresh read before [] e = tt
texts_fresh read before (text ∷ texts) e = go (read text) (neither (is_bad_address before (read text)) _ e) (texts_fresh read (before ++ option_to_list (read text)) texts)
  where
    go : (o : Option ℕ) → (is_bad_address before o ≡ false) × (has_bad_address read (before ++ option_to_list o) texts ≡ false)
        → (has_bad_address read (before ++ option_to_list o) texts ≡ false → IsFresh same_number (before ++ option_to_list o) (written read texts)) → IsFresh same_number before (option_to_list o ++ written read texts)
    go None h more = let e' : true ≡ false = h.0 in cc
    go (Some n) h more = (h.0, more h.1)

addresses_fresh : (index place : ℕ) (before : Known) (clocks : List Clock) (ms : Members) → hosts_faults index before clocks ms ≡ [] → IsFresh same_number before.narrow (numbers_of (addresses_from place ms))
addresses_fresh index place before clocks no_members e = tt
addresses_fresh index place before clocks (member name d ms) e =
    let here = host_here index before clocks name d ms e in
    let front = texts_fresh address_of before.narrow (address_texts (entry_table d)) here.fresh in
    let back = addresses_fresh (index + 1) (place + 1) (known_behind before d) (clocks ++ clocks_in name d) ms (hosts_behind index before clocks name d ms e) in
    subst (λ (ns : List ℕ). IsFresh same_number before.narrow ns)
    (sym (numbers_more (at_host place (addresses_in d)) (addresses_from (place + 1) ms) ∙ ap (λ (ns : List ℕ). ns ++ numbers_of (addresses_from (place + 1) ms)) (numbers_at_host place (addresses_in d))))
    (fresh_append same_number before.narrow (addresses_in d) (numbers_of (addresses_from (place + 1) ms)) front back)

addresses6_fresh : (index place : ℕ) (before : Known) (clocks : List Clock) (ms : Members) → hosts_faults index before clocks ms ≡ [] → IsFresh same_number before.wide (numbers_of (addresses6_from place ms))
addresses6_fresh index place before clocks no_members e = tt
addresses6_fresh index place before clocks (member name d ms) e =
    let here = host_here index before clocks name d ms e in
    let front = texts_fresh address6_of before.wide (address6_texts (entry_table d)) here.fresh6 in
    let back = addresses6_fresh (index + 1) (place + 1) (known_behind before d) (clocks ++ clocks_in name d) ms (hosts_behind index before clocks name d ms e) in
    subst (λ (ns : List ℕ). IsFresh same_number before.wide ns)
    (sym (numbers_more (at_host place (addresses6_in d)) (addresses6_from (place + 1) ms) ∙ ap (λ (ns : List ℕ). ns ++ numbers_of (addresses6_from (place + 1) ms)) (numbers_at_host place (addresses6_in d))))
    (fresh_append same_number before.wide (addresses6_in d) (numbers_of (addresses6_from (place + 1) ms)) front back)

-- numbers that differ are those of things that do
numbers_differ : {A : Type 0} (number : A → ℕ) (things : List A) → AllPairs (λ (x y : ℕ). same_number x y ≡ false) (map number things) → AllPairs (λ (a b : A). number a ≢ number b) things
numbers_differ number things apart i j d below inside same =
    let long : length (map number things) ≡ length things = length-map things number in
    let first : get_or (map number things) i 0 ≡ number (get_or things i d) = get_or-map number things i d 0 (omega (arith, below, inside)) in
    let second : get_or (map number things) j 0 ≡ number (get_or things j d) = get_or-map number things j d 0 inside in
    let other : same_number (get_or (map number things) i 0) (get_or (map number things) j 0) ≡ false = apart i j 0 below (omega (arith, inside, long)) in
    let equal : same_number (get_or (map number things) i 0) (get_or (map number things) j 0) ≡ true = eq-eqb _ _ (second ∙ sym same ∙ sym first) in
    cc

-- ---- all that is asked of hosts and their clocks

pub host_names : (ms : Members) → hosts_faults 1 none_known [] ms ≡ [] → All IsClockName (hosts_of ms)
host_names ms e = hosts_named 1 none_known [] ms e

pub clock_names : (ms : Members) → hosts_faults 1 none_known [] ms ≡ [] → All (λ (c : Clock). IsClockName c.name) (clocks_of ms)
clock_names ms e = good_all (λ (c : Clock). IsClockName c.name) (λ before c good. good.named) [] (clocks_of ms) (hosts_good 1 none_known [] ms e)

pub clocks_differ : (ms : Members) → hosts_faults 1 none_known [] ms ≡ [] → AllPairs (λ (a b : Clock). a.name ≢ b.name) (clocks_of ms)
clocks_differ ms e = names_differ (clocks_of ms) (all_apart same_name [] (clocks_of ms) (good_fresh [] (clocks_of ms) (hosts_good 1 none_known [] ms e)))

pub clocks_fit : (ms : Members) → hosts_faults 1 none_known [] ms ≡ [] → All ClockFits (clocks_of ms)
clocks_fit ms e = good_all ClockFits (λ before c good. good.fits) [] (clocks_of ms) (hosts_good 1 none_known [] ms e)

pub clocks_owned : (ms : Members) → length (owners_from 0 ms) ≡ length (clocks_of ms)
clocks_owned ms = owners_counted 0 ms

pub owner_hosts : (ms : Members) → All (λ (o : Owner). o.host < length (hosts_of ms)) (owners_from 0 ms)
owner_hosts ms = owners_placed 0 ms (length (hosts_of ms)) (omega arith)

pub owners_rise : (ms : Members) → AllPairs (λ (a b : Owner). a.host ≤ b.host) (owners_from 0 ms)
owners_rise ms = owners_rise_from 0 ms

pub every_host : (ms : Members) (host : ℕ) → host < length (hosts_of ms) → (clock : ℕ) × IsClockOf (owners_from 0 ms) host clock
every_host ms host inside =
    let owned = host_owned 0 ms host inside in
    (owned.0, subst (λ (h : ℕ). IsClockOf (owners_from 0 ms) h owned.0) (let same : 0 + host ≡ host = omega arith in same) owned.1)

pub gaps_fit : (ms : Members) → hosts_faults 1 none_known [] ms ≡ [] → All (λ (o : Owner). o.gap < nano_limit) (owners_from 0 ms)
gaps_fit ms e = λ k o below. (owners_fit 1 0 none_known [] ms e k o below).0

pub offsets_fit : (ms : Members) → hosts_faults 1 none_known [] ms ≡ [] → All (λ (o : Owner). nat_abs o.offset < nano_limit) (owners_from 0 ms)
offsets_fit ms e = λ k o below. (owners_fit 1 0 none_known [] ms e k o below).1

pub address_hosts : (ms : Members) → All (λ (a : Address). a.host < length (hosts_of ms)) (addresses_from 0 ms)
address_hosts ms = addresses_placed 0 ms (length (hosts_of ms)) (omega arith)

pub addresses_fit : (ms : Members) → All (λ (a : Address). a.address < address_limit) (addresses_from 0 ms)
addresses_fit ms = addresses_fit_from 0 ms

pub addresses_differ : (ms : Members) → hosts_faults 1 none_known [] ms ≡ [] → AllPairs (λ (a b : Address). a.address ≢ b.address) (addresses_from 0 ms)
addresses_differ ms e = numbers_differ (λ (a : Address). a.address) (addresses_from 0 ms) (all_apart same_number [] _ (addresses_fresh 1 0 none_known [] ms e))

pub address6_hosts : (ms : Members) → All (λ (a : Address). a.host < length (hosts_of ms)) (addresses6_from 0 ms)
address6_hosts ms = addresses6_placed 0 ms (length (hosts_of ms)) (omega arith)

pub addresses6_differ : (ms : Members) → hosts_faults 1 none_known [] ms ≡ [] → AllPairs (λ (a b : Address). a.address ≢ b.address) (addresses6_from 0 ms)
addresses6_differ ms e = numbers_differ (λ (a : Address). a.address) (addresses6_from 0 ms) (all_apart same_number [] _ (addresses6_fresh 1 0 none_known [] ms e))

pub host_limit : (ms : Members) → hosts_faults 1 none_known [] ms ≡ [] → length (hosts_of ms) ≤ most_entries
host_limit ms e = omega (arith, hosts_few 1 none_known [] ms (omega arith) e)

pub clock_limit : (ms : Members) → hosts_faults 1 none_known [] ms ≡ [] → length (clocks_of ms) ≤ most_clocks
clock_limit ms e = omega (arith, good_few [] (clocks_of ms) (omega arith) (hosts_good 1 none_known [] ms e))
