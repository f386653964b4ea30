-- What a document without a fault declares is lawful.
use Rattle.std.proofs.Common.{◌≡◌, ℕ, suc, ◌+◌, ◌-◌, ◌<◌, ◌≤◌, ◌==◌, ◌&&◌, Bool, true, false, not, ◌||◌, if◌then◌else◌, is_none, unwrap_or, option_map, List, [], ◌∷◌, ◌++◌, length, get_or, slice_get, Option, Some, None, codes, eq-eqb, eqb-true, refl, sym, ap, subst, arith}
use Rattle.std.specs.Prelude.{All, AllPairs, IfSome, option_and_then}
use Rattle.std.specs.List.{position_from}
use Rattle.std.proofs.lemmas.List.Elements.{All-cons, All-nil}
use Rattle.std.proofs.lemmas.Option.{none-some, same_Some}
use Rattle.problem_model.specs.Name.{IsClockName}
use Rattle.problem_model.specs.declared.items.Clock.{Clock}
use Rattle.toml.specs.Data.{Data, as_table, Items, no_items, item, Members, no_members, member}
use Rattle.decl.specs.Addresses.{none_known}
use Rattle.decl.specs.Causes.{at, when}
use Rattle.decl.specs.Clocks.{first_clock_place, if_owned, own_clock_place}
use Rattle.decl.specs.Declaration.{IsDeclaration, IsSource, IsClockOf, LabelFits, LinkFits}
use Rattle.decl.specs.Hosts.{HostLists, host_lists, hosts_of, clocks_of, hosts_faults, is_one_too_many}
use Rattle.decl.specs.Keys.{table_causes, entry_causes, entry_table}
use Rattle.decl.specs.Labels.{has_wild_bound, host_at_key, clock_at_key, is_log, is_misnamed, label_causes, label_of, labels_faults, labels_of, places_at, said_causes, speaks_of_packets, trace_kind_at}
use Rattle.decl.specs.Limits.{most_entries, most_payload, nano_limit}
use Rattle.decl.specs.Links.{has_link, is_astray, link_causes, link_of, links_faults, links_of}
use Rattle.decl.specs.Names.{is_clock_name}
use Rattle.decl.specs.Places.{host_place, clock_place}
use Rattle.decl.specs.Subnets.{subnets_in}
use Rattle.decl.specs.Values.{is_up_to, text_at, whole_at, whole_or_zero}
use Rattle.decl.specs.Walk.{declared, faults, hosts_in, is_true_at, labels_in, links_in, shows_true, source_causes, top_causes}
use Rattle.decl.specs.declared.cause.Cause.TheVariants as cause
use Rattle.decl.specs.declared.errors.Section.TheVariants.{Top, Labels, Links}
use Rattle.decl.specs.declared.items.Label.{Label}
use Rattle.decl.specs.declared.items.Link.{Link}
use Rattle.decl.specs.declared.items.Owner.{Owner}
use Rattle.decl.specs.declared.keys.Form.TheVariants as form
use Rattle.decl.proofs.ClockNames.{clock_name_is}
use Rattle.decl.proofs.Faults.{neither, no_causes, no_parts, not_false, not_so}
use Rattle.decl.proofs.Fresh.{IsFresh, all_apart}
use Rattle.decl.proofs.LabelTurns.{RiseLabels, label_few, numbers_tame}
use Rattle.decl.proofs.Lawful as lawful_hosts
use Rattle.decl.proofs.Lawful.{up_to_le, below_62, optional_fits, wild}
use Rattle.decl.proofs.LinkTurns.{link_few}
use Rattle.decl.proofs.Searching.{Rise}

-- ---- labels

is_given : {A : Type 0} (o : Option A) → is_none o ≡ false → (a : A) × (o ≡ Some a)
is_given None e = cc
is_given (Some a) e = (a, refl)

position_below : (t : List ℕ → Bool) (i : ℕ) (hosts : List (List ℕ)) (k : ℕ) → position_from t i hosts ≡ Some k → k < i + length hosts
position_below t i [] k e = absurd (none-some k e)
position_below t i (c ∷ hosts) k e = go (t c) refl (position_below t (i + 1) hosts k)
  where
    go : (b : Bool) → t c ≡ b → (position_from t (i + 1) hosts ≡ Some k → k < i + 1 + length hosts) → k < i + length (c ∷ hosts)
    go true is more = let same : i ≡ k = same_Some i k (rw is at e) in omega (arith, same)
    go false is more = omega (arith, more (rw is at e))

place_below : (hosts : List (List ℕ)) (name : List ℕ) (k : ℕ) → host_place hosts name ≡ Some k → k < length hosts
place_below hosts name k e = omega (arith, position_below _ 0 hosts k e)

-- where a test first passes
passes_at : (t : Owner → Bool) (i : ℕ) (owners : List Owner) (k : ℕ) → position_from t i owners ≡ Some k → (j : ℕ) × (o : Owner) × (i + j ≡ k) × (slice_get owners j ≡ Some o) × (t o ≡ true)
passes_at t i [] k e = absurd (none-some k e)
passes_at t i (o ∷ owners) k e = go (t o) refl (passes_at t (i + 1) owners k)
  where
    go : (b : Bool) → t o ≡ b → (position_from t (i + 1) owners ≡ Some k → (j : ℕ) × (v : Owner) × (i + 1 + j ≡ k) × (slice_get owners j ≡ Some v) × (t v ≡ true))
        → (j : ℕ) × (v : Owner) × (i + j ≡ k) × (slice_get (o ∷ owners) j ≡ Some v) × (t v ≡ true)
    go true is more = let same : i ≡ k = same_Some i k (rw is at e) in (0, o, omega (arith, same), refl, is)
    go false is more = let found = more (rw is at e) in (suc found.0, found.1, omega (arith, found.2), found.3, found.4)

-- the first clock of a host is one of that host
first_owned : (owners : List Owner) (host clock : ℕ) → first_clock_place owners host ≡ Some clock → IsClockOf owners host clock
first_owned owners host clock e =
    let found = passes_at (λ (o : Owner). o.host == host) 0 owners clock e in
    let place : found.0 ≡ clock = omega (arith, found.2) in
    (found.1, subst (λ (k : ℕ). slice_get owners k ≡ Some found.1) place found.3, eqb-true found.1.host host found.4)

if_owned_is : (owners : List Owner) (host place clock : ℕ) → if_owned owners host place ≡ Some clock → IsClockOf owners host clock
if_owned_is owners host place clock e = by_owner (slice_get owners place) refl e
  where
    by_test : (o : Owner) → slice_get owners place ≡ Some o → (t : Bool) → (o.host == host) ≡ t → (if t then Some place else None) ≡ Some clock → IsClockOf owners host clock
    by_test o at true is h = (o, subst (λ (k : ℕ). slice_get owners k ≡ Some o) (same_Some place clock h) at, eqb-true o.host host is)
    by_test o at false is h = absurd (none-some clock h)

    by_owner : (v : Option Owner) → slice_get owners place ≡ v → option_and_then (λ (o : Owner). if o.host == host then Some place else None) v ≡ Some clock → IsClockOf owners host clock
    by_owner None at h = absurd (none-some clock h)
    by_owner (Some o) at h = by_test o at (o.host == host) refl h

-- the host's clock of a name is one of that host
among_owned : (clocks : List Clock) (owners : List Owner) (host : ℕ) (name : List ℕ) (clock : ℕ) → own_clock_place clocks owners host name ≡ Some clock → IsClockOf owners host clock
among_owned clocks owners host name clock e = by_place (clock_place clocks name) e
  where
    by_place : (o : Option ℕ) → option_and_then (if_owned owners host) o ≡ Some clock → IsClockOf owners host clock
    by_place None h = absurd (none-some clock h)
    by_place (Some place) h = if_owned_is owners host place clock h

module _ (hosts : HostLists) where
  named_owned : (host clock : ℕ) (ms : Members) → clock_at_key hosts host ms ≡ Some clock → IsClockOf hosts.owners host clock
  named_owned host clock ms e = by_name (text_at (codes "clock") ms) e
    where
      by_name : (o : Option (List ℕ)) → elim o [ None ↦ first_clock_place hosts.owners host | Some name ↦ own_clock_place hosts.clocks hosts.owners host name ] ≡ Some clock → IsClockOf hosts.owners host clock
      by_name None h = first_owned hosts.owners host clock h
      by_name (Some name) h = among_owned hosts.clocks hosts.owners host name clock h

  -- the places of a label are those of a host and of a clock of that host
  places_are : (ms : Members) (places : ℕ × ℕ) → places_at hosts ms ≡ Some places → (places.0 < length hosts.names) × IsClockOf hosts.owners places.0 places.1
  places_are ms places e = by_host (host_at_key hosts.names (codes "host") ms) refl e
    where
      by_clock : (host : ℕ) → host < length hosts.names → (o : Option ℕ) → clock_at_key hosts host ms ≡ o → ◌≡◌ {A = Option (ℕ × ℕ)} (option_map (λ clock. (host, clock)) o) (Some places)
          → (places.0 < length hosts.names) × IsClockOf hosts.owners places.0 places.1
      by_clock host below None is h = absurd (none-some places h)
      by_clock host below (Some clock) is h =
          subst (λ (v : ℕ × ℕ). (v.0 < length hosts.names) × IsClockOf hosts.owners v.0 v.1) (same_Some (host, clock) places h) (below, named_owned host clock ms is)

      by_host : (o : Option ℕ) → host_at_key hosts.names (codes "host") ms ≡ o → ◌≡◌ {A = Option (ℕ × ℕ)} (option_and_then (λ host. option_map (λ clock. (host, clock)) (clock_at_key hosts host ms)) o) (Some places)
          → (places.0 < length hosts.names) × IsClockOf hosts.owners places.0 places.1
      by_host None is h = absurd (none-some places h)
      by_host (Some host) is h = by_clock host (place_below hosts.names _ host is) (clock_at_key hosts host ms) refl h

  record GoodLabel (name : List ℕ) (ms : Members) : Type 0 where
    named : IsClockName name
    placed : (label_of hosts 0 name ms).host < length hosts.names
    owned : IsClockOf hosts.owners (label_of hosts 0 name ms).host (label_of hosts 0 name ms).clock
    fits : LabelFits (label_of hosts 0 name ms)

  good_label : (index : ℕ) (name : List ℕ) (o : Option Members) → entry_causes (label_causes hosts index name) o ≡ [] → GoodLabel name (unwrap_or o no_members)
  good_label index name None e = cc
  good_label index name (Some ms) e =
      let (said, _) = no_parts (said_causes hosts index name ms) _ e in
      let (others, _) = no_parts (table_causes form.Label ms ++ when (is_misnamed hosts name ms) cause.Name ++ when (is_log (trace_kind_at ms) && speaks_of_packets ms) cause.Key) _ said in
      let (front, _) = no_parts (table_causes form.Label ms ++ when (is_misnamed hosts name ms) cause.Name) _ others in
      let (_, names) = no_parts (table_causes form.Label ms) _ front in
      let (name_kind, _) = neither ((not (is_clock_name name) || is_none (places_at hosts ms)) || is_none (trace_kind_at ms)) _ (not_so _ cause.Name names) in
      let (name_places, _) = neither (not (is_clock_name name) || is_none (places_at hosts ms)) _ name_kind in
      let (named, known) = neither (not (is_clock_name name)) _ name_places in
      let (places, is) = is_given (places_at hosts ms) known in
      let (_, bounds) = neither _ (has_wild_bound ms) (numbers_tame hosts index name ms said) in
      let (early, late) = wild (is_up_to (nano_limit - 1) (whole_or_zero (codes "early") ms)) (is_up_to (nano_limit - 1) (whole_or_zero (codes "late") ms)) bounds in
      let good = places_are ms places is in
      let same : unwrap_or (places_at hosts ms) (0, 0) ≡ places = ap (λ (o : Option (ℕ × ℕ)). unwrap_or o (0, 0)) is in
      record {
        named = clock_name_is name (not_false _ named);
        placed = subst (λ (v : ℕ × ℕ). v.0 < length hosts.names) (sym same) good.0;
        owned = subst (λ (v : ℕ × ℕ). IsClockOf hosts.owners v.0 v.1) (sym same) good.1;
        fits = (optional_fits (whole_at (codes "early") ms) early, optional_fits (whole_at (codes "late") ms) late);
      }

  label_here : (index : ℕ) (name : List ℕ) (d : Data) (ms : Members) → labels_faults hosts index (member name d ms) ≡ [] → entry_causes (label_causes hosts index name) (as_table d) ≡ []
  label_here index name d ms e = no_causes Labels index _ (no_parts (at Labels index (entry_causes (label_causes hosts index name) (as_table d))) _ e).0

  labels_behind : (index : ℕ) (name : List ℕ) (d : Data) (ms : Members) → labels_faults hosts index (member name d ms) ≡ [] → labels_faults hosts (index + 1) ms ≡ []
  labels_behind index name d ms e = (no_parts (at Labels index (entry_causes (label_causes hosts index name) (as_table d))) _ e).1

  labels_all : (P : Label → Type 0) → ((before : ℕ) (name : List ℕ) (ms : Members) → GoodLabel name ms → P (label_of hosts before name ms)) → (index before : ℕ) (ms : Members) → labels_faults hosts index ms ≡ []
      → All P (labels_of hosts before ms)
  labels_all P good index before no_members e = All-nil P
  labels_all P good index before (member name d ms) e =
      All-cons P _ _ (good before name (entry_table d) (good_label index name (as_table d) (label_here index name d ms e)))
      (labels_all P good (index + 1) (before + length (subnets_in (entry_table d))) ms (labels_behind index name d ms e))

  labels_few : (index before : ℕ) (ms : Members) → index ≤ most_entries + 1 → labels_faults hosts index ms ≡ [] → index + length (labels_of hosts before ms) ≤ most_entries + 1
  labels_few index before no_members le e = omega (arith, le)
  labels_few index before (member name d ms) le e =
      let here = (label_few hosts index name (as_table d) (label_here index name d ms e)).0 in
      let more = labels_few (index + 1) (before + length (subnets_in (entry_table d))) ms (omega (arith, here)) (labels_behind index name d ms e) in
      omega (arith, more)

-- ---- links

module _ (hosts : List (List ℕ)) where
  -- a host that is known has a place
  known_below : (key : List ℕ) (ms : Members) → is_none (host_at_key hosts key ms) ≡ false → unwrap_or (host_at_key hosts key ms) 0 < length hosts
  known_below key ms e =
      let (k, is) = is_given (host_at_key hosts key ms) e in
      rw is (place_below hosts _ k is)

  record GoodLink (before : List Link) (ms : Members) : Type 0 where
    start : (link_of hosts ms).from < length hosts
    end : (link_of hosts ms).to < length hosts
    fresh : has_link before (link_of hosts ms).from (link_of hosts ms).to ≡ false
    fits : LinkFits (link_of hosts ms)

  astray : (before : List Link) (from to : Option ℕ) → is_astray before from to ≡ false → (is_none from ≡ false) × (is_none to ≡ false) × (has_link before (unwrap_or from 0) (unwrap_or to 0) ≡ false)
  astray before None to e = cc
  astray before (Some from) None e = cc
  astray before (Some from) (Some to) e = (refl, refl, e)

  good_link : (index : ℕ) (before : List Link) (o : Option Members) → entry_causes (link_causes hosts index before) o ≡ [] → GoodLink before (unwrap_or o no_members)
  good_link index before None e = cc
  good_link index before (Some ms) e =
      let (front, numbers) = no_parts (table_causes form.Link ms ++ when (is_astray before (host_at_key hosts (codes "from") ms) (host_at_key hosts (codes "to") ms)) cause.Name) _ e in
      let (_, names) = no_parts (table_causes form.Link ms) _ front in
      let (from, to, fresh) = astray before (host_at_key hosts (codes "from") ms) (host_at_key hosts (codes "to") ms) (not_so _ cause.Name names) in
      let (_, tame) = neither (is_one_too_many index) _ (not_so _ cause.Number numbers) in
      let (least, most) = wild (is_up_to (nano_limit - 1) (whole_or_zero (codes "least") ms)) (is_up_to (nano_limit - 1) (whole_or_zero (codes "most") ms)) tame in
      record {
        start = known_below (codes "from") ms from;
        end = known_below (codes "to") ms to;
        fresh = fresh;
        fits = (below_62 (whole_or_zero (codes "least") ms) least, optional_fits (whole_at (codes "most") ms) most);
      }

  link_here : (index : ℕ) (before : List Link) (d : Data) (ds : Items) → links_faults hosts index before (item d ds) ≡ [] → entry_causes (link_causes hosts index before) (as_table d) ≡ []
  link_here index before d ds e = no_causes Links index _ (no_parts (at Links index (entry_causes (link_causes hosts index before) (as_table d))) _ e).0

  links_behind : (index : ℕ) (before : List Link) (d : Data) (ds : Items) → links_faults hosts index before (item d ds) ≡ []
      → links_faults hosts (index + 1) (before ++ link_of hosts (entry_table d) ∷ []) ds ≡ []
  links_behind index before d ds e = (no_parts (at Links index (entry_causes (link_causes hosts index before) (as_table d))) _ e).1

  links_all : (P : Link → Type 0) → ((before : List Link) (ms : Members) → GoodLink before ms → P (link_of hosts ms)) → (index : ℕ) (before : List Link) (ds : Items) → links_faults hosts index before ds ≡ []
      → All P (links_of hosts ds)
  links_all P good index before no_items e = All-nil P
  links_all P good index before (item d ds) e =
      All-cons P _ _ (good before (entry_table d) (good_link index before (as_table d) (link_here index before d ds e)))
      (links_all P good (index + 1) (before ++ link_of hosts (entry_table d) ∷ []) ds (links_behind index before d ds e))

  links_few : (index : ℕ) (before : List Link) (ds : Items) → index ≤ most_entries + 1 → links_faults hosts index before ds ≡ [] → index + length (links_of hosts ds) ≤ most_entries + 1
  links_few index before no_items le e = omega (arith, le)
  links_few index before (item d ds) le e =
      let here = link_few hosts index before (as_table d) (link_here index before d ds e) in
      let more = links_few (index + 1) (before ++ link_of hosts (entry_table d) ∷ []) ds (omega (arith, here)) (links_behind index before d ds e) in
      omega (arith, more)

abbrev same_ends : Link → Link → Bool
same_ends b l = b.from == l.from && b.to == l.to

links_fresh : (hosts : List (List ℕ)) (index : ℕ) (before : List Link) (ds : Items) → links_faults hosts index before ds ≡ [] → IsFresh same_ends before (links_of hosts ds)
links_fresh hosts index before no_items e = tt
links_fresh hosts index before (item d ds) e =
    ((good_link hosts index before (as_table d) (link_here hosts index before d ds e)).fresh, links_fresh hosts (index + 1) (before ++ link_of hosts (entry_table d) ∷ []) ds (links_behind hosts index before d ds e))

ends_apart : (a b : Link) → same_ends a b ≡ false → a.from ≡ b.from → a.to ≡ b.to → ⊥
ends_apart a b other from to = both_false (a.from == b.from) (a.to == b.to) (eq-eqb a.from b.from from) (eq-eqb a.to b.to to) other
  where
    both_false : (x y : Bool) → x ≡ true → y ≡ true → (x && y) ≡ false → ⊥
    both_false true true p q e = cc
    both_false true false p q e = cc
    both_false false y p q e = cc

links_differ : (links : List Link) → AllPairs (λ (a b : Link). same_ends a b ≡ false) links → AllPairs (λ (a b : Link). (a.from ≡ b.from) → (a.to ≡ b.to) → ⊥) links
links_differ links apart i j d below inside = ends_apart (get_or links i d) (get_or links j d) (apart i j d below inside)

-- ---- the source

true_clock : (o : Option Clock) → shows_true o ≡ true → (c : Clock) × (o ≡ Some c) × (c.rate.short ≡ 0) × (c.rate.long ≡ 0)
true_clock None e = cc
true_clock (Some c) e =
    let (short, long) = parts (c.rate.short == 0) (c.rate.long == 0) e in (c, refl, eqb-true c.rate.short 0 short, eqb-true c.rate.long 0 long)
  where
    parts : (a b : Bool) → (a && b) ≡ true → (a ≡ true) × (b ≡ true)
    parts true true e' = (refl, refl)
    parts true false e' = cc
    parts false b e' = cc

true_source : (clocks : List Clock) (o : Option ℕ) → is_true_at clocks o ≡ true → IfSome o (IsSource clocks)
true_source clocks None e = tt
true_source clocks (Some place) e = true_clock (slice_get clocks place) e

source_true : (clocks : List Clock) (name : Option (List ℕ)) → source_causes clocks name ≡ [] → IfSome (option_and_then (clock_place clocks) name) (IsSource clocks)
source_true clocks None e = tt
source_true clocks (Some name) e = true_source clocks (clock_place clocks name) (not_false _ (not_so _ cause.Source e))

-- ---- all together

pub lawful : (ms : Members) → Rise (hosts_of (hosts_in ms)) → RiseLabels (labels_of (host_lists (hosts_in ms)) 0 (labels_in ms)) → faults ms ≡ [] → IsDeclaration (declared ms)
lawful ms rise labels_rise e =
    let tables = hosts_in ms in
    let lists = host_lists tables in
    let names = hosts_of tables in
    let (top, behind_top) = no_parts (at Top 0 (top_causes ms)) _ e in
    let (hosts, behind_hosts) = no_parts (hosts_faults 1 none_known [] tables) _ behind_top in
    let (labels, behind_labels) = no_parts (labels_faults lists 1 (labels_in ms)) _ behind_hosts in
    let (links, source) = no_parts (links_faults names 1 [] (links_in ms)) _ behind_labels in
    let numbers = (no_parts (table_causes form.Document ms) _ (no_causes Top 0 (top_causes ms) top)).1 in
    let (payload, window) = wild (is_up_to most_payload (whole_or_zero (codes "payload_bytes") ms)) (is_up_to (nano_limit - 1) (whole_or_zero (codes "window") ms)) (not_so _ cause.Number numbers) in
    record {
      hosts = record {
        host_names = lawful_hosts.host_names tables hosts;
        hosts_rise = rise;
      };
      clocks = record {
        clock_names = lawful_hosts.clock_names tables hosts;
        clocks_differ = lawful_hosts.clocks_differ tables hosts;
        clocks_fit = lawful_hosts.clocks_fit tables hosts;
        clocks_owned = lawful_hosts.clocks_owned tables;
        source_true = source_true (clocks_of tables) (text_at (codes "source") ms) (no_causes Top 0 _ source);
      };
      owners = record {
        owner_hosts = lawful_hosts.owner_hosts tables;
        owners_rise = lawful_hosts.owners_rise tables;
        every_host = lawful_hosts.every_host tables;
        gaps_fit = lawful_hosts.gaps_fit tables hosts;
        offsets_fit = lawful_hosts.offsets_fit tables hosts;
      };
      addresses = record {
        address_hosts = lawful_hosts.address_hosts tables;
        addresses_fit = lawful_hosts.addresses_fit tables;
        addresses_differ = lawful_hosts.addresses_differ tables hosts;
      };
      addresses6 = record {
        address6_hosts = lawful_hosts.address6_hosts tables;
        addresses6_differ = lawful_hosts.addresses6_differ tables hosts;
      };
      labels = record {
        label_names = labels_all lists (λ (l : Label). IsClockName l.name) (λ before name m good. good.named) 1 0 (labels_in ms) labels;
        labels_rise = labels_rise;
        label_hosts = labels_all lists (λ (l : Label). l.host < length names) (λ before name m good. good.placed) 1 0 (labels_in ms) labels;
        label_clocks = labels_all lists (λ (l : Label). IsClockOf lists.owners l.host l.clock) (λ before name m good. good.owned) 1 0 (labels_in ms) labels;
        labels_fit = labels_all lists LabelFits (λ before name m good. good.fits) 1 0 (labels_in ms) labels;
      };
      links = record {
        link_starts = links_all names (λ (l : Link). l.from < length names) (λ before m good. good.start) 1 [] (links_in ms) links;
        link_ends = links_all names (λ (l : Link). l.to < length names) (λ before m good. good.end) 1 [] (links_in ms) links;
        links_differ = links_differ (links_of names (links_in ms)) (all_apart same_ends [] _ (links_fresh names 1 [] (links_in ms) links));
        links_fit = links_all names LinkFits (λ before m good. good.fits) 1 [] (links_in ms) links;
      };
      limits = record {
        host_limit = lawful_hosts.host_limit tables hosts;
        clock_limit = lawful_hosts.clock_limit tables hosts;
        label_limit = omega (arith, labels_few lists 1 0 (labels_in ms) (omega arith) labels);
        link_limit = omega (arith, links_few names 1 [] (links_in ms) (omega arith) links);
        payload_limit = up_to_le most_payload (whole_or_zero (codes "payload_bytes") ms) payload;
        window_limit = optional_fits (whole_at (codes "window") ms) window;
      };
    }
