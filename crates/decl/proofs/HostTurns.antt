-- Hosts one by one, as the code reads them.
use Rattle.std.proofs.Common.{◌≡◌, ℕ, ◌+◌, ◌-◌, ◌≤◌, false, not, ◌||◌, if◌then◌else◌, nat_lt, List, [], ◌∷◌, ◌++◌, Option, Some, None, String, Global, string_bytes, refl, sym, ap, ◌∙◌, subst, arith, append_assoc}
use Rattle.std.specs.Prelude.{All}
use Rattle.std.specs.List.{AllByRecursion}
use Rattle.std.specs.List.Sorted.{IsStrictlySortedBy}
use Rattle.std.specs.Map.{keys_of}
use Rattle.std.specs.String.{string_cmp}
use Rattle.std.specs.declared.cmp.Ordering.TheVariants.{Less}
use Rattle.std.proofs.lemmas.List.Elements.{All-cons, All-nil}
use Rattle.std.proofs.lemmas.List.Kept.{AllPairs-cons}
use Rattle.toml.proofs.Views.{Entry}
use Rattle.toml.specs.Data.{as_table, Items, Members, no_members}
use Rattle.toml.specs.View.{view, members_view}
use Rattle.toml.specs.declared.value.Value.{Value}
use Rattle.problem_model.specs.declared.items.Clock.{Clock}
use Rattle.decl.specs.Addresses.{Known, at_host, known_with, numbers_of}
use Rattle.decl.specs.Causes.{at, when, first, fault_of_entry, IsFirstOf}
use Rattle.decl.specs.Clocks.{has_wild_number, has_wild_owner, clock_by_name, owner_by, clock_tables, clocks_causes}
use Rattle.decl.specs.Declaration.{Precedes}
use Rattle.decl.specs.Hosts.{own_causes, host_causes, hosts_faults, addresses_in, addresses6_in, clocks_in, known_behind, hosts_of, clocks_of, owners_in, owners_from, addresses_from, addresses6_from, has_wrong_address, is_one_too_many}
use Rattle.decl.specs.Keys.{table_causes, entry_causes}
use Rattle.decl.specs.Limits.{most_entries}
use Rattle.decl.specs.Names.{is_clock_name}
use Rattle.decl.specs.declared.cause.Cause.{Cause}
use Rattle.decl.specs.declared.cause.Cause.TheVariants.{Name, Number, Address as WrongAddress}
use Rattle.decl.specs.declared.errors.DeclError.{DeclError}
use Rattle.decl.specs.declared.errors.Section.TheVariants.{Hosts}
use Rattle.decl.specs.declared.keys.Form.TheVariants as form
use Rattle.decl.proofs.ClockTurns.{first_of, none_wrong, number_wrong, pair_of}
use Rattle.decl.proofs.Faults.{few_index, neither_of, second_of, no_parts, not_so, neither, some_if, some_unless, none_unless, first_front, fault_front, fault_at, none_at}
use Rattle.decl.specs.declared.items.Address.{Address}
use Rattle.decl.specs.declared.hosts.Books.{Books}
use Rattle.decl.specs.Inside.{known_in}
use Rattle.decl.specs.declared.items.Owner.{Owner}
use Rattle.decl.proofs.Searching.{Rise}

-- ---- a host itself

-- what is wrong with keys, name and numbers
abbrev pub front_causes : ℕ → List ℕ → Members → List Cause
front_causes index name ms = table_causes form.Host ms ++ when (not (is_clock_name name)) Name ++ when (is_one_too_many index || has_wild_number no_members ms || has_wild_owner no_members ms) Number

module _ (index : ℕ) (name given : List ℕ) (ms : Members) (table : table_causes form.Host ms ≡ []) (named : Some given ≡ (if is_clock_name name then Some name else None)) where
  right_name : not (is_clock_name name) ≡ false
  right_name = ap not (some_if (is_clock_name name) given name named).0

  -- nothing is wrong
  pub own_sound : (clock : Clock) (owner : Owner) → index ≤ most_entries → Some clock ≡ (if has_wild_number no_members ms then None else Some (clock_by_name given no_members ms))
      → Some owner ≡ (if has_wild_owner no_members ms then None else Some (owner_by (index - 1) no_members ms))
      → (front_causes index name ms ≡ []) × ((let a : Clock × Owner = (clock, owner) in a) ≡ (clock_by_name name no_members ms, owner_by (index - 1) no_members ms))
  own_sound clock owner few numbers owned =
      let (tame, clock_is) = some_unless (has_wild_number no_members ms) clock (clock_by_name given no_members ms) numbers in
      let (near, owner_is) = some_unless (has_wild_owner no_members ms) owner (owner_by (index - 1) no_members ms) owned in (
        none_wrong _ _ _ table right_name (neither_of (is_one_too_many index || has_wild_number no_members ms) _ (neither_of _ _ (few_index index few) tame) near),
        pair_of (clock_is ∙ ap (λ (n : List ℕ). clock_by_name n no_members ms) (some_if (is_clock_name name) given name named).1) owner_is,
      )

  -- a number is out of its range
  pub own_wild : None ≡ (if has_wild_number no_members ms then None else Some (clock_by_name given no_members ms)) → first (front_causes index name ms) ≡ Some Number
  own_wild numbers =
      number_wrong _ _ _ table right_name
      (first_of (is_one_too_many index || has_wild_number no_members ms) _ (second_of (is_one_too_many index) _ (none_unless (has_wild_number no_members ms) (clock_by_name given no_members ms) numbers)))

  -- the offset is
  pub own_apart : None ≡ (if has_wild_owner no_members ms then None else Some (owner_by (index - 1) no_members ms)) → first (front_causes index name ms) ≡ Some Number
  own_apart owned =
      number_wrong _ _ _ table right_name
      (second_of (is_one_too_many index || has_wild_number no_members ms) _ (none_unless (has_wild_owner no_members ms) (owner_by (index - 1) no_members ms) owned))

-- a cause of the host itself comes before those of its clocks
pub own_fault : (index : ℕ) (before : Known) (clocks : List Clock) (name : List ℕ) (ms : Members) (cause : Cause) (e : DeclError) → first (front_causes index name ms) ≡ Some cause → e ≡ fault_of_entry Hosts index cause
    → IsFirstOf (at Hosts index (host_causes index before clocks name ms)) e
own_fault index before clocks name ms cause e h placed =
    fault_at Hosts index (host_causes index before clocks name ms) cause e (first_front (own_causes index before name ms) _ cause (first_front (front_causes index name ms) _ cause h)) placed

-- where nothing is wrong with the host itself, what is wrong is what is with its clocks
pub clocks_alone : (index : ℕ) (before : Known) (clocks now : List Clock) (name own : List ℕ) (ms : Members) (items : Items) → front_causes index name ms ≡ [] → has_wrong_address before ms ≡ false → now ≡ clocks → own ≡ name
    → items ≡ clock_tables ms → clocks_causes now own ms items ≡ host_causes index before clocks name ms
clocks_alone index before clocks now name own ms items front fresh p q r =
    rw (p, q, r) (sym (ap (λ (causes : List Cause). causes ++ when (has_wrong_address before ms) WrongAddress ++ clocks_causes clocks name ms (clock_tables ms)) front ∙ rw fresh refl))

-- a host without a fault has an index that may be
pub host_few : (index : ℕ) (before : Known) (clocks : List Clock) (name : List ℕ) (o : Option Members) → entry_causes (host_causes index before clocks name) o ≡ [] → index ≤ most_entries
host_few index before clocks name None e = cc
host_few index before clocks name (Some ms) e =
    let own = (no_parts (own_causes index before name ms) _ e).0 in
    let front = (no_parts (front_causes index name ms) _ own).0 in
    let last = (no_parts (table_causes form.Host ms ++ when (not (is_clock_name name)) Name) _ front).1 in
    let many : nat_lt most_entries index ≡ false = (neither (is_one_too_many index) _ (neither (is_one_too_many index || has_wild_number no_members ms) _ (not_so _ Number last)).0).0 in
    grind (arith, many)

-- ---- host by host

-- the first fault of the next host
pub host_first : (all : List DeclError) (index : ℕ) (before : Known) (clocks : List Clock) (entries rest : List Entry) (name : String Global) (value : Value) (e : DeclError) → all ≡ hosts_faults index before clocks (members_view entries)
    → entries ≡ (name, value) ∷ rest → IsFirstOf (at Hosts index (entry_causes (host_causes index before clocks (string_bytes name)) (as_table (view value)))) e → IsFirstOf all e
host_first all index before clocks entries rest name value e is next h =
    subst (λ (fs : List DeclError). IsFirstOf fs e) (sym (is ∙ ap (λ (es : List Entry). hosts_faults index before clocks (members_view es)) next))
    (fault_front (at Hosts index (entry_causes (host_causes index before clocks (string_bytes name)) (as_table (view value)))) _ e h)

pub numbers_at_host : (place : ℕ) (addresses : List ℕ) → numbers_of (at_host place addresses) ≡ addresses
numbers_at_host place [] = refl
numbers_at_host place (a ∷ addresses) = ap (λ (more : List ℕ). a ∷ more) (numbers_at_host place addresses)

pub numbers_more : (book more : List Address) → numbers_of (book ++ more) ≡ numbers_of book ++ numbers_of more
numbers_more [] more = refl
numbers_more (b ∷ book) more = ap (λ (ns : List ℕ). b.address ∷ ns) (numbers_more book more)

-- what the books know behind a host
known_on : (place : ℕ) (books new : Books) (narrow wide : List ℕ) → new.narrow ≡ books.narrow ++ at_host place narrow → new.wide ≡ books.wide ++ at_host place wide → known_in new ≡ known_with (known_in books) narrow wide
known_on place books new narrow wide added added6 = rw (numbers, numbers6) refl
  where
    numbers : numbers_of new.narrow ≡ numbers_of books.narrow ++ narrow
    numbers = ap numbers_of added ∙ numbers_more books.narrow _ ∙ ap (λ (more : List ℕ). numbers_of books.narrow ++ more) (numbers_at_host place narrow)

    numbers6 : numbers_of new.wide ≡ numbers_of books.wide ++ wide
    numbers6 = ap numbers_of added6 ∙ numbers_more books.wide _ ∙ ap (λ (more : List ℕ). numbers_of books.wide ++ more) (numbers_at_host place wide)

-- behind a host without a fault
pub hosts_on : (all : List DeclError) (index place : ℕ) (books new : Books) (entries rest : List Entry) (name : String Global) (value : Value) → all ≡ hosts_faults index (known_in books) books.clocks.clocks (members_view entries)
    → entries ≡ (name, value) ∷ rest → entry_causes (host_causes index (known_in books) books.clocks.clocks (string_bytes name)) (as_table (view value)) ≡ []
    → new.narrow ≡ books.narrow ++ at_host place (addresses_in (view value)) → new.wide ≡ books.wide ++ at_host place (addresses6_in (view value))
    → new.clocks.clocks ≡ books.clocks.clocks ++ clocks_in (string_bytes name) (view value) → all ≡ hosts_faults (index + 1) (known_in new) new.clocks.clocks (members_view rest)
hosts_on all index place books new entries rest name value is next none added added6 clocked =
    is ∙ ap (λ (es : List Entry). hosts_faults index (known_in books) books.clocks.clocks (members_view es)) next
    ∙ none_at Hosts index _ (hosts_faults (index + 1) (known_behind (known_in books) (view value)) (books.clocks.clocks ++ clocks_in (string_bytes name) (view value)) (members_view rest)) none
    ∙ ap (λ (clocks : List Clock). hosts_faults (index + 1) (known_behind (known_in books) (view value)) clocks (members_view rest)) (sym clocked)
    ∙ ap (λ (before : Known). hosts_faults (index + 1) before new.clocks.clocks (members_view rest)) (sym (known_on place books new (addresses_in (view value)) (addresses6_in (view value)) added added6))

pub host_clocks_on : (all : List Clock) (clocks new : List Clock) (entries rest : List Entry) (name : String Global) (value : Value) → all ≡ clocks ++ clocks_of (members_view entries)
    → entries ≡ (name, value) ∷ rest → new ≡ clocks ++ clocks_in (string_bytes name) (view value) → all ≡ new ++ clocks_of (members_view rest)
host_clocks_on all clocks new entries rest name value is next added =
    is ∙ ap (λ (es : List Entry). clocks ++ clocks_of (members_view es)) next
    ∙ sym (append_assoc clocks (clocks_in (string_bytes name) (view value)) (clocks_of (members_view rest)))
    ∙ ap (λ (front : List Clock). front ++ clocks_of (members_view rest)) (sym added)

pub host_owners_on : (all : List Owner) (place same : ℕ) (owners new : List Owner) (entries rest : List Entry) (name : String Global) (value : Value) → all ≡ owners ++ owners_from place (members_view entries)
    → entries ≡ (name, value) ∷ rest → same ≡ place → new ≡ owners ++ owners_in same (view value) → all ≡ new ++ owners_from (place + 1) (members_view rest)
host_owners_on all place same owners new entries rest name value is next e added =
    is ∙ ap (λ (es : List Entry). owners ++ owners_from place (members_view es)) next
    ∙ sym (append_assoc owners (owners_in place (view value)) (owners_from (place + 1) (members_view rest)))
    ∙ ap (λ (front : List Owner). front ++ owners_from (place + 1) (members_view rest)) (sym (added ∙ ap (λ (p : ℕ). owners ++ owners_in p (view value)) e))

pub addresses_on : (all : List Address) (place same : ℕ) (book new : List Address) (entries rest : List Entry) (name : String Global) (value : Value) → all ≡ book ++ addresses_from place (members_view entries)
    → entries ≡ (name, value) ∷ rest → same ≡ place → new ≡ book ++ at_host same (addresses_in (view value)) → all ≡ new ++ addresses_from (place + 1) (members_view rest)
addresses_on all place same book new entries rest name value is next e added =
    is ∙ ap (λ (es : List Entry). book ++ addresses_from place (members_view es)) next
    ∙ sym (append_assoc book (at_host place (addresses_in (view value))) (addresses_from (place + 1) (members_view rest)))
    ∙ ap (λ (front : List Address). front ++ addresses_from (place + 1) (members_view rest)) (sym (added ∙ ap (λ (p : ℕ). book ++ at_host p (addresses_in (view value))) e))

pub addresses6_on : (all : List Address) (place same : ℕ) (book new : List Address) (entries rest : List Entry) (name : String Global) (value : Value) → all ≡ book ++ addresses6_from place (members_view entries)
    → entries ≡ (name, value) ∷ rest → same ≡ place → new ≡ book ++ at_host same (addresses6_in (view value)) → all ≡ new ++ addresses6_from (place + 1) (members_view rest)
addresses6_on all place same book new entries rest name value is next e added =
    is ∙ ap (λ (es : List Entry). book ++ addresses6_from place (members_view es)) next
    ∙ sym (append_assoc book (at_host place (addresses6_in (view value))) (addresses6_from (place + 1) (members_view rest)))
    ∙ ap (λ (front : List Address). front ++ addresses6_from (place + 1) (members_view rest)) (sym (added ∙ ap (λ (p : ℕ). book ++ at_host p (addresses6_in (view value))) e))

pub names_on : (all : List (List ℕ)) (names new : List (List ℕ)) (entries rest : List Entry) (name : String Global) (value : Value) → all ≡ names ++ hosts_of (members_view entries)
    → entries ≡ (name, value) ∷ rest → new ≡ names ++ string_bytes name ∷ [] → all ≡ new ++ hosts_of (members_view rest)
names_on all names new entries rest name value is next added =
    is ∙ ap (λ (es : List Entry). names ++ hosts_of (members_view es)) next
    ∙ sym (append_assoc names (string_bytes name ∷ []) (hosts_of (members_view rest)))
    ∙ ap (λ (front : List (List ℕ)). front ++ hosts_of (members_view rest)) (sym added)

-- the hosts of a table stand in the byte order of their names
hosts_behind : (key : String Global) (entries : List Entry) → AllByRecursion (λ k. string_cmp key k ≡ Less) (keys_of entries) → All (λ (host : List ℕ). Precedes (string_bytes key) host) (hosts_of (members_view entries))
hosts_behind key [] h = All-nil (λ (host : List ℕ). Precedes (string_bytes key) host)
hosts_behind key (e ∷ entries) h = All-cons (λ (host : List ℕ). Precedes (string_bytes key) host) _ _ h.0 (hosts_behind key entries h.1)

pub hosts_rise : (entries : List Entry) → IsStrictlySortedBy string_cmp (keys_of entries) → Rise (hosts_of (members_view entries))
unfolding IsStrictlySortedBy
hosts_rise [] h = λ i j d below inside. absurd (omega (arith, inside))
hosts_rise (e ∷ entries) h = AllPairs-cons (λ (a b : List ℕ). Precedes a b) _ _ (hosts_behind e.0 entries h.0) (hosts_rise entries h.1)
