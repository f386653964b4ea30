-- Labels one by one, as the code reads them.
use Rattle.std.proofs.Common.{◌≡◌, ℕ, ◌+◌, ◌-◌, ◌*◌, ◌≤◌, Fits, w32, Bool, true, false, not, ◌&&◌, ◌||◌, if◌then◌else◌, is_none, unwrap_or, nat_lt, List, [], ◌∷◌, ◌++◌, length, length-append, Option, Some, None, codes, String, Global, string_bytes, refl, sym, ap, ◌∙◌, subst, arith, append_assoc}
use Rattle.std.specs.Prelude.{All, AllPairs}
use Rattle.std.specs.List.{AllByRecursion}
use Rattle.std.specs.List.Sorted.{IsStrictlySortedBy}
use Rattle.std.specs.Map.{keys_of}
use Rattle.std.specs.String.{string_cmp}
use Rattle.std.specs.declared.cmp.Ordering.TheVariants.{Less}
use Rattle.std.proofs.lemmas.Bool.{ltb-false}
use Rattle.std.proofs.lemmas.List.Elements.{All-cons, All-nil}
use Rattle.std.proofs.lemmas.List.Kept.{AllPairs-cons}
use Rattle.toml.proofs.Views.{Entry}
use Rattle.toml.specs.Data.{as_table, Members, no_members}
use Rattle.toml.specs.View.{view, members_view}
use Rattle.toml.specs.declared.value.Value.{Value}
use Rattle.decl.specs.Causes.{at, when, first, fault_of_entry, IsFirstOf}
use Rattle.decl.specs.Declaration.{Precedes}
use Rattle.decl.specs.Hosts.{HostLists, is_one_too_many}
use Rattle.decl.specs.Inside.{NamesOf, NumbersOf}
use Rattle.decl.specs.Keys.{table_causes, entry_causes, entry_table}
use Rattle.decl.specs.Labels.{has_wild_bound, has_wild_interface, is_log, is_misnamed, is_no_segment, label_causes, label_of, label_subnets, labels_faults, labels_of, places_at, said_causes, speaks_of_packets, trace_kind_at}
use Rattle.decl.specs.Names.{is_clock_name}
use Rattle.decl.specs.Limits.{most_entries}
use Rattle.decl.specs.Subnets.{given_in, has_many_subnets, subnet_causes, subnets_in}
use Rattle.decl.specs.Values.{optional_number, text_at}
use Rattle.decl.specs.declared.cause.Cause.{Cause}
use Rattle.decl.specs.declared.cause.Cause.TheVariants.{Key, Name, Number}
use Rattle.decl.specs.declared.errors.DeclError.{DeclError}
use Rattle.decl.specs.declared.errors.Section.TheVariants.{Labels}
use Rattle.decl.specs.declared.items.Label.{Label}
use Rattle.decl.specs.declared.items.Subnet.{Subnet}
use Rattle.decl.specs.declared.labels.Names.{Names}
use Rattle.decl.specs.declared.labels.Numbers.{Numbers}
use Rattle.decl.specs.declared.keys.Form.TheVariants as form
use Rattle.decl.specs.declared.items.TraceKind.{TraceKind}
use Rattle.decl.specs.declared.items.TraceKind.TheVariants.{Capture}
use Rattle.decl.proofs.Faults.{fault_at, fault_front, first_front, neither, no_parts, none_at, not_so, some_if}
use Rattle.decl.proofs.SubnetTurns.{first_none, subnets_few}

-- ---- what a label names

named_well : (n : Bool) (h : Option (ℕ × ℕ)) (k : Option TraceKind) (wrong : Bool) (places : ℕ × ℕ) (kind : TraceKind) → n ≡ true → Some places ≡ h → Some kind ≡ k → wrong ≡ false → (((not n || is_none h) || is_none k) || wrong) ≡ false
named_well n h k wrong places kind p q r e = rw (p, ← q, ← r, e) refl

-- what lawful names say
pub names_made : (hosts : HostLists) (name : List ℕ) (ms : Members) (names : Names) → Some names.name ≡ (if is_clock_name name then Some name else None)
    → ◌≡◌ {A = Option (ℕ × ℕ)} (Some (names.host, names.clock)) (places_at hosts ms) → Some names.kind ≡ trace_kind_at ms
    → (names.segment ≡ text_at (codes "segment") ms) × (is_no_segment (text_at (codes "segment") ms) ≡ false)
    → NamesOf hosts name ms names × (is_misnamed hosts name ms ≡ false)
names_made hosts name ms names named placed kinded segmented =
    let (is_name, name_is) = some_if (is_clock_name name) names.name name named in (
      record { name = name_is; places = placed; kind = kinded; segment = segmented.0 },
      named_well _ _ _ _ (names.host, names.clock) names.kind is_name placed kinded segmented.1,
    )

-- ---- what it says beside its subnets

-- nothing is wrong
none_wrong : (c : List Cause) (n k w : Bool) → c ≡ [] → n ≡ false → k ≡ false → w ≡ false → c ++ when n Name ++ when k Key ++ when w Number ≡ []
none_wrong c n k w p q r e = rw (p, q, r, e) refl

kind_is : (o : Option TraceKind) (kind : TraceKind) (b speaks : Bool) → Some kind ≡ o → b ≡ is_log (Some kind) → (b && speaks) ≡ (is_log o && speaks)
kind_is o kind b speaks e f = ap (λ (x : Bool). x && speaks) (f ∙ ap is_log e)

module _ (hosts : HostLists) (index : ℕ) (name : List ℕ) (ms : Members) (table : table_causes form.Label ms ≡ []) where
  pub said_name : is_misnamed hosts name ms ≡ true → first (said_causes hosts index name ms) ≡ Some Name
  said_name e = rw (table, e) refl

  module _ (named : is_misnamed hosts name ms ≡ false) where
    pub said_key : (is_log (trace_kind_at ms) && speaks_of_packets ms) ≡ true → first (said_causes hosts index name ms) ≡ Some Key
    said_key e = rw (table, named, e) refl

    pub said_number : (is_log (trace_kind_at ms) && speaks_of_packets ms) ≡ false → (((is_one_too_many index || has_wild_interface ms) || has_many_subnets ms) || has_wild_bound ms) ≡ true → first (said_causes hosts index name ms) ≡ Some Number
    said_number k e = rw (table, named, k, e) refl

    pub said_none : (is_log (trace_kind_at ms) && speaks_of_packets ms) ≡ false → (((is_one_too_many index || has_wild_interface ms) || has_many_subnets ms) || has_wild_bound ms) ≡ false → said_causes hosts index name ms ≡ []
    said_none k e = none_wrong _ _ _ _ table named k e

-- ---- a label

-- what is wrong with what it says comes first
pub cause_said : (hosts : HostLists) (index : ℕ) (name : List ℕ) (ms : Members) (cause : Cause) (e : DeclError) → first (said_causes hosts index name ms) ≡ Some cause → e ≡ fault_of_entry Labels index cause
    → IsFirstOf (at Labels index (label_causes hosts index name ms)) e
cause_said hosts index name ms cause e h is = fault_at Labels index _ cause e (first_front (said_causes hosts index name ms) (subnet_causes [] (given_in ms)) cause h) is

-- then what is wrong with its subnets
pub cause_given : (hosts : HostLists) (index : ℕ) (name : List ℕ) (ms : Members) (cause : Cause) (e : DeclError) → said_causes hosts index name ms ≡ [] → Some cause ≡ first (subnet_causes [] (given_in ms)) → e ≡ fault_of_entry Labels index cause
    → IsFirstOf (at Labels index (label_causes hosts index name ms)) e
cause_given hosts index name ms cause e none h is = fault_at Labels index _ cause e (ap (λ (cs : List Cause). first (cs ++ subnet_causes [] (given_in ms))) none ∙ sym h) is

pub causes_none : (hosts : HostLists) (index : ℕ) (name : List ℕ) (ms : Members) → said_causes hosts index name ms ≡ [] → None ≡ first (subnet_causes [] (given_in ms)) → label_causes hosts index name ms ≡ []
causes_none hosts index name ms none h = ap (λ (cs : List Cause). cs ++ subnet_causes [] (given_in ms)) none ∙ first_none _ h

same_label : (name name' : List ℕ) (places places' : ℕ × ℕ) (kind kind' : TraceKind) (interface interface' : Option ℕ) (segment segment' : Option (List ℕ)) (early early' late late' : Option ℕ) (before before' count count' : ℕ)
    → name ≡ name' → places ≡ places' → kind ≡ kind' → interface ≡ interface' → segment ≡ segment' → early ≡ early' → late ≡ late' → before ≡ before' → count ≡ count'
    → (let a : Label = record { name = name; host = places.0; clock = places.1; kind = kind; interface = interface; segment = segment; early = early; late = late; first_subnet = before; subnet_count = count } in a)
    ≡ (let b : Label = record { name = name'; host = places'.0; clock = places'.1; kind = kind'; interface = interface'; segment = segment'; early = early'; late = late'; first_subnet = before'; subnet_count = count' } in b)
same_label name name' places places' kind kind' interface interface' segment segment' early early' late late' before before' count count' p q r s t e l u v = rw (p, q, r, s, t, e, l, u, v) refl

pub label_made : (hosts : HostLists) (name : List ℕ) (ms : Members) (names : Names) (numbers : Numbers) (old new : List Subnet) (before after : ℕ) → NamesOf hosts name ms names → NumbersOf ms numbers
    → new ≡ old ++ subnets_in ms → before ≡ length old → after ≡ length new
    → (let l : Label = record { name = names.name; host = names.host; clock = names.clock; kind = names.kind; interface = numbers.interface; segment = names.segment; early = numbers.early; late = numbers.late; first_subnet = before; subnet_count = after - before } in l)
    ≡ label_of hosts (length old) name ms
label_made hosts name ms names numbers old new before after named numbered added first last =
    let many : length new ≡ length old + length (subnets_in ms) = ap length added ∙ length-append old (subnets_in ms) in
    same_label _ _ (names.host, names.clock) _ _ _ _ _ _ _ _ _ _ _ _ _ _ _ named.name (ap (λ (o : Option (ℕ × ℕ)). unwrap_or o (0, 0)) named.places) (ap (λ (o : Option TraceKind). unwrap_or o Capture) named.kind)
    numbered.interface named.segment numbered.early numbered.late first (omega (arith, first, last, many))

-- a label without a fault has an index that may be, and few subnets
pub numbers_tame : (hosts : HostLists) (index : ℕ) (name : List ℕ) (ms : Members) → said_causes hosts index name ms ≡ [] → (((is_one_too_many index || has_wild_interface ms) || has_many_subnets ms) || has_wild_bound ms) ≡ false
numbers_tame hosts index name ms e =
    not_so _ Number (no_parts (table_causes form.Label ms ++ when (is_misnamed hosts name ms) Name ++ when (is_log (trace_kind_at ms) && speaks_of_packets ms) Key) _ e).1

pub said_few : (hosts : HostLists) (index : ℕ) (name : List ℕ) (ms : Members) → said_causes hosts index name ms ≡ [] → (index ≤ most_entries) × (length (subnets_in ms) ≤ 256)
said_few hosts index name ms e =
    let (counts, _) = neither _ (has_wild_bound ms) (numbers_tame hosts index name ms e) in
    let (front, many) = neither _ (has_many_subnets ms) counts in
    let far : nat_lt most_entries index ≡ false = (neither _ (has_wild_interface ms) front).0 in
    let given = subnets_few (given_in ms) in
    let few : nat_lt 256 (length (given_in ms)) ≡ false = many in
    let within : length (given_in ms) ≤ 256 = ltb-false 256 (length (given_in ms)) few in (ltb-false most_entries index far, omega (arith, given, within))

pub label_few : (hosts : HostLists) (index : ℕ) (name : List ℕ) (o : Option Members) → entry_causes (label_causes hosts index name) o ≡ [] → (index ≤ most_entries) × (length (subnets_in (unwrap_or o no_members)) ≤ 256)
label_few hosts index name None e = cc
label_few hosts index name (Some ms) e = said_few hosts index name ms (no_parts (said_causes hosts index name ms) _ e).0

-- ---- one label behind the other

-- the first fault of the next label
pub label_first : (all : List DeclError) (hosts : HostLists) (index : ℕ) (entries rest : List Entry) (name : String Global) (value : Value) (e : DeclError)
    → all ≡ labels_faults hosts index (members_view entries) → entries ≡ (name, value) ∷ rest
    → IsFirstOf (at Labels index (entry_causes (label_causes hosts index (string_bytes name)) (as_table (view value)))) e → IsFirstOf all e
label_first all hosts index entries rest name value e is next h =
    subst (λ (fs : List DeclError). IsFirstOf fs e) (sym (is ∙ ap (λ (es : List Entry). labels_faults hosts index (members_view es)) next))
    (fault_front (at Labels index (entry_causes (label_causes hosts index (string_bytes name)) (as_table (view value)))) _ e h)

-- behind a label without a fault
pub labels_on : (all : List DeclError) (hosts : HostLists) (index : ℕ) (entries rest : List Entry) (name : String Global) (value : Value) → all ≡ labels_faults hosts index (members_view entries)
    → entries ≡ (name, value) ∷ rest → entry_causes (label_causes hosts index (string_bytes name)) (as_table (view value)) ≡ [] → all ≡ labels_faults hosts (index + 1) (members_view rest)
labels_on all hosts index entries rest name value is next none =
    is ∙ ap (λ (es : List Entry). labels_faults hosts index (members_view es)) next ∙ none_at Labels index _ (labels_faults hosts (index + 1) (members_view rest)) none

pub labels_more : (all old new : List Label) (hosts : HostLists) (before after : ℕ) (entries rest : List Entry) (name : String Global) (value : Value) → all ≡ old ++ labels_of hosts before (members_view entries)
    → entries ≡ (name, value) ∷ rest → new ≡ old ++ label_of hosts before (string_bytes name) (entry_table (view value)) ∷ [] → after ≡ before + length (subnets_in (entry_table (view value)))
    → all ≡ new ++ labels_of hosts after (members_view rest)
labels_more all old new hosts before after entries rest name value is next made counted =
    is ∙ ap (λ (es : List Entry). old ++ labels_of hosts before (members_view es)) next
    ∙ sym (append_assoc old (label_of hosts before (string_bytes name) (entry_table (view value)) ∷ []) (labels_of hosts (before + length (subnets_in (entry_table (view value)))) (members_view rest)))
    ∙ ap (λ (front : List Label). front ++ labels_of hosts (before + length (subnets_in (entry_table (view value)))) (members_view rest)) (sym made)
    ∙ ap (λ (n : ℕ). new ++ labels_of hosts n (members_view rest)) (sym counted)

-- the subnets of labels, each behind those before
pub subnets_more : (all old new : List Subnet) (entries rest : List Entry) (name : String Global) (value : Value) → all ≡ old ++ label_subnets (members_view entries) → entries ≡ (name, value) ∷ rest
    → new ≡ old ++ subnets_in (entry_table (view value)) → all ≡ new ++ label_subnets (members_view rest)
subnets_more all old new entries rest name value is next added =
    is ∙ ap (λ (es : List Entry). old ++ label_subnets (members_view es)) next
    ∙ sym (append_assoc old (subnets_in (entry_table (view value))) (label_subnets (members_view rest)))
    ∙ ap (λ (front : List Subnet). front ++ label_subnets (members_view rest)) (sym added)

pub subnets_counted : (old new more : List Subnet) → new ≡ old ++ more → length new ≡ length old + length more
subnets_counted old new more added = ap length added ∙ length-append old more

abbrev pub RiseLabels : List Label → Type 0
RiseLabels labels = AllPairs (λ (a b : Label). Precedes a.name b.name) labels

-- the labels of a table stand in the byte order of their names
labels_behind : (hosts : HostLists) (before : ℕ) (key : String Global) (entries : List Entry) → AllByRecursion (λ k. string_cmp key k ≡ Less) (keys_of entries)
    → All (λ (l : Label). Precedes (string_bytes key) l.name) (labels_of hosts before (members_view entries))
labels_behind hosts before key [] h = All-nil (λ (l : Label). Precedes (string_bytes key) l.name)
labels_behind hosts before key (e ∷ entries) h =
    All-cons (λ (l : Label). Precedes (string_bytes key) l.name) _ _ h.0 (labels_behind hosts (before + length (subnets_in (entry_table (view e.1)))) key entries h.1)

pub labels_rise : (hosts : HostLists) (before : ℕ) (entries : List Entry) → IsStrictlySortedBy string_cmp (keys_of entries) → RiseLabels (labels_of hosts before (members_view entries))
unfolding IsStrictlySortedBy
labels_rise hosts before [] h = λ i j d below inside. absurd (omega (arith, inside))
labels_rise hosts before (e ∷ entries) h =
    let behind = before + length (subnets_in (entry_table (view e.1))) in
    AllPairs-cons (λ (a b : Label). Precedes a.name b.name) _ _ (labels_behind hosts behind e.0 entries h.0) (labels_rise hosts behind entries h.1)

-- labels and subnets have places of four bytes
pub places_fit : (index before count len : ℕ) → before ≤ 256 * (index - 1) → index ≤ most_entries → count ≤ 256 → len ≡ before + count → Fits w32 len
places_fit index before count len room few small is = omega (arith, room, few, small, is)
