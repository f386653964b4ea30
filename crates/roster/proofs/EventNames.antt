-- Names of events: a label's name, `#`, and a number.
use Rattle.std.proofs.Common.{◌≡◌, ◌≢◌, ℕ, ◌+◌, ◌<◌, ◌≤◌, ◌^◌, zero, suc, List, [], ◌∷◌, ◌++◌, length, take, drop, slice_get, Option, Some, None, All, IfSome, IfNone, IsTrue, option_map, refl, sym, ◌∙◌, ap, subst, arith}
use Rattle.std.specs.List.{AllByRecursion}
use Rattle.std.proofs.lemmas.List.{length-map}
use Rattle.std.proofs.lemmas.List.Elements.{All-weaker, recursion_from_All}
use Rattle.std.proofs.lemmas.Option.{none-some, same_Some, slice_get-map, slice_get_within, get_or_from_slice_get}
use Rattle.atto.specs.Decimal.{decimal_of}
use Rattle.atto.specs.Number.{IsFault}
use Rattle.atto.specs.declared.text.NumFault.{NumFault}
use Rattle.atto.specs.declared.text.NumFault.TheVariants.{Spelling, Range}
use Rattle.atto.proofs.OneSpelling.{decimal_of_injective}
use Rattle.problem_model.specs.Name.{is_clock_byte, IsClockName}
use Rattle.decl.specs.declared.items.Label.{Label}
use Rattle.decl.specs.Declaration.{Declaration, IsDeclaration}
use Rattle.traces.specs.declared.event_id.EventId.{EventId}
use Rattle.traces.specs.Traces.{name_of}
use Rattle.traces.proofs.Lists.{got, all_at}
use Rattle.traces.proofs.Names.{one_place, name_at}
use Rattle.roster.specs.declared.came.Came.{Came}
use Rattle.roster.specs.Groups.{total, sizes_of, group_at}
use Rattle.roster.specs.Names.{IsCutAt}
use Rattle.roster.specs.Roster.{RosterLists, id_of, IsNumberUnder, IsRoster, Finds, listed}

-- ---- texts with one `#`
abbrev pub Lacks : List ℕ → Type 0
Lacks text = All (λ (b : ℕ). b ≢ 35) text

no_sharp : (c : ℕ) → IsTrue (is_clock_byte c) → c ≢ 35
no_sharp c clock e = let f : IsTrue (is_clock_byte 35) = subst (λ (n : ℕ). IsTrue (is_clock_byte n)) e clock in absurd (cc)

pub label_lacks : (name : List ℕ) → IsClockName name → Lacks name
label_lacks name clock = All-weaker (λ (c : ℕ). IsTrue (is_clock_byte c)) (λ (b : ℕ). b ≢ 35) no_sharp name clock.bytes

cut_by : (xs ys us vs : List ℕ) → AllByRecursion (λ (b : ℕ). b ≢ 35) xs → AllByRecursion (λ (b : ℕ). b ≢ 35) ys → xs ++ 35 ∷ us ≡ ys ++ 35 ∷ vs → (xs ≡ ys) × (us ≡ vs)
cut_by [] [] us vs p q e = (refl, cc)
cut_by [] (y ∷ ys) us vs p q e = absurd (q.0 (cc))
cut_by (x ∷ xs) [] us vs p q e = absurd (p.0 (cc))
cut_by (x ∷ xs) (y ∷ ys) us vs p q e =
    let head : x ≡ y = cc in
    let rest : (xs ≡ ys) × (us ≡ vs) = cut_by xs ys us vs p.1 q.1 (cc) in
    (rw (head, rest.0) refl, rest.1)

cut : (xs ys us vs : List ℕ) → Lacks xs → Lacks ys → xs ++ 35 ∷ us ≡ ys ++ 35 ∷ vs → (xs ≡ ys) × (us ≡ vs)
cut xs ys us vs p q e = cut_by xs ys us vs (recursion_from_All (λ (b : ℕ). b ≢ 35) xs p) (recursion_from_All (λ (b : ℕ). b ≢ 35) ys q) e

has_sharp : (label rest : List ℕ) → Lacks (label ++ 35 ∷ rest) → ⊥
has_sharp [] rest lacks = lacks 0 0 (omega arith) refl
has_sharp (x ∷ label) rest lacks = has_sharp label rest (λ k d inside. lacks (suc k) d (omega (arith, inside)))

-- ---- where a name is cut
pub without_sharp : (name : List ℕ) → Lacks name → (label : List ℕ) (n : ℕ) → Lacks label → n < 2 ^ 64 → name ≢ label ++ 35 ∷ decimal_of n
without_sharp name lacks label n own fits is = has_sharp label (decimal_of n) (subst Lacks is lacks)

pub without_number : (name : List ℕ) (k : ℕ) → name ≡ take k name ++ 35 ∷ drop (k + 1) name → Lacks (take k name) → ((n : ℕ) → n < 2 ^ 64 → drop (k + 1) name ≢ decimal_of n) →
    (label : List ℕ) (n : ℕ) → Lacks label → n < 2 ^ 64 → name ≢ label ++ 35 ∷ decimal_of n
without_number name k is first none label n own fits e =
    let parts = cut (take k name) label (drop (k + 1) name) (decimal_of n) first own (sym is ∙ e) in
    none n fits parts.1

-- a fault says that no number is spelled
pub no_number_spelled : (text : List ℕ) (fault : NumFault) → IsFault decimal_of (λ (n : ℕ). n < 2 ^ 64) text fault → (n : ℕ) → n < 2 ^ 64 → text ≢ decimal_of n
no_number_spelled text Spelling none n fits is = none n is
no_number_spelled text Range (m, spelled, past) n fits is =
    let one : m ≡ n = decimal_of_injective m n (sym spelled ∙ is) in
    past (subst (λ (k : ℕ). k < 2 ^ 64) (sym one) fits)

pub if_none : {X : Type 0} (o : Option X) (P : Type 0) → P → IfNone o P
if_none None P p = p
if_none (Some x) P p = tt

-- ---- labels by name
pub past_groups : (groups : List (List ℕ)) (g k v : ℕ) → slice_get (group_at groups g) k ≡ Some v → g < length groups
past_groups [] zero k v at = absurd (none-some v at)
past_groups [] (suc g) k v at = absurd (none-some v at)
past_groups (x ∷ groups) zero k v at = omega arith
past_groups (x ∷ groups) (suc g) k v at = let more = past_groups groups g k v at in omega (arith, more)

pub part_of_total : {T : Type 0} (groups : List (List T)) (g : ℕ) → length (group_at groups g) ≤ total (sizes_of groups)
part_of_total [] zero = omega arith
part_of_total [] (suc g) = omega arith
part_of_total (x ∷ groups) zero = omega arith
part_of_total (x ∷ groups) (suc g) = let more = part_of_total groups g in omega (arith, more)

module _ (d : Declaration) (under : List (List ℕ)) (name : List ℕ) (lawful : IsDeclaration d) (many : length under ≡ length d.labels) (few : total (sizes_of under) < 2 ^ 32) where
  -- the label of an event that stands under it, its name, and that its number is not too large
  labelled : (id : EventId) (v : ℕ) → IsNumberUnder under id v → (l : Label) × (slice_get d.labels id.label ≡ Some l) × (name_of d id ≡ l.name ++ 35 ∷ decimal_of id.number) × Lacks l.name × (id.number < 2 ^ 64)
  labelled id v (k, n, at) =
      let inside : id.label < length d.labels = (let i = past_groups under id.label k v at in omega (arith, i, many)) in
      let l = got d.labels id.label inside in
      let within : k < length (group_at under id.label) = slice_get_within (group_at under id.label) k v at in
      let small : id.number < 2 ^ 32 = omega (arith, within, n, part_of_total under id.label, few) in
      (l.0, l.1, name_at d id l.0 l.1, label_lacks l.0.name (all_at (λ (x : Label). IsClockName x.name) d.labels id.label l.0 lawful.labels.label_names l.1), wider id.number small)
    where
      wider : (n : ℕ) → n < 2 ^ 32 → n < 2 ^ 64
      wider n less = omega (arith, less)

  pub no_parts : ((label : List ℕ) (n : ℕ) → Lacks label → n < 2 ^ 64 → name ≢ label ++ 35 ∷ decimal_of n) → (id : EventId) (v : ℕ) → IsNumberUnder under id v → name_of d id ≢ name
  no_parts none id v is same = let l = labelled id v is in none l.0.name id.number l.3 l.4 (sym same ∙ l.2)

  pub no_label : (place number : ℕ) → IsCutAt name place number → ((k : ℕ) (l : Label) → slice_get d.labels k ≡ Some l → l.name ≢ take place name) → (id : EventId) (v : ℕ) → IsNumberUnder under id v → name_of d id ≢ name
  no_label place number at none id v is same =
      let l = labelled id v is in
      let parts = cut l.0.name (take place name) (decimal_of id.number) (decimal_of number) l.3 at.first (sym l.2 ∙ same ∙ at.is) in
      none id.label l.0 l.1 parts.0

  pub no_number : (place number label : ℕ) (own : Label) (numbers : List ℕ) → IsCutAt name place number → slice_get d.labels label ≡ Some own → own.name ≡ take place name → slice_get under label ≡ Some numbers →
      ((k : ℕ) → number ≡ suc k → length numbers ≤ k) → (id : EventId) (v : ℕ) → IsNumberUnder under id v → name_of d id ≢ name
  no_number place number label own numbers at there named group none id v is same =
      let l = labelled id v is in
      let parts = cut l.0.name (take place name) (decimal_of id.number) (decimal_of number) l.3 at.first (sym l.2 ∙ same ∙ at.is) in
      let one : id.label ≡ label = one_place (λ (x : Label). x.name) d.labels id.label label l.0 own lawful.labels.labels_rise l.1 there (parts.0 ∙ sym named) in
      let n : number ≡ suc is.0 = sym (decimal_of_injective id.number number parts.1) ∙ is.1 in
      let mine : group_at under id.label ≡ numbers = ap (group_at under) one ∙ get_or_from_slice_get under label numbers [] group in
      let within : is.0 < length numbers = slice_get_within numbers is.0 v (subst (λ (vs : List ℕ). slice_get vs is.0 ≡ Some v) mine is.2) in
      let past : length numbers ≤ is.0 = none is.0 n in
      absurd (omega (arith, within, past))

  pub found_number : (place number label v : ℕ) (own : Label) (numbers : List ℕ) → IsCutAt name place number → slice_get d.labels label ≡ Some own → own.name ≡ take place name → slice_get under label ≡ Some numbers →
      ((k : ℕ) × (number ≡ suc k) × (slice_get numbers k ≡ Some v)) → (id : EventId) × IsNumberUnder under id v × (name_of d id ≡ name)
  found_number place number label v own numbers at there named group (k, n, is) =
      let id : EventId = record { label = label; number = number } in
      let mine : group_at under label ≡ numbers = get_or_from_slice_get under label numbers [] group in
      (id, (k, n, subst (λ (vs : List ℕ). slice_get vs k ≡ Some v) (sym mine) is), name_at d id own there ∙ ap (λ (x : List ℕ). x ++ 35 ∷ decimal_of number) named ∙ sym at.is)

  module _ (place number label : ℕ) (own : Label) (numbers : List ℕ) (at : IsCutAt name place number) (there : slice_get d.labels label ≡ Some own) (named : own.name ≡ take place name) (group : slice_get under label ≡ Some numbers) where
    pub found_in : (o : Option ℕ) → IfSome o (λ (v : ℕ). (k : ℕ) × (number ≡ suc k) × (slice_get numbers k ≡ Some v)) → IfSome o (λ (v : ℕ). (id : EventId) × IsNumberUnder under id v × (name_of d id ≡ name))
    found_in None some = tt
    found_in (Some v) some = found_number place number label v own numbers at there named group some

    pub found_none : (o : Option ℕ) → IfNone o ((k : ℕ) → number ≡ suc k → length numbers ≤ k) → IfNone o ((id : EventId) (v : ℕ) → IsNumberUnder under id v → name_of d id ≢ name)
    found_none None none = no_number place number label own numbers at there named group none
    found_none (Some v) none = tt

-- ---- events by name
pub finds_of : (r : RosterLists) (name : List ℕ) (o : Option ℕ) → IsRoster r → IfSome o (λ v. (id : EventId) × IsNumberUnder r.under id v × (name_of r.declaration id ≡ name)) →
    IfNone o ((id : EventId) (v : ℕ) → IsNumberUnder r.under id v → name_of r.declaration id ≢ name) → Finds r name o
finds_of r name (Some v) is some none =
    let under = some.1 in
    let e = is.numbered some.0.label under.0 v under.2 in
    let number : suc under.0 ≡ some.0.number = sym under.1 in
    let id : id_of e.0 ≡ some.0 = e.2 ∙ ap (λ (n : ℕ). let i : EventId = record { label = some.0.label; number = n } in i) number in
    slice_get-map (λ (x : Came). name_of r.declaration (id_of x)) r.came v ∙ ap (option_map (λ (x : Came). name_of r.declaration (id_of x))) e.1 ∙ ap (λ (i : EventId). Some (name_of r.declaration i)) id ∙ ap Some some.2
finds_of r name None is some none = λ v at.
    let inside : v < length r.came = (let i = slice_get_within (listed r).event_names v name at in omega (arith, i, length-map r.came (λ (x : Came). name_of r.declaration (id_of x)))) in
    let e = got r.came v inside in
    let same : Some (name_of r.declaration (id_of e.0)) ≡ Some name =
    sym (slice_get-map (λ (x : Came). name_of r.declaration (id_of x)) r.came v ∙ ap (option_map (λ (x : Came). name_of r.declaration (id_of x))) e.1) ∙ at in
    none (id_of e.0) v (is.every v e.0 e.1) (same_Some (name_of r.declaration (id_of e.0)) name same)
