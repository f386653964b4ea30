-- All packets of traces.
use Rattle.std.proofs.Common.{◌≡◌, ℕ, zero, suc, ◌+◌, ◌<◌, ◌≤◌, List, [], ◌∷◌, ◌++◌, length, map, slice_get, slice_set, Some, All, pos, refl, sym, ◌∙◌, ap, subst, arith, append_assoc}
use Rattle.std.specs.List.{AllByRecursion}
use Rattle.std.specs.List.Sorted.{IsPermutation}
use Rattle.std.proofs.lemmas.List.{length-map, map-append}
use Rattle.std.proofs.lemmas.List.Elements.{All-from_recursion}
use Rattle.std.proofs.lemmas.List.Kept.{AllPairs-cons}
use Rattle.std.proofs.lemmas.List.Sorted.{IsPermutation-refl, IsPermutation-trans, IsPermutation-map, IsPermutation-append_comm, IsPermutation-append_left, IsPermutation-append_right, sum_by-IsPermutation}
use Rattle.std.proofs.lemmas.Map.Views.{All-map-IsPermutation}
use Rattle.packets.proofs.Bounds.{AreShort}
use Rattle.captures.specs.Capture as captures
use Rattle.captures.proofs.Bounds.{packets_short}
use Rattle.decl.specs.declared.items.Label.{Label}
use Rattle.decl.specs.declared.items.TraceKind.{TraceKind}
use Rattle.decl.specs.declared.items.TraceKind.TheVariants.{Capture, Log}
use Rattle.decl.specs.Declaration.{Declaration}
use Rattle.report.specs.declared.merge.MergeKey.{MergeKey}
use Rattle.report.specs.Merging.{AreApart}
use Rattle.mergecap.specs.MergedCapture.{Timed, IsShort, merge_keys}
use Rattle.mergecap.proofs.Orders.{apart_still}
use Rattle.traces.specs.Seen.{Seen, event_of_packet}
use Rattle.traces.specs.Traces.{Trace, Captured, Logged, Traces, IsOfKind, nothing_for, seen_of, seen_under, seen_by}
use Rattle.traces.proofs.Members.{no_pairs, pairs_joined}
use Rattle.session.specs.Settled.{HasEventOf}
use Rattle.session.specs.Taken.{packets_from, packets_under, packets_behind, BringsPackets}
use Rattle.merge_script.specs.Gathered.{AreAllOf, bytes_in}

some_same : {A : Type 0} (x y : A) → Some x ≡ Some y → x ≡ y
some_same x y e = cc

-- ---- more under one label
behind_set : (p k : ℕ) (old : Traces) (before after : Trace) (packets : List Timed) → slice_get old k ≡ Some before → packets_under (p + k) after ≡ packets_under (p + k) before ++ packets →
    IsPermutation (packets_behind p (slice_set old k after)) (packets_behind p old ++ packets)
behind_set p k [] before after packets at more = absurd cc
behind_set p zero (t ∷ ts) before after packets at more =
    let same : t ≡ before = some_same t before at in
    let first : p + 0 ≡ p = omega arith in
    let a = packets_under p t in
    let rest = packets_behind (p + 1) ts in
    let here : packets_under p after ≡ a ++ packets =
    ap (λ (n : ℕ). packets_under n after) (sym first) ∙ more ∙ ap (λ (n : ℕ). packets_under n before ++ packets) first ∙ ap (λ (x : Trace). packets_under p x ++ packets) (sym same) in
    let moved : IsPermutation (a ++ (packets ++ rest)) (a ++ (rest ++ packets)) = IsPermutation-append_right a (packets ++ rest) (rest ++ packets) (IsPermutation-append_comm packets rest) in
    let left : a ++ (packets ++ rest) ≡ packets_under p after ++ rest = sym (append_assoc a packets rest) ∙ ap (λ (xs : List Timed). xs ++ rest) (sym here) in
    subst (λ (xs : List Timed). IsPermutation xs ((a ++ rest) ++ packets)) left (subst (λ (ys : List Timed). IsPermutation (a ++ (packets ++ rest)) ys) (sym (append_assoc a rest packets)) moved)
behind_set p (suc k) (t ∷ ts) before after packets at more =
    let next : p + 1 + k ≡ p + suc k = omega arith in
    let a = packets_under p t in
    let further = behind_set (p + 1) k ts before after packets at (ap (λ (n : ℕ). packets_under n after) next ∙ more ∙ ap (λ (n : ℕ). packets_under n before ++ packets) (sym next)) in
    subst (λ (ys : List Timed). IsPermutation (a ++ packets_behind (p + 1) (slice_set ts k after)) ys) (sym (append_assoc a (packets_behind (p + 1) ts) packets))
    (IsPermutation-append_right a (packets_behind (p + 1) (slice_set ts k after)) (packets_behind (p + 1) ts ++ packets) further)

pub all_then : (old new : Traces) (kept packets : List Timed) → BringsPackets old new packets → AreAllOf old kept → AreAllOf new (kept ++ packets)
all_then old new kept packets b all =
    let place : 0 + b.place ≡ b.place = omega arith in
    let more = ap (λ (n : ℕ). packets_under n b.after) place ∙ b.more ∙ ap (λ (n : ℕ). packets_under n b.before ++ packets) (sym place) in
    subst (λ (x : Traces). AreAllOf x (kept ++ packets)) (sym b.is)
    (IsPermutation-trans (packets_behind 0 (slice_set old b.place b.after)) (packets_behind 0 old ++ packets) (kept ++ packets)
    (behind_set 0 b.place old b.before b.after packets b.was more) (IsPermutation-append_left packets (packets_behind 0 old) kept all))

-- there are none at first
kind_none : (p : ℕ) (kind : TraceKind) → packets_under p (nothing_for kind) ≡ []
kind_none p Capture = refl
kind_none p Log = refl

none_first : (p : ℕ) (labels : List Label) → packets_behind p (map (λ (l : Label). nothing_for l.kind) labels) ≡ []
none_first p [] = refl
none_first p (l ∷ labels) = ap (λ (xs : List Timed). xs ++ packets_behind (p + 1) (map (λ (x : Label). nothing_for x.kind) labels)) (kind_none p l.kind) ∙ none_first (p + 1) labels

pub all_first : (labels : List Label) → AreAllOf (map (λ (l : Label). nothing_for l.kind) labels) []
all_first labels = subst (λ (xs : List Timed). IsPermutation xs []) (sym (none_first 0 labels)) (IsPermutation-refl [])

-- in any order they have as many bytes
pub same_bytes : (traces : Traces) (kept : List Timed) → AreAllOf traces kept → bytes_in kept ≡ bytes_in (packets_behind 0 traces)
same_bytes traces kept all = sum_by-IsPermutation (λ (t : Timed). length t.packet.bytes) (packets_behind 0 traces) kept all

-- what is so of each is so of them in any order
pub in_any_order : (P : Timed → Type 0) (xs ys : List Timed) → IsPermutation xs ys → AllByRecursion P xs → All P ys
in_any_order P xs ys moved all =
    subst (All P) (same ys) (All-map-IsPermutation (λ (t : Timed). t) P xs ys moved (subst (All P) (sym (same xs)) (All-from_recursion P xs all)))
  where
    same : (zs : List Timed) → map (λ (t : Timed). t) zs ≡ zs
    same [] = refl
    same (z ∷ zs) = ap (λ (more : List Timed). z ∷ more) (same zs)

pub weaker : {A : Type 0} (P Q : A → Type 0) (xs : List A) → ((x : A) → P x → Q x) → AllByRecursion P xs → AllByRecursion Q xs
weaker P Q [] turn all = tt
weaker P Q (x ∷ xs) turn all = (turn x all.0, weaker P Q xs turn all.1)

joined : {A : Type 0} (P : A → Type 0) (xs ys : List A) → AllByRecursion P xs → AllByRecursion P ys → AllByRecursion P (xs ++ ys)
joined P [] ys a b = b
joined P (x ∷ xs) ys a b = (a.0, joined P xs ys a.1 b)

-- ---- their places and numbers
-- a packet under a label, with one of so many numbers from n on
abbrev IsUnderFrom : ℕ → ℕ → ℕ → Timed → Type 0
IsUnderFrom place n count t = (i : ℕ) × (t.key.place ≡ place) × (t.key.n ≡ n + i) × (i < count)

each_from : (place n : ℕ) (ps : List captures.Seen) → AllByRecursion (IsUnderFrom place n (length ps)) (packets_from place n ps)
each_from place n [] = tt
each_from place n (p ∷ ps) = (
  (0, refl, (let e : n ≡ n + 0 = omega arith in e), (let l : 0 < suc (length ps) = omega arith in l)),
  weaker (IsUnderFrom place (n + 1) (length ps)) (IsUnderFrom place n (suc (length ps))) (packets_from place (n + 1) ps)
      (λ t (i, same, number, few). (suc i, same, (let e : t.key.n ≡ n + suc i = omega (arith, number) in e), (let l : suc i < suc (length ps) = omega (arith, few) in l)))
      (each_from place (n + 1) ps),
)

-- ---- no two have one place and one number
abbrev DifferBy : MergeKey → MergeKey → Type 0
DifferBy a b = (a.place ≡ b.place) → (a.n ≡ b.n) → ⊥

keys_all : (P : MergeKey → Type 0) (ts : List Timed) → AllByRecursion (λ (t : Timed). P t.key) ts → AllByRecursion P (merge_keys ts)
keys_all P [] all = tt
keys_all P (t ∷ ts) all = (all.0, keys_all P ts all.1)

apart_from : (place n : ℕ) (ps : List captures.Seen) → AreApart (merge_keys (packets_from place n ps))
apart_from place n [] = no_pairs DifferBy
apart_from place n (p ∷ ps) =
    let key : MergeKey = record { value = pos 0; place = place; n = n } in
    let later = weaker (IsUnderFrom place (n + 1) (length ps)) (λ (t : Timed). DifferBy key t.key) (packets_from place (n + 1) ps)
    (λ t (i, same, number, few) places numbers. omega (arith, number, numbers)) (each_from place (n + 1) ps) in
    AllPairs-cons DifferBy key (merge_keys (packets_from place (n + 1) ps)) (All-from_recursion (DifferBy key) (merge_keys (packets_from place (n + 1) ps)) (keys_all (DifferBy key) (packets_from place (n + 1) ps) later))
    (apart_from place (n + 1) ps)

apart_under : (p : ℕ) (t : Trace) → AreApart (merge_keys (packets_under p t))
apart_under p (Captured bytes capture) = apart_from p 1 capture.packets
apart_under p (Logged rows size) = no_pairs DifferBy

here_under : (p : ℕ) (t : Trace) → AllByRecursion (λ (x : Timed). x.key.place ≡ p) (packets_under p t)
here_under p (Captured bytes capture) =
    weaker (IsUnderFrom p 1 (length capture.packets)) (λ (x : Timed). x.key.place ≡ p) (packets_from p 1 capture.packets) (λ x (i, same, number, few). same) (each_from p 1 capture.packets)
here_under p (Logged rows size) = tt

behind_from : (p : ℕ) (ts : Traces) → AllByRecursion (λ (x : Timed). p ≤ x.key.place) (packets_behind p ts)
behind_from p [] = tt
behind_from p (t ∷ ts) =
    joined (λ (x : Timed). p ≤ x.key.place) (packets_under p t) (packets_behind (p + 1) ts)
    (weaker (λ (x : Timed). x.key.place ≡ p) (λ (x : Timed). p ≤ x.key.place) (packets_under p t) (λ x same. omega (arith, same)) (here_under p t))
    (weaker (λ (x : Timed). p + 1 ≤ x.key.place) (λ (x : Timed). p ≤ x.key.place) (packets_behind (p + 1) ts) (λ x far. omega (arith, far)) (behind_from (p + 1) ts))

apart_behind : (p : ℕ) (ts : Traces) → AreApart (merge_keys (packets_behind p ts))
apart_behind p [] = no_pairs DifferBy
apart_behind p (t ∷ ts) =
    let own = packets_under p t in
    let rest = packets_behind (p + 1) ts in
    let later : AllByRecursion (λ (b : MergeKey). p + 1 ≤ b.place) (merge_keys rest) = keys_all (λ (b : MergeKey). p + 1 ≤ b.place) rest (behind_from (p + 1) ts) in
    let cross : AllByRecursion (λ (a : MergeKey). All (DifferBy a) (merge_keys rest)) (merge_keys own) =
    keys_all (λ (a : MergeKey). All (DifferBy a) (merge_keys rest)) own
    (weaker (λ (x : Timed). x.key.place ≡ p) (λ (x : Timed). All (DifferBy x.key) (merge_keys rest)) own
    (λ x same. All-from_recursion (DifferBy x.key) (merge_keys rest) (weaker (λ (b : MergeKey). p + 1 ≤ b.place) (DifferBy x.key) (merge_keys rest) (λ b far places numbers. omega (arith, same, far, places)) later))
    (here_under p t)) in
    subst (λ (keys : List MergeKey). AreApart keys) (sym (map-append (λ (x : Timed). x.key) own rest))
    (pairs_joined DifferBy (merge_keys own) (merge_keys rest) (apart_under p t) (apart_behind (p + 1) ts) (All-from_recursion (λ (a : MergeKey). All (DifferBy a) (merge_keys rest)) (merge_keys own) cross))

pub all_apart : (traces : Traces) (kept : List Timed) → AreAllOf traces kept → AreApart (merge_keys kept)
all_apart traces kept all = apart_still (merge_keys (packets_behind 0 traces)) (merge_keys kept) (IsPermutation-map (λ (t : Timed). t.key) (packets_behind 0 traces) kept all) (apart_behind 0 traces)

-- ---- each is of an event
abbrev HasEventFrom : ℕ → List (List Seen) → Timed → Type 0
HasEventFrom p seen t = (own : List Seen) × (k : ℕ) × (j : ℕ) × (t.key.place ≡ p + j) × (slice_get seen j ≡ Some own) × (t.key.n ≡ suc k) × (k < length own)

event_under : (d : Declaration) (l : Label) (p : ℕ) (more : List (List Seen)) (t : Trace) → AllByRecursion (HasEventFrom p (seen_of d l t ∷ more)) (packets_under p t)
event_under d l p more (Captured bytes capture) =
    let own = map (event_of_packet d l) capture.packets in
    let long : length own ≡ length capture.packets = length-map capture.packets (event_of_packet d l) in
    weaker (IsUnderFrom p 1 (length capture.packets)) (HasEventFrom p (own ∷ more)) (packets_from p 1 capture.packets)
    (λ x (i, same, number, few). (own, i, 0, (let e : x.key.place ≡ p + 0 = omega (arith, same) in e), refl, (let e : x.key.n ≡ suc i = omega (arith, number) in e), (let l : i < length own = omega (arith, few, long) in l)))
    (each_from p 1 capture.packets)
event_under d l p more (Logged rows size) = tt

events_behind : (d : Declaration) (labels : List Label) (ts : Traces) (p : ℕ) → length ts ≤ length labels → AllByRecursion (HasEventFrom p (seen_under d labels ts)) (packets_behind p ts)
events_behind d labels [] p few = tt
events_behind d [] (t ∷ ts) p few = absurd (omega (arith, few))
events_behind d (l ∷ labels) (t ∷ ts) p few =
    joined (HasEventFrom p (seen_under d (l ∷ labels) (t ∷ ts))) (packets_under p t) (packets_behind (p + 1) ts) (event_under d l p (seen_under d labels ts) t)
    (weaker (HasEventFrom (p + 1) (seen_under d labels ts)) (HasEventFrom p (seen_under d (l ∷ labels) (t ∷ ts))) (packets_behind (p + 1) ts)
    (λ x (own, k, j, place, at, number, inside). (own, k, suc j, (let e : x.key.place ≡ p + suc j = omega (arith, place) in e), at, number, inside))
    (events_behind d labels ts (p + 1) (omega (arith, few))))

pub all_events : (d : Declaration) (traces : Traces) (kept : List Timed) → length traces ≡ length d.labels → AreAllOf traces kept → All (HasEventOf (seen_by d traces)) kept
all_events d traces kept each all =
    in_any_order (HasEventOf (seen_by d traces)) (packets_behind 0 traces) kept all
    (weaker (HasEventFrom 0 (seen_by d traces)) (HasEventOf (seen_by d traces)) (packets_behind 0 traces)
    (λ t (own, k, j, place, at, number, inside). let same : j ≡ t.key.place = omega (arith, place) in (own, k, subst (λ (i : ℕ). slice_get (seen_by d traces) i ≡ Some own) same at, number, inside))
    (events_behind d d.labels traces 0 (omega (arith, each))))

-- ---- each is short
abbrev IsShortTrace : Trace → Type 0
IsShortTrace (Captured bytes capture) = AreShort capture.packets
IsShortTrace (Logged rows size) = Unit {0}

short_kind : (kind : TraceKind) (t : Trace) → IsOfKind kind t → IsShortTrace t
short_kind Capture (Captured bytes capture) is = packets_short bytes capture is
short_kind Capture (Logged rows size) is = tt
short_kind Log (Captured bytes capture) is = absurd is
short_kind Log (Logged rows size) is = tt

short_from : (place n : ℕ) (ps : List captures.Seen) → AreShort ps → AllByRecursion IsShort (packets_from place n ps)
short_from place n [] all = tt
short_from place n (p ∷ ps) all = (all.0, short_from place (n + 1) ps all.1)

short_under : (p : ℕ) (t : Trace) → IsShortTrace t → AllByRecursion IsShort (packets_under p t)
short_under p (Captured bytes capture) is = short_from p 1 capture.packets is
short_under p (Logged rows size) is = tt

short_behind : (p : ℕ) (ts : Traces) → ((j : ℕ) (t : Trace) → slice_get ts j ≡ Some t → IsShortTrace t) → AllByRecursion IsShort (packets_behind p ts)
short_behind p [] each = tt
short_behind p (t ∷ ts) each = joined IsShort (packets_under p t) (packets_behind (p + 1) ts) (short_under p t (each 0 t refl)) (short_behind (p + 1) ts (λ j x at. each (suc j) x at))

there_some : {A : Type 0} (xs : List A) (k : ℕ) → k < length xs → (x : A) × (slice_get xs k ≡ Some x)
there_some [] k inside = absurd (omega (arith, inside))
there_some (x ∷ xs) zero inside = (x, refl)
there_some (x ∷ xs) (suc k) inside = there_some xs k (omega (arith, inside))

within : {A : Type 0} (xs : List A) (k : ℕ) (x : A) → slice_get xs k ≡ Some x → k < length xs
within [] k x at = absurd cc
within (y ∷ xs) zero x at = omega arith
within (y ∷ xs) (suc k) x at = let more = within xs k x at in omega (arith, more)

pub all_short : (labels : List Label) (traces : Traces) (kept : List Timed) → length traces ≡ length labels →
    ((k : ℕ) (label : Label) (trace : Trace) → slice_get labels k ≡ Some label → slice_get traces k ≡ Some trace → IsOfKind label.kind trace) → AreAllOf traces kept → All IsShort kept
all_short labels traces kept each kinds all =
    in_any_order IsShort (packets_behind 0 traces) kept all
    (short_behind 0 traces (λ j t at. let inside = within traces j t at in let label = there_some labels j (omega (arith, inside, each)) in short_kind label.0.kind t (kinds j label.0 t label.1 at)))
