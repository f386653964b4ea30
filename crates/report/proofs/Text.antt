-- A report has whole numbers alone, so its text is known byte for byte.
use Rattle.std.proofs.Common.{◌≡◌, ℕ, Bool, cond, List, [], ◌∷◌, ◌++◌, true, false, Option, Some, None, length, ◌≤◌, map, Result, refl, sym, subst, ap, ◌∙◌, arith}
use Rattle.std.specs.Prelude.{codes, OnOk, ◌==◌}
use Rattle.serde_json.specs.Data.{Data, Members, boolean, member, no_members, object, put, string}
use Rattle.serde_json.specs.View.{items_of}
use Rattle.serde_json.specs.Written.{has_float, items_have_float, compact_text}
use Rattle.report.specs.Report.{Reported, ReportedDrops, ReportedKey, count, dropped_data, drops_data, group_data, groups_data, nokey_data, passed_data, passes_none, report_data, report_line, report_members, with_alone, with_dropped}
use Rattle.report.specs.declared.view.NoKeys.{NoKeys}
use Rattle.report.specs.declared.view.PassedSums.{PassedSums}
use Rattle.report.specs.Inside.{all_members, nokey_members, put_alone, put_dropped, put_interface, put_passed}

-- ---- what has no key
-- its members behind that of another interface
abbrev others : NoKeys → Members
others n =
    member (codes "length") (count n.length) (
    member (codes "link") (count n.link) (
    member (codes "local") (count n.local) (
    member (codes "other") (count n.other) (
    member (codes "short") (count n.short) (
    member (codes "side") (count n.side)
    no_members)))))

-- its data, by whether no packet is of another interface
abbrev nokey_by : NoKeys → Bool → Data
nokey_by n none = object (
    member (codes "fragment") (count n.fragment) (
    member (codes "header") (count n.header) (
    cond none (others n) (member (codes "interface") (count n.interface) (others n)))))

nokey_whole : (n : NoKeys) → has_float (nokey_data n) ≡ false
nokey_whole n = by (n.interface == 0)
  where
    by : (none : Bool) → has_float (nokey_by n none) ≡ false
    by true = refl
    by false = refl

-- the members that were put are those of what has no key
pub put_nokeys : (n : NoKeys) → object (put_interface n.interface (nokey_members n)) ≡ nokey_data n
put_nokeys n = by (n.interface == 0)
  where
    by : (none : Bool) → object (cond none (nokey_members n) (put (codes "interface") (count n.interface) (nokey_members n))) ≡ nokey_by n none
    by true = refl
    by false = refl

-- ---- the whole report
-- the members of a report with this count of keys and on these labels with drops, by whether no packet was passed over
abbrev members_by : Reported → Option ℕ → List ReportedDrops → Bool → Members
members_by v alone ds none =
    with_alone alone (
    member (codes "ambiguous") (groups_data v.groups) (
    member (codes "consistent") (boolean v.consistent) (
    with_dropped ds (
    member (codes "events") (count v.events) (
    member (codes "messages") (count v.messages) (
    member (codes "nokey") (nokey_data v.nokeys) (
    cond none (member (codes "unmatched") (count v.unmatched) no_members) (member (codes "passed") (passed_data v.passed) (
    member (codes "unmatched") (count v.unmatched)
    no_members)))))))))

abbrev put_by : Reported → Option ℕ → List ReportedDrops → Bool → Members
put_by v alone ds none = put_alone alone (cond none (put_dropped ds (all_members v)) (put (codes "passed") (passed_data v.passed) (put_dropped ds (all_members v))))

texts_whole : (ts : List (List ℕ)) → items_have_float (items_of (map string ts)) ≡ false
texts_whole [] = refl
texts_whole (t ∷ ts) = texts_whole ts

groups_whole : (gs : List ReportedKey) → items_have_float (items_of (map group_data gs)) ≡ false
groups_whole [] = refl
groups_whole (g ∷ gs) = rw (texts_whole g.receives, texts_whole g.sends, groups_whole gs)

drops_whole : (ds : List ReportedDrops) → items_have_float (items_of (map drops_data ds)) ≡ false
drops_whole [] = refl
drops_whole (d ∷ ds) = drops_whole ds

report_whole : (v : Reported) → has_float (report_data v) ≡ false
report_whole v = by v.alone v.dropped (passes_none v.passed)
  where
    by : (alone : Option ℕ) (ds : List ReportedDrops) (none : Bool) → has_float (object (members_by v alone ds none)) ≡ false
    by None [] true = rw (groups_whole v.groups, nokey_whole v.nokeys) refl
    by None [] false = rw (groups_whole v.groups, nokey_whole v.nokeys) refl
    by None (d ∷ ds) true = rw (groups_whole v.groups, drops_whole ds, nokey_whole v.nokeys) refl
    by None (d ∷ ds) false = rw (groups_whole v.groups, drops_whole ds, nokey_whole v.nokeys) refl
    by (Some n) [] true = rw (groups_whole v.groups, nokey_whole v.nokeys) refl
    by (Some n) [] false = rw (groups_whole v.groups, nokey_whole v.nokeys) refl
    by (Some n) (d ∷ ds) true = rw (groups_whole v.groups, drops_whole ds, nokey_whole v.nokeys) refl
    by (Some n) (d ∷ ds) false = rw (groups_whole v.groups, drops_whole ds, nokey_whole v.nokeys) refl

-- the members that were put are those of the report
pub put_all : (v : Reported) → put_alone v.alone (put_passed v.passed (put_dropped v.dropped (all_members v))) ≡ report_members v
put_all v = by v.alone v.dropped (passes_none v.passed)
  where
    by : (alone : Option ℕ) (ds : List ReportedDrops) (none : Bool) → put_by v alone ds none ≡ members_by v alone ds none
    by None [] true = refl
    by None [] false = refl
    by None (d ∷ ds) true = refl
    by None (d ∷ ds) false = refl
    by (Some n) [] true = refl
    by (Some n) [] false = refl
    by (Some n) (d ∷ ds) true = refl
    by (Some n) (d ∷ ds) false = refl

-- ---- members that are put
-- where there are none, nothing is put
pub none_put : (p : PassedSums) (ms : Members) → passes_none p ≡ true → ms ≡ put_passed p ms
none_put p ms none = ap (λ (b : Bool). cond b ms (put (codes "passed") (passed_data p) ms)) (sym none)

pub none_dropped_put : (ds : List ReportedDrops) (ms : Members) → ds ≡ [] → ms ≡ put_dropped ds ms
none_dropped_put ds ms none = ap (λ (l : List ReportedDrops). put_dropped l ms) (sym none)

-- where there are some, they are put
pub some_put : {E : Type 0} (r : Result (Unit {0}) E) (new : Members) (p : PassedSums) (d : Data) (old : Members) → passes_none p ≡ false → d ≡ passed_data p
    → OnOk r (new ≡ put (codes "passed") d old) → OnOk r (new ≡ put_passed p old)
some_put r new p d old some is =
    let same : put (codes "passed") d old ≡ put_passed p old =
    ap (λ (x : Data). put (codes "passed") x old) is ∙ ap (λ (b : Bool). cond b old (put (codes "passed") (passed_data p) old)) (sym some) in
    subst (λ (ms : Members). OnOk r (new ≡ ms)) same

put_some : (ds : List ReportedDrops) (old : Members) → 1 ≤ length ds → put (codes "dropped") (dropped_data ds) old ≡ put_dropped ds old
put_some [] old some = absurd (omega (arith, some))
put_some (d ∷ ds) old some = refl

pub some_dropped_put : {E : Type 0} (r : Result (Unit {0}) E) (new : Members) (ds : List ReportedDrops) (d : Data) (old : Members) → 1 ≤ length ds → d ≡ dropped_data ds
    → OnOk r (new ≡ put (codes "dropped") d old) → OnOk r (new ≡ put_dropped ds old)
some_dropped_put r new ds d old some is =
    let same : put (codes "dropped") d old ≡ put_dropped ds old = ap (λ (x : Data). put (codes "dropped") x old) is ∙ put_some ds old some in
    subst (λ (ms : Members). OnOk r (new ≡ ms)) same

-- the text of the data, and a line feed, are the line
pub line_is : (v : Reported) (d : Data) (text : List ℕ) → d ≡ report_data v → (has_float d ≡ false → text ≡ compact_text d) → text ++ 10 ∷ [] ≡ report_line v
line_is v d text is written = ap (λ t. t ++ 10 ∷ []) (written (ap has_float is ∙ report_whole v) ∙ ap compact_text is)
