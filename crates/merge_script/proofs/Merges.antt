-- All packets of a session, settled and arranged.
use Rattle.std.proofs.Common.{◌≡◌, inl, inr, ◌⊎◌, ℕ, zero, suc, List, [], ◌∷◌, ◌++◌, length, map, take, drop, get_or, All, true, Result, Ok, Err, refl, sym, ◌∙◌, ap, subst, arith}
use Rattle.std.specs.Prelude.{IfOk, IfErr, Contains}
use Rattle.std.specs.List.{AllByRecursion}
use Rattle.std.specs.List.Sorted.{IsPermutation}
use Rattle.std.proofs.lemmas.List.{length-map}
use Rattle.std.proofs.lemmas.List.Elements.{recursion_from_All}
use Rattle.decl.specs.Declaration.{Declaration}
use Rattle.problem_model.specs.Bounds.{Times}
use Rattle.report.specs.declared.merge.MergeKey.{MergeKey}
use Rattle.report.specs.Merging.{AreApart}
use Rattle.mergecap.specs.declared.errors.ArrangeError.{ArrangeError}
use Rattle.mergecap.specs.declared.errors.ArrangeError.TheVariants as errors
use Rattle.mergecap.specs.declared.stored.Stored.{Stored}
use Rattle.mergecap.specs.Packets.{timed, all_timed}
use Rattle.mergecap.specs.MergedCapture.{Timed, IsArranged, IsShort, IsFault, HasOneLink, HasTwoLinks, merge_keys}
use Rattle.traces.specs.Seen.{Seen}
use Rattle.traces.specs.Messages.{problem_of_seen}
use Rattle.traces.proofs.Members.{here, there, head_or_tail, none_in}
use Rattle.queries.specs.Consistent.{IsConsistent}
use Rattle.session.specs.Settled.{HasEventOf, AreSettled, settled}
use Rattle.session.specs.Stands.{Held, seen_held}
use Rattle.merge_script.specs.declared.unmerged.Unmerged.{Unmerged}
use Rattle.merge_script.specs.Turns.{AreKeptFor}
use Rattle.merge_script.specs.Merged.{LacksMerge, IsUnarranged, unarranged}
use Rattle.merge_script.proofs.AllPackets.{all_apart, all_events, all_short, in_any_order}

-- ---- what is known of all packets of a session
module _ (h : Held) (kept : List Timed) (x : AreKeptFor h kept) where
  pub kept_events : All (HasEventOf (seen_held h.under)) kept
  kept_events = subst (λ (seen : List (List Seen)). All (HasEventOf seen) kept) (sym x.stands.events) (all_events h.declaration x.state.traces kept x.stands.labels x.all)

  pub kept_apart : AreApart (merge_keys kept)
  kept_apart = all_apart x.state.traces kept x.all

  pub kept_short : All IsShort kept
  kept_short = all_short h.declaration.labels x.state.traces kept x.stands.labels x.stands.kinds x.all

-- ---- at their times
module _ (seen : List (List Seen)) (times : Times) where
  place_same : (ts : List Timed) (i : ℕ) (d : MergeKey) → (get_or (merge_keys (map (settled seen times) ts)) i d).place ≡ (get_or (merge_keys ts) i d).place
  place_same [] i d = refl
  place_same (t ∷ ts) zero d = refl
  place_same (t ∷ ts) (suc i) d = place_same ts i d

  number_same : (ts : List Timed) (i : ℕ) (d : MergeKey) → (get_or (merge_keys (map (settled seen times) ts)) i d).n ≡ (get_or (merge_keys ts) i d).n
  number_same [] i d = refl
  number_same (t ∷ ts) zero d = refl
  number_same (t ∷ ts) (suc i) d = number_same ts i d

  keys_long : (ts : List Timed) → length (merge_keys (map (settled seen times) ts)) ≡ length (merge_keys ts)
  keys_long ts = length-map (map (settled seen times) ts) (λ (t : Timed). t.key) ∙ length-map ts (settled seen times) ∙ sym (length-map ts (λ (t : Timed). t.key))

  pub settled_apart : (ts : List Timed) → AreApart (merge_keys ts) → AreApart (merge_keys (map (settled seen times) ts))
  settled_apart ts apart i j d below inside = λ places numbers.
      apart i j d below (let long = keys_long ts in omega (arith, inside, long))
      (sym (place_same ts i d) ∙ places ∙ place_same ts j d) (sym (number_same ts i d) ∙ numbers ∙ number_same ts j d)

  short_each : (ts : List Timed) → AllByRecursion IsShort ts → AllByRecursion IsShort (map (settled seen times) ts)
  short_each [] all = tt
  short_each (t ∷ ts) all = (all.0, short_each ts all.1)

  pub settled_short : (ts ordered : List Timed) → All IsShort ts → IsPermutation (map (settled seen times) ts) ordered → All IsShort ordered
  settled_short ts ordered all moved = in_any_order IsShort (map (settled seen times) ts) ordered moved (short_each ts (recursion_from_All IsShort ts all))

  from_map : (ts : List Timed) (a : Timed) → Contains (map (settled seen times) ts) a → (t : Timed) × Contains ts t × (settled seen times t ≡ a)
  from_map [] a has = absurd (none_in a has)
  from_map (t ∷ ts) a has = by (head_or_tail (settled seen times t) a (map (settled seen times) ts) has) (from_map ts a)
    where
      by : (settled seen times t ≡ a) ⊎ Contains (map (settled seen times) ts) a → (Contains (map (settled seen times) ts) a → (u : Timed) × Contains ts u × (settled seen times u ≡ a)) →
          (u : Timed) × Contains (t ∷ ts) u × (settled seen times u ≡ a)
      by (inl e) more = (t, here t ts, e)
      by (inr rest) more = let u = more rest in (u.0, there t u.0 ts u.1, u.2)

  into_map : (ts : List Timed) (t : Timed) → Contains ts t → Contains (map (settled seen times) ts) (settled seen times t)
  into_map [] t has = absurd (none_in t has)
  into_map (u ∷ ts) t has = by (head_or_tail u t ts has) (into_map ts t)
    where
      by : (u ≡ t) ⊎ Contains ts t → (Contains ts t → Contains (map (settled seen times) ts) (settled seen times t)) → Contains (map (settled seen times) (u ∷ ts)) (settled seen times t)
      by (inl e) more = subst (λ (v : Timed). Contains (map (settled seen times) (u ∷ ts)) (settled seen times v)) e (here (settled seen times u) (map (settled seen times) ts))
      by (inr rest) more = there (settled seen times u) (settled seen times t) (map (settled seen times) ts) (more rest)

  links_before : (ts : List Timed) → HasTwoLinks (map (settled seen times) ts) → HasTwoLinks ts
  links_before ts (a, b, in_a, in_b, differ) =
      let x = from_map ts a in_a in
      let y = from_map ts b in_b in
      (x.0, y.0, x.1, y.1, λ same. differ (ap (λ (t : Timed). t.packet.link) (sym x.2) ∙ same ∙ ap (λ (t : Timed). t.packet.link) y.2))

  one_before : (ts : List Timed) → HasOneLink (map (settled seen times) ts) → HasOneLink ts
  one_before ts one a b in_a in_b = one (settled seen times a) (settled seen times b) (into_map ts a in_a) (into_map ts b in_b)

-- why settled packets are not arranged
module _ (d : Declaration) (seen : List (List Seen)) (all new : List Timed) (at_times : AreSettled d seen all new) (consistent : IsConsistent (problem_of_seen d seen) true) where
  pub lacks_merge : (e : ArrangeError) → IsFault new e → LacksMerge d seen all (unarranged e)
  lacks_merge errors.Links fault = (consistent, links_before seen at_times.times all (subst HasTwoLinks at_times.are fault))
  lacks_merge errors.Range fault = record { one_link = one_before seen at_times.times all (subst HasOneLink at_times.are fault.0); settled = new; at_times = at_times; without = fault.1 }
  lacks_merge errors.Memory fault = tt

  pub lacks_so : (why : Unmerged) → IsUnarranged new why → LacksMerge d seen all why
  lacks_so why (e, fault, is) = subst (LacksMerge d seen all) (sym is) (lacks_merge e fault)

  pub apart_then : AreApart (merge_keys all) → AreApart (merge_keys new)
  apart_then apart = subst (λ (ts : List Timed). AreApart (merge_keys ts)) (sym at_times.are) (settled_apart seen at_times.times all apart)

  pub short_then : (ordered : List Timed) → All IsShort all → IsArranged new ordered → All IsShort ordered
  short_then ordered small arranged = settled_short seen at_times.times all ordered small (subst (λ (ts : List Timed). IsPermutation ts ordered) at_times.are arranged.same)

-- ---- errors that are handed on
pub err_is : {A E : Type 0} (r : Result A E) (e : E) (P : E → Type 0) → IfErr r (λ (x : E). x ≡ e) → P e → IfErr r P
err_is (Ok a) e P is p = tt
err_is (Err x) e P is p = subst P (sym is) p

pub if_ok : {A E : Type 0} (r : Result A E) (P Q : A → Type 0) → ((a : A) → P a → Q a) → IfOk r P → IfOk r Q
if_ok (Ok a) P Q turn p = turn a p
if_ok (Err x) P Q turn p = tt

pub if_err : {A E : Type 0} (r : Result A E) (P Q : E → Type 0) → ((e : E) → P e → Q e) → IfErr r P → IfErr r Q
if_err (Ok a) P Q turn p = tt
if_err (Err x) P Q turn p = turn x p

-- ---- a list whose front was lent
front_of : {A : Type 0} (xs ys : List A) (n : ℕ) → length xs ≡ n → take n (xs ++ ys) ≡ xs
front_of [] ys zero is = refl
front_of [] ys (suc n) is = absurd (omega (arith, is))
front_of (x ∷ xs) ys zero is = absurd (omega (arith, is))
front_of {A = A} (x ∷ xs) ys (suc n) is = ap (λ (more : List A). x ∷ more) (front_of xs ys n (omega (arith, is)))

-- as many packets are settled
pub settled_long : (d : Declaration) (seen : List (List Seen)) (old new : List Stored) → AreSettled d seen (all_timed old) (all_timed new) → length new ≡ length old
settled_long d seen old new s =
    let a : length (all_timed new) ≡ length new = length-map new timed in
    let b : length (all_timed old) ≡ length old = length-map old timed in
    let c : length (all_timed new) ≡ length (all_timed old) = ap length s.are ∙ length-map (all_timed old) (settled seen s.times) in
    omega (arith, a, b, c)

pub whole_lent : (old new : List Stored) (n : ℕ) → n ≡ length old → length new ≡ length old → take n (new ++ drop (length new) old) ≡ new
whole_lent old new n is same = front_of new (drop (length new) old) n (same ∙ sym is)

-- all packets of a session, settled and given back
module _ (h : Held) (old lent new : List Stored) (n : ℕ) (so : IsConsistent (problem_of_seen h.declaration (seen_held h.under)) true) (lent_is : lent ≡ old) (count : n ≡ length old)
    (settles : AreSettled h.declaration (seen_held h.under) (all_timed lent) (all_timed new)) where
  pub settles_all : AreSettled h.declaration (seen_held h.under) (all_timed old) (all_timed new)
  settles_all = subst (λ (xs : List Stored). AreSettled h.declaration (seen_held h.under) (all_timed xs) (all_timed new)) lent_is settles

  pub given_back : take n (new ++ drop (length new) old) ≡ new
  given_back = whole_lent old new n count (settled_long h.declaration (seen_held h.under) old new settles_all)

  pub given_apart : AreKeptFor h (all_timed old) → AreApart (merge_keys (all_timed (take n (new ++ drop (length new) old))))
  given_apart x =
      subst (λ (xs : List Stored). AreApart (merge_keys (all_timed xs))) (sym given_back) (apart_then h.declaration (seen_held h.under) (all_timed old) (all_timed new) settles_all so (kept_apart h (all_timed old) x))

  pub given_short : AreKeptFor h (all_timed old) → (ordered : List Timed) → IsArranged (all_timed (take n (new ++ drop (length new) old))) ordered → All IsShort ordered
  given_short x ordered arranged =
      short_then h.declaration (seen_held h.under) (all_timed old) (all_timed new) settles_all so ordered (kept_short h (all_timed old) x) (subst (λ (xs : List Stored). IsArranged (all_timed xs) ordered) given_back arranged)

  pub given_lacks : (why : Unmerged) → IsUnarranged (all_timed (take n (new ++ drop (length new) old))) why → LacksMerge h.declaration (seen_held h.under) (all_timed old) why
  given_lacks why un =
      lacks_so h.declaration (seen_held h.under) (all_timed old) (all_timed new) settles_all so why (subst (λ (xs : List Stored). IsUnarranged (all_timed xs) why) given_back un)
