-- How many messages a roster tells of.
use Rattle.std.proofs.Common.{◌≡◌, ◌≢◌, ◌⊎◌, inl, inr, ℕ, zero, suc, ◌+◌, ◌≤◌, List, [], ◌∷◌, length, map, drop, get_or, slice_get, slice_set, Option, Some, None, Bool, true, false, Contains, AllPairs, option_map, refl, sym, ◌∙◌, ap, subst, arith}
use Rattle.std.specs.Prelude.{is_some, filter, cond}
use Rattle.std.proofs.lemmas.List.Elements.{All-contains, Contains-get_or}
use Rattle.std.proofs.lemmas.Option.{slice_get-map}
use Rattle.problem_model.specs.declared.items.Message.{Message}
use Rattle.traces.specs.Seen.{Seen}
use Rattle.traces.specs.declared.event_id.Couple.{Couple}
use Rattle.traces.specs.Traces.{events_of}
use Rattle.traces.specs.Messages.{messages_of}
use Rattle.traces.proofs.Ids.{ids_rise}
use Rattle.traces.proofs.Members.{here, there, none_in, head_or_tail, first_of_pairs, rest_of_pairs}
use Rattle.traces.proofs.MessageEnds.{sends_differ}
use Rattle.roster.specs.declared.came.Came.{Came}
use Rattle.roster.specs.declared.came.Partner.{Partner}
use Rattle.roster.specs.Roster.{RosterLists, IsRoster, IsNumberUnder}
use Rattle.roster.proofs.Turns.{from_map, into_map}
use Rattle.roster.specs.Told.{number_of, numbered_message}
use Rattle.solver.specs.Solver.{SolverLists}
use Rattle.session_graph.specs.Kept.{IsKeptFor}
use Rattle.session_graph.proofs.Held.{id_under, number_is, one_id}
use Rattle.session_graph.proofs.Staying.{send_known}
use Rattle.replies.proofs.Elements.{set_or_same, some_same}
use Rattle.session.proofs.Standing.{map_there}

-- ---- flags
abbrev count : List Bool → ℕ
count [] = 0
count (true ∷ flags) = suc (count flags)
count (false ∷ flags) = count flags

none_true : (flags : List Bool) → ((v : ℕ) → slice_get flags v ≡ Some true → ⊥) → count flags ≡ 0
none_true [] none = refl
none_true (true ∷ flags) none = absurd (none 0 refl)
none_true (false ∷ flags) none = none_true flags (λ v at. none (suc v) at)

one_less : (flags : List Bool) (v : ℕ) → slice_get flags v ≡ Some true → count flags ≡ suc (count (slice_set flags v false))
one_less [] v at = absurd cc
one_less (true ∷ flags) zero at = refl
one_less (false ∷ flags) zero at = absurd cc
one_less (true ∷ flags) (suc v) at = ap suc (one_less flags v at)
one_less (false ∷ flags) (suc v) at = one_less flags v at

set_other : {A : Type 0} (xs : List A) (k j : ℕ) (x : A) → j ≢ k → slice_get (slice_set xs k x) j ≡ slice_get xs j
set_other [] k j x other = refl
set_other (y ∷ xs) zero zero x other = absurd (other refl)
set_other (y ∷ xs) zero (suc j) x other = refl
set_other (y ∷ xs) (suc k) zero x other = refl
set_other (y ∷ xs) (suc k) (suc j) x other = set_other xs k j x (λ same. other (ap suc same))

-- flags that are true at the numbers of these elements alone, no two of which have one number, are as many as they
exact : {X : Type 0} (f : X → ℕ) (xs : List X) (flags : List Bool) → AllPairs (λ (x y : X). f x ≢ f y) xs → ((x : X) → Contains xs x → slice_get flags (f x) ≡ Some true) →
    ((v : ℕ) → slice_get flags v ≡ Some true → (x : X) × Contains xs x × (f x ≡ v)) → count flags ≡ length xs
exact f [] flags differ each only = none_true flags (λ v at. let x = only v at in none_in x.0 x.1)
exact {X} f (x ∷ xs) flags differ each only =
    one_less flags (f x) (each x (here x xs)) ∙ ap suc (exact f xs (slice_set flags (f x) false) (rest_of_pairs R x xs differ)
    (λ y has. set_other flags (f x) (f y) false (λ same. All-contains (R x) xs y (first_of_pairs R x xs differ) has (sym same)) ∙ each y (there x y xs has))
    (λ v at. left v (set_or_same flags (f x) v false true at)))
  where
    R : X → X → Type 0
    R y z = f y ≢ f z

    rest : (v : ℕ) → v ≢ f x → (y : X) → f y ≡ v → (x ≡ y) ⊎ Contains xs y → (z : X) × Contains xs z × (f z ≡ v)
    rest v other y is (inl same) = absurd (other (sym is ∙ ap f (sym same)))
    rest v other y is (inr more) = (y, more, is)

    left : (v : ℕ) → ((v ≡ f x) × (true ≡ false)) ⊎ ((v ≢ f x) × (slice_get flags v ≡ Some true)) → (z : X) × Contains xs z × (f z ≡ v)
    left v (inl is) = let both : true ≡ false = is.1 in absurd cc
    left v (inr was) = let y = only v was.1 in rest v was.0 y.0 y.2 (head_or_tail x y.0 xs y.1)

-- ---- what is told
abbrev pub tells : Came → Bool
tells e = is_some e.partner

-- those of which something is told
abbrev pub told : List Came → ℕ
told came = length (filter tells came)

counted : (came : List Came) → told came ≡ count (map tells came)
counted [] = refl
counted (e ∷ came) = by (tells e) (counted came)
  where
    by : (b : Bool) → told came ≡ count (map tells came) → length (cond b (e ∷ filter tells came) (filter tells came)) ≡ count (b ∷ map tells came)
    by true rest = ap suc rest
    by false rest = rest

some_partner : (o : Option Partner) → is_some o ≡ true → (p : Partner) × (o ≡ Some p)
some_partner (Some p) is = (p, refl)
some_partner None is = absurd cc

pub told_all : (seen : List (List Seen)) (r : RosterLists) (s : SolverLists) → IsRoster r → IsKeptFor seen r s → told r.came ≡ length (messages_of (events_of seen))
told_all seen r s lawful is = counted r.came ∙ exact number couples (map tells r.came) differ each only
  where
    couples : List Couple
    couples = messages_of (events_of seen)

    number : Couple → ℕ
    number m = number_of r.under m.send

    one_send : (a b : Couple) → Contains couples a → Contains couples b → number a ≡ number b → a.send ≡ b.send
    one_send a b has has' same =
        let (v, under) = id_under r lawful seen is.holds a.send (send_known seen a has) in
        let (w, under') = id_under r lawful seen is.holds b.send (send_known seen b has') in
        let at : v ≡ w = sym (number_is r.under a.send v under) ∙ same ∙ number_is r.under b.send w under' in
        one_id r lawful a.send b.send w (subst (IsNumberUnder r.under a.send) at under) under'

    differ : AllPairs (λ (a b : Couple). number a ≢ number b) couples
    differ i j d less inside same = sends_differ (events_of seen) (ids_rise seen) i j d less inside
        (one_send (get_or couples i d) (get_or couples j d) (Contains-get_or couples i d (omega (arith, less, inside))) (Contains-get_or couples j d inside) same)

    each : (m : Couple) → Contains couples m → slice_get (map tells r.came) (number m) ≡ Some true
    each m has =
        let t = is.grown.tells.each (numbered_message r m) (into_map (numbered_message r) couples m has) in
        slice_get-map tells r.came (number m) ∙ ap (option_map tells) t.2 ∙ ap (λ (o : Option Partner). Some (is_some o)) t.3

    only : (v : ℕ) → slice_get (map tells r.came) v ≡ Some true → (m : Couple) × Contains couples m × (number m ≡ v)
    only v at =
        let (e, here', told) = map_there tells r.came v true at in
        let (p, partner) = some_partner e.partner told in
        let (m, has, send, receive) = is.grown.tells.only v e p here' partner in
        let (c, held, same) = from_map (numbered_message r) couples m has in
        (c, held, ap (λ (x : Message). x.send) same ∙ send)

-- ---- one event after another
abbrev one : Bool → ℕ
one b = cond b 1 0

length_of : (b : Bool) (e : Came) (rest : List Came) → length (cond b (e ∷ rest) rest) ≡ one b + length rest
length_of true e rest = omega arith
length_of false e rest = omega arith

one_event : (came : List Came) (v : ℕ) (e : Came) → slice_get came v ≡ Some e → told (drop v came) ≡ one (tells e) + told (drop (suc v) came)
one_event [] v e at = absurd cc
one_event (x ∷ came) zero e at = ap (λ (y : Came). told (y ∷ came)) (some_same x e at) ∙ length_of (tells e) e (filter tells came)
one_event (x ∷ came) (suc v) e at = one_event came v e at

module _ (came : List Came) (v n : ℕ) (e : Came) (at : slice_get came v ≡ Some e) (so_far : n + told (drop v came) ≡ told came) where
  on : (b : Bool) (m : ℕ) → tells e ≡ b → m ≡ n + one b → m + told (drop (v + 1) came) ≡ told came
  on b m is more =
      let here' : told (drop v came) ≡ one b + told (drop (suc v) came) = one_event came v e at ∙ ap (λ (x : Bool). one x + told (drop (suc v) came)) is in
      let up : told (drop (suc v) came) ≡ told (drop (v + 1) came) = ap (λ (k : ℕ). told (drop k came)) (one_up v) in
      omega (arith, here', up, more, so_far)
    where
      one_up : (k : ℕ) → suc k ≡ k + 1
      one_up k = omega arith

  -- the event is counted, or it is passed over
  pub told_on : (m : ℕ) → tells e ≡ true → m ≡ n + 1 → m + told (drop (v + 1) came) ≡ told came
  told_on m is more = on true m is more

  pub told_past : (m : ℕ) → tells e ≡ false → m ≡ n → m + told (drop (v + 1) came) ≡ told came
  told_past m is same = on false m is (let none : n ≡ n + 0 = omega arith in same ∙ none)

none_left : (came : List Came) (v : ℕ) → length came ≤ v → drop v came ≡ []
none_left [] zero past = refl
none_left [] (suc v) past = refl
none_left (x ∷ came) zero past = absurd (omega (arith, past))
none_left (x ∷ came) (suc v) past = none_left came v (omega (arith, past))

pub all_told : (came : List Came) (v n : ℕ) → length came ≤ v → n + told (drop v came) ≡ told came → n ≡ told came
all_told came v n past is =
    let none : told (drop v came) ≡ 0 = ap (λ (l : List Came). told l) (none_left came v past) in
    omega (arith, none, is)
