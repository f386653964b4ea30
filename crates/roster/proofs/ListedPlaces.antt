-- What a roster lists at a place.
use Rattle.std.proofs.Common.{◌≡◌, ℕ, ◌+◌, ◌<◌, ◌≤◌, ◌++◌, ◌∷◌, List, length, get_or, slice_get, Some, option_map, refl, sym, ◌∙◌, ap, subst, arith}
use Rattle.std.proofs.lemmas.List.{length-map}
use Rattle.std.proofs.lemmas.Option.{slice_get_within, slice_get_read, slice_get-get_or, slice_get-map, get_or_from_slice_get}
use Rattle.problem_model.specs.declared.items.Clock.{Clock}
use Rattle.problem_model.specs.Name.{IsClockName}
use Rattle.problem_model.specs.Limits.{most_nodes}
use Rattle.atto.specs.Decimal.{decimal_of}
use Rattle.decl.specs.declared.items.Label.{Label}
use Rattle.traces.specs.Traces.{name_of}
use Rattle.traces.proofs.Lists.{all_at}
use Rattle.traces.proofs.Names.{name_at}
use Rattle.roster.specs.declared.came.Came.{Came}
use Rattle.roster.specs.Groups.{total, sizes_of, group_at, IsPlaceOf}
use Rattle.roster.specs.Readings.{Stamped}
use Rattle.roster.specs.Roster.{RosterLists, id_of, no_event, event_at, IsRoster, listed}
use Rattle.roster.proofs.EventNames.{past_groups}
use Rattle.roster.proofs.Turns.{place_is, in_turn_at, length-in_turn}

pub read_default : (came : List Came) (v : ℕ) (e : Came) → v < length came → e ≡ get_or came v e → (event_at came v).node ≡ e.node
read_default came v e inside here = ap (λ (x : Came). x.node) (get_or_from_slice_get came v e no_event (slice_get_read came (length came) v e refl inside here))

module _ (r : RosterLists) (is : IsRoster r) where
  pub events_many : length (listed r).events ≡ total (sizes_of r.under)
  events_many = length-in_turn {T = ℕ} {X = ℕ × ℕ} (λ g v. (v, (event_at r.came v).node)) 0 r.under

  pub readings_many : length (listed r).readings ≡ total (sizes_of r.readings)
  readings_many = length-in_turn {T = Stamped} {X = ℕ × ℕ × ℕ} (λ c s. (c, s.0, s.1)) 0 r.readings

  pub event_places : length (listed r).events ≡ length r.came
  event_places = events_many ∙ is.count

  pub few_nodes : length (listed r).events + length (listed r).readings ≤ most_nodes
  few_nodes = let a = is.count in let b = is.few in let c = is.on_clocks.few in omega (arith, events_many, readings_many, a, b, c)

  module _ (place g k : ℕ) (at : IsPlaceOf (sizes_of r.under) place g k) (group : List ℕ) (there : slice_get r.under g ≡ Some group) where
    pub group_is : group_at r.under g ≡ group
    group_is = get_or_from_slice_get r.under g group _ there

    pub inside_group : k < length group
    inside_group = subst (λ (l : List ℕ). k < length l) group_is (place_is r.under place g k at).1

    pub event_inside : (v : ℕ) → slice_get group k ≡ Some v → v < length r.came
    event_inside v here =
        let e = is.numbered g k v (subst (λ (l : List ℕ). slice_get l k ≡ Some v) (sym group_is) here) in
        slice_get_within r.came v e.0 e.1

    pub event_listed : (v node : ℕ) → slice_get group k ≡ Some v → (event_at r.came v).node ≡ node → slice_get {X = ℕ × ℕ} (listed r).events place ≡ Some (v, node)
    event_listed v node here own =
        in_turn_at {T = ℕ} {X = ℕ × ℕ} (λ g v. (v, (event_at r.came v).node)) 0 r.under place g k v at (subst (λ (l : List ℕ). slice_get l k ≡ Some v) (sym group_is) here)
        ∙ ap (λ (n : ℕ). let p : ℕ × ℕ = (v, n) in Some p) own

    pub event_at_place : (v : ℕ) → v ≡ get_or group k 0 → slice_get group k ≡ Some v
    event_at_place v here = slice_get-get_or group k 0 inside_group ∙ ap Some (sym here)

    pub event_named : (v : ℕ) → slice_get group k ≡ Some v → v < length (listed r).event_names
    event_named v here = let i = event_inside v here in omega (arith, i, length-map r.came (λ (e : Came). name_of r.declaration (id_of e)))

  module _ (place c k : ℕ) (at : IsPlaceOf (sizes_of r.readings) place c k) (group : List Stamped) (there : slice_get r.readings c ≡ Some group) where
    clock_group : group_at r.readings c ≡ group
    clock_group = get_or_from_slice_get r.readings c group _ there

    pub inside_clock : k < length group
    inside_clock = subst (λ (l : List Stamped). k < length l) clock_group (place_is r.readings place c k at).1

    pub reading_listed : (s : Stamped) → slice_get group k ≡ Some s → slice_get {X = ℕ × ℕ × ℕ} (listed r).readings place ≡ Some (c, s.0, s.1)
    reading_listed s here =
        in_turn_at {T = Stamped} {X = ℕ × ℕ × ℕ} (λ c s. (c, s.0, s.1)) 0 r.readings place c k s at (subst (λ (l : List Stamped). slice_get l k ≡ Some s) (sym clock_group) here)
        ∙ ap (λ (n : ℕ). let x : ℕ × ℕ × ℕ = (n, s.0, s.1) in Some x) (let e : 0 + c ≡ c = omega arith in e)

    pub clock_named : c < length (listed r).clock_names
    clock_named = let i = (place_is r.readings place c k at).0 in let n = is.clocks in omega (arith, i, n, length-map r.declaration.clocks (λ (x : Clock). x.name))

  -- ---- events by number
  pub came_there : (v : ℕ) (e : Came) → v < length (listed r).event_names → e ≡ get_or r.came v e → slice_get r.came v ≡ Some e
  came_there v e asked here = slice_get_read r.came (length r.came) v e refl (omega (arith, asked, length-map r.came (λ (x : Came). name_of r.declaration (id_of x)))) here

  module _ (v : ℕ) (e : Came) (there : slice_get r.came v ≡ Some e) where
    pub label_inside : e.label < length r.declaration.labels
    label_inside = let under = is.every v e there in let i = past_groups r.under e.label under.0 v under.2 in let n = is.labels in omega (arith, i, n)

    pub own_label : (l : Label) → l ≡ get_or r.declaration.labels e.label l → slice_get r.declaration.labels e.label ≡ Some l
    own_label l here = slice_get_read r.declaration.labels (length r.declaration.labels) e.label l refl label_inside here

    pub name_listed : (l : Label) → slice_get r.declaration.labels e.label ≡ Some l → slice_get (listed r).event_names v ≡ Some (l.name ++ 35 ∷ decimal_of e.number)
    name_listed l own = slice_get-map (λ (x : Came). name_of r.declaration (id_of x)) r.came v ∙ ap (option_map (λ (x : Came). name_of r.declaration (id_of x))) there ∙ ap Some (name_at r.declaration (id_of e) l own)

    pub label_named : (l : Label) → slice_get r.declaration.labels e.label ≡ Some l → IsClockName l.name
    label_named l own = all_at (λ (x : Label). IsClockName x.name) r.declaration.labels e.label l is.declared.labels.label_names own
