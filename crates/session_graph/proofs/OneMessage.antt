-- A message that comes to a roster and its graph.
use Rattle.std.proofs.Common.{◌≡◌, ◌≢◌, ◌<◌, ◌≤◌, ◌+◌, ℕ, Bool, true, List, [], ◌∷◌, ◌++◌, Option, Some, None, length, map, set, slice_get, Contains, refl, sym, ◌∙◌, ap, subst, arith, inl, inr, length-append}
use Rattle.std.proofs.lemmas.Bool.{cases_eq}
use Rattle.std.proofs.lemmas.List.{length-map, length-set}
use Rattle.std.proofs.lemmas.Option.{none-some, same_Some, slice_get_within, slice_get-get_or}
use Rattle.problem_model.specs.declared.items.Event.{Event}
use Rattle.problem_model.specs.declared.items.Message.{Message}
use Rattle.problem_model.specs.declared.items.Node.{Node}
use Rattle.problem_model.specs.declared.items.Node.TheVariants as nodes
use Rattle.problem_model.specs.declared.items.Bound.{Bound}
use Rattle.problem_model.specs.declared.items.Bound.TheVariants.{DelayMost, DelayLeast}
use Rattle.problem_model.specs.Problem.{ProblemLists}
use Rattle.problem_model.specs.ShortList.{most_bound, message_bounds}
use Rattle.decl.specs.Declaration.{follows_of}
use Rattle.sync_graph.specs.declared.arc.Arc.{Arc}
use Rattle.sync_graph.specs.Graph.{GraphLists, with_arc}
use Rattle.problem_graph.specs.BoundArcs.{names_of}
use Rattle.problem_graph.specs.Standing.{HasNode}
use Rattle.solver.specs.Solver.{SolverLists}
use Rattle.solver.specs.Current.{IsCurrent}
use Rattle.traces.proofs.Members.{here, there, head_or_tail}
use Rattle.roster.specs.declared.came.Came.{Came}
use Rattle.roster.specs.declared.came.Partner.{Partner}
use Rattle.roster.specs.Groups.{group_at}
use Rattle.roster.specs.Roster.{RosterLists, HoldsEvents, event_at, no_event}
use Rattle.roster.proofs.Telling.{set_here, set_elsewhere, holds_still}
use Rattle.roster.specs.Growing.{IsGrowing, IsGrownTo}
use Rattle.roster.specs.Once.{HasEachOnce}
use Rattle.roster.specs.Rosters.{named_event, problem_by_number, KnowsNodes}
use Rattle.session_graph.specs.Kept.{HasArcs, KnowsMessages}
use Rattle.session_graph.specs.Pushes.{Brings, with_arcs}
use Rattle.session_graph.proofs.Bringing.{last_is, last_on, stays}
use Rattle.session_graph.specs.Growth.{Retells, KeepsNodesThere}
use Rattle.session_graph.specs.UnderWay.{KnowsNodesThere, IsEntering}
use Rattle.session_graph.proofs.Entered.{told_named}
use Rattle.session_graph.proofs.OneEvent.{none_behind}
use Rattle.session_graph.proofs.Messages.{with_messages, message_once}

-- ---- arcs
pub two_few : (m : Message) → length (message_bounds m) ≤ 2
two_few m = few m m.most
  where
    few : (m : Message) (o : Option ℕ) → length (most_bound m o ++ DelayLeast m.send m.receive ∷ []) ≤ 2
    few m None = omega arith
    few m (Some n) = omega arith

-- the least delay is always among them
pub some_bound : (m : Message) → 1 ≤ length (message_bounds m)
some_bound m = let long = length-append (most_bound m m.most) (DelayLeast m.send m.receive ∷ []) in omega (arith, long)

-- the arcs of a message came last: one, or the greatest delay before the least
module _ (m : Message) (g : GraphLists) (flags : length g.in_force ≡ length g.arcs) where
  one_came : (a : Arc) → a.name ≡ DelayLeast m.send m.receive → m.most ≡ None → HasArcs (with_arc g a) m (length g.arcs)
  one_came a name none = record {
    on = last_on g a flags;
    least = ap (λ (x : Arc). x.name) (last_is g a flags) ∙ name;
    most = λ w is. absurd (none-some w (sym none ∙ is));
  }

  two_came : (a b : Arc) → a.name ≡ DelayMost m.send m.receive → b.name ≡ DelayLeast m.send m.receive → HasArcs (with_arc (with_arc g a) b) m (length g.arcs + 1)
  two_came a b first second =
      let h : GraphLists = with_arc g a in
      let long : length h.arcs ≡ length g.arcs + 1 = length-append g.arcs (a ∷ []) in
      let flags' : length h.in_force ≡ length h.arcs = omega (arith, flags, length-append g.in_force (true ∷ []), long) in
      let still = stays h b flags' (length g.arcs) (last_on g a flags) in
      subst (HasArcs (with_arc h b) m) long (record {
        on = last_on h b flags';
        least = ap (λ (x : Arc). x.name) (last_is h b flags') ∙ second;
        most = λ w is. (length g.arcs, omega (arith, long), still.0, ap (λ (x : Arc). x.name) (still.1 ∙ last_is g a flags) ∙ first);
      })

  same_name : (x y : Bound) (xs ys : List Bound) → x ∷ xs ≡ y ∷ ys → x ≡ y
  same_name x y xs ys is = cc

  same_rest : (x y : Bound) (xs ys : List Bound) → x ∷ xs ≡ y ∷ ys → xs ≡ ys
  same_rest x y xs ys is = cc

  none_one : (x : Bound) (xs : List Bound) → x ∷ xs ≡ [] → ⊥
  none_one x xs is = let long = ap length is in omega (arith, long)

  all_came : (o : Option ℕ) (arcs : List Arc) → m.most ≡ o → names_of arcs ≡ most_bound m o ++ DelayLeast m.send m.receive ∷ [] → (arc : ℕ) → arc + 1 ≡ length g.arcs + length arcs
      → HasArcs (with_arcs g arcs) m arc
  all_came None [] is names arc last = absurd (none_one (DelayLeast m.send m.receive) [] (sym names))
  all_came None (a ∷ []) is names arc last =
      let here : length g.arcs ≡ arc = omega (arith, last) in
      subst (HasArcs (with_arc g a) m) here (one_came a (same_name a.name (DelayLeast m.send m.receive) [] [] names) is)
  all_came None (a ∷ b ∷ arcs) is names arc last = absurd (none_one b.name (names_of arcs) (same_rest a.name (DelayLeast m.send m.receive) (b.name ∷ names_of arcs) [] names))
  all_came (Some w) [] is names arc last = absurd (none_one (DelayMost m.send m.receive) (DelayLeast m.send m.receive ∷ []) (sym names))
  all_came (Some w) (a ∷ []) is names arc last = absurd (none_one (DelayLeast m.send m.receive) [] (sym (same_rest a.name (DelayMost m.send m.receive) [] (DelayLeast m.send m.receive ∷ []) names)))
  all_came (Some w) (a ∷ b ∷ []) is names arc last =
      let rest : b.name ∷ [] ≡ DelayLeast m.send m.receive ∷ [] = same_rest a.name (DelayMost m.send m.receive) (b.name ∷ []) (DelayLeast m.send m.receive ∷ []) names in
      let here : length g.arcs + 1 ≡ arc = omega (arith, last) in
      subst (HasArcs (with_arc (with_arc g a) b) m) here
      (two_came a b (same_name a.name (DelayMost m.send m.receive) (b.name ∷ []) (DelayLeast m.send m.receive ∷ []) names) (same_name b.name (DelayLeast m.send m.receive) [] [] rest))
  all_came (Some w) (a ∷ b ∷ c ∷ arcs) is names arc last =
      absurd (none_one c.name (names_of arcs) (same_rest b.name (DelayLeast m.send m.receive) (c.name ∷ names_of arcs) []
      (same_rest a.name (DelayMost m.send m.receive) (b.name ∷ c.name ∷ names_of arcs) (DelayLeast m.send m.receive ∷ []) names)))

long_by : (g : GraphLists) (arcs : List Arc) → length (with_arcs g arcs).arcs ≡ length g.arcs + length arcs
long_by g [] = omega arith
long_by g (a ∷ arcs) = let rest = long_by (with_arc g a) arcs in omega (arith, rest, length-append g.arcs (a ∷ []))

pub arcs_of_message : (m : Message) (old new : SolverLists) (arcs : List Arc) → IsCurrent old → new.graph ≡ with_arcs old.graph arcs → names_of arcs ≡ message_bounds m
    → (arc : ℕ) → arc + 1 ≡ length new.graph.arcs → HasArcs new.graph m arc
arcs_of_message m old new arcs was is names arc last =
    let long : length new.graph.arcs ≡ length old.graph.arcs + length arcs = ap (λ (h : GraphLists). length h.arcs) is ∙ long_by old.graph arcs in
    subst (λ (h : GraphLists). HasArcs h m arc) (sym is) (all_came m old.graph was.set_up.graph.flags m.most arcs refl names arc (omega (arith, last, long)))

-- ---- a partner is told
module _ (r new : RosterLists) (v : ℕ) (inside : v < length r.came) (partner : Option Partner) (is : new ≡ record r { came = set r.came v (record (event_at r.came v) { partner = partner }) }) where
  abbrev e : Came
  e = event_at r.came v

  abbrev f : Came
  f = record e { partner = partner }

  at : slice_get r.came v ≡ Some e
  at = slice_get-get_or r.came v no_event inside

  came_is : new.came ≡ set r.came v f
  came_is = ap (λ (x : RosterLists). x.came) is

  pub told_here : slice_get new.came v ≡ Some (record (event_at r.came v) { partner = partner })
  told_here = ap (λ (cs : List Came). slice_get cs v) came_is ∙ set_here r.came v f inside

  pub told_other : (w : ℕ) → w ≢ v → slice_get new.came w ≡ slice_get r.came w
  told_other w other = ap (λ (cs : List Came). slice_get cs w) came_is ∙ set_elsewhere r.came v w f other

  pub retells : Retells r new
  retells = record {
    declaration = ap (λ (x : RosterLists). x.declaration) is;
    count = ap (λ (x : RosterLists). length x.came) is ∙ length-set r.came v f;
    events = λ w y there'. elim (cases_eq w v) [
      | inl same ↦ (
          let one : e ≡ y = same_Some e y (sym at ∙ ap (slice_get r.came) (sym same) ∙ there') in
          (f, ap (slice_get new.came) same ∙ told_here, ap (λ (x : Came). x.stamp) one, ap (λ (x : Came). x.label) one, ap (λ (x : Came). x.number) one, ap (λ (x : Came). x.node) one))
      | inr other ↦ (y, told_other w other ∙ there', refl, refl, refl, refl)
    ];
    readings = λ c s has. subst (λ (x : RosterLists). Contains (group_at x.readings c) s) (sym is) has;
    under = ap (λ (x : RosterLists). x.under) is;
    holds = λ seen holds. subst (λ (x : RosterLists). HoldsEvents x seen) (sym is) (holds_still r seen v f refl holds);
  }

  pub events_same : map (named_event new.declaration) new.came ≡ map (named_event r.declaration) r.came
  events_same = ap (λ (x : RosterLists). map (named_event x.declaration) x.came) is ∙ told_named r.declaration r.came v e f at refl

  pub was : (w : ℕ) (y : Came) → slice_get new.came w ≡ Some y → (x : Came) × (slice_get r.came w ≡ Some x) × (x.node ≡ y.node)
  was w y there' = elim (cases_eq w v) [
    | inl same ↦ (
        let one : f ≡ y = same_Some f y (sym told_here ∙ ap (slice_get new.came) (sym same) ∙ there') in
        (e, ap (slice_get r.came) same ∙ at, ap (λ (x : Came). x.node) one))
    | inr other ↦ (y, sym (told_other w other) ∙ there', refl)
  ]

  pub knows_same : (g h : GraphLists) → h.nodes ≡ g.nodes → KnowsNodes r g → KnowsNodes new h
  knows_same g h same knows = record {
    events = λ w y there'. (let back = was w y there' in
        ap (λ (ns : List Node). slice_get ns y.node) same ∙ ap (slice_get g.nodes) (sym back.2) ∙ knows.events w back.0 back.1);
    readings = λ c s has. ap (λ (ns : List Node). slice_get ns s.1) same ∙ knows.readings c s (subst (λ (x : RosterLists). Contains (group_at x.readings c) s) is has);
  }

-- an event that is a node of the graph is one of the roster
pub sent_inside : (r : RosterLists) (s : SolverLists) (entered : ℕ → Bool) (messages : List Message) (v : ℕ) → IsEntering entered messages r s → HasNode s.graph (nodes.Event v) → v < length r.came
sent_inside r s entered messages v way has =
    let x = way.grown.nodes (nodes.Event v) has in
    let inside : v < length (map (named_event r.declaration) r.came) = slice_get_within (map (named_event r.declaration) r.came) v x.0 x.1.0 in
    omega (arith, inside, length-map r.came (named_event r.declaration))

-- ---- a message comes
module _ (r new : RosterLists) (s s' : SolverLists) (m : Message) (arc : ℕ) (inside : m.send < length r.came)
    (is : new ≡ record r { came = set r.came m.send (record (event_at r.came m.send) { partner = Some (record { event = m.receive; arc = arc }) }) })
    (sent : HasNode s.graph (nodes.Event m.send)) (received : HasNode s.graph (nodes.Event m.receive)) (brings : Brings (message_bounds m) s s') (arcs : HasArcs s'.graph m arc)
    (left : (p : ProblemLists) (entered : ℕ → Bool) (rest : List Bound) → Contains p.messages m → IsGrowing p entered (message_bounds m ++ rest) s.graph → IsGrowing p entered rest s'.graph) where
  abbrev partner : Option Partner
  partner = Some (record { event = m.receive; arc = arc })

  module _ (entered : ℕ → Bool) (messages : List Message) (way : IsEntering entered messages r s) (fresh : (n : Message) → Contains messages n → n.send ≢ m.send) where
    abbrev p : ProblemLists
    p = problem_by_number r (m ∷ messages)

    growing : IsGrowing (problem_by_number r (m ∷ messages)) entered (message_bounds m) s.graph
    growing =
        with_messages r.declaration.clocks (follows_of r.declaration) (map (named_event r.declaration) r.came) messages (m ∷ messages) (message_bounds m) (λ n has. there m n messages has)
        (λ n has. elim (head_or_tail m n messages has) [ inl same ↦ inr (λ b among. subst (λ (x : Message). Contains (message_bounds x) b) (sym same) among) | inr more ↦ inl more ]) entered s.graph way.grown

    grown : IsGrownTo (problem_by_number r (m ∷ messages)) entered s'.graph
    grown = left p entered [] (here m messages) (subst (λ (bs : List Bound). IsGrowing p entered bs s.graph) (sym (none_behind (message_bounds m))) growing)

    problem_same : problem_by_number new (m ∷ messages) ≡ problem_by_number r (m ∷ messages)
    problem_same =
        ap (λ (es : List Event). let x : ProblemLists = record { clocks = new.declaration.clocks; follows = follows_of new.declaration; events = es; messages = m ∷ messages } in x) (events_same r new m.send inside partner is)
        ∙ ap (λ (x : RosterLists). let y : ProblemLists = record { clocks = x.declaration.clocks; follows = follows_of x.declaration; events = map (named_event r.declaration) r.came; messages = m ∷ messages } in y) is

    each_once : HasEachOnce [] s'.graph
    each_once =
        brings.once [] (subst (λ (bs : List Bound). HasEachOnce bs s.graph) (sym (none_behind (message_bounds m)))
        (message_once (problem_by_number r messages) entered s.graph way.grown m fresh way.once))

    still : (n : Message) (k : ℕ) → HasArcs s.graph n k → HasArcs s'.graph n k
    still n k has = record {
      on = (brings.stay k has.on).0;
      least = ap (λ (a : Arc). a.name) (brings.stay k has.on).1 ∙ has.least;
      most = λ w is_w. (let (j, next, on, name) = has.most w is_w in (j, next, (brings.stay j on).0, ap (λ (a : Arc). a.name) (brings.stay j on).1 ∙ name));
    }

    tells : KnowsMessages new (m ∷ messages) s'.graph
    tells = record {
      each = λ n has. elim (head_or_tail m n messages has) [
        | inl same ↦ subst (λ (x : Message). (y : Came) × (k : ℕ) × (slice_get new.came x.send ≡ Some y) × (y.partner ≡ Some (record { event = x.receive; arc = k })) × HasArcs s'.graph x k) same
            (record (event_at r.came m.send) { partner = partner }, arc, told_here r new m.send inside partner is, refl, arcs)
        | inr more ↦ (
            let (y, k, at, told, has') = way.tells.each n more in
            (y, k, told_other r new m.send inside partner is n.send (fresh n more) ∙ at, told, still n k has'))
      ];
      only = λ w y q at told. elim (cases_eq w m.send) [
        | inl same ↦ (
            let own : Came = record (event_at r.came m.send) { partner = partner } in
            let one : own ≡ y = same_Some own y (sym (told_here r new m.send inside partner is) ∙ ap (slice_get new.came) (sym same) ∙ at) in
            let both : partner ≡ Some q = ap (λ (x : Came). x.partner) one ∙ told in
            let event : m.receive ≡ q.event = ap (λ (x : Partner). x.event) (same_Some (record { event = m.receive; arc = arc }) q both) in
            (m, here m messages, sym same, event))
        | inr other ↦ (
            let (n, has, from, to) = way.tells.only w y q (sym (told_other r new m.send inside partner is w other) ∙ at) told in
            (n, there m n messages has, from, to))
      ];
    }

    there_was : (n : Node) → HasNode s'.graph n → HasNode s.graph n
    there_was n (k, at) = (k, ap (λ (ns : List Node). slice_get ns k) (sym brings.nodes) ∙ at)

    known_there : KnowsNodesThere new s'.graph
    known_there = record {
      events = λ w y at has. (
          let back = was r new m.send inside partner is w y at in
          ap (λ (ns : List Node). slice_get ns y.node) brings.nodes ∙ ap (slice_get s.graph.nodes) (sym back.2) ∙ way.knows.events w back.0 back.1 (there_was (nodes.Event w) has));
      readings = λ c t has stands.
          ap (λ (ns : List Node). slice_get ns t.1) brings.nodes
          ∙ way.knows.readings c t (subst (λ (x : RosterLists). Contains (group_at x.readings c) t) is has) (there_was (nodes.Reading c t.0) stands);
    }

    in_there : (v : ℕ) → HasNode s.graph (nodes.Event v) → entered v ≡ true
    in_there v has = let x = way.grown.nodes (nodes.Event v) has in x.1.1

    pub joined_way : IsEntering entered (m ∷ messages) new s'
    joined_way = record {
      current = brings.current;
      grown = subst (λ (x : ProblemLists). IsGrownTo x entered s'.graph) (sym problem_same) grown;
      once = each_once;
      knows = known_there;
      tells = tells;
      among = λ n has. elim (head_or_tail m n messages has) [
        | inl same ↦ subst (λ (x : Message). (entered x.send ≡ true) × (entered x.receive ≡ true)) same (in_there m.send sent, in_there m.receive received)
        | inr more ↦ way.among n more
      ];
    }

-- a roster that tells other messages knows the same nodes
pub keeps_told : (g : GraphLists) (old new : RosterLists) → Retells old new → KeepsNodesThere g old new
keeps_told g old new is = record {
  declaration = is.declaration;
  count = is.count;
  under = is.under;
  events = λ v e at has. is.events v e at;
  readings = λ c s has there'. is.readings c s has;
  holds = is.holds;
}
