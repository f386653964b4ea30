-- Names that are told by kinds and nodes.
use Rattle.std.proofs.Common.{◌≡◌, ℕ, zero, suc, ◌<◌, List, [], ◌∷◌, ◌++◌, length, map, get_or, drop, slice_get, Some, refl, ap, sym, ◌∙◌, subst, arith, ℤ, pos}
use Rattle.std.specs.Prelude.{All}
use Rattle.std.proofs.lemmas.List.{get_or_append_left, get_or-map, length-map}
use Rattle.std.proofs.lemmas.Option.{get_or_from_slice_get}
use Rattle.problem_model.specs.declared.items.Node.{Node}
use Rattle.problem_model.specs.declared.items.Node.TheVariants as nodes
use Rattle.problem_model.specs.declared.items.Bound.{Bound}
use Rattle.problem_model.specs.declared.items.Bound.TheVariants as bounds
use Rattle.sync_graph.specs.declared.arc.Arc.{Arc}
use Rattle.sync_graph.specs.declared.arcs.Ends.{Ends}
use Rattle.sync_graph.specs.declared.arcs.Kind.{Kind}
use Rattle.sync_graph.specs.declared.arcs.Kind.TheVariants as kinds
use Rattle.sync_graph.specs.declared.arcs.KindArc.{KindArc}
use Rattle.sync_graph.specs.Names.{JoinsNodes, IsNamed}
use Rattle.sync_graph.specs.Kinds.{bound_kind, name_between, place_of_node, clock_of_node, stamp_of_node, of_kind, node_at, named_arc, named_arcs, joined}
use Rattle.sync_graph.specs.Graph.{IsSound}

-- a bound's name is that of its kind between its nodes
pub name_back : (name : Bound) (m n : Node) → JoinsNodes name m n → name_between (bound_kind name) m n ≡ name
name_back (bounds.SpanMost clock s t) m n (e, f) = ap (λ v. bounds.SpanMost (clock_of_node v) (stamp_of_node v) (stamp_of_node n)) e ∙ ap (λ v. bounds.SpanMost clock s (stamp_of_node v)) f
name_back (bounds.SpanLeast clock s t) m n (e, f) = ap (λ v. bounds.SpanLeast (clock_of_node v) (stamp_of_node n) (stamp_of_node v)) e ∙ ap (λ v. bounds.SpanLeast clock (stamp_of_node v) t) f
name_back (bounds.Late e) m n (clock, stamp, from, to) = ap (λ v. bounds.Late (place_of_node v)) to
name_back (bounds.Early e) m n (clock, stamp, from, to) = ap (λ v. bounds.Early (place_of_node v)) from
name_back (bounds.Follow c s d t) m n (e, f) = ap (λ v. bounds.Follow (clock_of_node n) (stamp_of_node n) (clock_of_node v) (stamp_of_node v)) e ∙ ap (λ v. bounds.Follow (clock_of_node v) (stamp_of_node v) d t) f
name_back (bounds.DelayMost send receive) m n (e, f) = ap (λ v. bounds.DelayMost (place_of_node v) (place_of_node n)) e ∙ ap (λ v. bounds.DelayMost send (place_of_node v)) f
name_back (bounds.DelayLeast send receive) m n (e, f) = ap (λ v. bounds.DelayLeast (place_of_node n) (place_of_node v)) e ∙ ap (λ v. bounds.DelayLeast (place_of_node v) receive) f

-- so an arc is had back from its kind
pub arc_back : (all : List Node) (a : Arc) → IsNamed all a → named_arc all (of_kind a) ≡ a
arc_back all a is =
    let from : node_at all a.from ≡ is.tail = get_or_from_slice_get all a.from is.tail (nodes.Event 0) is.from in
    let to : node_at all a.to ≡ is.head = get_or_from_slice_get all a.to is.head (nodes.Event 0) is.to in
    let e : name_between (bound_kind a.name) (node_at all a.from) (node_at all a.to) ≡ a.name =
    ap (λ m. name_between (bound_kind a.name) m (node_at all a.to)) from ∙ ap (name_between (bound_kind a.name) is.tail) to ∙ name_back a.name is.tail is.head is.joins in
    ap (λ name. record { from = a.from; to = a.to; weight = a.weight; name = name }) e

map_end : {X Y : Type 0} (f : X → Y) (xs : List X) (x : X) → map f (xs ++ x ∷ []) ≡ map f xs ++ f x ∷ []
map_end f [] x = refl
map_end f (y ∷ xs) x = ap (λ v. f y ∷ v) (map_end f xs x)

pub arcs_more : (all : List Node) (arcs : List KindArc) (a : Arc) → IsNamed all a → named_arcs all (arcs ++ of_kind a ∷ []) ≡ named_arcs all arcs ++ a ∷ []
arcs_more all arcs a is = map_end (named_arc all) arcs (of_kind a) ∙ ap (λ v. named_arcs all arcs ++ v ∷ []) (arc_back all a is)

-- a node more changes no name
map_same : {X Y : Type 0} (f g : X → Y) (d : X) (xs : List X) → ((k : ℕ) → k < length xs → f (get_or xs k d) ≡ g (get_or xs k d)) → map f xs ≡ map g xs
map_same f g d [] same = refl
map_same f g d (x ∷ xs) same = ap (λ v. v ∷ map f xs) (same 0 (omega arith)) ∙ ap (λ v. g x ∷ v) (map_same f g d xs (λ k l. same (suc k) (omega (arith, l))))

abbrev pub no_kind : KindArc
no_kind = record { from = 0; to = 0; weight = pos 0; kind = kinds.Late }

pub arcs_same : (all : List Node) (n : Node) (arcs : List KindArc) → All (IsSound (length all)) (named_arcs all arcs) → named_arcs (all ++ n ∷ []) arcs ≡ named_arcs all arcs
arcs_same all n arcs sound = map_same (named_arc (all ++ n ∷ [])) (named_arc all) no_kind arcs (λ k l.
    let a : KindArc = get_or arcs k no_kind in
    let is : get_or (named_arcs all arcs) k (named_arc all no_kind) ≡ named_arc all a = get_or-map (named_arc all) arcs k no_kind (named_arc all no_kind) l in
    let s : IsSound (length all) (named_arc all a) = subst (IsSound (length all)) is (sound k (named_arc all no_kind) (omega (arith, length-map arcs (named_arc all), l))) in
    let from : node_at (all ++ n ∷ []) a.from ≡ node_at all a.from = get_or_append_left all (n ∷ []) (nodes.Event 0) a.from s.from in
    let to : node_at (all ++ n ∷ []) a.to ≡ node_at all a.to = get_or_append_left all (n ∷ []) (nodes.Event 0) a.to s.to in
    ap (λ m. record { from = a.from; to = a.to; weight = a.weight; name = name_between a.kind m (node_at (all ++ n ∷ []) a.to) }) from
    ∙ ap (λ m. record { from = a.from; to = a.to; weight = a.weight; name = name_between a.kind (node_at all a.from) m }) to)

-- ---- three lists
pub length-joined : (es : List Ends) (ws : List ℤ) (ks : List Kind) → length (joined es ws ks) ≡ length es
length-joined [] ws ks = refl
length-joined (e ∷ es) ws ks = ap suc (length-joined es (drop 1 ws) (drop 1 ks))

pub joined_more : (es : List Ends) (ws : List ℤ) (ks : List Kind) (e : Ends) (w : ℤ) (k : Kind) → length ws ≡ length es → length ks ≡ length es
    → joined (es ++ e ∷ []) (ws ++ w ∷ []) (ks ++ k ∷ []) ≡ joined es ws ks ++ record { from = e.from; to = e.to; weight = w; kind = k } ∷ []
joined_more [] [] [] e w k lw lk = refl
joined_more [] (x ∷ ws) ks e w k lw lk = absurd (omega (arith, lw))
joined_more [] [] (y ∷ ks) e w k lw lk = absurd (omega (arith, lk))
joined_more (d ∷ es) [] ks e w k lw lk = absurd (omega (arith, lw))
joined_more (d ∷ es) (x ∷ ws) [] e w k lw lk = absurd (omega (arith, lk))
joined_more (d ∷ es) (x ∷ ws) (y ∷ ks) e w k lw lk =
    ap (λ v. record { from = d.from; to = d.to; weight = x; kind = y } ∷ v) (joined_more es ws ks e w k (omega (arith, lw)) (omega (arith, lk)))

joined_at : (es : List Ends) (ws : List ℤ) (ks : List Kind) (i : ℕ) (a : KindArc) (e : Ends) (w : ℤ) (k : Kind) → length ws ≡ length es → length ks ≡ length es → i < length es
    → e ≡ get_or es i e → w ≡ get_or ws i w → k ≡ get_or ks i k → get_or (joined es ws ks) i a ≡ record { from = e.from; to = e.to; weight = w; kind = k }
joined_at [] ws ks i a e w k lw lk l ee ew ek = absurd (omega (arith, l))
joined_at (d ∷ es) [] ks i a e w k lw lk l ee ew ek = absurd (omega (arith, lw))
joined_at (d ∷ es) (x ∷ ws) [] i a e w k lw lk l ee ew ek = absurd (omega (arith, lk))
joined_at (d ∷ es) (x ∷ ws) (y ∷ ks) zero a e w k lw lk l ee ew ek =
    ap (λ (v : Ends). record { from = v.from; to = v.to; weight = x; kind = y }) (sym ee)
    ∙ ap (λ v. record { from = e.from; to = e.to; weight = v; kind = y }) (sym ew)
    ∙ ap (λ v. record { from = e.from; to = e.to; weight = w; kind = v }) (sym ek)
joined_at (d ∷ es) (x ∷ ws) (y ∷ ks) (suc i) a e w k lw lk l ee ew ek = joined_at es ws ks i a e w k (omega (arith, lw)) (omega (arith, lk)) (omega (arith, l)) ee ew ek

pub got : (es : List Ends) (ws : List ℤ) (ks : List Kind) (now : List KindArc) (i : ℕ) (e : Ends) (w : ℤ) (k : Kind) → length ws ≡ length es → length ks ≡ length es → joined es ws ks ≡ now → i < length now
    → e ≡ get_or es i e → w ≡ get_or ws i w → k ≡ get_or ks i k
    → (a : KindArc) → a ≡ record { from = e.from; to = e.to; weight = w; kind = k } → a ≡ get_or now i a
got es ws ks now i e w k lw lk en l ee ew ek a is =
    is ∙ sym (ap (λ v. get_or v i a) (sym en) ∙ joined_at es ws ks i a e w k lw lk (omega (arith, ap length en, length-joined es ws ks, l)) ee ew ek)

-- ---- an arc that is there
module _ (all : List Node) (arcs : List KindArc) (k : ℕ) (a : KindArc) (sound : All (IsSound (length all)) (named_arcs all arcs)) (named : All (IsNamed all) (named_arcs all arcs)) (inside : k < length (named_arcs all arcs)) (at : a ≡ get_or arcs k a) where
  here : get_or (named_arcs all arcs) k (named_arc all a) ≡ named_arc all a
  here = get_or-map (named_arc all) arcs k a (named_arc all a) (omega (arith, length-map arcs (named_arc all), inside)) ∙ ap (named_arc all) (sym at)

  pub arc_sound : IsSound (length all) (named_arc all a)
  arc_sound = subst (IsSound (length all)) here (sound k (named_arc all a) inside)

  pub arc_joins : (m n : Node) → slice_get all a.from ≡ Some m → slice_get all a.to ≡ Some n → JoinsNodes (name_between a.kind m n) m n
  arc_joins m n from to =
      let is : IsNamed all (named_arc all a) = subst (IsNamed all) here (named k (named_arc all a) inside) in
      let em : is.tail ≡ m = same_some is.tail m (sym is.from ∙ from) in
      let en : is.head ≡ n = same_some is.head n (sym is.to ∙ to) in
      let fm : node_at all a.from ≡ m = get_or_from_slice_get all a.from m (nodes.Event 0) from in
      let fn : node_at all a.to ≡ n = get_or_from_slice_get all a.to n (nodes.Event 0) to in
      let j : JoinsNodes (name_between a.kind (node_at all a.from) (node_at all a.to)) is.tail is.head = is.joins in
      subst (λ v. JoinsNodes (name_between a.kind m n) m v) en
      (subst (λ v. JoinsNodes (name_between a.kind m n) v is.head) em
      (subst (λ v. JoinsNodes (name_between a.kind m v) is.tail is.head) fn
      (subst (λ v. JoinsNodes (name_between a.kind v (node_at all a.to)) is.tail is.head) fm j)))
    where
      same_some : {X : Type 0} (x y : X) → Some x ≡ Some y → x ≡ y
      same_some x y e = cc
