-- Arcs and graphs of a problem with the weights that bounds have where it is widened.
use Rattle.std.proofs.Common.{◌≡◌, ◌<◌, ◌^◌, ◌+◌, ℕ, Bool, true, List, [], ◌∷◌, ◌++◌, length, length-append, append_assoc, map, take, get_or, slice_get, Some, refl, sym, ◌∙◌, ap, subst, arith}
use Rattle.std.specs.Prelude.{ℤ, All, Contains, unsigned_abs}
use Rattle.std.specs.List.{flat_map}
use Rattle.std.proofs.lemmas.Int.{ints}
use Rattle.std.proofs.lemmas.List.{map_push, get_or_default}
use Rattle.std.proofs.lemmas.Option.{slice_get_read}
use Rattle.std.proofs.lemmas.List.Elements.{All-nil, All-cons, All-head, All-tail, All-push, All-weaker}
use Rattle.problem_model.specs.declared.items.Bound.{Bound}
use Rattle.problem_model.specs.declared.items.Node.{Node}
use Rattle.problem_model.specs.Numbers.{IsUpTo}
use Rattle.problem_model.specs.Problem.{ProblemLists}
use Rattle.problem_model.specs.Nodes.{Reading, AreReadings}
use Rattle.problem_model.specs.ShortList.{short_list, span_bounds, event_bounds, follow_bounds, message_bounds}
use Rattle.problem_model.specs.ProblemArcs.{IsNodeAt}
use Rattle.sync_graph.specs.declared.arc.Arc.{Arc}
use Rattle.sync_graph.specs.Graph.{GraphLists, IsSound, arc_at, with_arc}
use Rattle.sync_graph.specs.Names.{IsNamed}
use Rattle.problem_graph.specs.Standing.{HasBounds, IsArcDeclared}
use Rattle.problem_graph.specs.HeldBounds.{HoldsShortList}
use Rattle.sync_graph.proofs.Copies.{front_more}
use Rattle.sync_graph.proofs.InForce.{no_arc}
use Rattle.attain.specs.Tight.{IsUnder}
use Rattle.cert_check.specs.declared.what.What.{What}
use Rattle.cert_check.specs.Widened.{widened}
use Rattle.cert_check.proofs.Widening.{readings_back, stamps_same, joining_same}
use Rattle.cert_check.proofs.Comparing.{ends_same, own_stamps}
use Rattle.widen.specs.Weighed.{IsNameOf, IsWeighed, unweighed}
use Rattle.widen.proofs.SameNodes.{nodes_same}

-- ---- sizes
pub abs_under : (w : ℤ) → unsigned_abs w < 2 ^ 93 → IsUnder 93 w
abs_under w small = (omega (arith, ints, small), omega (arith, ints, small))

pub abs_up : (w : ℤ) → unsigned_abs w < 2 ^ 93 → IsUpTo 93 w
abs_up w small = (omega (arith, ints, small), omega (arith, ints, small))

-- ---- an arc but for its weight
abbrev pub with_weight : ℤ → Arc → Arc
with_weight w a = record { from = a.from; to = a.to; weight = w; name = a.name }

pub reweighed : (a b : Arc) → unweighed b ≡ unweighed a → b ≡ with_weight b.weight a
reweighed a b same = ap (λ (u : ℕ × ℕ × Bound). record { from = u.0; to = u.1; weight = b.weight; name = u.2 }) same

pub name_same : (a b : Arc) → unweighed b ≡ unweighed a → b.name ≡ a.name
name_same a b same = ap (λ (u : ℕ × ℕ × Bound). u.2) same

pub named_as : (nodes : List Node) (a b : Arc) → unweighed b ≡ unweighed a → IsNamed nodes a → IsNamed nodes b
named_as nodes a b same named = subst (IsNamed nodes) (sym (reweighed a b same)) (record { tail = named.tail; head = named.head; from = named.from; to = named.to; joins = named.joins })

pub sound_as : (n : ℕ) (a b : Arc) → unweighed b ≡ unweighed a → IsSound n a → unsigned_abs b.weight < 2 ^ 93 → IsSound n b
sound_as n a b same sound small =
    let under = abs_under b.weight small in
    subst (IsSound n) (sym (reweighed a b same)) (record { from = sound.from; to = sound.to; low = under.0; high = under.1 })

-- ---- one arc after another
pub arcs_more : (arcs others : List Arc) (k : ℕ) (a b : Arc) → k < length arcs → a ≡ get_or arcs k a → map unweighed others ≡ map unweighed (take k arcs) → unweighed b ≡ unweighed a
    → map unweighed (others ++ b ∷ []) ≡ map unweighed (take (k + 1) arcs)
arcs_more arcs others k a b inside is so_far same =
    map_push unweighed others b
    ∙ ap (λ (us : List (ℕ × ℕ × Bound)). us ++ unweighed b ∷ []) so_far
    ∙ ap (λ (u : ℕ × ℕ × Bound). map unweighed (take k arcs) ++ u ∷ []) same
    ∙ sym (map_push unweighed (take k arcs) a)
    ∙ ap (map unweighed) (sym (front_more arcs k a (slice_get_read arcs (length arcs) k a refl inside is)))

-- so many of the arcs are in the new graph
pub record IsWeighedUpTo (q : ProblemLists) (k : ℕ) (g h : GraphLists) : Type 0 where
  pub nodes : h.nodes ≡ g.nodes
  pub same : map unweighed h.arcs ≡ map unweighed (take k g.arcs)
  pub weighed : All (IsWeighed q) h.arcs
  pub flags : h.in_force ≡ map (λ (a : Arc). true) h.arcs
  pub long : length h.arcs ≡ k

pub weighed_more : (q : ProblemLists) (k : ℕ) (g h : GraphLists) (b : Arc) → IsWeighedUpTo q k g h → k < length g.arcs → unweighed b ≡ unweighed (arc_at g.arcs k) → IsWeighed q b → IsWeighedUpTo q (k + 1) g (with_arc h b)
weighed_more q k g h b so_far inside same weighed = record {
  nodes = so_far.nodes;
  same = arcs_more g.arcs h.arcs k (arc_at g.arcs k) b inside (default_same g.arcs k (arc_at g.arcs k) inside) so_far.same same;
  weighed = All-push (IsWeighed q) h.arcs b so_far.weighed weighed;
  flags = ap (λ (flags : List Bool). flags ++ true ∷ []) so_far.flags ∙ sym (map_push (λ (a : Arc). true) h.arcs b);
  long = (let long = so_far.long in omega (arith, long, length-append h.arcs (b ∷ [])));
}
  where
    default_same : (xs : List Arc) (j : ℕ) (d : Arc) → j < length xs → arc_at xs j ≡ get_or xs j d
    default_same xs j d within = get_or_default xs j no_arc d within

-- ---- bounds
pub head_same : {X : Type 0} (x y : X) (xs ys : List X) → x ∷ xs ≡ y ∷ ys → x ≡ y
head_same x y xs ys e = cc

pub tail_same : {X : Type 0} (x y : X) (xs ys : List X) → x ∷ xs ≡ y ∷ ys → xs ≡ ys
tail_same x y xs ys e = cc

names_of : (arcs : List Arc) → map (λ (a : Arc). a.name) arcs ≡ map (λ (u : ℕ × ℕ × Bound). u.2) (map unweighed arcs)
names_of [] = refl
names_of (a ∷ arcs) = ap (λ (rest : List Bound). a.name ∷ rest) (names_of arcs)

module _ (what : What) (p : ProblemLists) (e : ℕ) (readings : List Reading) where
  abbrev q : ProblemLists
  q = widened what p e

  node_on : (place : ℕ) (m n : Node) → m ≡ n → IsNodeAt p readings place m → IsNodeAt q readings place n
  node_on place m n same at = ap (λ (ns : List Node). slice_get ns place) (nodes_same what p e readings) ∙ at ∙ ap Some same

  arc_declared : (a : Arc) (w : ℤ) → IsArcDeclared p readings a → IsWeighed q (with_weight w a) → IsArcDeclared q readings (with_weight w a)
  arc_declared a w (c, declares, arc) (d, declares', weighs) =
      let ends = ends_same p q (own_stamps what p e) a.name c d declares declares' in (
        d,
        declares',
        record {
          tail = node_on a.from c.from d.from ends.0 arc.tail;
          head = node_on a.to c.to d.to ends.1 arc.head;
          weighs = sym weighs;
        },
      )

  all_declared : (gs hs : List Arc) → map unweighed hs ≡ map unweighed gs → All (IsArcDeclared p readings) gs → All (IsWeighed q) hs → All (IsArcDeclared q readings) hs
  all_declared [] [] same declared weighed = All-nil (IsArcDeclared q readings)
  all_declared [] (b ∷ hs) same declared weighed = absurd cc
  all_declared (a ∷ gs) [] same declared weighed = absurd cc
  all_declared (a ∷ gs) (b ∷ hs) same declared weighed =
      let one : unweighed b ≡ unweighed a = head_same (unweighed b) (unweighed a) (map unweighed hs) (map unweighed gs) same in
      let rest = tail_same (unweighed b) (unweighed a) (map unweighed hs) (map unweighed gs) same in
      let is = reweighed a b one in
      All-cons (IsArcDeclared q readings) b hs
      (subst (IsArcDeclared q readings) (sym is) (arc_declared a b.weight (All-head (IsArcDeclared p readings) a gs declared) (subst (IsWeighed q) is (All-head (IsWeighed q) b hs weighed))))
      (all_declared gs hs rest (All-tail (IsArcDeclared p readings) a gs declared) (All-tail (IsWeighed q) b hs weighed))

  bounds_on : (bounds : List Bound) (g h : GraphLists) → HasBounds p readings bounds g → h.nodes ≡ g.nodes → map unweighed h.arcs ≡ map unweighed g.arcs → All (IsWeighed q) h.arcs → h.in_force ≡ map (λ (a : Arc). true) h.arcs
      → HasBounds q readings bounds h
  bounds_on bounds g h has nodes same weighed in_force = record {
    nodes_are = nodes ∙ has.nodes_are ∙ sym (nodes_same what p e readings);
    all_in_force = in_force;
    named = names_of h.arcs ∙ ap (map (λ (u : ℕ × ℕ × Bound). u.2)) same ∙ sym (names_of g.arcs) ∙ has.named;
    declared = all_declared g.arcs h.arcs same has.declared weighed;
  }

  -- a widened problem has the short list of the problem
  same_short_list : short_list q readings ≡ short_list p readings
  same_short_list =
      ap (λ (bounds : List Bound). span_bounds readings ++ bounds ++ follow_bounds q.follows readings 0 q.clocks ++ flat_map message_bounds q.messages) (stamps_same what e p.events)
      ∙ append_assoc (span_bounds readings ++ event_bounds 0 p.events) (follow_bounds q.follows readings 0 q.clocks) (flat_map message_bounds q.messages)
      ∙ ap (λ (bounds : List Bound). span_bounds readings ++ event_bounds 0 p.events ++ bounds) (joining_same what p e readings)
      ∙ sym (append_assoc (span_bounds readings ++ event_bounds 0 p.events) (follow_bounds p.follows readings 0 p.clocks) (flat_map message_bounds p.messages))

pub holds_weighed : (what : What) (p : ProblemLists) (e : ℕ) (g h : GraphLists) → HoldsShortList p g → h.nodes ≡ g.nodes → map unweighed h.arcs ≡ map unweighed g.arcs → All (IsWeighed (widened what p e)) h.arcs → h.in_force ≡ map (λ (a : Arc). true) h.arcs
    → HoldsShortList (widened what p e) h
holds_weighed what p e g h holds nodes same weighed in_force readings are =
    let held = holds readings (readings_back what p e readings are) in (
      held.0,
      subst (All (Contains held.0)) (sym (same_short_list what p e readings)) held.1,
      bounds_on what p e readings held.0 g h held.2 nodes same weighed in_force,
    )

-- the arcs of a graph of the problem have names of its bounds
pub names_held : (p : ProblemLists) (readings : List Reading) (g : GraphLists) → AreReadings p readings → HoldsShortList p g → All (IsNameOf p) g.arcs
names_held p readings g are holds = All-weaker (IsArcDeclared p readings) (IsNameOf p) (λ a declared. (declared.0, declared.1)) g.arcs (holds readings are).2.declared
