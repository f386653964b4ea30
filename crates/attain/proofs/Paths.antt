-- Paths along parents, as they are written step by step.
use Rattle.std.proofs.Common.{◌≡◌, ◌<◌, ◌≤◌, ◌+◌, ℕ, zero, suc, Bool, true, false, List, [], ◌∷◌, length, Result, Ok, Err, slice_index_or, inl, inr, refl, ap, sym, ◌∙◌, subst, arith}
use Rattle.std.specs.Prelude.{ℤ, IsErr}
use Rattle.std.specs.List.{flat_map}
use Rattle.std.proofs.lemmas.Bool.{cases_lt}
use Rattle.problem_model.specs.declared.items.Bound.{Bound}
use Rattle.ports.specs.Content.{SinkTold, Writes}
use Rattle.ports.specs.declared.failed.Failed.{Failed}
use Rattle.ports.proofs.Writing.{Leaves, leaves_all, leaves_less, leaves_cut, leaves_none}
use Rattle.problem_model.specs.Parents.{Cells, LeadsBack, IsRow}
use Rattle.sync_graph.specs.declared.arc.Arc.{Arc}
use Rattle.sync_graph.specs.Graph.{GraphLists, arc_at}
use Rattle.problem.specs.Listing.{Listed}
use Rattle.cert.specs.Listed.{listed_step}
use Rattle.attain.specs.declared.side.Side.{Side}
use Rattle.attain.specs.declared.side.Side.TheVariants.{Upper, Lower}
use Rattle.attain.specs.Written.{next_node, NamesParents}
use Rattle.attain.specs.Sides.{is_upper, facing}

-- the names and weights of so many parents' arcs from node k on
abbrev pub chain : Bool → GraphLists → Cells → ℕ → ℕ → List (Bound × ℤ)
chain outward g c zero k = []
chain outward g c (suc n) k = ((arc_at g.arcs (c.parent k)).name, (arc_at g.arcs (c.parent k)).weight) ∷ chain outward g c n (next_node outward (arc_at g.arcs (c.parent k)))

tail_is : (side : Side) (g : GraphLists) (j : ℕ) → ((facing side g).arc j).from ≡ next_node (is_upper side) (arc_at g.arcs j)
tail_is Upper g j = refl
tail_is Lower g j = refl

force_is : (side : Side) (g : GraphLists) (j : ℕ) → (facing side g).in_force j ≡ slice_index_or g.in_force j false
force_is Upper g j = refl
force_is Lower g j = refl

module _ (side : Side) (g : GraphLists) (p : ℕ) (c : Cells) where
  -- what the first of more steps back is
  back_first : (n k : ℕ) → LeadsBack (facing side g) p c (suc n) k
      → (slice_index_or g.in_force (c.parent k) false ≡ true) × (c.known (next_node (is_upper side) (arc_at g.arcs (c.parent k))) ≡ true)
      × LeadsBack (facing side g) p c n (next_node (is_upper side) (arc_at g.arcs (c.parent k)))
  back_first n k (away, tight, rest) = (
    sym (force_is side g (c.parent k)) ∙ tight.in_force,
    ap c.known (sym (tail_is side g (c.parent k))) ∙ tight.tail_known,
    subst (LeadsBack (facing side g) p c n) (tail_is side g (c.parent k)) rest,
  )

  pub chain_follows : (n k : ℕ) → LeadsBack (facing side g) p c n k → NamesParents (is_upper side) g c p k (chain (is_upper side) g c n k)
  chain_follows zero k back = back
  chain_follows (suc n) k back =
      let first = back_first n k back in
      (first.0, refl, chain_follows n (next_node (is_upper side) (arc_at g.arcs (c.parent k))) first.2)

  pub chain_length : (n k : ℕ) → length (chain (is_upper side) g c n k) ≡ n
  chain_length zero k = refl
  chain_length (suc n) k = ap suc (chain_length n (next_node (is_upper side) (arc_at g.arcs (c.parent k))))

  pub known_within : (k : ℕ) → IsRow (length g.nodes) (facing side g) p c → c.known k ≡ true → k < length g.nodes
  known_within k row known = elim (cases_lt k (length g.nodes)) [ inl below ↦ below | inr past ↦ absurd (let unknown : c.known k ≡ false = row.past k past in let z : ⊥ = cc in z) ]

  -- there is a path from each known node
  pub path_of : (q : ℕ) → IsRow (length g.nodes) (facing side g) p c → c.known q ≡ true → (steps : List (Bound × ℤ)) × NamesParents (is_upper side) g c p q steps × (length steps < length g.nodes)
  path_of q row known =
      let back = row.back q known in
      let few = back.1 in
      let same = chain_length back.0 q in
      (chain (is_upper side) g c back.0 q, chain_follows back.0 q back.2, omega (arith, same, few))

-- the steps so far are written, and those from this node on are left
pub record IsOnPath (l : Listed) (side : Side) (g : GraphLists) (c : Cells) (p q : ℕ) (old : SinkTold) (node count : ℕ) (now : SinkTold) : Type 0 where
  pub total : ℕ
  pub whole : LeadsBack (facing side g) p c total q
  pub short : total < length g.nodes
  pub left : ℕ
  pub back : LeadsBack (facing side g) p c left node
  pub counted : left + count ≡ total
  pub known : c.known node ≡ true
  pub leaves : Leaves old now (flat_map (listed_step l) (chain (is_upper side) g c left node)) (flat_map (listed_step l) (chain (is_upper side) g c total q))

module _ (l : Listed) (side : Side) (g : GraphLists) (c : Cells) (p q : ℕ) (old : SinkTold) where
  pub path_starts : IsRow (length g.nodes) (facing side g) p c → c.known q ≡ true → IsOnPath l side g c p q old q 0 old
  path_starts row known =
      let back = row.back q known in
      record {
        total = back.0;
        whole = back.2;
        short = back.1;
        left = back.0;
        back = back.2;
        counted = omega arith;
        known = known;
        leaves = leaves_all old (flat_map (listed_step l) (chain (is_upper side) g c back.0 q));
      }

  -- some steps follow parents all the way, and this became of their lines
  abbrev pub HasPathWritten : SinkTold → Result (Unit {0}) Failed → Type 0
  HasPathWritten new r = (steps : List (Bound × ℤ)) × NamesParents (is_upper side) g c p q steps × (length steps < length g.nodes) × Writes (flat_map (listed_step l) steps) old new r

  whole_written : (total : ℕ) (new : SinkTold) (r : Result (Unit {0}) Failed) → LeadsBack (facing side g) p c total q → total < length g.nodes
      → Writes (flat_map (listed_step l) (chain (is_upper side) g c total q)) old new r → HasPathWritten new r
  whole_written total new r whole short written = (
    chain (is_upper side) g c total q,
    chain_follows side g p c total q whole,
    let same = chain_length side g p c total q in omega (arith, same, short),
    written,
  )

  pub path_ends : (node count : ℕ) (now : SinkTold) → IsOnPath l side g c p q old node count now → node ≡ p → HasPathWritten now (Ok tt)
  path_ends node count now on home = whole_written on.total now (Ok tt) on.whole on.short (none_left on.left on.back on.leaves)
    where
      none_left : (left : ℕ) → LeadsBack (facing side g) p c left node → Leaves old now (flat_map (listed_step l) (chain (is_upper side) g c left node)) (flat_map (listed_step l) (chain (is_upper side) g c on.total q))
          → Writes {A = Unit {0}} {E = Failed} (flat_map (listed_step l) (chain (is_upper side) g c on.total q)) old now (Ok tt)
      none_left zero back leaves = leaves_none leaves
      none_left (suc left) (away, tight, rest) leaves = absurd (away home)

  pub path_past : (node count : ℕ) (now : SinkTold) → IsOnPath l side g c p q old node count now → length g.nodes ≤ count → ⊥
  path_past node count now on past =
      let short = on.short in
      let counted = on.counted in
      omega (arith, short, counted, past)

  -- the step from a node that is not the last one
  pub record IsStepFrom (node count : ℕ) (now : SinkTold) (a : Arc) : Type 0 where
    pub in_force : slice_index_or g.in_force (c.parent node) false ≡ true
    pub on : (mid : SinkTold) (v : Unit {0}) → Writes {A = Unit {0}} {E = Failed} (listed_step l (a.name, a.weight)) now mid (Ok v) → IsOnPath l side g c p q old (next_node (is_upper side) a) (count + 1) mid
    pub cut : (new : SinkTold) (e : Failed) (r : Result (Unit {0}) Failed) → IsErr r → Writes {A = Unit {0}} {E = Failed} (listed_step l (a.name, a.weight)) now new (Err e) → HasPathWritten new r

  pub step_from : (node count : ℕ) (now : SinkTold) → IsOnPath l side g c p q old node count now → (node ≡ p → ⊥) → IsStepFrom node count now (arc_at g.arcs (c.parent node))
  step_from node count now on away = by_left on.left on.back on.counted on.leaves
    where
      by_left : (left : ℕ) → LeadsBack (facing side g) p c left node → left + count ≡ on.total
          → Leaves old now (flat_map (listed_step l) (chain (is_upper side) g c left node)) (flat_map (listed_step l) (chain (is_upper side) g c on.total q))
          → IsStepFrom node count now (arc_at g.arcs (c.parent node))
      by_left zero back counted leaves = absurd (away back)
      by_left (suc left) back counted leaves =
          let a = arc_at g.arcs (c.parent node) in
          let first = back_first side g p c left node back in
          let rest = flat_map (listed_step l) (chain (is_upper side) g c left (next_node (is_upper side) a)) in
          record {
            in_force = first.0;
            on = λ mid v written. record {
              total = on.total;
              whole = on.whole;
              short = on.short;
              left = left;
              back = first.2;
              counted = omega (arith, counted);
              known = first.1;
              leaves = leaves_less leaves written;
            };
            cut = λ new e r failed written. whole_written on.total new r on.whole on.short (leaves_cut rest leaves failed written);
          }
