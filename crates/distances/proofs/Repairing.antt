-- A row before an arc more.
use Rattle.std.proofs.Common.{◌≡◌, ℕ, ◌*◌, ◌^◌, ◌<◌, ◌≤◌, true, false, List, sym, subst, ap, ◌∙◌, arith}
use Rattle.std.specs.Prelude.{◌+◌, ℤ, pos, neg_ℤ, ◌+ℤ◌, ◌-ℤ◌, ◌≤ℤ◌}
use Rattle.std.proofs.lemmas.Int.{ints}
use Rattle.row_pool.specs.declared.cell.Cell.{Cell}
use Rattle.problem_model.specs.Numbers.{IsUpTo}
use Rattle.problem_model.specs.Parents.{LeadsBack, IsRow}
use Rattle.problem_model.specs.RowPops.{IsCandidate}
use Rattle.problem_model.specs.Tables.{without}
use Rattle.problem_model.specs.Limits.{path_bits}
use Rattle.problem_model.proofs.Heights.{height_low}
use Rattle.problem_model.proofs.Parents.{chain_bound, row_high}
use Rattle.problem_model.proofs.RowStarts.{arc_candidate, arc_from_unknown}
use Rattle.problem_model.proofs.Tables.{without_force, obeys_without}
use Rattle.sync_graph.specs.Graph.{arc_at}
use Rattle.row_pool.specs.Row.{cell_at, cells_of}
use Rattle.distances.specs.Facing.{opposite, end_of}
use Rattle.distances.specs.Searched.{Searched, IsSearch, IsPartRow, IsStart, nodes, table, height}
use Rattle.distances.proofs.Directions.{facing_from, facing_from_within, facing_within, facing_light, facing_not_light, potential_small}
use Rattle.distances.proofs.Searching.{search_small, search_obeyed}

high_enough : (v : ℤ) (n : ℕ) → v ≤ℤ pos n → n ≤ 2 ^ path_bits → v ≤ℤ pos (2 ^ path_bits)
high_enough v n h l = omega (arith, ints)

high_117 : (v : ℤ) → v ≤ℤ pos (2 ^ path_bits) → v ≤ℤ pos (2 ^ (path_bits + 2))
high_117 v h = omega (arith, ints)

between : (v a b : ℤ) → IsUpTo path_bits a → IsUpTo path_bits b → (a -ℤ b) ≤ℤ v → v ≤ℤ pos (2 ^ path_bits) → IsUpTo (path_bits + 1) v
between v a b ua ub l h = (omega (arith, ints, ua.0, ub.1), omega (arith, ints))

between_118 : (v : ℤ) → IsUpTo (path_bits + 1) v → IsUpTo (path_bits + 3) v
between_118 v u = (omega (arith, ints, u.0), omega (arith, ints, u.1))

one_arc_more : (v w s : ℤ) → IsUpTo (path_bits + 1) v → neg_ℤ (pos (2 ^ 93)) ≤ℤ w → w ≤ℤ pos (2 ^ 93) → s ≡ v +ℤ w → IsUpTo (path_bits + 2) s
one_arc_more v w s u l h e = (omega (arith, ints, u.0), omega (arith, ints, u.1))

module _ (s : Searched) (ok : IsSearch s) (arc p : ℕ) (row : List Cell)
    (f : (table s).in_force arc ≡ true)
    (r : IsRow (nodes s) (without (table s) arc) p (cells_of row))
  where
    known_high : (k : ℕ) → (cell_at row k).known ≡ true → (cell_at row k).value ≤ℤ pos (2 ^ path_bits)
    known_high k h = high_enough (cell_at row k).value (nodes s * 2 ^ 93)
        (row_high (nodes s) (without (table s) arc) p (cells_of row) (2 ^ 93) r (λ j fj. facing_light s.side s.graph ok.graph j (without_force (table s) arc j fj)) k h)
        (height_low (nodes s) ok.graph.node_limit)

    known_low : (k : ℕ) → (cell_at row k).known ≡ true → (height s k -ℤ height s p) ≤ℤ (cell_at row k).value
    known_low k h =
        let b : (n : ℕ) × (n < nodes s) × LeadsBack (without (table s) arc) p (cells_of row) n k = r.back k h in
        chain_bound (without (table s) arc) p (cells_of row) (height s) (obeys_without (table s) arc (height s) (search_obeyed s ok)) r.own.1 b.0 k b.2

    known_small : (k : ℕ) → (cell_at row k).known ≡ true → IsUpTo (path_bits + 1) (cell_at row k).value
    known_small k h = between (cell_at row k).value (height s k) (height s p) (potential_small s.side s.values (search_small s ok) k) (potential_small s.side s.values (search_small s ok) p) (known_low k h) (known_high k h)

    -- the row without the arc may be settled
    pub part_before : IsPartRow s row
    part_before = record { low = λ k h. high_117 (cell_at row k).value (known_high k h); past = r.past }

    -- the node from which the arc is followed
    module _ (tail : ℕ) (et : tail ≡ end_of (opposite s.side) (arc_at s.graph.arcs arc)) where
      tail_is : tail ≡ ((table s).arc arc).from
      tail_is = et ∙ sym (facing_from s.side s.graph arc)

      pub tail_within : tail < nodes s
      tail_within = subst (λ n. n < nodes s) (sym tail_is) (facing_from_within s.side s.graph ok.graph arc f)

      -- without a distance the arc changes nothing
      pub same_row : (cell_at row tail).known ≡ false → IsRow (nodes s) (table s) p (cells_of row)
      same_row h = arc_from_unknown (nodes s) (table s) p arc (cells_of row) r (subst (λ n. (cell_at row n).known ≡ false) tail_is h)

      module _ (h : (cell_at row tail).known ≡ true) where
        pub tail_small : IsUpTo (path_bits + 3) (cell_at row tail).value
        tail_small = between_118 (cell_at row tail).value (known_small tail h)

        -- what the arc brings
        pub start_along : (base : ℤ) (node parent : ℕ) (distance : ℤ) → base ≡ (cell_at row tail).value
            → node ≡ ((table s).arc arc).to → distance ≡ base +ℤ ((table s).arc arc).weight → parent ≡ arc
            → IsStart s p row node distance parent
        start_along base node parent distance eb en e ep =
            let ed : distance ≡ (cell_at row tail).value +ℤ ((table s).arc arc).weight = e ∙ ap (λ b. b +ℤ ((table s).arc arc).weight) eb in
            let h1 : (cell_at row ((table s).arc arc).from).known ≡ true = subst (λ n. (cell_at row n).known ≡ true) tail_is h in
            let e1 : distance ≡ (cell_at row ((table s).arc arc).from).value +ℤ ((table s).arc arc).weight = subst (λ n. distance ≡ (cell_at row n).value +ℤ ((table s).arc arc).weight) tail_is ed in
            record {
              within = subst (λ n. n < nodes s) (sym en) (facing_within s.side s.graph ok.graph arc f);
              small = one_arc_more (cell_at row tail).value ((table s).arc arc).weight distance (known_small tail h) (facing_not_light s.side s.graph ok.graph arc f) (facing_light s.side s.graph ok.graph arc f) ed;
              brings =
                  subst (λ i. IsCandidate (table s) p (cells_of row) node distance i) (sym ep)
                  (subst (λ v. IsCandidate (table s) p (cells_of row) node v arc) (sym e1)
                  (subst (λ n. IsCandidate (table s) p (cells_of row) n ((cell_at row ((table s).arc arc).from).value +ℤ ((table s).arc arc).weight) arc) (sym en)
                  (arc_candidate (nodes s) (table s) p arc (cells_of row) r f h1)));
            }
