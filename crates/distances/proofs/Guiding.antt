-- The values by which two near nodes are searched obey the arcs, and are small.
use Rattle.std.proofs.Common.{◌≡◌, ℕ, ◌+◌, ◌*◌, ◌/◌, ◌^◌, ◌<◌, ◌≤◌, Bool, true, false, List, [], length, refl, ap, sym, ◌∙◌, subst, arith, inl, inr, ◌⊎◌}
use Rattle.std.specs.Prelude.{ℤ, pos, negsuc, neg_ℤ, ◌+ℤ◌, ◌-ℤ◌, ◌≤ℤ◌, All, IfSome}
use Rattle.std.specs.Int.{int_div_euclid}
use Rattle.std.proofs.lemmas.Int.{ints}
use Rattle.std.proofs.lemmas.Bool.{cases_lt}
use Rattle.std.proofs.lemmas.List.{get_or_default, get_or_past}
use Rattle.std.proofs.lemmas.List.FromFn.{length-map-range_with_len}
use Rattle.problem_model.specs.Executions.{at}
use Rattle.problem_model.specs.Numbers.{IsUpTo}
use Rattle.problem_model.specs.Parents.{IsRow, IsRelaxed, LeadsBack}
use Rattle.problem_model.specs.Tables.{ArcTable, ObeysAll, reversed_table}
use Rattle.problem_model.specs.Limits.{path_bits}
use Rattle.problem_model.proofs.Executions.{at-values_by}
use Rattle.problem_model.proofs.Parents.{chain_bound, row_high}
use Rattle.sync_graph.specs.Graph.{GraphLists, IsGraph, table_of}
use Rattle.earliest.specs.Values.{IsEarliestOf}
use Rattle.row_pool.specs.declared.cell.Cell.{Cell}
use Rattle.row_pool.specs.Row.{cell_at, cells_of}
use Rattle.distances.specs.declared.near.End.{End}
use Rattle.distances.specs.declared.near.End.TheVariants.{Known, Beyond}
use Rattle.distances.specs.declared.side.Side.{Side}
use Rattle.distances.specs.declared.side.Side.TheVariants.{From, Towards}
use Rattle.distances.specs.Guides.{Guide, told, most_later, least_later, mean_of, fenced, guided_at, guided_values, ordering, AreSmallCells, IsSmallGuide}
use Rattle.distances.specs.Searched.{IsSearch}
use Rattle.distances.specs.Ends.{IsEnd, told_reach, AreKnown, IsFenceAround}
use Rattle.distances.specs.Reaches.{IsReachOver}
use Rattle.distances.proofs.Directions.{earliest_high, earliest_obeyed, facing_light, facing_not_light, facing_within, facing_from_within}

-- ---- halves

half_nat : (a : ℕ) → (a / 2 + a / 2 ≤ a) × (a ≤ a / 2 + a / 2 + 1)
half_nat a = (omega arith, omega arith)

pub half_bounds : (t : ℤ) → ((int_div_euclid t (pos 2) +ℤ int_div_euclid t (pos 2)) ≤ℤ t) × (t ≤ℤ (int_div_euclid t (pos 2) +ℤ int_div_euclid t (pos 2) +ℤ pos 1))
half_bounds (pos a) = let h = half_nat a in (omega (arith, ints, h.0), omega (arith, ints, h.1))
half_bounds (negsuc a) = let h = half_nat a in (omega (arith, ints, h.0, h.1), omega (arith, ints, h.0, h.1))

half_over : (h k t u w : ℤ) → (h +ℤ h) ≤ℤ t → u ≤ℤ (k +ℤ k +ℤ pos 1) → (t -ℤ u) ≤ℤ (w +ℤ w) → (h -ℤ k) ≤ℤ w
half_over h k t u w a b c = omega (arith, ints)

-- ---- over one graph, with the rows of a node and its earliest execution

module _ (g : GraphLists) (is : IsGraph g) (values : List ℤ) (earliest : IsEarliestOf g values) (from to : List Cell) (s : ℕ)
    (few : length g.nodes ≤ 2 ^ 23)
    (row_from : IsRow (length g.nodes) (table_of g) s (cells_of from))
    (row_to : IsRow (length g.nodes) (reversed_table (table_of g)) s (cells_of to))
  where
    obeyed : ObeysAll (table_of g) (at values)
    obeyed = earliest_obeyed g is values earliest

    fits : (n : ℕ) → n ≤ 2 ^ 23 → n * 2 ^ 93 ≤ 2 ^ 116
    fits n l = omega (arith, l)

    -- sizes
    value_low : (k : ℕ) → pos 0 ≤ℤ at values k
    value_low k = earliest.non_negative k

    value_high : (k : ℕ) → at values k ≤ℤ pos (2 ^ 116)
    value_high k = let h : at values k ≤ℤ pos (length g.nodes * 2 ^ 93) = earliest_high g is values earliest k in let f : length g.nodes * 2 ^ 93 ≤ 2 ^ 116 = fits (length g.nodes) few in omega (arith, ints)

    from_high : (k : ℕ) → (cell_at from k).known ≡ true → (cell_at from k).value ≤ℤ pos (2 ^ 116)
    from_high k h =
        let r : (cell_at from k).value ≤ℤ pos (length g.nodes * 2 ^ 93) = row_high (length g.nodes) (table_of g) s (cells_of from) (2 ^ 93) row_from (facing_light From g is) k h in
        let f : length g.nodes * 2 ^ 93 ≤ 2 ^ 116 = fits (length g.nodes) few in omega (arith, ints)

    to_high : (k : ℕ) → (cell_at to k).known ≡ true → (cell_at to k).value ≤ℤ pos (2 ^ 116)
    to_high k h =
        let r : (cell_at to k).value ≤ℤ pos (length g.nodes * 2 ^ 93) = row_high (length g.nodes) (reversed_table (table_of g)) s (cells_of to) (2 ^ 93) row_to (facing_light Towards g is) k h in
        let f : length g.nodes * 2 ^ 93 ≤ 2 ^ 116 = fits (length g.nodes) few in omega (arith, ints)

    from_low : (k : ℕ) → (cell_at from k).known ≡ true → neg_ℤ (pos (2 ^ 116)) ≤ℤ (cell_at from k).value
    from_low k h =
        let b : (n : ℕ) × (n < length g.nodes) × LeadsBack (table_of g) s (cells_of from) n k = row_from.back k h in
        let l : (at values k -ℤ at values s) ≤ℤ (cell_at from k).value = chain_bound (table_of g) s (cells_of from) (at values) obeyed row_from.own.1 b.0 k b.2 in
        let a : pos 0 ≤ℤ at values k = value_low k in
        let c : at values s ≤ℤ pos (2 ^ 116) = value_high s in
        omega (arith, ints)

    turned_values : ObeysAll (reversed_table (table_of g)) (λ k. neg_ℤ (at values k))
    turned_values j f = let a : (at values ((table_of g).arc j).to -ℤ at values ((table_of g).arc j).from) ≤ℤ ((table_of g).arc j).weight = obeyed j f in omega (arith, ints)

    to_low : (k : ℕ) → (cell_at to k).known ≡ true → neg_ℤ (pos (2 ^ 116)) ≤ℤ (cell_at to k).value
    to_low k h =
        let b : (n : ℕ) × (n < length g.nodes) × LeadsBack (reversed_table (table_of g)) s (cells_of to) n k = row_to.back k h in
        let l : (neg_ℤ (at values k) -ℤ neg_ℤ (at values s)) ≤ℤ (cell_at to k).value = chain_bound (reversed_table (table_of g)) s (cells_of to) (λ k. neg_ℤ (at values k)) turned_values row_to.own.1 b.0 k b.2 in
        let a : pos 0 ≤ℤ at values s = value_low s in
        let c : at values k ≤ℤ pos (2 ^ 116) = value_high k in
        omega (arith, ints)

    -- how much later a node is at most
    abbrev most : ℕ → ℤ
    most k = most_later (cell_at from k) (at values k)

    abbrev least : ℕ → ℤ
    least k = least_later (cell_at to k) (at values k)

    abbrev IsMost : ℕ → Type 0
    IsMost k = (((cell_at from k).known ≡ true) × (most k ≡ (cell_at from k).value)) ⊎ (((cell_at from k).known ≡ false) × (most k ≡ at values k +ℤ pos (2 ^ path_bits)))

    abbrev IsLeast : ℕ → Type 0
    IsLeast k = (((cell_at to k).known ≡ true) × (least k ≡ neg_ℤ (cell_at to k).value)) ⊎ (((cell_at to k).known ≡ false) × (least k ≡ at values k -ℤ pos (2 ^ path_bits)))

    told_cases : (b : Bool) (v o : ℤ) → ((b ≡ true) × (told b v o ≡ v)) ⊎ ((b ≡ false) × (told b v o ≡ o))
    told_cases true v o = inl (refl, refl)
    told_cases false v o = inr (refl, refl)

    is_most : (k : ℕ) → IsMost k
    is_most k = told_cases (cell_at from k).known (cell_at from k).value (at values k +ℤ pos (2 ^ path_bits))

    is_least : (k : ℕ) → IsLeast k
    is_least k = told_cases (cell_at to k).known (neg_ℤ (cell_at to k).value) (at values k -ℤ pos (2 ^ path_bits))

    not_light : (j : ℕ) → (table_of g).in_force j ≡ true → neg_ℤ (pos (2 ^ 93)) ≤ℤ ((table_of g).arc j).weight
    not_light j f = facing_not_light From g is j f

    most_arc : (j : ℕ) → (table_of g).in_force j ≡ true → IsMost ((table_of g).arc j).from → IsMost ((table_of g).arc j).to
        → (most ((table_of g).arc j).to -ℤ most ((table_of g).arc j).from) ≤ℤ ((table_of g).arc j).weight
    most_arc j f (inl u) (inl v) =
        let r : IsRelaxed (table_of g) (cells_of from) j = row_from.along j f u.0 in
        let m : (cell_at from ((table_of g).arc j).to).value ≤ℤ ((cell_at from ((table_of g).arc j).from).value +ℤ ((table_of g).arc j).weight) = r.1 in
        let eu : most ((table_of g).arc j).from ≡ (cell_at from ((table_of g).arc j).from).value = u.1 in
        let ev : most ((table_of g).arc j).to ≡ (cell_at from ((table_of g).arc j).to).value = v.1 in
        omega (arith, ints)
    most_arc j f (inl u) (inr v) =
        let r : IsRelaxed (table_of g) (cells_of from) j = row_from.along j f u.0 in
        absurd (let t : (cell_at from ((table_of g).arc j).to).known ≡ true = r.0 in let n : (cell_at from ((table_of g).arc j).to).known ≡ false = v.0 in let z : ⊥ = cc in z)
    most_arc j f (inr u) (inl v) =
        let h : (cell_at from ((table_of g).arc j).to).value ≤ℤ pos (2 ^ 116) = from_high ((table_of g).arc j).to v.0 in
        let l : pos 0 ≤ℤ at values ((table_of g).arc j).from = value_low ((table_of g).arc j).from in
        let w : neg_ℤ (pos (2 ^ 93)) ≤ℤ ((table_of g).arc j).weight = not_light j f in
        let eu : most ((table_of g).arc j).from ≡ at values ((table_of g).arc j).from +ℤ pos (2 ^ path_bits) = u.1 in
        let ev : most ((table_of g).arc j).to ≡ (cell_at from ((table_of g).arc j).to).value = v.1 in
        omega (arith, ints)
    most_arc j f (inr u) (inr v) =
        let o : (at values ((table_of g).arc j).to -ℤ at values ((table_of g).arc j).from) ≤ℤ ((table_of g).arc j).weight = obeyed j f in
        let eu : most ((table_of g).arc j).from ≡ at values ((table_of g).arc j).from +ℤ pos (2 ^ path_bits) = u.1 in
        let ev : most ((table_of g).arc j).to ≡ at values ((table_of g).arc j).to +ℤ pos (2 ^ path_bits) = v.1 in
        omega (arith, ints)

    least_arc : (j : ℕ) → (table_of g).in_force j ≡ true → IsLeast ((table_of g).arc j).from → IsLeast ((table_of g).arc j).to
        → (least ((table_of g).arc j).to -ℤ least ((table_of g).arc j).from) ≤ℤ ((table_of g).arc j).weight
    least_arc j f (inl u) (inl v) =
        let r : IsRelaxed (reversed_table (table_of g)) (cells_of to) j = row_to.along j f v.0 in
        let m : (cell_at to ((table_of g).arc j).from).value ≤ℤ ((cell_at to ((table_of g).arc j).to).value +ℤ ((table_of g).arc j).weight) = r.1 in
        let eu : least ((table_of g).arc j).from ≡ neg_ℤ (cell_at to ((table_of g).arc j).from).value = u.1 in
        let ev : least ((table_of g).arc j).to ≡ neg_ℤ (cell_at to ((table_of g).arc j).to).value = v.1 in
        omega (arith, ints)
    least_arc j f (inl u) (inr v) =
        let h : (cell_at to ((table_of g).arc j).from).value ≤ℤ pos (2 ^ 116) = to_high ((table_of g).arc j).from u.0 in
        let l : at values ((table_of g).arc j).to ≤ℤ pos (2 ^ 116) = value_high ((table_of g).arc j).to in
        let w : neg_ℤ (pos (2 ^ 93)) ≤ℤ ((table_of g).arc j).weight = not_light j f in
        let eu : least ((table_of g).arc j).from ≡ neg_ℤ (cell_at to ((table_of g).arc j).from).value = u.1 in
        let ev : least ((table_of g).arc j).to ≡ at values ((table_of g).arc j).to -ℤ pos (2 ^ path_bits) = v.1 in
        omega (arith, ints)
    least_arc j f (inr u) (inl v) =
        let r : IsRelaxed (reversed_table (table_of g)) (cells_of to) j = row_to.along j f v.0 in
        absurd (let t : (cell_at to ((table_of g).arc j).from).known ≡ true = r.0 in let n : (cell_at to ((table_of g).arc j).from).known ≡ false = u.0 in let z : ⊥ = cc in z)
    least_arc j f (inr u) (inr v) =
        let o : (at values ((table_of g).arc j).to -ℤ at values ((table_of g).arc j).from) ≤ℤ ((table_of g).arc j).weight = obeyed j f in
        let eu : least ((table_of g).arc j).from ≡ at values ((table_of g).arc j).from -ℤ pos (2 ^ path_bits) = u.1 in
        let ev : least ((table_of g).arc j).to ≡ at values ((table_of g).arc j).to -ℤ pos (2 ^ path_bits) = v.1 in
        omega (arith, ints)

    abbrev pub mean : ℕ → ℤ
    mean k = mean_of (cell_at from k) (cell_at to k) (at values k)

    sums_obey : (a b c d w : ℤ) → (a -ℤ b) ≤ℤ w → (c -ℤ d) ≤ℤ w → ((a +ℤ c) -ℤ (b +ℤ d)) ≤ℤ (w +ℤ w)
    sums_obey a b c d w h k = omega (arith, ints)

    -- the mean obeys the arcs
    pub mean_obeyed : ObeysAll (table_of g) mean
    mean_obeyed j f =
        half_over (mean ((table_of g).arc j).to) (mean ((table_of g).arc j).from) (most ((table_of g).arc j).to +ℤ least ((table_of g).arc j).to) (most ((table_of g).arc j).from +ℤ least ((table_of g).arc j).from) ((table_of g).arc j).weight
        (half_bounds (most ((table_of g).arc j).to +ℤ least ((table_of g).arc j).to)).0 (half_bounds (most ((table_of g).arc j).from +ℤ least ((table_of g).arc j).from)).1
        (sums_obey (most ((table_of g).arc j).to) (most ((table_of g).arc j).from) (least ((table_of g).arc j).to) (least ((table_of g).arc j).from) ((table_of g).arc j).weight
        (most_arc j f (is_most ((table_of g).arc j).from) (is_most ((table_of g).arc j).to)) (least_arc j f (is_least ((table_of g).arc j).from) (is_least ((table_of g).arc j).to)))

    most_small : (k : ℕ) → IsMost k → (neg_ℤ (pos (2 ^ 116)) ≤ℤ most k) × (most k ≤ℤ pos (2 ^ 118 + 2 ^ 116))
    most_small k (inl u) =
        let e : most k ≡ (cell_at from k).value = u.1 in
        let l : neg_ℤ (pos (2 ^ 116)) ≤ℤ (cell_at from k).value = from_low k u.0 in
        let h : (cell_at from k).value ≤ℤ pos (2 ^ 116) = from_high k u.0 in
        (omega (arith, ints), omega (arith, ints))
    most_small k (inr u) =
        let e : most k ≡ at values k +ℤ pos (2 ^ path_bits) = u.1 in
        let l : pos 0 ≤ℤ at values k = value_low k in
        let h : at values k ≤ℤ pos (2 ^ 116) = value_high k in
        (omega (arith, ints), omega (arith, ints))

    least_small : (k : ℕ) → IsLeast k → (neg_ℤ (pos (2 ^ 118)) ≤ℤ least k) × (least k ≤ℤ pos (2 ^ 116))
    least_small k (inl u) =
        let e : least k ≡ neg_ℤ (cell_at to k).value = u.1 in
        let l : neg_ℤ (pos (2 ^ 116)) ≤ℤ (cell_at to k).value = to_low k u.0 in
        let h : (cell_at to k).value ≤ℤ pos (2 ^ 116) = to_high k u.0 in
        (omega (arith, ints), omega (arith, ints))
    least_small k (inr u) =
        let e : least k ≡ at values k -ℤ pos (2 ^ path_bits) = u.1 in
        let l : pos 0 ≤ℤ at values k = value_low k in
        let h : at values k ≤ℤ pos (2 ^ 116) = value_high k in
        (omega (arith, ints), omega (arith, ints))

    -- it is at most 3 * 2^116 in absolute value, and 2^116 where both rows know the node
    pub mean_small : (k : ℕ) → (neg_ℤ (pos (3 * 2 ^ 116)) ≤ℤ mean k) × (mean k ≤ℤ pos (3 * 2 ^ 116))
    mean_small k =
        let m = most_small k (is_most k) in
        let l = least_small k (is_least k) in
        let h = half_bounds (most k +ℤ least k) in
        (omega (arith, ints, m.0, m.1, l.0, l.1, h.0, h.1), omega (arith, ints, m.0, m.1, l.0, l.1, h.0, h.1))

    most_known : (k : ℕ) → (cell_at from k).known ≡ true → IsMost k → (neg_ℤ (pos (2 ^ 116)) ≤ℤ most k) × (most k ≤ℤ pos (2 ^ 116))
    most_known k h (inl u) =
        let e : most k ≡ (cell_at from k).value = u.1 in
        let l : neg_ℤ (pos (2 ^ 116)) ≤ℤ (cell_at from k).value = from_low k h in
        let m : (cell_at from k).value ≤ℤ pos (2 ^ 116) = from_high k h in
        (omega (arith, ints), omega (arith, ints))
    most_known k h (inr u) = absurd (let f : (cell_at from k).known ≡ false = u.0 in let z : ⊥ = cc in z)

    least_known : (k : ℕ) → (cell_at to k).known ≡ true → IsLeast k → (neg_ℤ (pos (2 ^ 116)) ≤ℤ least k) × (least k ≤ℤ pos (2 ^ 116))
    least_known k h (inl u) =
        let e : least k ≡ neg_ℤ (cell_at to k).value = u.1 in
        let l : neg_ℤ (pos (2 ^ 116)) ≤ℤ (cell_at to k).value = to_low k h in
        let m : (cell_at to k).value ≤ℤ pos (2 ^ 116) = to_high k h in
        (omega (arith, ints), omega (arith, ints))
    least_known k h (inr u) = absurd (let f : (cell_at to k).known ≡ false = u.0 in let z : ⊥ = cc in z)

    pub mean_known : (k : ℕ) → (cell_at from k).known ≡ true → (cell_at to k).known ≡ true → (neg_ℤ (pos (2 ^ 116)) ≤ℤ mean k) × (mean k ≤ℤ pos (2 ^ 116))
    mean_known k hf ht =
        let m = most_known k hf (is_most k) in
        let l = least_known k ht (is_least k) in
        let h = half_bounds (most k +ℤ least k) in
        (omega (arith, ints, m.0, m.1, l.0, l.1, h.0, h.1), omega (arith, ints, m.0, m.1, l.0, l.1, h.0, h.1))

    pub from_small : AreSmallCells from
    from_small k h = (let l = from_low k h in omega (arith, ints, l), let l = from_high k h in omega (arith, ints, l))

    pub to_small : AreSmallCells to
    to_small k h = (let l = to_low k h in omega (arith, ints, l), let l = to_high k h in omega (arith, ints, l))

-- ---- what the code reads

nothing_small : AreSmallCells []
nothing_small k h = absurd (let z : ⊥ = cc in z)

pub no_guide_small : IsSmallGuide (record { from = []; to = []; fence = []; beyond = pos 0 })
no_guide_small = record { from = nothing_small; to = nothing_small; fence = nothing_small; beyond = (omega (arith, ints), omega (arith, ints)) }

pub at_guided : (g : Guide) (values : List ℤ) (k : ℕ) → k < length values → at (guided_values g values) k ≡ guided_at g values k
at_guided g values k l = at-values_by (guided_at g values) (length values) k l

-- a node's value is that of the guide
pub read_guided : (guided : Bool) (g : Guide) (values : List ℤ) (k : ℕ) (from to fence : Cell) (value beyond read : ℤ)
    → guided ≡ true → k < length values → from ≡ cell_at g.from k → to ≡ cell_at g.to k → fence ≡ cell_at g.fence k → value ≡ at values k → beyond ≡ g.beyond
    → read ≡ fenced fence (mean_of from to value) beyond → read ≡ at (ordering guided g values) k
read_guided true g values k from to fence value beyond read e l ef et en ev eb er =
    er ∙ ap (λ c. fenced c (mean_of from to value) beyond) en ∙ ap (λ c. fenced (cell_at g.fence k) (mean_of c to value) beyond) ef
    ∙ ap (λ c. fenced (cell_at g.fence k) (mean_of (cell_at g.from k) c value) beyond) et ∙ ap (λ v. fenced (cell_at g.fence k) (mean_of (cell_at g.from k) (cell_at g.to k) v) beyond) ev
    ∙ ap (λ b. fenced (cell_at g.fence k) (mean_of (cell_at g.from k) (cell_at g.to k) (at values k)) b) eb ∙ sym (at_guided g values k l)
read_guided false g values k from to fence value beyond read e l ef et en ev eb er = absurd (let z : ⊥ = cc in z)

-- ---- the searches

number_small : (x y z : ℤ) → (neg_ℤ (pos (3 * 2 ^ 116)) ≤ℤ x) × (x ≤ℤ pos (3 * 2 ^ 116)) → y ≡ pos 0 → z ≡ x -ℤ y → (neg_ℤ (pos (3 * 2 ^ 116)) ≤ℤ z) × (z ≤ℤ pos (3 * 2 ^ 116))
number_small x y z u e f = (omega (arith, ints, u.0), omega (arith, ints, u.1))

three_small : (x : ℤ) → (neg_ℤ (pos (3 * 2 ^ 116)) ≤ℤ x) × (x ≤ℤ pos (3 * 2 ^ 116)) → IsUpTo path_bits x
three_small x u = (omega (arith, ints, u.0), omega (arith, ints, u.1))

nothing_there : (k : ℕ) → (cell_at [] k).known ≡ false
nothing_there k = refl

module _ (g : GraphLists) (is : IsGraph g) (values : List ℤ) (earliest : IsEarliestOf g values) where
  one_each : length values ≡ length g.nodes
  one_each = earliest.execution.one_each

  guided_here : (guide : Guide) (k : ℕ) → k < length g.nodes → at (guided_values guide values) k ≡ guided_at guide values k
  guided_here guide k l = at_guided guide values k (subst (λ n. k < n) (sym one_each) l)

  -- the values by a guide obey the arcs where those at their ends do
  guided_obeys : (guide : Guide) → ObeysAll (table_of g) (guided_at guide values) → ObeysAll (table_of g) (at (guided_values guide values))
  guided_obeys guide o j f =
      let a : (guided_at guide values ((table_of g).arc j).to -ℤ guided_at guide values ((table_of g).arc j).from) ≤ℤ ((table_of g).arc j).weight = o j f in
      let et : at (guided_values guide values) ((table_of g).arc j).to ≡ guided_at guide values ((table_of g).arc j).to = guided_here guide ((table_of g).arc j).to (facing_within From g is j f) in
      let ef : at (guided_values guide values) ((table_of g).arc j).from ≡ guided_at guide values ((table_of g).arc j).from = guided_here guide ((table_of g).arc j).from (facing_from_within From g is j f) in
      subst (λ x. (x -ℤ at (guided_values guide values) ((table_of g).arc j).from) ≤ℤ ((table_of g).arc j).weight) (sym et)
      (subst (λ x. (guided_at guide values ((table_of g).arc j).to -ℤ x) ≤ℤ ((table_of g).arc j).weight) (sym ef) a)

  guided_small : (guide : Guide) → ((k : ℕ) → k < length g.nodes → IsUpTo path_bits (guided_at guide values k)) → All (IsUpTo path_bits) (guided_values guide values)
  guided_small guide small k d l =
      let within : k < length values = subst (λ n. k < n) (length-map-range_with_len (guided_at guide values) 0 (length values)) l in
      subst (IsUpTo path_bits) (sym (at_guided guide values k within) ∙ get_or_default (guided_values guide values) k (pos 0) d l) (small k (subst (λ n. k < n) one_each within))

  module _ (from to : List Cell) (s : ℕ)
      (few : length g.nodes ≤ 2 ^ 23)
      (row_from : IsRow (length g.nodes) (table_of g) s (cells_of from))
      (row_to : IsRow (length g.nodes) (reversed_table (table_of g)) s (cells_of to))
    where
      abbrev rows : Guide
      rows = record { from = from; to = to; fence = []; beyond = pos 0 }

      rows_obeyed : ObeysAll (table_of g) (guided_at rows values)
      rows_obeyed j f =
          let a : (mean g is values earliest from to s few row_from row_to ((table_of g).arc j).to -ℤ mean g is values earliest from to s few row_from row_to ((table_of g).arc j).from) ≤ℤ ((table_of g).arc j).weight =
          mean_obeyed g is values earliest from to s few row_from row_to j f in
          omega (arith, ints, a)

      rows_three : (k : ℕ) → (neg_ℤ (pos (3 * 2 ^ 116)) ≤ℤ guided_at rows values k) × (guided_at rows values k ≤ℤ pos (3 * 2 ^ 116))
      rows_three k = number_small (mean g is values earliest from to s few row_from row_to k) (pos 0) (guided_at rows values k) (mean_small g is values earliest from to s few row_from row_to k) refl refl

      pub rows_search : (side : Side) → IsSearch (record { graph = g; values = guided_values rows values; side = side })
      rows_search side = record {
        graph = is;
        obeyed = guided_obeys rows rows_obeyed;
        small = guided_small rows (λ k l. three_small (guided_at rows values k) (rows_three k));
      }

      pub rows_guide : IsSmallGuide rows
      rows_guide = record {
        from = from_small g is values earliest from to s few row_from row_to;
        to = to_small g is values earliest from to s few row_from row_to;
        fence = nothing_small;
        beyond = (omega (arith, ints), omega (arith, ints));
      }

      -- the value of a node by the rows
      abbrev b : ℕ → ℤ
      b k = at (guided_values rows values) k

      zero_three : (x : ℤ) → x ≡ pos 0 → (neg_ℤ (pos (3 * 2 ^ 116)) ≤ℤ x) × (x ≤ℤ pos (3 * 2 ^ 116))
      zero_three x e = (omega (arith, ints), omega (arith, ints))

      b_three : (k : ℕ) → (neg_ℤ (pos (3 * 2 ^ 116)) ≤ℤ b k) × (b k ≤ℤ pos (3 * 2 ^ 116))
      b_three k = elim (cases_lt k (length g.nodes)) [
        | inl l ↦ subst (λ x. (neg_ℤ (pos (3 * 2 ^ 116)) ≤ℤ x) × (x ≤ℤ pos (3 * 2 ^ 116))) (sym (guided_here rows k l)) (rows_three k)
        | inr l ↦ zero_three (b k) (get_or_past (guided_values rows values) k (pos 0) (subst (λ n. n ≤ k) (sym (length-map-range_with_len (guided_at rows values) 0 (length values) ∙ one_each)) l))
      ]

      module _ (fence : List Cell) (beyond : ℤ) (q : ℕ) (lq : q < length g.nodes)
          (known : AreKnown from to q)
          (near : IsUpTo 116 beyond)
          (is_fence : IsFenceAround g from to values q fence beyond)
        where
          abbrev both : Guide
          both = record { from = from; to = to; fence = fence; beyond = beyond }

          fence_case : (c : Bool) (v m a : ℤ) → a ≡ m -ℤ pos 0 → told c (neg_ℤ v) (m -ℤ beyond) ≡ neg_ℤ (told c v (neg_ℤ a +ℤ beyond))
          fence_case true v m a e = refl
          fence_case false v m a e = omega (arith, ints)

          -- outside the fence, and inside it
          abbrev X : ℕ → ℤ
          X k = told (cell_at fence k).known (cell_at fence k).value (neg_ℤ (b k) +ℤ beyond)

          fenced_is : (k : ℕ) → k < length g.nodes → guided_at both values k ≡ neg_ℤ (X k)
          fenced_is k l = fence_case (cell_at fence k).known (cell_at fence k).value (mean g is values earliest from to s few row_from row_to k) (b k) (guided_here rows k l)

          turned_arc : (a c x y w : ℤ) → (y -ℤ x) ≤ℤ w → a ≡ neg_ℤ x → c ≡ neg_ℤ y → (a -ℤ c) ≤ℤ w
          turned_arc a c x y w h ea ec = omega (arith, ints)

          fenced_obeyed : ObeysAll (table_of g) (guided_at both values)
          fenced_obeyed j f =
              turned_arc (guided_at both values ((table_of g).arc j).to) (guided_at both values ((table_of g).arc j).from) (X ((table_of g).arc j).to) (X ((table_of g).arc j).from) ((table_of g).arc j).weight
              (is_fence.obeyed j f) (fenced_is ((table_of g).arc j).to (facing_within From g is j f)) (fenced_is ((table_of g).arc j).from (facing_from_within From g is j f))

          end_small : (neg_ℤ (pos (2 ^ 116)) ≤ℤ b q) × (b q ≤ℤ pos (2 ^ 116))
          end_small =
              let m = mean_known g is values earliest from to s few row_from row_to q known.0 known.1 in
              let e : b q ≡ mean g is values earliest from to s few row_from row_to q -ℤ pos 0 = guided_here rows q lq in
              (omega (arith, ints, m.0, m.1), omega (arith, ints, m.0, m.1))

          inside_small : (k : ℕ) → (cell_at fence k).known ≡ true → (neg_ℤ (pos (2 ^ 118)) ≤ℤ (cell_at fence k).value) × ((cell_at fence k).value ≤ℤ pos (2 ^ 118))
          inside_small k h =
              let low : (neg_ℤ (b k) -ℤ neg_ℤ (b q)) ≤ℤ (cell_at fence k).value = is_fence.low k h in
              let high : (cell_at fence k).value ≤ℤ (neg_ℤ (b k) +ℤ beyond) = is_fence.high k h in
              let three = b_three k in
              (omega (arith, ints, low, three.0, three.1, end_small.0, end_small.1), omega (arith, ints, high, three.0, three.1, near.0, near.1))

          told_small : (k : ℕ) (c : Bool) → (cell_at fence k).known ≡ c → (neg_ℤ (pos (2 ^ 118)) ≤ℤ told c (cell_at fence k).value (neg_ℤ (b k) +ℤ beyond)) × (told c (cell_at fence k).value (neg_ℤ (b k) +ℤ beyond) ≤ℤ pos (2 ^ 118))
          told_small k true h = inside_small k h
          told_small k false h = let three = b_three k in (omega (arith, ints, three.0, three.1, near.0, near.1), omega (arith, ints, three.0, three.1, near.0, near.1))

          turned_up : (x y : ℤ) → y ≡ neg_ℤ x → (neg_ℤ (pos (2 ^ 118)) ≤ℤ x) × (x ≤ℤ pos (2 ^ 118)) → IsUpTo path_bits y
          turned_up x y e u = (omega (arith, ints, u.0, u.1), omega (arith, ints, u.0, u.1))

          pub fenced_search : (side : Side) → IsSearch (record { graph = g; values = guided_values both values; side = side })
          fenced_search side = record {
            graph = is;
            obeyed = guided_obeys both fenced_obeyed;
            small = guided_small both (λ k l. turned_up (X k) (guided_at both values k) (fenced_is k l) (told_small k (cell_at fence k).known refl));
          }

          pub fenced_guide : IsSmallGuide both
          fenced_guide = record {
            from = from_small g is values earliest from to s few row_from row_to;
            to = to_small g is values earliest from to s few row_from row_to;
            fence = λ k h. (let u = inside_small k h in (omega (arith, ints, u.0, u.1), omega (arith, ints, u.0, u.1)));
            beyond = (omega (arith, ints, near.0, near.1), omega (arith, ints, near.0, near.1));
          }

-- ---- what searches tell

pub told_so : (table : ArcTable) (p q : ℕ) (e : ℕ → ℤ) (known : ℕ → Bool) (value : ℕ → ℤ) (end : End) → IsEnd table p q e known value end → IfSome (told_reach end) (λ reach. IsReachOver table p q reach)
told_so table p q e known value (Known reach) is = is
told_so table p q e known value (Beyond beyond) is = tt
