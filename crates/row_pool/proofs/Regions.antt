-- Rows that are cut off a list of cells.
use Rattle.std.proofs.Common.{◌≡◌, ℕ, zero, suc, ◌+◌, ◌*◌, ◌-◌, ◌<◌, ◌≤◌, Bool, true, false, List, [], ◌∷◌, ◌++◌, length, take, drop, get_or, refl, sym, ap, ◌∙◌, inl, inr, subst, arith, append-nil, length-drop, length-append}
use Rattle.std.proofs.lemmas.List.{take-append-le, drop-append-le, drop-drop, drop_all, nil_from_length, length-take-le, get_or_past, take-append-drop, take_at, drop_at, length-take, length-replicate, replicate-append-replicate}
use Rattle.std.proofs.lemmas.List.Elements.{All-nil, All-cons, All-head, All-tail}
use Rattle.std.proofs.lemmas.List.Sums.{sum_by-cons}
use Rattle.std.proofs.lemmas.List.Quantifiers.{position-Some}
use Rattle.std.proofs.lemmas.Iterator.Adapters.{position_from-zero}
use Rattle.std.specs.List.{position_from}
use Rattle.std.proofs.lemmas.Bool.{cases_lt, cases_Bool}
use Rattle.std.proofs.Common.{Vec, map, max, replicate, append_assoc, Some, None, position, All, cond, not, count_by, slice_range, slice_set, take_all}
use Rattle.std.specs.Vec.{with_items_from}
use native.Mathlib.Nat.{mul-le-mul_right}
use Rattle.row_pool.specs.declared.cell.Cell.{Cell}
use Rattle.row_pool.specs.Pool.{PoolRow, Pool, IsPool, IsTakenRow, IsFree, row_at, row_of, laid_over, written_pool, marked, widened_row, free_row, grown}
use Rattle.row_pool.specs.Row.{unknown}
use Rattle.row_pool.specs.Region.{rows_cut, pool_of, IsRegion, spaced}

pub length-cut : (width : ℕ) (flags : List Bool) (cells : List Cell) → length (rows_cut width flags cells) ≡ length flags
length-cut width [] cells = refl
length-cut width (t ∷ flags) cells = ap (λ n. suc n) (length-cut width flags (drop width cells))

-- the first cells of those written, and then what stays of the old ones
take_over : (width : ℕ) (ws cells : List Cell) → take width (ws ++ drop (length ws) cells) ≡ take width ws ++ drop (length ws) (take width cells)
take_over zero ws cells = sym (drop_all (length ws) [] (omega arith))
take_over (suc n) [] cells = refl
take_over (suc n) (x ∷ ws) [] = ap (λ zs. x ∷ zs) (ap (take n) (append-nil ws) ∙ sym (append-nil (take n ws)))
take_over (suc n) (x ∷ ws) (c ∷ cells) = ap (λ zs. x ∷ zs) (take_over n ws cells)

drop_over : (width : ℕ) (ws cells : List Cell) → drop width (ws ++ drop (length ws) cells) ≡ drop width ws ++ drop (length (drop width ws)) (drop width cells)
drop_over zero ws cells = refl
drop_over (suc n) [] cells = refl
drop_over (suc n) (x ∷ ws) [] = ap (drop n) (append-nil ws) ∙ sym (append-nil (drop n ws)) ∙ ap (λ zs. drop n ws ++ zs) (sym (drop_all (length (drop n ws)) [] (omega arith)))
drop_over (suc n) (x ∷ ws) (c ∷ cells) = drop_over n ws cells

-- cells that are laid over the front of a list are laid over its rows
cut_over : (width : ℕ) (flags : List Bool) (ws cells : List Cell) → rows_cut width flags (ws ++ drop (length ws) cells) ≡ laid_over width ws (rows_cut width flags cells)
cut_over width [] ws cells = refl
cut_over width (t ∷ flags) ws cells =
    let first : PoolRow → List PoolRow → List PoolRow = λ r rs. r ∷ rs in
    ap (λ (zs : List Cell). let r : PoolRow = record { taken = t; cells = zs } in r ∷ rows_cut width flags (drop width (ws ++ drop (length ws) cells))) (take_over width ws cells)
    ∙ ap (λ (rs : List PoolRow). let r : PoolRow = record { taken = t; cells = take width ws ++ drop (length ws) (take width cells) } in r ∷ rs)
    (ap (rows_cut width flags) (drop_over width ws cells) ∙ cut_over width flags (drop width ws) (drop width cells))

-- whole rows in front are rows of their own
pub cut-append : (width k : ℕ) (flags : List Bool) (p cells : List Cell) → length p ≡ k * width → k ≤ length flags
    → rows_cut width flags (p ++ cells) ≡ rows_cut width (take k flags) p ++ rows_cut width (drop k flags) cells
cut-append width zero flags p cells e h = ap (λ (zs : List Cell). rows_cut width flags (zs ++ cells)) (nil_from_length p (grind arith))
cut-append width (suc k) [] p cells e h = absurd (omega arith)
cut-append width (suc k) (t ∷ flags) p cells e h =
    let s : suc k * width ≡ k * width + width = grind arith in
    let fits : width ≤ length p = omega arith in
    let rest : length (drop width p) ≡ k * width = length-drop width p ∙ omega arith in
    ap (λ (zs : List Cell). let r : PoolRow = record { taken = t; cells = zs } in r ∷ rows_cut width flags (drop width (p ++ cells))) (take-append-le width p cells fits)
    ∙ ap (λ (rs : List PoolRow). let r : PoolRow = record { taken = t; cells = take width p } in r ∷ rs)
    (ap (rows_cut width flags) (drop-append-le width p cells fits) ∙ cut-append width k flags (drop width p) cells rest (omega arith))

-- a row by its number
pub row_cut : (width : ℕ) (flags : List Bool) (cells : List Cell) (k : ℕ) (d : PoolRow) → k < length flags
    → get_or (rows_cut width flags cells) k d ≡ record { taken = get_or flags k false; cells = take width (drop (k * width) cells) }
row_cut width [] cells k d h = absurd (omega arith)
row_cut width (t ∷ flags) cells zero d h = ap (λ (n : ℕ). let r : PoolRow = record { taken = t; cells = take width (drop n cells) } in r) (let e : 0 ≡ 0 * width = grind arith in e)
row_cut width (t ∷ flags) cells (suc k) d h =
    let s : width + k * width ≡ suc k * width = grind arith in
    row_cut width flags (drop width cells) k d (omega arith)
    ∙ ap (λ (zs : List Cell). let r : PoolRow = record { taken = get_or flags k false; cells = take width zs } in r) (drop-drop (k * width) width cells ∙ ap (λ (n : ℕ). drop n cells) s)

-- a row that is taken is one of the pool's
pub taken_below : (width : ℕ) (flags : List Bool) (cells : List Cell) (k : ℕ) → IsTakenRow (pool_of width flags cells) k → k < length flags
taken_below width flags cells k taken =
    elim (cases_lt k (length flags)) [
      | inl h ↦ h
      | inr h ↦
          let past : length (rows_cut width flags cells) ≤ k = rw length-cut h in
          let none : PoolRow = record { taken = false; cells = [] } in
          absurd (let e : false ≡ true = sym (ap (λ (r : PoolRow). r.taken) (get_or_past (rows_cut width flags cells) k none past)) ∙ taken in cc)
    ]

-- and its cells are within the region
pub row_within : (width : ℕ) (flags : List Bool) (cells : List Cell) (k : ℕ) → IsRegion width flags cells → k < length flags → k * width + width ≤ length cells
row_within width flags cells k region h =
    let m : suc k * width ≤ length flags * width = mul-le-mul_right width h in
    let s : suc k * width ≡ k * width + width = grind arith in
    omega (arith, region.whole)

-- the cells of a row
pub cells_of_row : (width : ℕ) (flags : List Bool) (cells : List Cell) (k : ℕ) → k < length flags → row_of (pool_of width flags cells) k ≡ take width (drop (k * width) cells)
cells_of_row width flags cells k h = let none : PoolRow = record { taken = false; cells = [] } in ap (λ (r : PoolRow). r.cells) (row_cut width flags cells k none h)

-- a row that is taken or free from now on
rows_marked : (width : ℕ) (flags : List Bool) (cells : List Cell) (k : ℕ) (b : Bool) → k < length flags
    → rows_cut width (slice_set flags k b) cells ≡ slice_set (rows_cut width flags cells) k (record { taken = b; cells = row_of (pool_of width flags cells) k })
rows_marked width [] cells k b h = absurd (omega arith)
rows_marked width (t ∷ flags) cells zero b h = refl
rows_marked width (t ∷ flags) cells (suc k) b h =
    ap (λ (rs : List PoolRow). let r : PoolRow = record { taken = t; cells = take width cells } in r ∷ rs) (rows_marked width flags (drop width cells) k b (omega arith))

pub marked_cut : (width : ℕ) (flags : List Bool) (cells : List Cell) (k : ℕ) (b : Bool) → k < length flags
    → pool_of width (slice_set flags k b) cells ≡ marked (pool_of width flags cells) k b
marked_cut width flags cells k b h = ap (λ (rs : List PoolRow). let whole : Pool = record { width = width; rows = rs } in whole) (rows_marked width flags cells k b h)

-- the flag of a row
pub flag_of_row : (width : ℕ) (flags : List Bool) (cells : List Cell) (k : ℕ) → k < length flags → (row_at (pool_of width flags cells) k).taken ≡ get_or flags k false
flag_of_row width flags cells k h = let none : PoolRow = record { taken = false; cells = [] } in ap (λ (r : PoolRow). r.taken) (row_cut width flags cells k none h)

-- also of a row that is not there
pub flag_is : (width : ℕ) (flags : List Bool) (cells : List Cell) (pool : Pool) (n k : ℕ) → pool_of width flags cells ≡ pool → n ≡ k → get_or flags n false ≡ (row_at pool k).taken
flag_is width flags cells pool n k view id =
    let none : PoolRow = record { taken = false; cells = [] } in
    let here : get_or flags n false ≡ (row_at (pool_of width flags cells) n).taken =
    elim (cases_lt n (length flags)) [
      | inl h ↦ sym (flag_of_row width flags cells n h)
      | inr h ↦
          let past : length (rows_cut width flags cells) ≤ n = rw length-cut h in
          get_or_past flags n false h ∙ sym (ap (λ (r : PoolRow). r.taken) (get_or_past (rows_cut width flags cells) n none past))
    ] in
    here ∙ ap (λ (x : Pool). (row_at x n).taken) view ∙ ap (λ (j : ℕ). (row_at pool j).taken) id

none_from : (flags : List Bool) (i n : ℕ) → position_from (λ b. not b) i flags ≡ None → n < length flags → get_or flags n false ≡ true
none_from [] i n found below = absurd (omega arith)
none_from (true ∷ flags) i zero found below = refl
none_from (true ∷ flags) i (suc n) found below = none_from flags (i + 1) n found (omega arith)
none_from (false ∷ flags) i n found below = absurd cc

-- where the first flag that is not set stands there is a free row; where each flag is set there is none
pub free_here : (width : ℕ) (flags : List Bool) (cells : List Cell) (pool : Pool) (n : ℕ) → pool_of width flags cells ≡ pool → position (λ b. not b) flags ≡ Some n → IsFree pool n
free_here width flags cells pool n view found =
    let p = position-Some (λ b. not b) flags n false found in
    let unset : get_or flags n false ≡ false = elim (cases_Bool (get_or flags n false)) [ inl e ↦ absurd (let no : not (get_or flags n false) ≡ false = ap not e in cc p.1) | inr e ↦ e ] in
    let count : length pool.rows ≡ length flags = ap (λ (x : Pool). length x.rows) (sym view) ∙ length-cut width flags cells in
    let below : n < length flags = p.0 in
    (omega (arith, below), sym (flag_is width flags cells pool n n view refl) ∙ unset)

pub none_free : (width : ℕ) (flags : List Bool) (cells : List Cell) (pool : Pool) → pool_of width flags cells ≡ pool → position (λ b. not b) flags ≡ None → (n : ℕ) → IsFree pool n → ⊥
none_free width flags cells pool view found n free =
    let count : length pool.rows ≡ length flags = ap (λ (x : Pool). length x.rows) (sym view) ∙ length-cut width flags cells in
    let fr : n < length pool.rows = free.0 in
    let below : n < length flags = omega (arith, fr) in
    let set : get_or flags n false ≡ true = none_from flags 0 n (sym (position_from-zero (λ b. not b) flags) ∙ found) below in
    let unset : get_or flags n false ≡ false = flag_is width flags cells pool n n view refl ∙ free.1 in
    absurd cc

-- as many rows are free as flags say
pub free_cut : (width : ℕ) (flags : List Bool) (cells : List Cell) → count_by (λ row. not row.taken) (rows_cut width flags cells) ≡ count_by (λ b. not b) flags
free_cut width [] cells = refl
free_cut width (t ∷ flags) cells =
    let f : PoolRow → ℕ = λ row. cond (not row.taken) 1 0 in
    let g : Bool → ℕ = λ b. cond (not b) 1 0 in
    sum_by-cons f (record { taken = t; cells = take width cells }) (rows_cut width flags (drop width cells))
    ∙ ap (λ (n : ℕ). g t + n) (free_cut width flags (drop width cells)) ∙ sym (sum_by-cons g t flags)

-- each row is as wide as all
even_cut : (width : ℕ) (flags : List Bool) (cells : List Cell) → length cells ≡ length flags * width → All (λ row. length row.cells ≡ width) (rows_cut width flags cells)
even_cut width [] cells e = All-nil (λ (row : PoolRow). length row.cells ≡ width)
even_cut width (t ∷ flags) cells e =
    let s : suc (length flags) * width ≡ length flags * width + width = grind arith in
    let fits : width ≤ length cells = omega arith in
    let rest : length (drop width cells) ≡ length flags * width = length-drop width cells ∙ omega arith in
    All-cons (λ (row : PoolRow). length row.cells ≡ width) (record { taken = t; cells = take width cells }) _ (length-take-le width cells fits) (even_cut width flags (drop width cells) rest)

pub is_pool : (width : ℕ) (flags : List Bool) (cells : List Cell) → IsRegion width flags cells → IsPool (pool_of width flags cells)
is_pool width flags cells region = record { even = even_cut width flags cells region.whole; few = rw length-cut region.few; narrow = region.narrow }

-- cells behind those of the rows do not count
cut_enough : (width : ℕ) (flags : List Bool) (x : List Cell) (n : ℕ) → n ≡ length flags * width → n ≤ length x → rows_cut width flags (take n x) ≡ rows_cut width flags x
cut_enough width flags x n e h =
    let p : List Cell = take n x in
    let long : length p ≡ length flags * width = length-take-le n x h ∙ e in
    let rows : rows_cut width flags (p ++ drop n x) ≡ rows_cut width (take (length flags) flags) p ++ rows_cut width (drop (length flags) flags) (drop n x) =
    cut-append width (length flags) flags p (drop n x) long (omega arith) in
    let none : drop (length flags) flags ≡ [] = drop_all (length flags) flags (omega arith) in
    let all : take (length flags) flags ≡ flags = take_all (length flags) flags (omega arith) in
    sym (ap (rows_cut width flags) (sym (take-append-drop n x)) ∙ rows
    ∙ ap (λ (fs : List Bool). rows_cut width (take (length flags) flags) p ++ rows_cut width fs (drop n x)) none
    ∙ append-nil (rows_cut width (take (length flags) flags) p)
    ∙ ap (λ (fs : List Bool). rows_cut width fs p) all)

-- what is written from the start of a row on
pub rows_written : (width : ℕ) (flags : List Bool) (cells ws : List Cell) (k : ℕ) → IsRegion width flags cells → k < length flags
    → rows_cut width flags (take (k * width) cells ++ (ws ++ drop (length ws) (drop (k * width) cells))) ≡ take k (rows_cut width flags cells) ++ laid_over width ws (drop k (rows_cut width flags cells))
rows_written width flags cells ws k region h =
    let p : List Cell = take (k * width) cells in
    let q : List Cell = drop (k * width) cells in
    let within : k * width + width ≤ length cells = row_within width flags cells k region h in
    let long : length p ≡ k * width = length-take-le (k * width) cells (omega arith) in
    let le : k ≤ length flags = omega arith in
    let front : List PoolRow = rows_cut width (take k flags) p in
    let behind : List PoolRow = rows_cut width (drop k flags) q in
    let counted : length front ≡ k = length-cut width (take k flags) p ∙ length-take-le k flags le in
    let all : rows_cut width flags cells ≡ front ++ behind = ap (rows_cut width flags) (sym (take-append-drop (k * width) cells)) ∙ cut-append width k flags p q long le in
    cut-append width k flags p (ws ++ drop (length ws) q) long le
    ∙ ap (λ (rs : List PoolRow). front ++ rs) (cut_over width (drop k flags) ws q)
    ∙ ap (λ (rs : List PoolRow). rs ++ laid_over width ws behind) (sym (take_at front behind k counted))
    ∙ ap (λ (rs : List PoolRow). take k (front ++ behind) ++ laid_over width ws rs) (sym (drop_at front behind k counted))
    ∙ ap (λ (rs : List PoolRow). take k rs ++ laid_over width ws (drop k rs)) (sym all)

module _ {Z : Type 0} (width : ℕ) (flags : List Bool) (cells : Vec Cell Z) (pool : Pool) (n k : ℕ) (region : IsRegion width flags cells.items) (view : pool_of width flags cells.items ≡ pool) (id : n ≡ k) (taken : IsTakenRow pool k) where
  abbrev pub inside : n < length flags
  inside = taken_below width flags cells.items n (subst (λ (x : Pool). IsTakenRow x n) (sym view) (subst (λ (j : ℕ). IsTakenRow pool j) (sym id) taken))

  pub row_bounds : n * width + width ≤ length cells.items
  row_bounds = row_within width flags cells.items n region inside

  pub row_is : take width (drop (n * width) cells.items) ≡ row_of pool k
  row_is = sym (cells_of_row width flags cells.items n inside) ∙ ap (λ (x : Pool). row_of x n) view ∙ ap (row_of pool) id

  pub row_length : length (row_of pool k) ≡ width
  row_length =
      let fits : width ≤ length (drop (n * width) cells.items) = simp length-drop (omega (arith, row_bounds)) in
      ap length (sym row_is) ∙ length-take-le width (drop (n * width) cells.items) fits

  -- what the pool is once the row was lent and these cells stand there
  pub row_written : (ws : List Cell) → pool_of width flags (with_items_from cells (n * width) ws).items ≡ written_pool pool k ws
  row_written ws =
      let x : List Cell = take (n * width) cells.items ++ (ws ++ drop (length ws) (drop (n * width) cells.items)) in
      let count : cells.len ≡ length cells.items = cells.ok.0 in
      let whole : cells.len ≡ length flags * width = count ∙ region.whole in
      let enough : cells.len ≤ length x = simp (length-append, length-take, length-drop) (omega (arith, row_bounds)) in
      let gone : drop (length x) cells.items ≡ [] = drop_all (length x) cells.items (omega arith) in
      let made : List PoolRow → Pool = λ rs. record { width = width; rows = rs } in
      ap made
      (ap (λ (zs : List Cell). rows_cut width flags (take cells.len (x ++ zs))) gone
      ∙ ap (λ (zs : List Cell). rows_cut width flags (take cells.len zs)) (append-nil x)
      ∙ cut_enough width flags x cells.len whole enough
      ∙ rows_written width flags cells.items ws n region inside)
      ∙ ap (λ (x : Pool). written_pool x n ws) view ∙ ap (λ (j : ℕ). written_pool pool j ws) id

  -- the part of the region from the row's first cell to behind its last
  pub row_range : (end : ℕ) → end ≡ n * width + width → slice_range cells.items (n * width) end ≡ row_of pool k
  row_range end e = let wide : end - n * width ≡ width = omega arith in ap (λ (m : ℕ). take m (drop (n * width) cells.items)) wide ∙ row_is

  pub row_wide : length (row_of pool k) ≡ pool.width
  row_wide = row_length ∙ ap (λ (x : Pool). x.width) view

  -- the row is taken or free from now on
  pub row_marked : (b : Bool) → pool_of width (slice_set flags n b) cells.items ≡ marked pool k b
  row_marked b = marked_cut width flags cells.items n b inside ∙ ap (λ (x : Pool). marked x n b) view ∙ ap (λ (j : ℕ). marked pool j b) id

-- rows that are spaced

pub length-spaced : (width more rows : ℕ) (cells : List Cell) → length cells ≡ rows * width → length (spaced width more rows cells) ≡ rows * (width + more)
length-spaced width more zero cells e = let z : 0 ≡ 0 * (width + more) = grind arith in z
length-spaced width more (suc rows) cells e =
    let s : suc rows * width ≡ rows * width + width = grind arith in
    let w : suc rows * (width + more) ≡ rows * (width + more) + (width + more) = grind arith in
    let fits : width ≤ length cells = omega arith in
    let rest : length (drop width cells) ≡ rows * width = length-drop width cells ∙ omega arith in
    let here : length (take width cells) ≡ width = length-take-le width cells fits in
    let behind : length (spaced width more rows (drop width cells)) ≡ rows * (width + more) = length-spaced width more rows (drop width cells) rest in
    simp (length-append, length-replicate) (omega (arith, here, behind))

-- one row more stands there
pub spaced_step : (width more n i : ℕ) (rest out all : List Cell) → i < n → out ++ spaced width more (n - i) rest ≡ all
    → ((out ++ take width rest) ++ replicate more unknown) ++ spaced width more (n - (i + 1)) (drop width rest) ≡ all
spaced_step width more n i rest out all h e =
    let next : n - i ≡ suc (n - (i + 1)) = omega arith in
    let row : List Cell = take width rest in
    let gap : List Cell = replicate more unknown in
    let behind : List Cell = spaced width more (n - (i + 1)) (drop width rest) in
    let known : out ++ ((row ++ gap) ++ behind) ≡ all = ap (λ (m : ℕ). out ++ spaced width more m rest) (sym next) ∙ e in
    simp append_assoc (simp append_assoc at known)

spaced_cut : (width more : ℕ) (flags : List Bool) (cells : List Cell) → length cells ≡ length flags * width
    → rows_cut (width + more) flags (spaced width more (length flags) cells) ≡ map (widened_row (width + more)) (rows_cut width flags cells)
spaced_cut width more [] cells e = refl
spaced_cut width more (t ∷ flags) cells e =
    let s : suc (length flags) * width ≡ length flags * width + width = grind arith in
    let fits : width ≤ length cells = omega arith in
    let rest : length (drop width cells) ≡ length flags * width = length-drop width cells ∙ omega arith in
    let row : List Cell = take width cells in
    let here : length row ≡ width = length-take-le width cells fits in
    let x : List Cell = row ++ replicate more unknown in
    let behind : List Cell = spaced width more (length flags) (drop width cells) in
    let long : length x ≡ width + more = simp (length-append, length-replicate) (omega (arith, here)) in
    let gap : more ≡ (width + more) - length row = omega (arith, here) in
    ap (λ (zs : List Cell). let r : PoolRow = record { taken = t; cells = zs } in r ∷ rows_cut (width + more) flags (drop (width + more) (x ++ behind))) (take_at x behind (width + more) long)
    ∙ ap (λ (zs : List Cell). let r : PoolRow = record { taken = t; cells = x } in r ∷ rows_cut (width + more) flags zs) (drop_at x behind (width + more) long)
    ∙ ap (λ (n : ℕ). let r : PoolRow = record { taken = t; cells = row ++ replicate n unknown } in r ∷ rows_cut (width + more) flags behind) gap
    ∙ ap (λ (rs : List PoolRow). widened_row (width + more) (record { taken = t; cells = row }) ∷ rs) (spaced_cut width more flags (drop width cells) rest)

free_cells : (width n : ℕ) → rows_cut width (replicate n false) (replicate (n * width) unknown) ≡ replicate n (free_row width)
free_cells width zero = refl
free_cells width (suc n) =
    let s : suc n * width ≡ width + n * width = grind arith in
    let all : replicate (suc n * width) unknown ≡ replicate width unknown ++ replicate (n * width) unknown = ap (λ (m : ℕ). replicate m unknown) s ∙ sym (replicate-append-replicate width (n * width) unknown) in
    let row : List Cell = replicate width unknown in
    let behind : List Cell = replicate (n * width) unknown in
    let long : length row ≡ width = length-replicate width unknown in
    ap (rows_cut width (replicate (suc n) false)) all
    ∙ ap (λ (zs : List Cell). let r : PoolRow = record { taken = false; cells = zs } in r ∷ rows_cut width (replicate n false) (drop width (row ++ behind))) (take_at row behind width long)
    ∙ ap (λ (zs : List Cell). free_row width ∷ rows_cut width (replicate n false) zs) (drop_at row behind width long)
    ∙ ap (λ (rs : List PoolRow). free_row width ∷ rs) (free_cells width n)

-- the pool that has grown
pub grown_cut : (width more j nodes count : ℕ) (flags : List Bool) (cells : List Cell) (pool : Pool) → pool_of width flags cells ≡ pool → length cells ≡ length flags * width
    → width + more ≡ max width nodes → j ≡ count - length flags
    → pool_of (width + more) (flags ++ replicate j false) (spaced width more (length flags) cells ++ replicate (j * (width + more)) unknown) ≡ grown pool count nodes
grown_cut width more j nodes count flags cells pool view whole wide added =
    let n : ℕ = length flags in
    let p : List Cell = spaced width more n cells in
    let q : List Cell = replicate (j * (width + more)) unknown in
    let long : length p ≡ n * (width + more) = length-spaced width more n cells whole in
    let fits : n ≤ length (flags ++ replicate j false) = simp length-append (omega arith) in
    let rows : rows_cut (width + more) (flags ++ replicate j false) (p ++ q) ≡ map (widened_row (width + more)) (rows_cut width flags cells) ++ replicate j (free_row (width + more)) =
    cut-append (width + more) n (flags ++ replicate j false) p q long fits
    ∙ ap (λ (fs : List Bool). rows_cut (width + more) fs p ++ rows_cut (width + more) (drop n (flags ++ replicate j false)) q) (take_at flags (replicate j false) n refl)
    ∙ ap (λ (fs : List Bool). rows_cut (width + more) flags p ++ rows_cut (width + more) fs q) (drop_at flags (replicate j false) n refl)
    ∙ ap (λ (rs : List PoolRow). rs ++ rows_cut (width + more) (replicate j false) q) (spaced_cut width more flags cells whole)
    ∙ ap (λ (rs : List PoolRow). map (widened_row (width + more)) (rows_cut width flags cells) ++ rs) (free_cells (width + more) j) in
    let counted : j ≡ count - length (rows_cut width flags cells) = added ∙ ap (λ (m : ℕ). count - m) (sym (length-cut width flags cells)) in
    let made : ℕ → List PoolRow → Pool = λ w rs. record { width = w; rows = rs } in
    let at_width : ℕ → Pool = λ w. record { width = w; rows = map (widened_row w) (rows_cut width flags cells) ++ replicate (count - length (rows_cut width flags cells)) (free_row w) } in
    ap (made (width + more)) rows
    ∙ ap (λ (m : ℕ). made (width + more) (map (widened_row (width + more)) (rows_cut width flags cells) ++ replicate m (free_row (width + more)))) counted
    ∙ ap at_width wide
    ∙ ap (λ (x : Pool). grown x count nodes) view

widened_same : (width : ℕ) (rows : List PoolRow) → All (λ row. length row.cells ≡ width) rows → map (widened_row width) rows ≡ rows
widened_same width [] even = refl
widened_same width (row ∷ rows) even =
    let here : length row.cells ≡ width = All-head (λ (r : PoolRow). length r.cells ≡ width) row rows even in
    let none : width - length row.cells ≡ 0 = omega arith in
    ap (λ (n : ℕ). let r : PoolRow = record { taken = row.taken; cells = row.cells ++ replicate n unknown } in r ∷ map (widened_row width) rows) none
    ∙ ap (λ (zs : List Cell). let r : PoolRow = record { taken = row.taken; cells = zs } in r ∷ map (widened_row width) rows) (append-nil row.cells)
    ∙ ap (λ (rs : List PoolRow). row ∷ rs) (widened_same width rows (All-tail (λ (r : PoolRow). length r.cells ≡ width) row rows even))

-- where nothing is to be added the pool is as it was
pub grown_same : (pool : Pool) (count nodes : ℕ) → IsPool pool → count ≤ length pool.rows → nodes ≤ pool.width → pool ≡ grown pool count nodes
grown_same pool count nodes lawful few narrow =
    let wide : max pool.width nodes ≡ pool.width = omega arith in
    let none : count - length pool.rows ≡ 0 = omega arith in
    let at_width : ℕ → Pool = λ w. record { width = w; rows = map (widened_row w) pool.rows ++ replicate (count - length pool.rows) (free_row w) } in
    let made : List PoolRow → Pool = λ rs. record { width = pool.width; rows = rs } in
    sym (ap at_width wide
    ∙ ap (λ (n : ℕ). made (map (widened_row pool.width) pool.rows ++ replicate n (free_row pool.width))) none
    ∙ ap made (append-nil (map (widened_row pool.width) pool.rows) ∙ widened_same pool.width pool.rows lawful.even))

-- what is left of so many times a number, one turn on
pub left_less : (n i width : ℕ) → i < n → (n - i) * width ≡ (n - (i + 1)) * width + width
left_less n i width h =
    let next : n - i ≡ suc (n - (i + 1)) = omega arith in
    let m : ℕ = n - (i + 1) in
    let s : suc m * width ≡ m * width + width = grind arith in
    ap (λ (j : ℕ). j * width) next ∙ s

-- the region and the flags that were made for it
pub grown_made : (width nodes count rows wide : ℕ) (flags flags' : List Bool) (cells cells' : List Cell) (pool : Pool) → pool_of width flags cells ≡ pool → length cells ≡ length flags * width
    → count ≡ max (length flags) rows → wide ≡ max width nodes → flags' ≡ take count flags ++ replicate (count - length flags) false
    → cells' ≡ take (count * wide) (spaced width (wide - width) (length flags) cells) ++ replicate (count * wide - length (spaced width (wide - width) (length flags) cells)) unknown
    → pool_of wide flags' cells' ≡ grown pool rows nodes
grown_made width nodes count rows wide flags flags' cells cells' pool view whole most widest fs cs =
    let more : ℕ = wide - width in
    let n : ℕ = length flags in
    let j : ℕ = count - n in
    let s : List Cell = spaced width more n cells in
    let sum : width + more ≡ wide = omega arith in
    let long : length s ≡ n * wide = length-spaced width more n cells whole ∙ ap (λ (w : ℕ). n * w) sum in
    let parts : count ≡ n + j = omega arith in
    let product : (n + j) * wide ≡ n * wide + j * wide = grind arith in
    let all : count * wide ≡ n * wide + j * wide = ap (λ (m : ℕ). m * wide) parts ∙ product in
    let whole_s : take (count * wide) s ≡ s = take_all (count * wide) s (omega (arith, long, all)) in
    let rest : count * wide - length s ≡ j * wide = omega (arith, long, all) in
    let flags_is : flags' ≡ flags ++ replicate j false = fs ∙ ap (λ (xs : List Bool). xs ++ replicate j false) (take_all count flags (omega arith)) in
    let cells_is : cells' ≡ s ++ replicate (j * wide) unknown = cs ∙ ap (λ (xs : List Cell). xs ++ replicate (count * wide - length s) unknown) whole_s ∙ ap (λ (m : ℕ). s ++ replicate m unknown) rest in
    ap (λ (xs : List Bool). pool_of wide xs cells') flags_is ∙ ap (pool_of wide (flags ++ replicate j false)) cells_is
    ∙ ap (λ (w : ℕ). pool_of w (flags ++ replicate j false) (s ++ replicate (j * w) unknown)) (sym sum)
    ∙ grown_cut width more j nodes rows flags cells pool view whole (sum ∙ widest) (omega arith)

pub grown_already : (width nodes rows : ℕ) (flags : List Bool) (cells : List Cell) (pool : Pool) → IsRegion width flags cells → pool_of width flags cells ≡ pool → rows ≤ length flags → nodes ≤ width → pool ≡ grown pool rows nodes
grown_already width nodes rows flags cells pool region view few narrow =
    let counted : length flags ≡ length pool.rows = sym (length-cut width flags cells) ∙ ap (λ (x : Pool). length x.rows) view in
    let wide : width ≡ pool.width = ap (λ (x : Pool). x.width) view in
    grown_same pool rows nodes (subst IsPool view (is_pool width flags cells region)) (omega arith) (omega arith)
