-- Two rows of a pool that are written at once.
use Rattle.std.proofs.Common.{◌≡◌, ◌≢◌, ℕ, suc, ◌+◌, ◌*◌, ◌<◌, ◌≤◌, ◌⊎◌, Bool, List, [], ◌++◌, length, take, drop, sym, ap, ◌∙◌, inl, inr, arith, append-nil, Vec}
use Rattle.std.proofs.lemmas.List.{take_all, drop_all}
use Rattle.std.proofs.lemmas.Bool.{cases_lt}
use Rattle.std.specs.Vec.{with_items}
use Rattle.std.specs.Fn.{Once}
use native.Mathlib.Nat.{mul-le-mul_right}
use Rattle.row_pool.specs.declared.cell.Cell.{Cell}
use Rattle.row_pool.specs.Pool.{PoolRow, Pool, IsTakenRow, row_of, with_cells}
use Rattle.row_pool.specs.Region.{rows_cut, pool_of, IsRegion}
use Rattle.row_pool.specs.Writing.{Two, TakesBoth, WritesParts, WritesTwo, put_cells}
use Rattle.row_pool.proofs.Regions.{length-cut, row_within, rows_written, is_pool, inside, row_is}
use Rattle.row_pool.proofs.Pools.{written_row}
use Rattle.row_pool.proofs.Parts.{length-put}

-- rows of different numbers lie apart
pub rows_apart : (a b width : ℕ) → a ≢ b → (a * width + width ≤ b * width) ⊎ (b * width + width ≤ a * width)
rows_apart a b width differ =
    let up : suc a * width ≡ a * width + width = grind arith in
    let down : suc b * width ≡ b * width + width = grind arith in
    elim (cases_lt a b) [
      | inl h ↦ inl (let m : suc a * width ≤ b * width = mul-le-mul_right width h in omega arith)
      | inr h ↦ elim (cases_lt b a) [
        | inl k ↦ inr (let m : suc b * width ≤ a * width = mul-le-mul_right width k in omega arith)
        | inr k ↦ absurd (let same : a ≡ b = omega arith in differ same)
      ]
    ]

-- the cells of a row are written in the region
put_row : (width : ℕ) (flags : List Bool) (cells ws : List Cell) (k : ℕ) → IsRegion width flags cells → k < length flags → length ws ≡ width
    → pool_of width flags (put_cells (k * width) cells ws) ≡ with_cells (pool_of width flags cells) k ws
put_row width flags cells ws k region below e =
    let made : List PoolRow → Pool = λ rs. record { width = width; rows = rs } in
    let counted : k < length (rows_cut width flags cells) = rw length-cut below in
    ap made (rows_written width flags cells ws k region below) ∙ written_row (pool_of width flags cells) k ws (is_pool width flags cells region) counted e

put_region : (width : ℕ) (flags : List Bool) (cells ws : List Cell) (k : ℕ) → IsRegion width flags cells → k < length flags → length ws ≡ width → IsRegion width flags (put_cells (k * width) cells ws)
put_region width flags cells ws k region below e =
    let fits : k * width + width ≤ length cells = row_within width flags cells k region below in
    record { whole = length-put (k * width) cells ws (omega arith) ∙ region.whole; few = region.few; narrow = region.narrow }

module _ {Z : Type 0} (width : ℕ) (flags : List Bool) (cells : Vec Cell Z) (pool : Pool) (a b first second : ℕ) (region : IsRegion width flags cells.items) (view : pool_of width flags cells.items ≡ pool)
    (ida : a ≡ first) (idb : b ≡ second) (taken : IsTakenRow pool first) (other : IsTakenRow pool second) where
  in_a : a < length flags
  in_a = inside width flags cells pool a first region view ida taken

  in_b : b < length flags
  in_b = inside width flags cells pool b second region view idb other

  is_a : take width (drop (a * width) cells.items) ≡ row_of pool first
  is_a = row_is width flags cells pool a first region view ida taken

  is_b : take width (drop (b * width) cells.items) ≡ row_of pool second
  is_b = row_is width flags cells pool b second region view idb other

  pub takes_parts : {F R : Type 0} (g : Once F Two R) (f : F) (xs : List Cell) → xs ≡ cells.items → TakesBoth g f (row_of pool first) (row_of pool second)
      → TakesBoth g f (take width (drop (a * width) xs)) (take width (drop (b * width) xs))
  takes_parts g f xs e takes p q one two =
      takes p q (one ∙ ap (λ (zs : List Cell). take width (drop (a * width) zs)) e ∙ is_a) (two ∙ ap (λ (zs : List Cell). take width (drop (b * width) zs)) e ∙ is_b)

  pub writes_two : {F : Type 0} (g : Once F Two (Unit {0} × Two)) (f : F) (xs ws : List Cell) → xs ≡ cells.items → WritesParts g f xs ws (a * width) (b * width) width
      → WritesTwo g f pool (pool_of width flags (with_items cells ws).items) first second
  writes_two g f xs ws e parts = record {
    one = parts.one;
    two = parts.two;
    leaves = record {
      shown = parts.leaves.shown;
      shows = (parts.leaves.shows.0 ∙ ap (λ (zs : List Cell). take width (drop (a * width) zs)) e ∙ is_a, parts.leaves.shows.1 ∙ ap (λ (zs : List Cell). take width (drop (b * width) zs)) e ∙ is_b);
      left = parts.leaves.left;
      met = parts.leaves.met;
      leaves = parts.leaves.leaves;
    };
    wide = let same : width ≡ pool.width = ap (λ (x : Pool). x.width) view in (parts.wide.0 ∙ same, parts.wide.1 ∙ same);
    written =
        let one : List Cell = put_cells (a * width) cells.items parts.one in
        let two : List Cell = put_cells (b * width) one parts.two in
        let between : IsRegion width flags one = put_region width flags cells.items parts.one a region in_a parts.wide.0 in
        let after : IsRegion width flags two = put_region width flags one parts.two b between in_b parts.wide.1 in
        let is : ws ≡ two = parts.written ∙ ap (λ (zs : List Cell). put_cells (b * width) (put_cells (a * width) zs parts.one) parts.two) e in
        let count : cells.len ≡ length cells.items = cells.ok.0 in
        let same : length two ≡ length cells.items = after.whole ∙ sym region.whole in
        let long : length ws ≡ length cells.items = ap length is ∙ same in
        let gone : drop (length ws) cells.items ≡ [] = drop_all (length ws) cells.items (omega arith) in
        let all : take cells.len (ws ++ drop (length ws) cells.items) ≡ two =
        ap (λ (zs : List Cell). take cells.len (ws ++ zs)) gone ∙ ap (take cells.len) (append-nil ws) ∙ take_all cells.len ws (omega arith) ∙ is in
        ap (pool_of width flags) all
        ∙ put_row width flags one parts.two b between in_b parts.wide.1
        ∙ ap (λ (x : Pool). with_cells x b parts.two) (put_row width flags cells.items parts.one a region in_a parts.wide.0)
        ∙ ap (λ (x : Pool). with_cells (with_cells x a parts.one) b parts.two) view
        ∙ ap (λ (j : ℕ). with_cells (with_cells pool j parts.one) b parts.two) ida
        ∙ ap (λ (j : ℕ). with_cells (with_cells pool first parts.one) j parts.two) idb;
  }
