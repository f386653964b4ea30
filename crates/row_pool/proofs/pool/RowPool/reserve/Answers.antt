use Rattle.std.proofs.Common.{rules, ◌≡◌, ◌-◌, ◌*◌, ◌≤◌, ◌++◌, max, Bool, false, List, length, take, replicate, vec_len, arith, ap, ◌∙◌}
use Rattle.row_pool.specs.declared.cell.Cell.{Cell}
use Rattle.row_pool.specs.Row.{unknown}
use Rattle.row_pool.specs.Region.{spaced}
use Rattle.row_pool.proofs.Regions.{grown_made, grown_already}
use Rattle.row_pool.proofs.pool.RowPool.reserve.Goals as goal

pub returns-then-width-narrow-clause-ok : goal.returns-then-width-narrow-clause-ok
returns-then-width-narrow-clause-ok c =
    let count : vec_len c.self.inside.taken ≡ length c.self.inside.taken.items = search rules in
    let few : c.args.rows ≤ length c.self.inside.taken.items = omega arith in
    let narrow : c.args.nodes ≤ c.self.inside.width = omega arith in
    grown_already _ _ _ _ _ _ c.self.invariant c.self.view_is few narrow

pub returns-clause-ok : goal.returns-clause-ok
returns-clause-ok c =
    let flags : List Bool = c.self.inside.taken.items in
    let before : vec_len c.self.inside.taken ≡ length flags = search rules in
    let was : c.len-before.result ≡ length flags = c.len-before.ensures ∙ before in
    let count : c.max-count.result ≡ max (length flags) c.args.rows = c.max-count.ensures ∙ ap (λ n. max n c.args.rows) was in
    let wide : c.max-width.result ≡ max c.self.inside.width c.args.nodes = c.max-width.ensures in
    let more : List Cell = spaced c.self.inside.width (c.max-width.result - c.self.inside.width) (length flags) c.self.inside.cells.items in
    let spread : c.append_spaced.new.out.items ≡ more =
    (rw c.in_ok-append_spaced.was at c.append_spaced.ensures)
    ∙ ap (λ n. spaced c.self.inside.width (c.max-width.result - c.self.inside.width) n c.deref.result.now) was
    ∙ ap (spaced c.self.inside.width (c.max-width.result - c.self.inside.width) (length flags)) c.deref.ensures.value in
    let spread_count : vec_len c.append_spaced.new.out ≡ length c.append_spaced.new.out.items = search rules in
    let cells : c.resize.new.self.items ≡ take (c.max-count.result * c.max-width.result) more ++ replicate (c.max-count.result * c.max-width.result - length more) unknown =
    (rw c.in_ok-resize.was at c.resize.ensures.items)
    ∙ ap (λ n. take (c.max-count.result * c.max-width.result) c.append_spaced.new.out.items ++ replicate (c.max-count.result * c.max-width.result - n) c.unknown.result) spread_count
    ∙ ap (λ xs. take (c.max-count.result * c.max-width.result) xs ++ replicate (c.max-count.result * c.max-width.result - length xs) c.unknown.result) spread
    ∙ ap (λ u. take (c.max-count.result * c.max-width.result) more ++ replicate (c.max-count.result * c.max-width.result - length more) u) c.unknown.ensures in
    let set : c.resize-2.new.self.items ≡ take c.max-count.result flags ++ replicate (c.max-count.result - length flags) false =
    (rw c.in_ok-resize-2.was at c.resize-2.ensures.items) ∙ ap (λ n. take c.max-count.result flags ++ replicate (c.max-count.result - n) false) before in
    grown_made c.self.inside.width c.args.nodes c.max-count.result c.args.rows c.max-width.result flags c.resize-2.new.self.items c.self.inside.cells.items c.resize.new.self.items
    c.args.self.now c.self.view_is c.self.invariant.whole count wide set cells
