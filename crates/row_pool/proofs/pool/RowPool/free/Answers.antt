use Rattle.std.proofs.Common.{rules, ◌≡◌, count_by, not, sym, ap, ◌∙◌}
use Rattle.row_pool.specs.Pool.{free_rows}
use Rattle.row_pool.proofs.Regions.{free_cut}
use Rattle.row_pool.proofs.pool.RowPool.free.Goals as goal

pub returns : goal.returns
returns c =
    let e : c.count.result ≡ count_by (λ b. not b) c.self.inside.taken.items = search rules in
    e ∙ sym (free_cut c.self.inside.width c.self.inside.taken.items c.self.inside.cells.items) ∙ ap free_rows c.self.view_is
