use Rattle.std.proofs.Common.{rules, ◌≡◌, ◌+◌, ◌-◌, ◌++◌, length, take, drop, replicate, vec_len, arith, ap, ◌∙◌, length-drop}
use Rattle.std.proofs.lemmas.List.{take_all}
use Rattle.row_pool.specs.Row.{unknown}
use Rattle.row_pool.specs.Region.{spaced}
use Rattle.row_pool.proofs.Regions.{spaced_step, left_less}
use Rattle.row_pool.proofs.pool.append_spaced.Goals as goal

pub loop-row-preserved : goal.loop-row-preserved
loop-row-preserved c =
    let one : c.extend_from_slice.new.self.items ≡ c.loop-row.out.items ++ take c.args.width c.loop-row.rest.now =
    (rw c.in_ok-extend_from_slice.was at c.extend_from_slice.ensures.items) ∙ ap (λ xs. c.loop-row.out.items ++ xs) c.split_at.ensures.front in
    let count : vec_len c.extend_from_slice.new.self ≡ length c.extend_from_slice.new.self.items = search rules in
    let there : c.len.result ≡ length c.extend_from_slice.new.self.items = c.len.ensures ∙ count in
    let two : c.resize.new.self.items ≡ c.extend_from_slice.new.self.items ++ replicate c.args.more unknown =
    (rw c.in_ok-resize.was at c.resize.ensures.items)
    ∙ ap (λ xs. xs ++ replicate (c.len.result + c.args.more - vec_len c.extend_from_slice.new.self) c.unknown.result) (take_all (c.len.result + c.args.more) c.extend_from_slice.new.self.items (omega arith))
    ∙ ap (λ n. c.extend_from_slice.new.self.items ++ replicate n c.unknown.result) (omega arith)
    ∙ ap (λ u. c.extend_from_slice.new.self.items ++ replicate c.args.more u) c.unknown.ensures in
    let rest : c.split_at.result.1.now ≡ drop c.args.width c.loop-row.rest.now = c.split_at.ensures.back in
    let less = left_less c.args.rows c.loop-row._row c.args.width c.loop-row-test.true in
    record {
      built =
          ap (λ xs. xs ++ spaced c.args.width c.args.more (c.args.rows - (c.loop-row._row + 1)) c.split_at.result.1.now) (two ∙ ap (λ xs. xs ++ replicate c.args.more unknown) one)
          ∙ ap (λ xs. ((c.loop-row.out.items ++ take c.args.width c.loop-row.rest.now) ++ replicate c.args.more unknown) ++ spaced c.args.width c.args.more (c.args.rows - (c.loop-row._row + 1)) xs) rest
          ∙ spaced_step c.args.width c.args.more c.args.rows c.loop-row._row c.loop-row.rest.now c.loop-row.out.items (spaced c.args.width c.args.more c.args.rows c.args.cells.now) c.loop-row-test.true c.loop-row.invariant.built;
      whole = ap length rest ∙ length-drop c.args.width c.loop-row.rest.now ∙ omega (arith, less);
    }
