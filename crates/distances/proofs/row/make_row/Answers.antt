use Rattle.std.proofs.Common.{◌≡◌, length, false, arith}
use Rattle.std.proofs.lemmas.Int.{ints}
use Rattle.row_pool.specs.Row.{cell_at, cells_of}
use Rattle.problem_model.proofs.RowStarts.{own_candidate}
use Rattle.distances.specs.Searched.{table}
use Rattle.distances.proofs.Beginning.{none_known, cleared_blank}
use Rattle.distances.proofs.row.make_row.Goals as goal

pub settle-requires-clause-start : goal.settle-requires-clause-start
settle-requires-clause-start g c = record {
  within = c.requires.node;
  small = (omega (arith, ints), omega (arith, ints));
  brings = own_candidate (table c.args.search.now) c.args.p (cells_of c.clear.new.row) (none_known (length c.args.row.now) c.clear.new.row c.clear.ensures);
}

pub settle-requires-clause-part : goal.settle-requires-clause-part
settle-requires-clause-part g c = record {
  low = λ k h. absurd (let f : (cell_at c.clear.new.row k).known ≡ false = none_known (length c.args.row.now) c.clear.new.row c.clear.ensures k in let z : ⊥ = cc in z);
  past = λ k l. none_known (length c.args.row.now) c.clear.new.row c.clear.ensures k;
}

pub returns-clause-blank : goal.returns-clause-blank
returns-clause-blank g c = c.settle.ensures.blank (cleared_blank (length c.args.row.now) c.clear.new.row c.clear.ensures)
