use Rattle.std.proofs.lemmas.Int.{to_z-of_z}
use mir.Syntax.{w128}
use mir.Val.{SFits}
use Rattle.cert.proofs.write.write_value.Goals as goal

pub returns : goal.returns
returns g c =
    let fits : SFits w128 c.args.value = c.ranges.value in
    rw (simp to_z-of_z at c.value_line-line.ensures) at (rw c.as_slice.ensures.value at c.write_whole.ensures)
