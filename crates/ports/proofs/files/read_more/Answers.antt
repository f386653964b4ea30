use Rattle.std.proofs.Common.{◌≡◌, length, arith, rules}
use Rattle.std.proofs.lemmas.Grind.{common_steps}
use Rattle.ports.proofs.Fronts.{front_more}
use Rattle.ports.proofs.files.read_more.Goals as goal

pub returns-clause-front : goal.returns-clause-front
returns-clause-front g c =
    let place : c.len-2.result ≡ length c.args.bytes.now.items = search rules in
    rw c.in_ok-extend_from_slice.ensures.items (front_more _ _ _ c.read_at.new.buf _ _ c.in_ok-n.n place (grind (arith, common_steps, c.in_ok-n.ensures.count)) c.requires.front c.in_ok-n.ensures.read)
