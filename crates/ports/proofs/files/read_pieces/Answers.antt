use Rattle.std.proofs.Common.{◌≡◌, ◌≤◌, length, arith, rules, vec_len}
use Rattle.ports.proofs.Fronts.{front_ends, front_full, has_bytes_weaker}
use Rattle.ports.proofs.files.read_pieces.Goals as goal

pub returns-then-branch-eq0-clause-read : goal.returns-then-branch-eq0-clause-read
returns-then-branch-eq0-clause-read g c =
    let within : length c.read_more.new.bytes.items ≤ c.args.most = search rules in
    let long : vec_len c.loop-files.bytes ≤ length c.read_more.new.bytes.items = search rules in
    rw (← c.loop-files.invariant.3.same) (front_ends _ _ c.read_more.new.bytes.items c.args.most within c.in_ok-read_more.ensures.front
    (has_bytes_weaker _ _ _ _ (λ all short. omega (arith, short, long)) (c.in_ok-read_more.ensures.end c.if-branch-eq0.true)))

pub returns-clause-read : goal.returns-clause-read
returns-clause-read g c =
    let full : length c.loop-files.bytes.items ≡ c.args.most = search rules in
    let one : length c.read_at.new.buf ≡ 1 = search rules in
    rw (← c.loop-files.invariant.3.same) (front_full _ _ c.loop-files.bytes.items c.read_at.new.buf _ c.in_ok-n.n full one c.loop-files.invariant.0 c.in_ok-n.ensures.read)
