use Rattle.std.proofs.Common.{◌<◌, ℕ, All, rules, subst}
use Rattle.cert.proofs.CertGrowing.{clock_one}
use Rattle.cert.proofs.take_part.push_inside.Goals as goal

pub returns-then-not-is_behind : goal.returns-then-not-is_behind
returns-then-not-is_behind c = λ found.
    let one = clock_one c.args.p.now c.clocks.ensures.lawful found.0 c.in-Some.clock c.args.name.now found.1 c.in-Some.ensures.some in
    let behind : All {X = ℕ} (λ j. j < c.in-Some.clock) c.args.inside.now.items = subst (λ (k : ℕ). All {X = ℕ} (λ j. j < k) c.args.inside.now.items) one found.2 in
    search rules
