use Rattle.std.proofs.Common.{◌<◌, ◌≤◌, ◌+◌, List, ◌∷◌, ◌++◌, length, drop, ap, subst, arith}
use Rattle.cert_check.specs.declared.what.Clocks.TheVariants as clocks
use Rattle.cert_check.specs.declared.what.What.{What}
use Rattle.cert_check.specs.declared.what.What.TheVariants.{Rates}
use Rattle.widen.specs.Blame.{clock_candidates, IsBlamedUpTo}
use Rattle.widen.proofs.Blaming.{next_candidates, no_clocks}
use Rattle.widen.proofs.blame.add_clocks.Goals as goal

pub loop-place-preserved : goal.loop-place-preserved
loop-place-preserved g c =
    let p = c.args.p.now in
    let k = c.loop-place.place in
    let count = ap length c.clocks.ensures.value in
    let inside : k < length p.clocks = omega (arith, c.loop-place-test.true, count) in
    record {
      lines = λ rest so_far.
          let behind = clock_candidates (k + 1) (drop (k + 1) p.clocks) ++ rest in
          let both = subst (λ (ws : List What). IsBlamedUpTo p (ws ++ rest) c.loop-place.lines.text.items) (next_candidates p.clocks k inside) (c.loop-place.invariant.lines rest so_far) in
          c.in_ok-add_found-2.ensures.lines behind (c.in_ok-add_found.ensures.lines (Rates (clocks.One k) ∷ behind) both);
      cycles = c.in_ok-add_found-2.ensures.cycles;
    }

pub returns-clause-lines : goal.returns-clause-lines
returns-clause-lines g c = λ rest so_far.
    let p = c.args.p.now in
    let k = c.loop-place.place in
    let count = ap length c.clocks.ensures.value in
    let past : length p.clocks ≤ k = omega (arith, c.loop-place-test.false, count) in
    subst (λ (ws : List What). IsBlamedUpTo p (ws ++ rest) c.loop-place.lines.text.items) (no_clocks p.clocks k past) (c.loop-place.invariant.lines rest so_far)
