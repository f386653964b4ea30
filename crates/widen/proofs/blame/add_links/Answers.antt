use Rattle.std.proofs.Common.{◌≤◌, ◌+◌, List, length, drop, subst, arith}
use Rattle.cert_check.specs.declared.what.What.{What}
use Rattle.widen.specs.Blame.{link_candidates, IsBlamedUpTo}
use Rattle.widen.proofs.Blaming.{next_links, no_links}
use Rattle.widen.proofs.blame.add_links.Goals as goal

pub add_link-requires-clause-from : goal.add_link-requires-clause-from
add_link-requires-clause-from g c = (c.requires.named c.loop-link.link-index (0, 0) c.loop-link-test.true).0

pub add_link-requires-clause-to : goal.add_link-requires-clause-to
add_link-requires-clause-to g c = (c.requires.named c.loop-link.link-index (0, 0) c.loop-link-test.true).1

pub loop-link-preserved : goal.loop-link-preserved
loop-link-preserved g c =
    let p = c.args.p.now in
    let k = c.loop-link.link-index in
    record {
      lines = λ so_far.
          c.in_ok-add_link.ensures.lines (link_candidates (drop (k + 1) c.args.links.now))
          (subst (λ (ws : List What). IsBlamedUpTo p ws c.loop-link.lines.text.items) (next_links c.args.links.now k (0, 0) c.loop-link-test.true) (c.loop-link.invariant.lines so_far));
      cycles = c.in_ok-add_link.ensures.cycles;
    }

pub returns-clause-lines : goal.returns-clause-lines
returns-clause-lines g c = λ so_far.
    let past : length c.args.links.now ≤ c.loop-link.link-index = omega (arith, c.loop-link-test.false) in
    subst (λ (ws : List What). IsBlamedUpTo c.args.p.now ws c.loop-link.lines.text.items) (no_links c.args.links.now c.loop-link.link-index past) (c.loop-link.invariant.lines so_far)
