use Rattle.std.proofs.Common.{◌≡◌, ◌<◌, ◌^◌, take, map}
use Rattle.std.specs.Prelude.{All, unsigned_abs}
use Rattle.cert_check.specs.Widened.{widened}
use Rattle.widen.specs.Weighed.{IsWeighed, unweighed}
use Rattle.widen.proofs.weighed.arcs_in.Given as goal

-- the arcs so far
abbrev pub invariant-loop-arc : goal.invariant-loop-arc
invariant-loop-arc l = record {
  same : map unweighed l.others.items ≡ map unweighed (take l.arc-index l.arcs);
  weighed : All (IsWeighed (widened l.what l.p l.extra)) l.others.items;
  small : All (λ a. unsigned_abs a.weight < 2 ^ 93) l.others.items;
}
