use Rattle.problem.specs.Listing.{all_readings}
use Rattle.cert.specs.Listed.{listed_cycle}
use Rattle.queries.specs.Contradiction.{weighed_steps}
use Rattle.problem.proofs.OwnReadings.{own_readings}
use Rattle.queries.proofs.ContradictionTexts.{cycle_named, cycle_shows}
use Rattle.queries.proofs.contradiction.write_contradiction.Goals as goal

pub write_cycle-requires : goal.write_cycle-requires
write_cycle-requires g c =
    let l = g.N.Listing.listed c.args.names.now in
    let p = c.requires.0 in
    let held = c.requires.1 in
    record { named = cycle_named l p held.0 c.args.cycle.now held.3 (c.contradictions.ensures.held l p (all_readings p.events) held.0 (own_readings p) held.1 held.2) }

pub returns : goal.returns
returns g c = λ p held.
    let l = g.N.Listing.listed c.args.names.now in
    let has = c.contradictions.ensures.held l p (all_readings p.events) held.0 (own_readings p) held.1 held.2 in (
      listed_cycle l (weighed_steps c.args.cycle.now),
      cycle_shows l p held.0 c.args.cycle.now held.3 has (c.contradictions.ensures.written l p (all_readings p.events) held.0 (own_readings p) held.1 has),
      c.write_cycle.ensures,
    )
