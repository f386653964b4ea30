use Rattle.std.proofs.Common.{◌≡◌, suc, length, sym, ap, subst, arith}
use Rattle.replies.specs.Commands.{names_seen}
use Rattle.session.proofs.AskedEvents.{AreFound, none_found, one_found, one_missing, all_found}
use Rattle.session.proofs.thins.places_of.Goals as goal

pub loop-name-init : goal.loop-name-init
loop-name-init c = none_found c.args.p.now (names_seen c.args.events.now) c.new-places.result.items c.new-places.ensures.items

pub loop-name-smaller : goal.loop-name-smaller
loop-name-smaller c = let same : length (names_seen c.loop-name.rest) ≡ suc (length (names_seen c.in-Some.more)) = ap length c.in-Some.ensures.some in omega (arith, same)

pub loop-name-preserved : goal.loop-name-preserved
loop-name-preserved c =
    subst (AreFound c.args.p.now (names_seen c.args.events.now) (names_seen c.in-Some.more)) (sym c.in_ok-push-in-Some-event_named.ensures.items)
    (one_found c.args.p.now (names_seen c.args.events.now) (names_seen c.loop-name.rest) c.loop-name.places.items c.loop-name.invariant c.in-Some.name.now (names_seen c.in-Some.more) c.in-Some.ensures.some c.in-Some-event_named.place c.in-Some-event_named.ensures.some)

pub returns-in-None-clause-err : goal.returns-in-None-clause-err
returns-in-None-clause-err c =
    one_missing c.args.p.now (names_seen c.args.events.now) (names_seen c.loop-name.rest) c.loop-name.places.items c.loop-name.invariant c.in-Some.name.now (names_seen c.in-Some.more) c.in-Some.ensures.some c.in-None.ensures.none

pub returns-clause-ok : goal.returns-clause-ok
returns-clause-ok c = all_found c.args.p.now (names_seen c.args.events.now) (names_seen c.loop-name.rest) c.loop-name.places.items c.loop-name.invariant c.in_default.ensures.none
