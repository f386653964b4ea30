use Rattle.std.proofs.Common.{◌≤◌, ℕ, length, subst, refl, sym, ap, ◌∙◌, arith}
use Rattle.mergecap.specs.declared.stored.Stored.{Stored}
use Rattle.mergecap.specs.MergedCapture.{Timed}
use Rattle.mergecap.specs.Packets.{timed}
use Rattle.roster.specs.Roster.{IsNumberUnder}
use Rattle.session.specs.Settled.{event_of, valued}
use Rattle.std.proofs.lemmas.List.{length-map}
use Rattle.session.proofs.Settles.{settle_next, settle_step, settle_done}
use Rattle.session.proofs.packet_times.settle_each.Goals as goal

pub loop-stored-init : goal.loop-stored-init
loop-stored-init c = refl

pub settle_one-requires-clause-there : goal.settle_one-requires-clause-there
settle_one-requires-clause-there c =
    let item = c.stored-item.result in
    let next = settle_next (valued c.args.names.now c.args.solver.now) c.args.kept.now c.loop-stored.kept c.loop-stored.stored-index c.loop-stored.invariant item in
    let long = length-map c.args.kept.now timed in
    let inside = c.loop-stored-test.true in
    subst (λ (t : Timed). (v : ℕ) × IsNumberUnder c.args.names.now.under (event_of t) v) next (c.requires.there c.loop-stored.stored-index (timed item) (omega (arith, inside, long)))

pub loop-stored-preserved : goal.loop-stored-preserved
loop-stored-preserved c =
    settle_step (valued c.args.names.now c.args.solver.now) c.args.kept.now c.loop-stored.kept c.loop-stored.stored-index c.loop-stored.invariant c.stored-item.result c.settle_one.new.stored
    c.loop-stored-test.true c.stored-item.is (c.settle_one.ensures ∙ ap (λ (item : Stored). valued c.args.names.now c.args.solver.now (timed item)) (sym c.stored-item.is))

pub returns : goal.returns
returns c =
    let out : length c.args.kept.now ≤ c.loop-stored.stored-index = omega (arith, c.loop-stored-test.false) in
    settle_done (valued c.args.names.now c.args.solver.now) c.args.kept.now c.loop-stored.kept c.loop-stored.stored-index c.loop-stored.invariant out
