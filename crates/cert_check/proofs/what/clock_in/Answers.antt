use Rattle.std.proofs.Common.{◌≡◌, ◌<◌, List, length, slice_get, Some, refl, sym, ◌∙◌, ap, subst, arith}
use Rattle.std.proofs.lemmas.Option.{slice_get_read}
use Rattle.problem_model.specs.declared.items.Clock.{Clock}
use Rattle.cert_check.proofs.Widening.{widened_at}
use Rattle.cert_check.proofs.what.clock_in.Goals as goal

pub returns : goal.returns
returns c =
    let p = c.args.p.now in
    let clocks : List Clock = c.clocks.result.now in
    let long = ap length c.clocks.ensures.value in
    let inside : c.args.place < length clocks = omega (arith, long, c.requires) in
    let at : slice_get p.clocks c.args.place ≡ Some c.index-clocks-place.result =
    subst (λ (cs : List Clock). slice_get cs c.args.place ≡ Some c.index-clocks-place.result) c.clocks.ensures.value (slice_get_read clocks (length clocks) c.args.place c.index-clocks-place.result refl inside c.index-clocks-place.is) in
    widened_at c.args.what c.args.extra p.clocks c.args.place c.index-clocks-place.result at ∙ ap Some (sym c.widened_clock.ensures)
