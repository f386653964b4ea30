use Rattle.std.proofs.Common.{◌≡◌, List, ℤ, SFits, w64, ap, ◌∙◌, rules}
use Rattle.std.proofs.lemmas.Int.{to_z-of_z}
use Rattle.msg_match.specs.Series.{begin_at}
use Rattle.msg_match.proofs.Scanned.{begun_more}
use Rattle.msg_match.proofs.series.begins_of.Goals as goal

pub loop-k-preserved : goal.loop-k-preserved
loop-k-preserved c =
    let b = c.begin_at-begin.result in
    let fits : SFits w64 b = search rules in
    begun_more c.args.stops.now c.loop-k.begins.items c.loop-k.k _ c.requires c.loop-k-test.true c.loop-k.invariant
    (to_z-of_z w64 b fits ∙ c.begin_at-begin.ensures ∙ ap (λ (l : List ℤ). begin_at c.args.stops.now l c.loop-k.k) c.deref.ensures.value)
