use Rattle.std.proofs.Common.{◌∷◌, [], List, sym, ◌∙◌, ap, subst, arith}
use Rattle.std.proofs.lemmas.Int.{ints}
use Rattle.std.proofs.lemmas.List.Elements.{All-nil}
use Rattle.std.proofs.lemmas.Option.{slice_get_within}
use Rattle.problem_model.specs.declared.items.Bound.{Bound}
use Rattle.problem_model.specs.Bounds.{Constraint, Declares}
use Rattle.problem_model.specs.Nodes.{Reading}
use Rattle.problem_model.specs.ShortList.{ObeysNamed}
use Rattle.problem.specs.Nearest.{listed_follow, gap_between}
use Rattle.cert_check.specs.declared.verdict.Verdict.TheVariants.{Obeys}
use Rattle.cert_check.specs.Verdict.{Judges}
use Rattle.cert_check.specs.Widened.{gap_left, widened}
use Rattle.cert_check.proofs.Widening.{formed, follow_on}
use Rattle.cert_check.proofs.verdict.judge_follow.Goals as goal

pub place_of-requires : goal.place_of-requires
place_of-requires c = let declares = rw c.in-Some.is at c.nearest_follow.ensures.declared in declares.5

pub reading_time-from-requires-clause-within : goal.reading_time-from-requires-clause-within
reading_time-from-requires-clause-within c = λ readings are. slice_get_within {A = Reading} readings c.place_of.result (c.args.later, c.in-Some.follow.t) (c.place_of.ensures readings are)

pub place_of-requires-in-Some : goal.place_of-requires-in-Some
place_of-requires-in-Some c = let declares = rw c.in-Some.is at c.nearest_follow.ensures.declared in declares.4

pub reading_time-to-requires-clause-within : goal.reading_time-to-requires-clause-within
reading_time-to-requires-clause-within c = λ readings are. slice_get_within {A = Reading} readings c.place_of-in-Some.result (c.in-Some.follow.earlier, c.in-Some.follow.s) (c.place_of-in-Some.ensures readings are)

pub returns-in-Some-clause-verdict : goal.returns-in-Some-clause-verdict
returns-in-Some-clause-verdict c = λ x readings times.
    let p = c.args.p.now in
    let w = c.args.what in
    let e = c.args.extra in
    let q = widened w p e in
    let later = c.args.later in
    let f = c.in-Some.follow in
    let a : Constraint = gap_between f.earlier f.s later f.t (gap_left w e f.gap) in
    let named = c.listed_bound-bound.ensures in
    let declares = follow_on w p e f.earlier f.s later f.t f.gap (rw c.in-Some.is at c.nearest_follow.ensures.declared) in
    let from = c.reading_time-from.ensures x readings (later, f.t) times (c.place_of.ensures readings times.are_readings) in
    let to = c.reading_time-to.ensures x readings (f.earlier, f.s) times (c.place_of-in-Some.ensures readings times.are_readings) in
    let judged = c.judge.ensures.verdict q x a (formed w p e c.clocks.ensures.lawful.formed) (subst (λ (b : Bound). Declares q b a) (sym named) declares) (omega (arith, ints, c.gap_left-gap.ensures, c.delay_units.ensures.exact)) from to in
    subst (λ (bs : List Bound). Judges q x bs c.judge.result) (sym (c.nearest_follow.ensures.bound readings times.are_readings ∙ ap (listed_follow later) c.in-Some.is))
    (subst (λ (b : Bound). Judges q x (b ∷ []) c.judge.result) named judged)

pub returns-in-None-clause-verdict : goal.returns-in-None-clause-verdict
returns-in-None-clause-verdict c = λ x readings times.
    let q = widened c.args.what c.args.p.now c.args.extra in
    subst (λ (bs : List Bound). Judges q x bs Obeys) (sym (c.nearest_follow.ensures.bound readings times.are_readings ∙ ap (listed_follow c.args.later) c.in-None.is)) (All-nil (ObeysNamed q x))
