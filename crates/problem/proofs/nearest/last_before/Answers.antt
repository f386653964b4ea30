use Rattle.std.proofs.Common.{◌∙◌, sym}
use Rattle.problem_model.proofs.Following.{chained_by}
use Rattle.problem.proofs.Nearby.{rise_to, none_on, last_here, last_further}
use Rattle.problem.proofs.nearest.last_before.Goals as goal

pub returns-in-Some-last_of : goal.returns-in-Some-last_of
returns-in-Some-last_of c =
    last_here _ (chained_by _ c.in-Some.ensures.lawful.formed) c.args.readings.now _ _ _ c.in-Some.ensures.value c.in-Some-last_of.ensures ∙ c.loop-follow.invariant

pub loop-follow-smaller : goal.loop-follow-smaller
loop-follow-smaller c = rise_to _ (chained_by _ c.in-Some.ensures.lawful.formed) _ _ (sym c.in-Some.ensures.value)

pub loop-follow-preserved : goal.loop-follow-preserved
loop-follow-preserved c =
    last_further _ (chained_by _ c.in-Some.ensures.lawful.formed) c.args.readings.now _ _ c.in-Some.ensures.value c.in_default-last_of.ensures ∙ c.loop-follow.invariant

pub returns : goal.returns
returns c = sym (none_on _ (chained_by _ c.in_default.ensures.lawful.formed) c.args.readings.now _ (sym c.in_default.ensures.value)) ∙ c.loop-follow.invariant
