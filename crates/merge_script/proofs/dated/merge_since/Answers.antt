use Rattle.std.proofs.Common.{◌≡◌, List, Option, ℕ, sym, subst}
use Rattle.mergecap.specs.Packets.{all_timed, shift_of}
use Rattle.merged_blocks.specs.declared.dates.DatedPackets.{DatedPackets}
use Rattle.merged_blocks.specs.declared.since.MergedPackets.{MergedPackets}
use Rattle.merged_blocks.specs.Ready.{AreReady}
use Rattle.session.specs.Stands.{seen_held}
use Rattle.merge_script.specs.Dated.{IsCountedMergeOf, IsOriginFor, LacksFile}
use Rattle.merge_script.specs.declared.unmerged.Unmerged.TheVariants.{Memory}
use Rattle.merge_script.proofs.Counted.{counted_ok, knows_origin, merged_events, ready_ok}
use Rattle.merge_script.proofs.Merges.{if_err}
use Rattle.merge_script.proofs.dated.merge_since.Goals as goal

pub with_since-requires-clause-origin : goal.with_since-requires-clause-origin
with_since-requires-clause-origin g c = c.requires.origin

pub with_since-requires-clause-there : goal.with_since-requires-clause-there
with_since-requires-clause-there g c =
    let x = c.in-Ok.dated in
    merged_events c.args.session.now (all_timed c.args.kept.items) c.requires.all (all_timed x.packets.items) x.taps.items (shift_of x.start) c.in-Ok.ensures.ok

pub returns-in-Ok-clause-ok : goal.returns-in-Ok-clause-ok
returns-in-Ok-clause-ok g c =
    counted_ok c.args.session.now (all_timed c.args.kept.items) c.requires.all c.args.origin c.in-Ok.dated c.in-Ok.ensures.ok c.with_since.result c.with_since.ensures.dated c.with_since.ensures.counted

pub returns-in-Ok-clause-able : goal.returns-in-Ok-clause-able
returns-in-Ok-clause-able g c =
    ready_ok c.args.session.now (all_timed c.args.kept.items) c.requires.all c.args.origin c.in-Ok.dated c.in-Ok.ensures.ok c.in-Ok.ensures.able c.requires.origin c.with_since.result c.with_since.ensures.dated c.with_since.ensures.counted c.with_since.ensures.ends

pub returns-in-Ok-clause-err : goal.returns-in-Ok-clause-err
returns-in-Ok-clause-err g c =
    let d = c.args.session.now.declaration in
    let seen = seen_held c.args.session.now.under in
    if_err c.with_since.result (λ why. why ≡ Memory) (λ why. (name : Option (List ℕ)) → IsOriginFor d seen name c.args.origin → LacksFile d seen name (all_timed c.args.kept.items) why)
    (λ why is. (λ name origin. subst (LacksFile d seen name (all_timed c.args.kept.items)) (sym is) tt)) c.with_since.ensures.err

pub returns-in-Err-clause-err : goal.returns-in-Err-clause-err
returns-in-Err-clause-err g c = λ name origin.
    c.in-Err.ensures.err name (knows_origin c.args.session.now.declaration (seen_held c.args.session.now.under) name c.args.origin origin)
