use Rattle.std.proofs.Common.{◌≡◌, ℕ, List, Option, length, take, drop, ◌++◌, All, Bool, Result, Ok, Err, IfOk, IfErr, pos, ◌≤ℤ◌, sym, subst, rules}
use Rattle.mergecap.specs.declared.start.Start.{Start}
use Rattle.mergecap.specs.declared.stored.Stored.{Stored}
use Rattle.mergecap.specs.MergedCapture.{IsArranged, IsShort}
use Rattle.mergecap.specs.Packets.{all_timed, shift_of}
use Rattle.merged_blocks.specs.declared.dates.DatedPackets.{DatedPackets}
use Rattle.merged_blocks.specs.MergedFile.{AreDated}
use Rattle.queries.specs.Consistent.{IsConsistent}
use Rattle.session.specs.Settled.{HasEventOf}
use Rattle.session.specs.Stands.{problem_held, seen_held}
use Rattle.merge_script.specs.Dated.{IsUndated, KnowsEvent, LacksFile}
use Rattle.merge_script.proofs.DatedMerges.{dated_all, given_lacks_file, ready_all}
use Rattle.merge_script.proofs.Merges.{kept_events, if_err, given_apart}
use Rattle.merge_script.proofs.dated.date_all.Goals as goal

pub settle-requires-clause-there : goal.settle-requires-clause-there
settle-requires-clause-there c =
    subst (λ (xs : List Stored). All (HasEventOf (seen_held c.args.session.now.under)) (all_timed xs)) (sym c.deref_mut.ensures.value) (kept_events c.args.session.now (all_timed c.args.kept.items) c.requires.all)

pub dated-requires-clause-differ : goal.dated-requires-clause-differ
dated-requires-clause-differ c =
    let count : c.args.kept.len ≡ length c.args.kept.items = search rules in
    let so = c.requires.consistent in
    given_apart c.args.session.now c.args.kept.items c.deref_mut.result.now c.settle.new.kept c.args.kept.len so c.deref_mut.ensures.value count c.settle.ensures.settled c.requires.all

pub returns-clause-ok : goal.returns-clause-ok
returns-clause-ok c =
    let count : c.args.kept.len ≡ length c.args.kept.items = search rules in
    let so = c.requires.consistent in
    dated_all c.args.session.now c.args.kept.items c.deref_mut.result.now c.settle.new.kept c.args.kept.len so c.deref_mut.ensures.value count c.settle.ensures.settled
    c.start.result c.start.ensures.dated c.dated.result c.dated.ensures.arranged c.dated.ensures.start c.dated.ensures.dated

pub returns-clause-able : goal.returns-clause-able
returns-clause-able c =
    let count : c.args.kept.len ≡ length c.args.kept.items = search rules in
    let so = c.requires.consistent in
    ready_all c.args.session.now c.args.kept.items c.deref_mut.result.now c.settle.new.kept c.args.kept.len so c.deref_mut.ensures.value count c.settle.ensures.settled
    c.start.result c.requires.all c.start.ensures.from_zero c.dated.result c.dated.ensures.arranged c.dated.ensures.start c.dated.ensures.dated

pub returns-clause-err : goal.returns-clause-err
returns-clause-err c =
    let count : c.args.kept.len ≡ length c.args.kept.items = search rules in
    let so = c.requires.consistent in
    let lent = take c.args.kept.len (c.settle.new.kept ++ drop (length c.settle.new.kept) c.args.kept.items) in
    if_err c.dated.result (IsUndated (all_timed lent) (shift_of c.start.result)) (λ why. (name : Option (List ℕ)) → KnowsEvent (problem_held c.args.session.now) name → LacksFile c.args.session.now.declaration (seen_held c.args.session.now.under) name (all_timed c.args.kept.items) why)
    (given_lacks_file c.args.session.now c.args.kept.items c.deref_mut.result.now c.settle.new.kept c.args.kept.len so c.deref_mut.ensures.value count c.settle.ensures.settled (shift_of c.start.result) c.start.ensures.dated)
    c.dated.ensures.err
