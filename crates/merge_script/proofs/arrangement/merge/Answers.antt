use Rattle.std.proofs.Common.{◌≡◌, List, length, take, drop, ◌++◌, All, Bool, sym, subst, rules}
use Rattle.mergecap.specs.declared.stored.Stored.{Stored}
use Rattle.mergecap.specs.MergedCapture.{IsArranged, IsShort}
use Rattle.mergecap.specs.Packets.{all_timed}
use Rattle.queries.specs.Consistent.{IsConsistent}
use Rattle.session.specs.Settled.{HasEventOf}
use Rattle.session.specs.Stands.{problem_held, seen_held}
use Rattle.merge_script.specs.Merged.{IsUnarranged, LacksMerge}
use Rattle.merge_script.proofs.Merges.{kept_events, if_ok, if_err, given_apart, given_short, given_lacks}
use Rattle.merge_script.proofs.arrangement.merge.Goals as goal

pub settle-requires-clause-there : goal.settle-requires-clause-there
settle-requires-clause-there c =
    subst (λ (xs : List Stored). All (HasEventOf (seen_held c.args.session.now.under)) (all_timed xs)) (sym c.deref_mut.ensures.value) (kept_events c.args.session.now (all_timed c.args.kept.items) c.requires.all)

pub arranged-requires-clause-differ : goal.arranged-requires-clause-differ
arranged-requires-clause-differ c =
    let count : c.args.kept.len ≡ length c.args.kept.items = search rules in
    let so = subst (λ (b : Bool). IsConsistent (problem_held c.args.session.now) b) c.if-not-consistent.false c.consistent.ensures in
    given_apart c.args.session.now c.args.kept.items c.deref_mut.result.now c.settle.new.kept c.args.kept.len so c.deref_mut.ensures.value count c.settle.ensures.settled c.requires.all

pub returns-clause-short : goal.returns-clause-short
returns-clause-short c =
    let count : c.args.kept.len ≡ length c.args.kept.items = search rules in
    let so = subst (λ (b : Bool). IsConsistent (problem_held c.args.session.now) b) c.if-not-consistent.false c.consistent.ensures in
    let lent = take c.args.kept.len (c.settle.new.kept ++ drop (length c.settle.new.kept) c.args.kept.items) in
    if_ok c.arranged.result (λ ordered. IsArranged (all_timed lent) (all_timed ordered.items)) (λ ordered. All IsShort (all_timed ordered.items))
    (λ ordered arranged. given_short c.args.session.now c.args.kept.items c.deref_mut.result.now c.settle.new.kept c.args.kept.len so c.deref_mut.ensures.value count c.settle.ensures.settled c.requires.all (all_timed ordered.items) arranged) c.arranged.ensures.arranged

pub returns-clause-err : goal.returns-clause-err
returns-clause-err c =
    let count : c.args.kept.len ≡ length c.args.kept.items = search rules in
    let so = subst (λ (b : Bool). IsConsistent (problem_held c.args.session.now) b) c.if-not-consistent.false c.consistent.ensures in
    let lent = take c.args.kept.len (c.settle.new.kept ++ drop (length c.settle.new.kept) c.args.kept.items) in
    if_err c.arranged.result (IsUnarranged (all_timed lent)) (LacksMerge c.args.session.now.declaration (seen_held c.args.session.now.under) (all_timed c.args.kept.items))
    (λ why un. given_lacks c.args.session.now c.args.kept.items c.deref_mut.result.now c.settle.new.kept c.args.kept.len so c.deref_mut.ensures.value count c.settle.ensures.settled why un) c.arranged.ensures.err
