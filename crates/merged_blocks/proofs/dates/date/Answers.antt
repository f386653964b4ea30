use Rattle.std.proofs.Common.{◌≡◌, ◌≤◌, ◌++◌, ℕ, List, length, take, drop, All, sym, ap, subst, ◌∙◌, rules}
use Rattle.std.proofs.Math.Seq.{take-append_seam}
use Rattle.mergecap.specs.declared.stored.Stored.{Stored}
use Rattle.mergecap.specs.MergedCapture.{IsArranged}
use Rattle.mergecap.specs.Packets.{all_timed, shift_of}
use Rattle.merged_blocks.specs.Taps.{AreTapsOf}
use Rattle.merged_blocks.specs.MergedFile.{AreDated, IsDated, most_taps}
use Rattle.merged_blocks.proofs.Stamping.{dated_still, told_dated}
use Rattle.merged_blocks.proofs.dates.date.Goals as goal

pub returns-clause-dated : goal.returns-clause-dated
returns-clause-dated c =
    let shift = shift_of c.args.start in
    let kept : List Stored = c.args.kept.items in
    let now : List Stored = c.sort.new.kept in
    let past : List Stored = drop (length now) kept in
    let len : c.args.kept.len ≡ length now = search rules in
    let each : All (IsDated shift) (all_timed kept) = told_dated shift kept c.deref.result.now c.have_stamps.result c.deref.ensures.value c.have_stamps.ensures c.if-not-have_stamps.false in
    let taps : AreTapsOf (all_timed kept) c.in_ok-taps.taps.items = subst (λ (l : List Stored). AreTapsOf (all_timed l) c.in_ok-taps.taps.items) c.deref-2.ensures.value c.in_ok-taps.ensures in
    let few : length c.in_ok-taps.taps.items ≤ most_taps = search rules in
    let arranged : IsArranged (all_timed kept) (all_timed now) = subst (λ (l : List Stored). IsArranged (all_timed l) (all_timed now)) c.deref_mut.ensures.value c.in_ok-sort.ensures in
    subst (λ (l : List Stored). AreDated (all_timed l) c.in_ok-taps.taps.items shift) (sym (ap (λ (n : ℕ). take n (now ++ past)) len ∙ take-append_seam now past))
    (dated_still shift (all_timed kept) (all_timed now) c.in_ok-taps.taps.items arranged.same each taps few)
