use Rattle.std.proofs.Common.{◌≡◌, ◌++◌, ℕ, List, length, take, drop, All, Err, IfErr, sym, ap, subst, ◌∙◌, rules, true≢false}
use Rattle.std.proofs.Math.Seq.{take-append_seam}
use Rattle.mergecap.specs.declared.errors.ArrangeError.TheVariants.{Memory}
use Rattle.mergecap.specs.declared.stored.Stored.{Stored}
use Rattle.mergecap.specs.MergedCapture.{AreWritable, HasOneLink, IsArranged, IsFault}
use Rattle.mergecap.specs.Packets.{all_timed}
use Rattle.mergecap.proofs.Links.{IsHeld, in_range, late_told, one_of, still_writable}
use Rattle.mergecap.proofs.order.arrange.Goals as goal

pub returns-then-not-are_in_range-clause-fault : goal.returns-then-not-are_in_range-clause-fault
returns-then-not-are_in_range-clause-fault c =
    let kept : List Stored = c.args.kept.items in (
      one_of kept c.deref.result.now c.have_one_link.result c.deref.ensures.value c.have_one_link.ensures c.if-not-have_one_link.false,
      late_told kept (λ all. true≢false (sym (c.are_in_range.ensures.1 (subst (All IsHeld) (sym c.deref-2.ensures.value) all)) ∙ c.if-not-are_in_range.true)),
    )

pub returns-in_err-sort-clause-fault : goal.returns-in_err-sort-clause-fault
returns-in_err-sort-clause-fault c =
    let kept : List Stored = c.args.kept.items in
    let one : HasOneLink (all_timed kept) = one_of kept c.deref.result.now c.have_one_link.result c.deref.ensures.value c.have_one_link.ensures c.if-not-have_one_link.false in
    let held : All IsHeld kept = subst (All IsHeld) c.deref-2.ensures.value (c.are_in_range.ensures.0 c.if-not-are_in_range.false) in
    let from : c.from_residual.result ≡ Err Memory = search rules in
    subst (λ r. IfErr r (λ e. IsFault (all_timed kept) e)) (sym from) (record { one_link = one; in_range = in_range kept c.requires.times held })

pub returns-clause-writable : goal.returns-clause-writable
returns-clause-writable c =
    let kept : List Stored = c.args.kept.items in
    let now : List Stored = c.sort.new.kept in
    let past : List Stored = drop (length now) kept in
    let len : c.args.kept.len ≡ length now = search rules in
    let one : HasOneLink (all_timed kept) = one_of kept c.deref.result.now c.have_one_link.result c.deref.ensures.value c.have_one_link.ensures c.if-not-have_one_link.false in
    let held : All IsHeld kept = subst (All IsHeld) c.deref-2.ensures.value (c.are_in_range.ensures.0 c.if-not-are_in_range.false) in
    let arranged : IsArranged (all_timed kept) (all_timed now) = subst (λ (l : List Stored). IsArranged (all_timed l) (all_timed now)) c.deref_mut.ensures.value c.in_ok-sort.ensures in
    subst (λ (l : List Stored). AreWritable (all_timed l)) (sym (ap (λ (n : ℕ). take n (now ++ past)) len ∙ take-append_seam now past))
    (still_writable (all_timed kept) (all_timed now) arranged one (in_range kept c.requires.times held))
