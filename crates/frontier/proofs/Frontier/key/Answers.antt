use Rattle.std.proofs.Common.{◌≡◌, ◌<◌, ◌≤◌, ℤ, length, sym, ap, ◌∙◌, subst, pos, arith, rules, to_z, of_z}
use Rattle.std.specs.Prelude.{Option, Some, None, slice_index_or}
use mir.Syntax.{w128}
use mir.Val.{SFits}
use Rattle.std.proofs.lemmas.Int.{to_z-of_z}
use Rattle.std.proofs.lemmas.List.{get_or_read}
use Rattle.frontier.specs.Heap.{nowhere, heap_place}
use Rattle.frontier.proofs.Tables.{at_nowhere, at_somewhere}
use Rattle.frontier.proofs.Frontier.key.Goals as goal

pub returns-then-place : goal.returns-then-place
returns-then-place c =
    let s = c.self.inside in
    let read : c.in_ok-place.field-0.now ≡ slice_index_or c.deref.result.now c.args.node 0 = c.in_ok-place.ensures.lookup.4 (omega arith) 0 in
    let e : c.in_ok-place.field-0.now ≡ heap_place s.places.items c.args.node = read ∙ ap (λ p. slice_index_or p c.args.node 0) c.deref.ensures.value in
    let n : c.in_ok-place.field-0.now ≡ nowhere = c.if-place.true in
    subst (λ k. ◌≡◌ {A = Option ℤ} None (slice_index_or k c.args.node None)) c.self.view_is (sym (at_nowhere s.keys.items s.places.items c.args.node (sym e ∙ n)))

pub returns : goal.returns
returns c =
    let s = c.self.inside in
    let read : c.in_ok-place.field-0.now ≡ slice_index_or c.deref.result.now c.args.node 0 = c.in_ok-place.ensures.lookup.4 (omega arith) 0 in
    let e : c.in_ok-place.field-0.now ≡ heap_place s.places.items c.args.node = read ∙ ap (λ p. slice_index_or p c.args.node 0) c.deref.ensures.value in
    let l : c.args.node < length s.places.items = subst (λ p. c.args.node < length p) c.deref.ensures.value c.in_ok-place.ensures.lookup.3.0 in
    let long : length s.places.items ≤ length s.keys.items = c.self.invariant.1 in
    let m : c.args.node < length s.keys.items = omega arith in
    let fits : SFits w128 c.index.result.now = search rules in
    subst (λ k. Some (to_z w128 (of_z w128 c.index.result.now)) ≡ slice_index_or k c.args.node None) c.self.view_is
    (ap (λ k. Some k) (to_z-of_z w128 c.index.result.now fits ∙ get_or_read s.keys.items c.args.node c.index.result.now m c.index.ensures (pos 0))
    ∙ sym (at_somewhere s.keys.items s.places.items c.args.node l long (λ q. c.if-place.false (e ∙ q))))
