use Rattle.std.proofs.Common.{◌≡◌, ◌<◌, ◌++◌, ℕ, List, length, All, sym, ◌∙◌, ap, subst, arith}
use Rattle.std.proofs.lemmas.List.{length-map}
use Rattle.problem_model.specs.Bounds.{Times}
use Rattle.ports.proofs.Writing.{such_failed, such_written}
use Rattle.decl.specs.Declaration.{Declaration, declaration_of}
use Rattle.traces.specs.Traces.{Placed}
use Rattle.traces.specs.Held.{placed_in, placed_of}
use Rattle.report.specs.declared.merge.MergeKey.{MergeKey}
use Rattle.report.specs.Merging.{AreApart, IsMergeOrder}
use Rattle.replies.specs.Merged.{keys_from}
use Rattle.replies.specs.Writing.{IsTextBy, count_line, lines_merged, times_by}
use Rattle.replies.proofs.Agreeing.{keys_apart, length_keys}
use Rattle.replies.proofs.OneOrder.{order_within}
use Rattle.replies.proofs.Stopping.{not_memory}
use Rattle.replies.proofs.merge.write_merged.Goals as goal

pub keys_of-requires-clause-few : goal.keys_of-requires-clause-few
keys_of-requires-clause-few g c = omega (arith, c.requires.events.limit, length-map c.args.events.now placed_of)

pub merge_order-requires-clause-differ : goal.merge_order-requires-clause-differ
merge_order-requires-clause-differ g c =
    let keys : c.deref.result.now ≡ keys_from (times_by (g.N.Listing.listed c.args.names.now) c.args.e.now.values) 0 (placed_in c.args.events.now) = c.deref.ensures.value ∙ c.in_ok-keys.ensures in
    subst AreApart (sym keys) (keys_apart (times_by (g.N.Listing.listed c.args.names.now) c.args.e.now.values) 0 (placed_in c.args.events.now) c.requires.events.differ)

pub merge_order-requires-clause-few : goal.merge_order-requires-clause-few
merge_order-requires-clause-few g c =
    let keys : c.deref.result.now ≡ keys_from (times_by (g.N.Listing.listed c.args.names.now) c.args.e.now.values) 0 (placed_in c.args.events.now) = c.deref.ensures.value ∙ c.in_ok-keys.ensures in
    omega (arith, ap length keys, length_keys (times_by (g.N.Listing.listed c.args.names.now) c.args.e.now.values) 0 (placed_in c.args.events.now), c.requires.events.limit)

pub write_ordered-requires-clause-inside : goal.write_ordered-requires-clause-inside
write_ordered-requires-clause-inside g c =
    let keys : c.deref.result.now ≡ keys_from (times_by (g.N.Listing.listed c.args.names.now) c.args.e.now.values) 0 (placed_in c.args.events.now) = c.deref.ensures.value ∙ c.in_ok-keys.ensures in
    let total : length c.deref.result.now ≡ length c.args.events.now =
    ap length keys ∙ length_keys (times_by (g.N.Listing.listed c.args.names.now) c.args.e.now.values) 0 (placed_in c.args.events.now) ∙ length-map c.args.events.now placed_of in
    let order : IsMergeOrder c.deref.result.now c.deref-2.result.now = subst (IsMergeOrder c.deref.result.now) (sym c.deref-2.ensures.value) c.in_ok-order.ensures in
    subst (λ (n : ℕ). All (λ (k : ℕ). k < n) c.deref-2.result.now) total (order_within c.deref.result.now c.deref-2.result.now order)

pub returns-in_err-write_ordered-clause-writes : goal.returns-in_err-write_ordered-clause-writes
returns-in_err-write_ordered-clause-writes g c =
    let d : Declaration = declaration_of c.args.decl.now in
    let x : Times = times_by (g.N.Listing.listed c.args.names.now) c.args.e.now.values in
    let events : List Placed = placed_in c.args.events.now in
    let keys : c.deref.result.now ≡ keys_from x 0 events = c.deref.ensures.value ∙ c.in_ok-keys.ensures in
    let order : IsMergeOrder c.deref.result.now c.deref-2.result.now = subst (IsMergeOrder c.deref.result.now) (sym c.deref-2.ensures.value) c.in_ok-order.ensures in
    let sorted : IsMergeOrder (keys_from x 0 events) c.deref-2.result.now = subst (λ (ks : List MergeKey). IsMergeOrder ks c.deref-2.result.now) keys order in
    such_failed (IsTextBy d x events)
    (c.deref-2.result.now, sorted, ap (λ (n : ℕ). count_line n ++ lines_merged d x events c.deref-2.result.now) (sym (length-map c.args.events.now placed_of)))
    c.from_residual-in_err-write_ordered.ensures.0 c.in_err-write_ordered.ensures

pub returns-clause-writes : goal.returns-clause-writes
returns-clause-writes g c =
    let d : Declaration = declaration_of c.args.decl.now in
    let x : Times = times_by (g.N.Listing.listed c.args.names.now) c.args.e.now.values in
    let events : List Placed = placed_in c.args.events.now in
    let keys : c.deref.result.now ≡ keys_from x 0 events = c.deref.ensures.value ∙ c.in_ok-keys.ensures in
    let order : IsMergeOrder c.deref.result.now c.deref-2.result.now = subst (IsMergeOrder c.deref.result.now) (sym c.deref-2.ensures.value) c.in_ok-order.ensures in
    let sorted : IsMergeOrder (keys_from x 0 events) c.deref-2.result.now = subst (λ (ks : List MergeKey). IsMergeOrder ks c.deref-2.result.now) keys order in
    such_written (IsTextBy d x events)
    (c.deref-2.result.now, sorted, ap (λ (n : ℕ). count_line n ++ lines_merged d x events c.deref-2.result.now) (sym (length-map c.args.events.now placed_of)))
    c.in_ok-write_ordered.ensures

pub returns-in_err-write_ordered-clause-untouched : goal.returns-in_err-write_ordered-clause-untouched
returns-in_err-write_ordered-clause-untouched g c = λ fails. not_memory c.from_residual-in_err-write_ordered.result c.from_residual-in_err-write_ordered.ensures.1 fails
