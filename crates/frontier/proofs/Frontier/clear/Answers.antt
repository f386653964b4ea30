use Rattle.std.proofs.Common.{◌≡◌, ◌<◌, ◌≤◌, ◌^◌, length, sym, ap, ◌∙◌, subst, arith, vec_len, append-nil}
use Rattle.std.specs.Prelude.{None, replicate, vec_capacity}
use Rattle.std.proofs.lemmas.List.{length-set}
use Rattle.frontier.specs.Heap.{nowhere, waiting_keys, IsHeap}
use Rattle.frontier.proofs.Tables.{as_long, place_within}
use Rattle.frontier.proofs.Ends.{last_waiting, let_go}
use Rattle.frontier.proofs.Root.{none_waits, all_free}
use Rattle.frontier.proofs.Frontier.clear.Goals as goal

pub index_mut-requires : goal.index_mut-requires
index_mut-requires c =
    let k = c.loop-last.self-inside.keys.items in
    let p = c.loop-last.self-inside.places in
    subst (λ n. c.in-Some.last < n) (sym p.ok.0)
    (place_within k p.items c.in-Some.last (last_waiting (waiting_keys k p.items) c.pop.new.self.items p.items c.in-Some.last
    (subst (λ h. IsHeap (waiting_keys k p.items) h p.items) c.in-Some.ensures.items c.loop-last.invariant.heap)))

pub loop-last-preserved : goal.loop-last-preserved
loop-last-preserved c =
    let k = c.loop-last.self-inside.keys.items in
    let p = c.loop-last.self-inside.places in
    record {
      keys = c.loop-last.invariant.keys;
      room = length-set p.items c.in-Some.last nowhere ∙ c.loop-last.invariant.room;
      capacity = c.in-Some.ensures.capacity ∙ c.loop-last.invariant.capacity;
      heap = let_go k c.pop.new.self.items p.items c.in-Some.last (subst (λ h. IsHeap (waiting_keys k p.items) h p.items) c.in-Some.ensures.items c.loop-last.invariant.heap);
    }

pub invariant_of-self : goal.invariant_of-self
invariant_of-self c =
    let few : length c.self.inside.places.items < 2 ^ 32 = c.self.invariant.0 in
    let long : length c.self.inside.places.items ≤ length c.self.inside.keys.items = c.self.invariant.1 in
    let fit : length c.self.inside.places.items ≤ vec_capacity c.self.inside.heap = c.self.invariant.2 in
    let room : length c.loop-last.self-inside.places.items ≡ length c.self.inside.places.items = c.loop-last.invariant.room in
    let keys : length c.loop-last.self-inside.keys.items ≡ length c.self.inside.keys.items = ap length c.loop-last.invariant.keys in
    let capacity : vec_capacity c.loop-last.self-inside.heap ≡ vec_capacity c.self.inside.heap = c.loop-last.invariant.capacity in
    let k = c.loop-last.self-inside.keys.items in
    let p = c.loop-last.self-inside.places.items in
    (omega arith, omega arith, omega arith, subst (λ h. IsHeap (waiting_keys k p) h p) (c.in_default.ensures.items ∙ append-nil c.pop.new.self.items) c.loop-last.invariant.heap)

pub returns : goal.returns
returns c =
    let e : vec_len c.loop-last.self-inside.heap ≡ 0 = c.in_default.ensures.cases.0 in
    let k = c.loop-last.self-inside.keys.items in
    let p = c.loop-last.self-inside.places.items in
    let long : length c.self.inside.places.items ≤ length c.self.inside.keys.items = c.self.invariant.1 in
    let room : length p ≡ length c.self.inside.places.items = c.loop-last.invariant.room in
    let keys : length k ≡ length c.self.inside.keys.items = ap length c.loop-last.invariant.keys in
    all_free (waiting_keys k p) (none_waits (waiting_keys k p) c.loop-last.self-inside.heap.items p c.loop-last.invariant.heap (sym c.loop-last.self-inside.heap.ok.0 ∙ e))
    ∙ ap (λ n. replicate n None) (as_long k p (omega arith) ∙ room ∙ sym (as_long c.self.inside.keys.items c.self.inside.places.items long) ∙ ap length c.self.view_is)
