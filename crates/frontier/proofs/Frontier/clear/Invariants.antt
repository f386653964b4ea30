use Rattle.std.proofs.Common.{◌≡◌, length, vec_len}
use Rattle.std.specs.Prelude.{vec_capacity}
use Rattle.frontier.specs.Heap.{waiting_keys, IsHeap}
use Rattle.frontier.proofs.Frontier.clear.Given as goal

abbrev pub invariant-loop-last : goal.invariant-loop-last
invariant-loop-last l = record {
  keys : l.self-inside.keys.items ≡ l.initial.self-inside.keys.items;
  room : length l.self-inside.places.items ≡ length l.initial.self-inside.places.items;
  capacity : vec_capacity l.self-inside.heap ≡ vec_capacity l.initial.self-inside.heap;
  heap : IsHeap (waiting_keys l.self-inside.keys.items l.self-inside.places.items) l.self-inside.heap.items l.self-inside.places.items;
}

abbrev pub decreases-loop-last : goal.decreases-loop-last
decreases-loop-last l = vec_len l.self-inside.heap
