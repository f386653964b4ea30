use Rattle.std.proofs.Common.{◌≡◌, ℕ, ◌+◌, ◌-◌, ◌<◌, ◌≤◌, ◌^◌, ◌⊎◌, ◌++◌, inl, inr, Bool, true, false, length, take, sym, ap, ◌∙◌, subst, arith, ℤ, pos, List, vec_len, append-nil}
use Rattle.std.specs.Prelude.{None, replicate, vec_capacity, if◌then◌else◌, is_ok, Result, Ok, Err, OnOk, OnErr}
use Rattle.std.proofs.lemmas.List.{length-replicate, length-append, take_all, get_or_append_left}
use Rattle.frontier.specs.Heap.{nowhere, waiting_keys, IsHeap}
use Rattle.frontier.proofs.Root.{fits}
use Rattle.frontier.proofs.Tables.{no_longer, as_long, place_within, AreSame, kept, grown}
use Rattle.frontier.proofs.Widening.{replaced, widened}
use Rattle.frontier.proofs.Frontier.reserve.Goals as goal

pub overflow_sub-room : goal.overflow_sub-room
overflow_sub-room c =
    let s = c.self.inside in
    let p : vec_len s.places ≡ length s.places.items = s.places.ok.0 in
    let h : vec_len s.heap ≡ length s.heap.items = s.heap.ok.0 in
    omega (arith, c.len-2.ensures, c.len.ensures, c.if-room-len.false, fits (waiting_keys s.keys.items s.places.items) s.heap.items s.places.items c.self.invariant.3, (no_longer s.keys.items s.places.items).1)

-- the tables before, and those of keys and places after
module _ (keys keys' : List ℤ) (heap places : List ℕ) (nodes : ℕ) (h : IsHeap (waiting_keys keys places) heap places) (long : length places ≤ length keys) (less : length places < nodes) (as_many : length keys' ≡ nodes) (same : AreSame keys keys' places) where
  abbrev wide : List ℕ
  wide = places ++ replicate (nodes - length places) nowhere

  wide_long : length wide ≡ nodes
  wide_long = length-append places (replicate (nodes - length places) nowhere) ∙ ap (λ n. length places + n) (length-replicate {A = ℕ} (nodes - length places) nowhere) ∙ omega arith

  seen_wide : waiting_keys keys' wide ≡ waiting_keys keys places ++ replicate (nodes - length places) None
  seen_wide = grown keys keys' places (nodes - length places) long (omega arith) same

  seen_same : waiting_keys keys' places ≡ waiting_keys keys places
  seen_same = kept keys keys' places long (omega arith) same

  heap_wide : IsHeap (waiting_keys keys' wide) heap wide
  heap_wide =
      let seen = waiting_keys keys places in
      let e : length seen ≡ length places = as_long keys places long in
      subst (λ k. IsHeap k heap wide) (sym seen_wide)
      (widened seen heap wide (nodes - length places)
      (replaced seen heap places h wide (λ node w. get_or_append_left places (replicate (nodes - length places) nowhere) 0 node (place_within keys places node w)) (omega (arith, wide_long)))
      (omega (arith, wide_long)))

  widened_to : (places' : List ℕ) (count : ℕ) → count ≡ length places → places' ≡ take nodes places ++ replicate (nodes - count) nowhere → places' ≡ wide
  widened_to places' count size r =
      r ∙ ap (λ x. x ++ replicate (nodes - count) nowhere) (take_all nodes places (omega arith)) ∙ ap (λ n. places ++ replicate (nodes - n) nowhere) size

  -- the places are as many as there are to be nodes, or as before
  module _ (places' : List ℕ) (count : ℕ) (size : count ≡ length places) where
    abbrev Resized : Bool → Type 0
    Resized ok = places' ≡ (if ok then take nodes places ++ replicate (nodes - count) nowhere else places)

    either : (ok : Bool) → Resized ok → (places' ≡ wide) ⊎ (places' ≡ places)
    either true r = inl (widened_to places' count size r)
    either false r = inr r

    pub stands : (capacity : ℕ) (ok : Bool) → Resized ok → nodes < 2 ^ 32 → nodes ≤ capacity → (length places' < 2 ^ 32) × (length places' ≤ length keys') × (length places' ≤ capacity) × IsHeap (waiting_keys keys' places') heap places'
    stands capacity ok r fit most = elim (either ok r) [
      | inl e ↦ (let l : length places' ≡ nodes = ap length e ∙ wide_long in (omega arith, omega arith, omega arith, subst (λ p. IsHeap (waiting_keys keys' p) heap p) (sym e) heap_wide))
      | inr e ↦ (let l : length places' ≡ length places = ap length e in (omega arith, omega arith, omega arith, subst (λ p. IsHeap (waiting_keys keys' p) heap p) (sym e) (subst (λ k. IsHeap k heap places) (sym seen_same) h)))
    ]

    pub grown_ok : {E : Type 0} (result : Result (Unit {0}) E) → Resized (is_ok result) → OnOk result (waiting_keys keys' places' ≡ waiting_keys keys places ++ replicate (nodes - length (waiting_keys keys places)) None)
    grown_ok (Ok u) r = ap (waiting_keys keys') (widened_to places' count size r) ∙ seen_wide ∙ ap (λ n. waiting_keys keys places ++ replicate (nodes - n) None) (sym (as_long keys places long))
    grown_ok (Err e) r = tt

    pub same_err : {E : Type 0} (result : Result (Unit {0}) E) → Resized (is_ok result) → OnErr result (waiting_keys keys' places' ≡ waiting_keys keys places)
    same_err (Ok u) r = tt
    same_err (Err e) r = ap (waiting_keys keys') r ∙ seen_same

pub returns-then-room-len-clause-ok : goal.returns-then-room-len-clause-ok
returns-then-room-len-clause-ok c =
    let s = c.self.inside in
    let p : vec_len s.places ≡ length s.places.items = s.places.ok.0 in
    let long : length s.places.items ≤ length s.keys.items = c.self.invariant.1 in
    let size : length c.args.self.now ≡ length s.places.items = ap length (sym c.self.view_is) ∙ as_long s.keys.items s.places.items long in
    let e : c.args.nodes - length c.args.self.now ≡ 0 = omega (arith, c.len.ensures, c.if-room-len.true) in
    sym (append-nil c.args.self.now) ∙ ap (λ n. c.args.self.now ++ replicate n None) (sym e)

less : (c : goal.After-resize-2) → length c.self.inside.places.items < c.args.nodes
less c = (let p : vec_len c.self.inside.places ≡ length c.self.inside.places.items = c.self.inside.places.ok.0 in omega (arith, c.len.ensures, c.if-room-len.false))

many : (c : goal.After-resize-2) → length c.resize.new.self.items ≡ c.args.nodes
many c = sym c.resize.new.self.ok.0 ∙ c.in_ok-resize.ensures.len

same : (c : goal.After-resize-2) → AreSame c.self.inside.keys.items c.resize.new.self.items c.self.inside.places.items
same c n l =
    let k : vec_len c.self.inside.keys ≡ length c.self.inside.keys.items = c.self.inside.keys.ok.0 in
    let long : length c.self.inside.places.items ≤ length c.self.inside.keys.items = c.self.invariant.1 in
    let m : length c.self.inside.places.items < c.args.nodes = less c in
    c.in_ok-resize.ensures.by_index.0 n (pos 0) (omega arith) (omega arith)

before : (c : goal.After-resize-2) → IsHeap (waiting_keys c.self.inside.keys.items c.self.inside.places.items) c.reserve.new.self.items c.self.inside.places.items
before c = subst (λ x. IsHeap (waiting_keys c.self.inside.keys.items c.self.inside.places.items) x c.self.inside.places.items) (sym c.in_ok-reserve.ensures.items) c.self.invariant.3

pub invariant_of-self-2 : goal.invariant_of-self-2
invariant_of-self-2 c =
    let s = c.self.inside in
    let h : vec_len s.heap ≡ length s.heap.items = s.heap.ok.0 in
    let used : c.len-2.result ≡ vec_len s.heap = c.len-2.ensures in
    let held : vec_len c.reserve.new.self ≡ vec_len s.heap = c.in_ok-reserve.ensures.len in
    let ok : vec_len c.reserve.new.self + (c.args.nodes - c.len-2.result) ≤ vec_capacity c.reserve.new.self = c.in_ok-reserve.ensures.ok in
    let few : length s.heap.items ≤ length (waiting_keys s.keys.items s.places.items) = fits (waiting_keys s.keys.items s.places.items) s.heap.items s.places.items c.self.invariant.3 in
    let l : length s.places.items < c.args.nodes = less c in
    stands s.keys.items c.resize.new.self.items c.reserve.new.self.items s.places.items c.args.nodes (before c) c.self.invariant.1 (less c) (many c) (same c)
    c.resize-2.new.self.items (vec_len s.places) s.places.ok.0 (vec_capacity c.reserve.new.self) (is_ok c.resize-2.result) c.resize-2.ensures.items c.ranges.nodes.fits
    (omega (arith, (no_longer s.keys.items s.places.items).1))

pub returns-clause-ok : goal.returns-clause-ok
returns-clause-ok c =
    let s = c.self.inside in
    subst (λ k. OnOk c.resize-2.result (waiting_keys c.resize.new.self.items c.resize-2.new.self.items ≡ k ++ replicate (c.args.nodes - length k) None)) c.self.view_is
    (grown_ok s.keys.items c.resize.new.self.items c.reserve.new.self.items s.places.items c.args.nodes (before c) c.self.invariant.1 (less c) (many c) (same c)
    c.resize-2.new.self.items (vec_len s.places) s.places.ok.0 c.resize-2.result c.resize-2.ensures.items)

pub returns-clause-err : goal.returns-clause-err
returns-clause-err c =
    let s = c.self.inside in
    subst (λ k. OnErr c.resize-2.result (waiting_keys c.resize.new.self.items c.resize-2.new.self.items ≡ k)) c.self.view_is
    (same_err s.keys.items c.resize.new.self.items c.reserve.new.self.items s.places.items c.args.nodes (before c) c.self.invariant.1 (less c) (many c) (same c)
    c.resize-2.new.self.items (vec_len s.places) s.places.ok.0 c.resize-2.result c.resize-2.ensures.items)
