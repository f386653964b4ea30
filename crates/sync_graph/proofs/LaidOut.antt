-- Lists that lie in one table, of which one is changed.
use Rattle.std.proofs.Common.{◌≡◌, ℕ, zero, suc, ◌+◌, ◌-◌, ◌<◌, ◌≤◌, ◌⊎◌, inl, inr, List, [], ◌∷◌, ◌++◌, length, map, set, get_or, take, drop, refl, ap, sym, ◌∙◌, subst, arith, length-set, get_or-take}
use Rattle.std.specs.Prelude.{◌≢◌}
use Rattle.std.specs.List.{swap_remove}
use Rattle.std.proofs.lemmas.Bool.{cases_eq, cases_lt}
use Rattle.std.proofs.lemmas.List.{get_or-drop, get_or-set_same, get_or-set_other, get_or-map, get_or_default, get_or_read, length-map, length-take-le, length-drop, ext_get_or, take_more_set, drop-set-add, take-take, take_all}
use Rattle.sync_graph.specs.declared.lists.Span.{Span}
use Rattle.sync_graph.specs.Layout.{entries_of, LiesWithin, AreDisjointSpans, IsLaidOut, HasPlaceForOne}

-- what stands behind the last list
abbrev pub no_span : Span
no_span = record { start = 0; len = 0; room = 0 }

flipped : (s t : Span) → AreDisjointSpans s t → AreDisjointSpans t s
flipped s t apart = elim apart [ inl l ↦ inr l | inr l ↦ inl l ]

-- any two lists are apart
apart_at : (spans : List Span) (table : List ℕ) → IsLaidOut spans table → (i j : ℕ) (d e : Span) → i ≢ j → i < length spans → j < length spans → AreDisjointSpans (get_or spans i d) (get_or spans j e)
apart_at spans table is i j d e differ li lj = elim (cases_lt i j) [
  | inl l ↦ subst (λ s. AreDisjointSpans (get_or spans i d) s) (get_or_default spans j d e lj) (is.apart i j d l lj)
  | inr l ↦ subst (λ s. AreDisjointSpans (get_or spans i d) s) (get_or_default spans j d e lj) (flipped (get_or spans j d) (get_or spans i d) (is.apart j i d (omega arith) li))
]

-- ---- the entries of one list
pub length-entries : (table : List ℕ) (s : Span) → LiesWithin table s → length (entries_of table s) ≡ s.len
length-entries table s is = length-take-le s.len (drop s.start table) (omega (arith, length-drop s.start table, is.len, is.room))

pub entry_is : (table : List ℕ) (s : Span) (k : ℕ) → k < s.len → get_or (entries_of table s) k 0 ≡ get_or table (s.start + k) 0
entry_is table s k l = get_or-take s.len (drop s.start table) k 0 l ∙ get_or-drop s.start table k 0

-- a list is the same in a table that has the same in its room
same_entries : (table table' : List ℕ) (s : Span) → LiesWithin table s → length table ≤ length table'
    → ((p : ℕ) → s.start ≤ p → p < s.start + s.room → get_or table' p 0 ≡ get_or table p 0) → entries_of table' s ≡ entries_of table s
same_entries table table' s is longer same =
    let within : LiesWithin table' s = record { len = is.len; room = (let r = is.room in omega arith) } in
    let n : length (entries_of table s) ≡ s.len = length-entries table s is in
    let n' : length (entries_of table' s) ≡ s.len = length-entries table' s within in
    ext_get_or 0 (entries_of table' s) (entries_of table s) (n' ∙ sym n) (λ k l.
    let lk : k < s.len = omega (arith, n', l) in
    let short : s.len ≤ s.room = is.len in
    entry_is table' s k lk ∙ same (s.start + k) (omega arith) (omega arith) ∙ sym (entry_is table s k lk))

-- ---- one list is changed, in its room or behind all others
module _ (spans : List Span) (table table' : List ℕ) (node : ℕ) (s s' : Span)
    (is : IsLaidOut spans table) (inside : node < length spans) (here : get_or spans node no_span ≡ s)
    (longer : length table ≤ length table') (within : LiesWithin table' s')
    (stands : ((s'.start ≡ s.start) × (s'.room ≡ s.room)) ⊎ (length table ≤ s'.start))
    (same : (p : ℕ) → p < length table → (p < s.start) ⊎ (s.start + s.room ≤ p) → get_or table' p 0 ≡ get_or table p 0)
  where
    other_apart : (k : ℕ) (d : Span) → k ≢ node → k < length spans → AreDisjointSpans s (get_or spans k d)
    other_apart k d n l = subst (λ t. AreDisjointSpans t (get_or spans k d)) here (apart_at spans table is node k no_span d (λ e. n (sym e)) inside l)

    clear : (k : ℕ) (d : Span) → k ≢ node → k < length spans → AreDisjointSpans s' (get_or spans k d)
    clear k d n l =
        let t : Span = get_or spans k d in
        let w : LiesWithin table t = is.within k d l in
        let fits : t.start + t.room ≤ length table = w.room in
        elim stands [
          | inl e ↦ (let e0 : s'.start ≡ s.start = e.0 in let e1 : s'.room ≡ s.room = e.1 in elim (other_apart k d n l) [
            | inl a ↦ inl (omega (arith, e0, e1, a))
            | inr a ↦ inr (omega (arith, e0, a))
          ])
          | inr e ↦ inr (omega (arith, fits, e))
        ]

    now_here : (d : Span) → get_or (set spans node s') node d ≡ s'
    now_here d = get_or-set_same spans node s' d inside

    now_there : (k : ℕ) (d : Span) → k ≢ node → get_or (set spans node s') k d ≡ get_or spans k d
    now_there k d n = get_or-set_other spans node k s' d n

    pub changed_layout : IsLaidOut (set spans node s') table'
    changed_layout = record {
      within = λ k d l. elim (cases_eq k node) [
        | inl q ↦ subst (LiesWithin table') (sym (ap (λ i. get_or (set spans node s') i d) q ∙ now_here d)) within
        | inr n ↦ subst (LiesWithin table') (sym (now_there k d n)) (
            let w : LiesWithin table (get_or spans k d) = is.within k d (omega (arith, length-set spans node s', l)) in
            record { len = w.len; room = (let r = w.room in omega arith) })
      ];
      apart = λ i j d below l.
          let lj : j < length spans = omega (arith, length-set spans node s', l) in
          let li : i < length spans = omega (arith, lj, below) in
          elim (cases_eq i node) [
            | inl q ↦
                let n : j ≢ node = (λ e. omega arith) in
                subst (λ t. AreDisjointSpans t (get_or (set spans node s') j d)) (sym (ap (λ k. get_or (set spans node s') k d) q ∙ now_here d))
                (subst (AreDisjointSpans s') (sym (now_there j d n)) (clear j d n lj))
            | inr m ↦
                subst (λ t. AreDisjointSpans t (get_or (set spans node s') j d)) (sym (now_there i d m)) (elim (cases_eq j node) [
                  | inl q ↦ subst (AreDisjointSpans (get_or spans i d)) (sym (ap (λ k. get_or (set spans node s') k d) q ∙ now_here d)) (flipped s' (get_or spans i d) (clear i d m li))
                  | inr n ↦ subst (AreDisjointSpans (get_or spans i d)) (sym (now_there j d n)) (apart_at spans table is i j d d (λ e. omega arith) li lj)
                ])
          ];
    }

    others : (k : ℕ) → k ≢ node → k < length spans → entries_of table' (get_or spans k no_span) ≡ entries_of table (get_or spans k no_span)
    others k n l =
        let t : Span = get_or spans k no_span in
        let w : LiesWithin table t = is.within k no_span l in
        let fits : t.start + t.room ≤ length table = w.room in
        same_entries table table' t w longer (λ p from to. elim (other_apart k no_span n l) [
          | inl a ↦ same p (omega (arith, fits, to)) (inr (omega (arith, a, from)))
          | inr a ↦ same p (omega (arith, fits, to)) (inl (omega (arith, a, to)))
        ])

    -- so are the lists
    pub changed_lists : map (entries_of table') (set spans node s') ≡ set (map (entries_of table) spans) node (entries_of table' s')
    changed_lists =
        let lists : List (List ℕ) = map (entries_of table) spans in
        let v : List ℕ = entries_of table' s' in
        let n : length (map (entries_of table') (set spans node s')) ≡ length spans = length-map (set spans node s') (entries_of table') ∙ length-set spans node s' in
        let m : length (set lists node v) ≡ length spans = length-set lists node v ∙ length-map spans (entries_of table) in
        ext_get_or [] (map (entries_of table') (set spans node s')) (set lists node v) (n ∙ sym m) (λ k l.
        let lk : k < length spans = omega (arith, n, l) in
        let at : get_or (map (entries_of table') (set spans node s')) k [] ≡ entries_of table' (get_or (set spans node s') k no_span) =
        get_or-map (entries_of table') (set spans node s') k no_span [] (omega (arith, length-set spans node s', lk)) in
        at ∙ elim (cases_eq k node) [
          | inl q ↦ ap (λ i. entries_of table' (get_or (set spans node s') i no_span)) q ∙ ap (entries_of table') (now_here no_span)
              ∙ sym (ap (λ i. get_or (set lists node v) i []) q ∙ get_or-set_same lists node v [] (omega (arith, length-map spans (entries_of table), inside)))
          | inr w ↦ ap (entries_of table') (now_there k no_span w) ∙ others k w lk
              ∙ sym (get_or-set_other lists node k v [] w ∙ get_or-map (entries_of table) spans k no_span [] lk)
        ])

-- the list of a node
pub list_is : (spans : List Span) (table : List ℕ) (now : List (List ℕ)) (node : ℕ) (s : Span) → map (entries_of table) spans ≡ now → node < length now → s ≡ get_or spans node s → get_or now node [] ≡ entries_of table s
list_is spans table now node s en l es =
    let ln : node < length spans = omega (arith, ap length en, length-map spans (entries_of table)) in
    ap (λ xs. get_or xs node []) (sym en) ∙ get_or-map (entries_of table) spans node s [] ln ∙ ap (entries_of table) (sym es)

-- what a table has at a place that it kept
kept_at : (table table' : List ℕ) (p : ℕ) → take (length table) table' ≡ table → p < length table → get_or table' p 0 ≡ get_or table p 0
kept_at table table' p e l = sym (get_or-take (length table) table' p 0 l) ∙ ap (λ v. get_or v p 0) e

kept_longer : (table table' : List ℕ) → take (length table) table' ≡ table → length table ≤ length table'
kept_longer table table' e = elim (cases_lt (length table') (length table)) [
  | inl l ↦ (let m : length table' ≡ length table = ap length (sym (take_all (length table) table' (omega arith)) ∙ e) in omega arith)
  | inr l ↦ l
]

-- ---- an entry is appended
module _ (spans : List Span) (table table' : List ℕ) (now : List (List ℕ)) (node x : ℕ) (s s' : Span)
    (is : IsLaidOut spans table) (en : map (entries_of table) spans ≡ now) (l : node < length now) (es : s ≡ get_or spans node s)
    (place : HasPlaceForOne table s table' s')
  where
    pushed_inside : node < length spans
    pushed_inside = omega (arith, ap length en, length-map spans (entries_of table), l)

    pushed_here : get_or spans node no_span ≡ s
    pushed_here = get_or_default spans node no_span s pushed_inside ∙ sym es

    abbrev pub next : Span
    next = record { start = s'.start; len = s'.len + 1; room = s'.room }

    abbrev pub last_place : ℕ
    last_place = s'.start + s'.len

    abbrev pub filled : List ℕ
    filled = set table' last_place x

    filled_longer : length table ≤ length filled
    filled_longer = let a : length table ≤ length table' = kept_longer table table' place.kept in omega (arith, length-set table' last_place x, a)

    filled_within : LiesWithin filled next
    filled_within =
        let r : s'.start + s'.room ≤ length table' = place.within.room in
        let f : s'.len < s'.room = place.free in
        record { len = omega arith; room = omega (arith, length-set table' last_place x, r) }

    filled_same : (p : ℕ) → p < length table → (p < s.start) ⊎ (s.start + s.room ≤ p) → get_or filled p 0 ≡ get_or table p 0
    filled_same p lp out =
        let f : s'.len < s'.room = place.free in
        let f2 : s'.len ≡ s.len = place.len in
        let n : p ≢ last_place = (λ q. elim place.stands [
          | inl e ↦ (let e0 : s'.start ≡ s.start = e.0 in let e1 : s'.room ≡ s.room = e.1 in elim out [ inl a ↦ omega arith | inr a ↦ omega arith ])
          | inr e ↦ omega arith
        ]) in
        get_or-set_other table' last_place p x 0 n ∙ kept_at table table' p place.kept lp

    pub pushed_layout : IsLaidOut (set spans node next) filled
    pushed_layout = changed_layout spans table filled node s next is pushed_inside pushed_here filled_longer filled_within place.stands filled_same

    entries_pushed : entries_of filled next ≡ entries_of table s ++ x ∷ []
    entries_pushed =
        let r : s'.start + s'.room ≤ length table' = place.within.room in
        let f : s'.len < s'.room = place.free in
        ap (take (s'.len + 1)) (drop-set-add s'.start table' s'.len x)
        ∙ take_more_set (drop s'.start table') s'.len x (omega (arith, length-drop s'.start table'))
        ∙ ap (λ v. v ++ x ∷ []) place.entries

    pub pushed_lists : map (entries_of filled) (set spans node next) ≡ set now node (get_or now node [] ++ x ∷ [])
    pushed_lists =
        changed_lists spans table filled node s next is pushed_inside pushed_here filled_longer filled_within place.stands filled_same
        ∙ ap (λ v. set v node (entries_of filled next)) en
        ∙ ap (λ v. set now node v) (entries_pushed ∙ ap (λ v. v ++ x ∷ []) (sym (list_is spans table now node s en l es)))

-- ---- an entry is taken out
set_front : (n k : ℕ) (xs : List ℕ) (v : ℕ) → set (take n xs) k v ≡ take n (set xs k v)
set_front zero k xs v = refl
set_front (suc n) k [] v = refl
set_front (suc n) zero (x ∷ xs) v = refl
set_front (suc n) (suc k) (x ∷ xs) v = ap (λ ys. x ∷ ys) (set_front n k xs v)

module _ (spans : List Span) (table : List ℕ) (now : List (List ℕ)) (node : ℕ) (s : Span)
    (is : IsLaidOut spans table) (en : map (entries_of table) spans ≡ now) (l : node < length now) (es : s ≡ get_or spans node s)
  where
    shorter_inside : node < length spans
    shorter_inside = omega (arith, ap length en, length-map spans (entries_of table), l)

    shorter_here : get_or spans node no_span ≡ s
    shorter_here = get_or_default spans node no_span s shorter_inside ∙ sym es

    pub span_within : LiesWithin table s
    span_within = subst (LiesWithin table) shorter_here (is.within node no_span shorter_inside)

    pub span_len : length (get_or now node []) ≡ s.len
    span_len = ap length (list_is spans table now node s en l es) ∙ length-entries table s span_within

    abbrev pub shorter : Span
    shorter = record { start = s.start; len = s.len - 1; room = s.room }

    shorter_within : (table' : List ℕ) → length table' ≡ length table → LiesWithin table' shorter
    shorter_within table' e = let w = span_within in let a : s.len ≤ s.room = w.len in let b : s.start + s.room ≤ length table = w.room in record { len = omega arith; room = omega arith }

    pub popped_lists : map (entries_of table) (set spans node shorter) ≡ set now node (take (length (get_or now node []) - 1) (get_or now node []))
    popped_lists =
        changed_lists spans table table node s shorter is shorter_inside shorter_here (omega arith) (shorter_within table refl) (inl (refl, refl)) (λ p lp out. refl)
        ∙ ap (λ v. set v node (entries_of table shorter)) en
        ∙ ap (λ v. set now node v) (sym (ap (λ n. take (n - 1) (get_or now node [])) span_len ∙ ap (take (s.len - 1)) (list_is spans table now node s en l es) ∙ take-take (s.len - 1) s.len (drop s.start table) (omega arith)))

    module _ (k v : ℕ) (lk : k < s.len) (ev : v ≡ get_or table (s.start + s.len - 1) v) where
      abbrev pub closed : List ℕ
      closed = set table (s.start + k) v

      closed_len : length closed ≡ length table
      closed_len = length-set table (s.start + k) v

      closed_same : (p : ℕ) → p < length table → (p < s.start) ⊎ (s.start + s.room ≤ p) → get_or closed p 0 ≡ get_or table p 0
      closed_same p lp out =
          let w : s.len ≤ s.room = span_within.len in
          get_or-set_other table (s.start + k) p v 0 (λ q. elim out [ inl a ↦ omega arith | inr a ↦ omega arith ])

      entries_removed : entries_of closed shorter ≡ swap_remove (entries_of table s) k 0
      entries_removed =
          let ds : List ℕ = drop s.start table in
          let w : s.len ≤ s.room = span_within.len in
          let r : s.start + s.room ≤ length table = span_within.room in
          let n : length (take s.len ds) ≡ s.len = length-entries table s span_within in
          let last : s.start + (s.len - 1) ≡ s.start + s.len - 1 = omega arith in
          let is_v : v ≡ get_or table (s.start + s.len - 1) 0 = get_or_read table (s.start + s.len - 1) v (omega arith) ev 0 in
          let at : get_or (take s.len ds) (s.len - 1) 0 ≡ v = entry_is table s (s.len - 1) (omega arith) ∙ ap (λ p. get_or table p 0) last ∙ sym is_v in
          let swapped : swap_remove (take s.len ds) k 0 ≡ take (s.len - 1) (set (take s.len ds) k v) =
          ap (λ m. take (m - 1) (set (take s.len ds) k (get_or (take s.len ds) (m - 1) 0))) n ∙ ap (λ u. take (s.len - 1) (set (take s.len ds) k u)) at in
          ap (take (s.len - 1)) (drop-set-add s.start table k v)
          ∙ sym (swapped ∙ ap (take (s.len - 1)) (set_front s.len k ds v) ∙ take-take (s.len - 1) s.len (set ds k v) (omega arith))

      removed_lists : map (entries_of closed) (set spans node shorter) ≡ set now node (swap_remove (get_or now node []) k 0)
      removed_lists =
          changed_lists spans table closed node s shorter is shorter_inside shorter_here (omega (arith, closed_len)) (shorter_within closed closed_len) (inl (refl, refl)) closed_same
          ∙ ap (λ u. set u node (entries_of closed shorter)) en
          ∙ ap (λ u. set now node u) (entries_removed ∙ ap (λ u. swap_remove u k 0) (sym (list_is spans table now node s en l es)))

    pub taken_out : (part : List ℕ) (k v entry : ℕ) → part ≡ take (s.start + s.len - s.start) (drop s.start table) → k < length part → get_or part k 0 ≡ entry → v ≡ get_or table (s.start + s.len - 1) v
        → (i : ℕ) × (i < length (get_or now node [])) × (get_or (get_or now node []) i 0 ≡ entry)
        × (map (entries_of (set table (s.start + k) v)) (set spans node shorter) ≡ set now node (swap_remove (get_or now node []) i 0))
    taken_out part k v entry ep lk at ev =
        let whole : s.start + s.len - s.start ≡ s.len = omega arith in
        let e : part ≡ get_or now node [] = ep ∙ ap (λ n. take n (drop s.start table)) whole ∙ sym (list_is spans table now node s en l es) in
        let inside : k < length (get_or now node []) = subst (λ u. k < length u) e lk in
        (k, inside, subst (λ u. get_or u k 0 ≡ entry) e at, removed_lists k v (omega (arith, span_len, inside)) ev)
