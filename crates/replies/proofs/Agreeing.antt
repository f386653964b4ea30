-- What events are merged by, and their lines, at times that agree.
use Rattle.std.proofs.Common.{◌≡◌, ◌≢◌, ◌<◌, ◌+◌, ◌++◌, ℕ, suc, List, [], ◌∷◌, length, slice_get, Option, Some, None, AllPairs, ℤ, refl, ◌∙◌, ap, arith}
use Rattle.std.specs.List.{AllByRecursion}
use Rattle.std.proofs.lemmas.List.Elements.{All-from_recursion, recursion_from_All}
use Rattle.std.proofs.lemmas.List.Kept.{AllPairs-cons}
use Rattle.std.proofs.lemmas.Option.{slice_get_within}
use Rattle.problem_model.specs.declared.items.Node.TheVariants as nodes
use Rattle.problem_model.specs.Bounds.{Times}
use Rattle.decl.specs.Declaration.{Declaration}
use Rattle.traces.specs.Traces.{Placed, name_of}
use Rattle.traces.proofs.Members.{no_pairs}
use Rattle.traces.proofs.Names.{id_same}
use Rattle.report.specs.declared.merge.MergeKey.{MergeKey}
use Rattle.report.specs.Merging.{AreApart, merge_line}
use Rattle.replies.specs.Merged.{keys_from, line_at, line_if}
use Rattle.replies.specs.Writing.{lines_merged}

-- ---- keys
abbrev key_of : Times → ℕ → Placed → MergeKey
key_of x k e = record { value = x (nodes.Event k); place = e.id.label; n = e.id.number }

pub length_keys : (x : Times) (k : ℕ) (events : List Placed) → length (keys_from x k events) ≡ length events
length_keys x k [] = refl
length_keys x k (e ∷ more) = ap suc (length_keys x (k + 1) more)

-- two keys are of different places or numbers
abbrev DifferBy : MergeKey → MergeKey → Type 0
DifferBy a b = (a.place ≡ b.place) → (a.n ≡ b.n) → ⊥

one_apart : (x y : Times) (j k : ℕ) (e : Placed) (more : List Placed) → AllByRecursion (λ (b : Placed). e.id ≢ b.id) more → AllByRecursion (DifferBy (key_of x j e)) (keys_from y k more)
one_apart x y j k e [] all = tt
one_apart x y j k e (b ∷ more) all = (
  (λ place n. all.0 (id_same e.id b.id place n)),
  one_apart x y j (k + 1) e more all.1,
)

-- the keys of events with different names differ
pub keys_apart : (x : Times) (k : ℕ) (events : List Placed) → AllPairs (λ (a b : Placed). a.id ≢ b.id) events → AreApart (keys_from x k events)
keys_apart x k [] differ = no_pairs DifferBy
keys_apart x k (e ∷ more) differ =
    let later : AllByRecursion (λ (b : Placed). e.id ≢ b.id) more = recursion_from_All (λ (b : Placed). e.id ≢ b.id) more (λ i d inside. differ 0 (suc i) d (omega arith) (omega (arith, inside))) in
    AllPairs-cons DifferBy (key_of x k e) (keys_from x (k + 1) more)
    (All-from_recursion (DifferBy (key_of x k e)) (keys_from x (k + 1) more) (one_apart x x k (k + 1) e more later))
    (keys_apart x (k + 1) more (λ i j d below inside. differ (suc i) (suc j) d (omega (arith, below)) (omega (arith, inside))))

-- ---- times that agree
-- both give the first so many events the same times
abbrev pub Agree : ℕ → Times → Times → Type 0
Agree count x y = (k : ℕ) → k < count → x (nodes.Event k) ≡ y (nodes.Event k)

keys_same : (x y : Times) (k : ℕ) (events : List Placed) → Agree (k + length events) x y → keys_from x k events ≡ keys_from y k events
keys_same x y k [] agree = refl
keys_same x y k (e ∷ more) agree =
    let here : x (nodes.Event k) ≡ y (nodes.Event k) = agree k (omega arith) in
    let rest : keys_from x (k + 1) more ≡ keys_from y (k + 1) more = keys_same x y (k + 1) more (λ j below. agree j (omega (arith, below))) in
    ap (λ (v : ℤ). (record { value = v; place = e.id.label; n = e.id.number }) ∷ keys_from x (k + 1) more) here
    ∙ ap (λ (keys : List MergeKey). key_of y k e ∷ keys) rest

pub keys_agree : (x y : Times) (events : List Placed) → Agree (length events) x y → keys_from x 0 events ≡ keys_from y 0 events
keys_agree x y events agree = keys_same x y 0 events (λ k below. agree k (omega (arith, below)))

line_same : (d : Declaration) (x y : Times) (events : List Placed) (k : ℕ) (there : Option Placed) → Agree (length events) x y → slice_get events k ≡ there → line_if d x k there ≡ line_if d y k there
line_same d x y events k None agree at = refl
line_same d x y events k (Some e) agree at = ap (λ (v : ℤ). merge_line v (name_of d e.id) e.seen.text) (agree k (slice_get_within events k e at))

pub lines_agree : (d : Declaration) (x y : Times) (events : List Placed) (order : List ℕ) → Agree (length events) x y → lines_merged d x events order ≡ lines_merged d y events order
lines_agree d x y events [] agree = refl
lines_agree d x y events (k ∷ order) agree =
    ap (λ (line : List ℕ). line ++ lines_merged d x events order) (line_same d x y events k (slice_get events k) agree refl)
    ∙ ap (λ (lines : List ℕ). line_at d y events k ++ lines) (lines_agree d x y events order agree)
