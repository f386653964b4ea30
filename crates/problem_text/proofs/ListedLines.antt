-- What is left of the lines of a list while they are written.
use Rattle.std.proofs.Common.{◌≡◌, ◌<◌, ◌≤◌, ◌+◌, ℕ, List, ◌++◌, length, drop, get_or, slice_get, Some, Result, Ok, Err, refl}
use Rattle.std.specs.Prelude.{IsErr}
use Rattle.std.specs.List.{flat_map}
use Rattle.std.proofs.lemmas.Option.{slice_get_read}
use Rattle.ports.specs.declared.failed.Failed.{Failed}
use Rattle.ports.specs.Content.{SinkTold, Writes}
use Rattle.ports.proofs.Writing.{Leaves, leaves_as, leaves_less, leaves_cut, leaves_none}
use Rattle.problem_model.proofs.Walking.{lines_more, lines_none}

module _ {X : Type 0} (line : X → List ℕ) (xs : List X) {old now : SinkTold} {all : List ℕ} where
  line_there : (k : ℕ) (x : X) → k < length xs → x ≡ get_or xs k x → Leaves old now (flat_map line (drop k xs)) all → Leaves old now (line x ++ flat_map line (drop (k + 1) xs)) all
  line_there k x inside is left =
      let at : slice_get xs k ≡ Some x = slice_get_read xs (length xs) k x refl inside is in
      leaves_as (lines_more line xs k x at) left

  pub line_written : {A E : Type 0} {a : A} {mid : SinkTold} (k : ℕ) (x : X) → k < length xs → x ≡ get_or xs k x → Leaves old now (flat_map line (drop k xs)) all
      → Writes {A = A} {E = E} (line x) now mid (Ok a) → Leaves old mid (flat_map line (drop (k + 1) xs)) all
  line_written k x inside is left piece = leaves_less (line_there k x inside is left) piece

  pub line_cut : {A E : Type 0} {e : E} {r : Result (Unit {0}) Failed} {new : SinkTold} (k : ℕ) (x : X) → k < length xs → x ≡ get_or xs k x → Leaves old now (flat_map line (drop k xs)) all
      → IsErr r → Writes {A = A} {E = E} (line x) now new (Err e) → Writes all old new r
  line_cut k x inside is left failed front = leaves_cut (flat_map line (drop (k + 1) xs)) (line_there k x inside is left) failed front

  pub lines_written : (k : ℕ) → length xs ≤ k → Leaves old now (flat_map line (drop k xs)) all → Writes {A = Unit {0}} {E = Failed} all old now (Ok tt)
  lines_written k past left = leaves_none (leaves_as (lines_none line xs k past) left)
