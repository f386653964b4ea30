-- Pieces that are held for a while: what is left of a text stands behind them.
use Rattle.std.proofs.Common.{◌≡◌, ◌≤◌, ◌+◌, ℕ, List, [], ◌++◌, length, drop, slice_get, Some, Result, Ok, Err, sym, ◌∙◌, ap, subst, arith, append_assoc, append-nil}
use Rattle.std.specs.Prelude.{IsErr}
use Rattle.std.specs.List.{flat_map}
use Rattle.ports.specs.declared.failed.Failed.{Failed}
use Rattle.ports.specs.Content.{SinkTold, Writes}
use Rattle.ports.proofs.Writing.{Leaves, appends_none, leaves_as, leaves_less, leaves_cut, prefix_before, writes_as, writes_then}
use Rattle.problem_model.proofs.Walking.{lines_more, lines_none}
use Rattle.problem_text.specs.Paged.{Puts}

-- ---- one piece
-- it fits
pub puts_held : {A E : Type 0} {a : A} (piece held holds : List ℕ) (now : SinkTold) → holds ≡ held ++ piece → Puts {A = A} {E = E} piece held holds now now (Ok a)
puts_held piece held holds now is = record { ok = ([], sym is, appends_none now.written); err = tt; cause = tt; no_fall = omega arith }

-- what was held is written, and the piece is held
pub puts_turned : {A A' E E' : Type 0} {a : A} {a' : A'} {old new : SinkTold} (piece held holds : List ℕ) → Writes {A = A'} {E = E'} held old new (Ok a') → holds ≡ piece → Puts {A = A} {E = E} piece held holds old new (Ok a)
puts_turned piece held holds written is = record { ok = (held, ap (λ (l : List ℕ). held ++ l) (sym is), written.ok); err = tt; cause = tt; no_fall = written.no_fall }

-- what was held could not be written
pub puts_failed : {A A' E E' : Type 0} {e : E'} {r : Result A E} {old new : SinkTold} (piece held holds : List ℕ) → IsErr r → Writes {A = A'} {E = E'} held old new (Err e) → Puts piece held holds old new r
puts_failed {r = Ok b} piece held holds failed written = absurd cc
puts_failed {r = Err e} {old = old} {new = new} piece held holds failed written = record { ok = tt; err = prefix_before old.written new.written held piece written.err; cause = written.cause; no_fall = written.no_fall }

-- what was held is written, and then what became of the piece
pub puts_long : {A A' E E' : Type 0} {a : A'} {r : Result A E} {old mid new : SinkTold} (piece held holds : List ℕ) → Writes {A = A'} {E = E'} held old mid (Ok a) → holds ≡ [] → Writes piece mid new r → Puts piece held holds old new r
puts_long {r = Ok b} piece held holds first none second =
    let both = writes_then first second in
    record { ok = (held ++ piece, sym (append-nil (held ++ piece)) ∙ ap (λ (l : List ℕ). (held ++ piece) ++ l) (sym none), both.ok); err = tt; cause = tt; no_fall = both.no_fall }
puts_long {r = Err e} piece held holds first none second =
    let both = writes_then first second in
    record { ok = tt; err = both.err; cause = both.cause; no_fall = both.no_fall }

-- the same piece in another spelling
pub puts_as : {A E : Type 0} {r : Result A E} {old new : SinkTold} {x y held holds : List ℕ} → x ≡ y → Puts x held holds old new r → Puts y held holds old new r
puts_as {r = r} {old = old} {new = new} {held = held} {holds = holds} is put = subst (λ (t : List ℕ). Puts t held holds old new r) is put

-- ---- what is left of a text
-- the piece was put
pub leaves_put : {A E : Type 0} {a : A} {old now mid : SinkTold} (piece held holds left all : List ℕ) → Leaves old now (held ++ (piece ++ left)) all → Puts {A = A} {E = E} piece held holds now mid (Ok a)
    → Leaves old mid (holds ++ left) all
leaves_put piece held holds left all leaves put =
    let same : held ++ (piece ++ left) ≡ put.ok.0 ++ (holds ++ left) =
    sym (append_assoc held piece left) ∙ ap (λ (l : List ℕ). l ++ left) put.ok.1 ∙ append_assoc put.ok.0 holds left in
    leaves_less (leaves_as same leaves) (gone put)
  where
    gone : {A E : Type 0} {a : A} {now mid : SinkTold} {piece held holds : List ℕ} (put : Puts {A = A} {E = E} piece held holds now mid (Ok a)) → Writes {A = A} {E = E} put.ok.0 now mid (Ok a)
    gone put = record { ok = put.ok.2; err = tt; cause = tt; no_fall = put.no_fall }

-- a write failed
pub leaves_lost : {A E : Type 0} {e : E} {r : Result (Unit {0}) Failed} {old now new : SinkTold} (piece held holds left all : List ℕ) → Leaves old now (held ++ (piece ++ left)) all → IsErr r
    → Puts {A = A} {E = E} piece held holds now new (Err e) → Writes all old new r
leaves_lost {A} {E} {e} {r} {old} {now} {new} piece held holds left all leaves failed put =
    let front : Writes {A = A} {E = E} (held ++ piece) now new (Err e) = record { ok = tt; err = put.err; cause = put.cause; no_fall = put.no_fall } in
    leaves_cut left (leaves_as (sym (append_assoc held piece left)) leaves) failed front

-- all that is left is held
pub leaves_page : {r : Result (Unit {0}) Failed} {old now new : SinkTold} (held all : List ℕ) → Leaves old now (held ++ []) all → Writes held now new r → Writes all old new r
leaves_page {r = r} {new = new} held all leaves written = leaves.on new r (writes_as (sym (append-nil held)) written)

-- ---- the lines of a list
module _ {X : Type 0} (line : X → List ℕ) (xs : List X) {old now : SinkTold} (all held : List ℕ) where
  there : (k : ℕ) (x : X) → slice_get xs k ≡ Some x → Leaves old now (held ++ flat_map line (drop k xs)) all → Leaves old now (held ++ (line x ++ flat_map line (drop (k + 1) xs))) all
  there k x at left = leaves_as (ap (λ (l : List ℕ). held ++ l) (lines_more line xs k x at)) left

  pub line_put : {A E : Type 0} {a : A} {mid : SinkTold} (holds : List ℕ) (k : ℕ) (x : X) → slice_get xs k ≡ Some x → Leaves old now (held ++ flat_map line (drop k xs)) all
      → Puts {A = A} {E = E} (line x) held holds now mid (Ok a) → Leaves old mid (holds ++ flat_map line (drop (k + 1) xs)) all
  line_put holds k x at left put = leaves_put (line x) held holds (flat_map line (drop (k + 1) xs)) all (there k x at left) put

  pub line_lost : {A E : Type 0} {e : E} {r : Result (Unit {0}) Failed} {new : SinkTold} (holds : List ℕ) (k : ℕ) (x : X) → slice_get xs k ≡ Some x → Leaves old now (held ++ flat_map line (drop k xs)) all
      → IsErr r → Puts {A = A} {E = E} (line x) held holds now new (Err e) → Writes all old new r
  line_lost holds k x at left failed put = leaves_lost (line x) held holds (flat_map line (drop (k + 1) xs)) all (there k x at left) failed put

  pub lines_put : {r : Result (Unit {0}) Failed} {new : SinkTold} (k : ℕ) → length xs ≤ k → Leaves old now (held ++ flat_map line (drop k xs)) all → Writes held now new r → Writes all old new r
  lines_put k past left written = leaves_page held all (leaves_as (ap (λ (l : List ℕ). held ++ l) (lines_none line xs k past)) left) written
