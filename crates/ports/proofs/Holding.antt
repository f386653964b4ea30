-- What is held, and what becomes of it.
use Rattle.std.proofs.Common.{◌≡◌, ◌≤◌, ◌<◌, ◌+◌, ℕ, suc, List, [], ◌∷◌, ◌++◌, length, take, drop, Option, Some, None, Result, Ok, Err, sym, ◌∙◌, ap, arith, append_assoc, length-append, take-append-drop}
use Rattle.ports.specs.Content.{Appends, AppendsPrefix, SinkTold, Writes, WritesSome}
use Rattle.ports.specs.Gathered.{Finishes, HasWhole, HasFront, behind, with_held}

-- ---- a piece that is held behind what is left
regroup : (w held x : List ℕ) (n : ℕ) → (w ++ take n held) ++ (drop n held ++ x) ≡ (w ++ held) ++ x
regroup w held x n =
    sym (append_assoc (w ++ take n held) (drop n held) x)
    ∙ ap (λ (l : List ℕ). l ++ x) (append_assoc w (take n held) (drop n held) ∙ ap (λ (l : List ℕ). w ++ l) (take-append-drop n held))

appended_behind : (old new : Option (List ℕ)) (held x : List ℕ) (n : ℕ) → Appends old new (take n held) → Appends (behind old held) (behind new (drop n held ++ x)) x
appended_behind None new held x n taken = tt
appended_behind (Some w) new held x n taken = ap (λ (o : Option (List ℕ)). behind o (drop n held ++ x)) taken ∙ ap Some (regroup w held x n)

-- the sink below took n bytes of what was held, and m bytes of a piece are held behind the rest
pub holds_behind : {E : Type 0} (piece held : List ℕ) (old new : SinkTold) (n m : ℕ) → m ≤ length piece → (0 < length piece → 0 < m)
    → Appends old.written new.written (take n held) → old.faults ≤ new.faults
    → WritesSome {E = E} piece (with_held old held) (with_held new (drop n held ++ take m piece)) (Ok m)
holds_behind piece held old new n m within some taken no_fall = record {
  count = within;
  some = some;
  appended = appended_behind old.written new.written held (take m piece) n taken;
  same = tt;
  cause = tt;
  no_fall = no_fall;
}

-- ---- all of it is passed on, or a front
whole_of : (old new : Option (List ℕ)) (held : List ℕ) → Appends old new held → HasWhole (behind old held) new
whole_of None new held all = tt
whole_of (Some w) new held all = all

take_past : (x y : List ℕ) (k : ℕ) → take (length x + k) (x ++ y) ≡ x ++ take k y
take_past [] y k = let same : 0 + k ≡ k = omega arith in ap (λ (n : ℕ). take n y) same
take_past (c ∷ x) y k =
    let same : suc (length x) + k ≡ suc (length x + k) = omega arith in
    ap (λ (n : ℕ). take n ((c ∷ x) ++ y)) same ∙ ap (λ (l : List ℕ). c ∷ l) (take_past x y k)

front_of : (old new : Option (List ℕ)) (held : List ℕ) → AppendsPrefix old new held → HasFront old (behind old held) new
front_of None new held part = tt
front_of (Some w) new held (k, le, part) = (
  length w + k,
  omega arith,
  omega (arith, le, length-append w held),
  part ∙ ap Some (sym (take_past w held k)),
)

pub finishes : {E : Type 0} {r : Result (Unit {0}) E} {old new : SinkTold} {held : List ℕ} → Writes held old new r → Finishes old (with_held old held) new r
finishes {r = Ok a} {old = old} {new = new} {held = held} written = record { whole = whole_of old.written new.written held written.ok; front = tt; cause = tt; no_fall = written.no_fall }
finishes {r = Err e} {old = old} {new = new} {held = held} written = record { whole = tt; front = front_of old.written new.written held written.err; cause = written.cause; no_fall = written.no_fall }
