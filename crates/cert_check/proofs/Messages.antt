-- Messages by their ends.
use Rattle.std.proofs.Common.{◌≡◌, ◌<◌, ℕ, zero, suc, List, [], ◌∷◌, length, map, get_or, slice_get, Some, refl, sym, ◌∙◌, ap, arith, inl, inr}
use Rattle.std.specs.Prelude.{Contains}
use Rattle.std.proofs.lemmas.Bool.{cases_lt}
use Rattle.std.proofs.lemmas.List.Elements.{All-contains}
use Rattle.std.proofs.lemmas.Option.{slice_get_read, slice_get_within, get_or_from_slice_get}
use Rattle.problem_model.specs.declared.items.Message.{Message}
use Rattle.problem_model.specs.Problem.{ProblemLists, IsWellFormed}
use Rattle.problem.specs.Line.{HasMessageAt}
use Rattle.cert_check.specs.Walks.{HasMessageBetween}

pub some_same : {X : Type 0} (a b : X) → Some a ≡ Some b → a ≡ b
some_same a b e = cc

-- ---- a message has its ends at its place
pair_at : (ms : List Message) (k : ℕ) (m : Message) → slice_get ms k ≡ Some m → slice_get {X = ℕ × ℕ} (map (λ (n : Message). (n.send, n.receive)) ms) k ≡ Some (m.send, m.receive)
pair_at [] k m at = absurd cc
pair_at (n ∷ ms) zero m at = let same : n ≡ m = some_same n m at in rw same refl
pair_at (n ∷ ms) (suc k) m at = pair_at ms k m at

pub has_place : (p : ProblemLists) (send receive : ℕ) → HasMessageBetween p send receive → (k : ℕ) × HasMessageAt p k send receive
has_place p send receive (m, (k, inside, is), from, to) =
    let at : slice_get p.messages k ≡ Some m = slice_get_read p.messages (length p.messages) k m refl inside (sym is) in
    (k, pair_at p.messages k m at ∙ (let same : m.send ≡ send = from in let same' : m.receive ≡ receive = to in rw (same, same') refl))

-- ---- a message joins events of the problem
pub ends_within : (p : ProblemLists) → IsWellFormed p → (m : Message) → Contains p.messages m → (m.send < length p.events) × (m.receive < length p.events)
ends_within p lawful m has = (All-contains (λ (n : Message). n.send < length p.events) p.messages m lawful.sends has, All-contains (λ (n : Message). n.receive < length p.events) p.messages m lawful.receives has)

-- ---- messages of the same ends are one
module _ (p : ProblemLists) (lawful : IsWellFormed p) where
  apart : (i j : ℕ) (m n : Message) → i < j → j < length p.messages → get_or p.messages i m ≡ m → get_or p.messages j m ≡ n → m.send ≡ n.send → m.receive ≡ n.receive → ⊥
  apart i j m n below inside at at' from to =
      lawful.messages_differ i j m below inside (ap (λ (v : Message). v.send) at ∙ from ∙ sym (ap (λ (v : Message). v.send) at')) (ap (λ (v : Message). v.receive) at ∙ to ∙ sym (ap (λ (v : Message). v.receive) at'))

  at_place : (k : ℕ) (m d : Message) → slice_get p.messages k ≡ Some m → get_or p.messages k d ≡ m
  at_place k m d at = get_or_from_slice_get p.messages k m d at

  one_at : (i j : ℕ) (m n : Message) → slice_get p.messages i ≡ Some m → slice_get p.messages j ≡ Some n → m.send ≡ n.send → m.receive ≡ n.receive → m ≡ n
  one_at i j m n at at' from to =
      let inside = slice_get_within p.messages i m at in
      let inside' = slice_get_within p.messages j n at' in
      elim (cases_lt i j) [
        | inl below ↦ absurd (apart i j m n below inside' (at_place i m m at) (at_place j n m at') from to)
        | inr le ↦ elim (cases_lt j i) [
          | inl below ↦ absurd (apart j i n m below inside (at_place j n n at') (at_place i m n at) (sym from) (sym to))
          | inr le' ↦ (
              let same : i ≡ j = omega (arith, le, le') in
              some_same m n (sym at ∙ ap (slice_get p.messages) same ∙ at'))
        ]
      ]

  pub message_one : (m n : Message) → Contains p.messages m → Contains p.messages n → m.send ≡ n.send → m.receive ≡ n.receive → m ≡ n
  message_one m n (i, inside, is) (j, inside', is') =
      one_at i j m n (slice_get_read p.messages (length p.messages) i m refl inside (sym is)) (slice_get_read p.messages (length p.messages) j n refl inside' (sym is'))
