-- The states that the generator comes to, and the times of the rounds.
use Rattle.std.proofs.Common.{◌≡◌, ℕ, zero, suc, add-one, ◌+◌, ◌*◌, ◌≤◌, ◌<◌, refl, ap, sym, ◌∙◌, arith}
use Rattle.trial.specs.Draws.{next_state, drawn, state_after}
use Rattle.trial.specs.Rounds.{offset, time_of, round_draw}
use Rattle.trial.specs.declared.rounds.Message.{Message}

pub state_more : (seed draws : ℕ) → state_after seed (draws + 1) ≡ next_state (state_after seed draws)
unfolding state_after
state_more seed draws = ap (state_after seed) (add-one draws)

pub first_state : (seed : ℕ) → state_after seed 0 ≡ seed
unfolding state_after
first_state seed = refl

pub time_begins : (seed : ℕ) → time_of seed 0 ≡ 1000000000
unfolding time_of
time_begins seed = refl

pub time_more : (seed round : ℕ) → time_of seed (round + 1) ≡ time_of seed round + (1 + round_draw seed (round + 1) 0 100000)
unfolding time_of
time_more seed round = ap (time_of seed) (add-one round) ∙ ap (λ n. time_of seed round + (1 + round_draw seed n 0 100000)) (sym (add-one round))

add_small : (before after drawn round : ℕ) → before ≤ 1000000000 + 100000 * round → after ≡ before + (1 + drawn) → drawn < 100000 → after ≤ 1000000000 + 100000 * suc round
add_small before after drawn round l e d = omega arith

pub time_small : (seed round : ℕ) → time_of seed round ≤ 1000000000 + 100000 * round
time_small seed zero = omega (arith, time_begins seed)
time_small seed (suc round) =
    add_small (time_of seed round) (time_of seed (suc round)) (round_draw seed (round + 1) 0 100000) round (time_small seed round)
    (ap (time_of seed) (sym (add-one round)) ∙ time_more seed round) (omega arith)

pub offset_small : (seed host : ℕ) → offset seed host < 1000000000
offset_small seed host = omega arith

-- the four draws of a round
module _ (seed rounds before first second third fourth : ℕ) (e : before ≡ state_after seed (4 * rounds + 8)) (a : first ≡ next_state before) (b : second ≡ next_state first) (c : third ≡ next_state second) (d : fourth ≡ next_state third) where
  step : (from to draws next : ℕ) → from ≡ state_after seed draws → to ≡ next_state from → draws + 1 ≡ next → to ≡ state_after seed next
  step from to draws next e a n = a ∙ ap next_state e ∙ sym (state_more seed draws) ∙ ap (state_after seed) n

  pub at_first : first ≡ state_after seed (4 * (rounds + 1) + 4 + 0 + 1)
  at_first = step before first (4 * rounds + 8) (4 * (rounds + 1) + 4 + 0 + 1) e a (omega arith)

  pub at_second : second ≡ state_after seed (4 * (rounds + 1) + 4 + 1 + 1)
  at_second = step first second (4 * (rounds + 1) + 4 + 0 + 1) (4 * (rounds + 1) + 4 + 1 + 1) at_first b (omega arith)

  pub at_third : third ≡ state_after seed (4 * (rounds + 1) + 4 + 2 + 1)
  at_third = step second third (4 * (rounds + 1) + 4 + 1 + 1) (4 * (rounds + 1) + 4 + 2 + 1) at_second c (omega arith)

  pub at_fourth : fourth ≡ state_after seed (4 * (rounds + 1) + 4 + 3 + 1)
  at_fourth = step third fourth (4 * (rounds + 1) + 4 + 2 + 1) (4 * (rounds + 1) + 4 + 3 + 1) at_third d (omega arith)

  pub at_end : fourth ≡ state_after seed (4 * (rounds + 1) + 8)
  at_end = at_fourth ∙ ap (state_after seed) (omega arith)

-- a message by its parts
pub message_by : (number sender sent receiver received number' sender' sent' receiver' received' : ℕ) → number ≡ number' → sender ≡ sender' → sent ≡ sent' → receiver ≡ receiver' → received ≡ received'
    → ◌≡◌ {A = Message} (record { number = number; sender = sender; sent = sent; receiver = receiver; received = received }) (record { number = number'; sender = sender'; sent = sent'; receiver = receiver'; received = received' })
message_by number sender sent receiver received number' sender' sent' receiver' received' a b c d e =
    ap (λ x. record { number = x; sender = sender; sent = sent; receiver = receiver; received = received }) a
    ∙ ap (λ x. record { number = number'; sender = x; sent = sent; receiver = receiver; received = received }) b
    ∙ ap (λ x. record { number = number'; sender = sender'; sent = x; receiver = receiver; received = received }) c
    ∙ ap (λ x. record { number = number'; sender = sender'; sent = sent'; receiver = x; received = received }) d
    ∙ ap (λ x. record { number = number'; sender = sender'; sent = sent'; receiver = receiver'; received = x }) e
