-- The rounds of a trial. In each of them one host sends a message to another.
use Rattle.std.specs.Prelude.{ℕ, zero, suc, ◌+◌, ◌*◌, ◌%◌, List}
use Rattle.std.specs.List.{range_with_len}
use Rattle.trial.specs.Draws.{draw}
use Rattle.trial.specs.declared.rounds.Message.{Message}

-- the hosts, by number
abbrev pub hosts : List ℕ
hosts = range_with_len 0 8

-- how many ns the clock of a host is ahead of real time: the draws begin with these
abbrev pub offset : ℕ → ℕ → ℕ
offset seed host = draw seed host 1000000000

-- one of the four draws of a round, counted from 0. Before it there are those of the hosts and of the earlier rounds
abbrev pub round_draw : ℕ → ℕ → ℕ → ℕ → ℕ
round_draw seed round place limit = draw seed (4 * round + 4 + place) limit

-- the real time of a round in ns. Rounds count from 1
unfoldable pub time_of : ℕ → ℕ → ℕ
time_of seed zero = 1000000000
time_of seed (suc round) = time_of seed round + (1 + round_draw seed (suc round) 0 100000)

-- who sends
abbrev pub sender : ℕ → ℕ → ℕ
sender seed round = round_draw seed round 1 8

-- who receives, which is another host
abbrev pub receiver : ℕ → ℕ → ℕ
receiver seed round = (sender seed round + 1 + round_draw seed round 2 7) % 8

-- how long the message takes, in ns
abbrev pub delay : ℕ → ℕ → ℕ
delay seed round = 1000 + round_draw seed round 3 99001

-- the message of a round, with what the clocks show
abbrev pub message : ℕ → ℕ → Message
message seed round = record {
  number = round;
  sender = sender seed round;
  sent = offset seed (sender seed round) + time_of seed round;
  receiver = receiver seed round;
  received = offset seed (receiver seed round) + time_of seed round + delay seed round;
}

-- a trial after some of its rounds
pub record Course : Type 0 where
  pub seed : ℕ
  pub rounds : ℕ
