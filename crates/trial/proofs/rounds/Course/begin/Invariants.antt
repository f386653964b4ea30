use Rattle.std.proofs.Common.{◌≡◌, ◌≤◌, ◌<◌, ℕ, length, slice_index_or}
use Rattle.trial.specs.Draws.{state_after}
use Rattle.trial.specs.Rounds.{offset}
use Rattle.trial.proofs.rounds.Course.begin.Given as goal

abbrev pub invariant-loop-host : goal.invariant-loop-host
invariant-loop-host l = record {
  within : l.host ≤ 8;
  long : length l.offsets ≡ 8;
  state : l.draws.state ≡ state_after l.seed l.host;
  offsets : (host : ℕ) → host < l.host → slice_index_or l.offsets host 0 ≡ offset l.seed host;
}
