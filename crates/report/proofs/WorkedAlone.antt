-- Keys that stand alone among ends, worked out: the key m has sends and a receive, each in a group of its own, n has both in
-- one group and more behind them, and q is never received.
use Rattle.std.proofs.Common.{◌≡◌, ℕ, List, [], ◌∷◌, Some, codes, refl}
use Rattle.std.specs.Prelude.{pos}
use Rattle.traces.specs.declared.event.Side.{Side}
use Rattle.traces.specs.declared.event.Side.TheVariants.{Send, Receive}
use Rattle.traces.specs.Seen.{Word}
use Rattle.msg_match.specs.Ends.{End}
use Rattle.report.specs.Alone.{alone_among}

-- an end of a word whose group begins then
abbrev end_of : ℕ → List ℕ → ℕ → Side → End
end_of n word begin side = record {
  id = record { label = 0; number = n };
  key = record { message = record { segment = 0; content = Word word }; moment = Some (record { time = pos begin; window = 10 }) };
  side = side;
}

abbrev worked_ends : List End
worked_ends =
    end_of 1 (codes "m") 100 Send ∷ end_of 2 (codes "n") 100 Send ∷ end_of 3 (codes "q") 100 Send ∷ end_of 4 (codes "n") 100 Receive ∷ end_of 5 (codes "m") 200 Receive ∷ end_of 6 (codes "n") 300 Send ∷ end_of 7 (codes "m") 300 Send ∷ []

worked_alone : alone_among worked_ends ≡ 1
worked_alone = refl
