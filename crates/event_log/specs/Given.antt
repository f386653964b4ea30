-- What a reader of a piece has given, and what it gives next.
use Rattle.std.specs.Prelude.{◌≡◌, ℕ, List, true, Some}
use Rattle.std.proofs.Common.{Bor}
use Rattle.csv.specs.Reading.{Reached, Ready, default_config, is_flexible, reader_config, reader_state, reader_trim, source_of, strip_bom}
use Rattle.csv.specs.declared.parser.State.TheVariants as state
use Rattle.csv.specs.declared.reader.Reader.{Reader}
use Rattle.csv.specs.declared.reader.Trim.TheVariants as trim

-- the reader has given these records of the piece, and stands before the rest, whose records may have any length
pub record HasGiven (piece : List ℕ) (given : List (List (List ℕ))) (reader : Reader (Bor (List ℕ))) : Type 0 where
  pub rest : List ℕ
  pub reached : Reached default_config state.StartRecord (strip_bom piece) given (reader_state reader) rest
  pub left : source_of (λ (s : Bor (List ℕ)). Some s.now) reader ≡ Some rest
  pub config : reader_config reader ≡ default_config
  pub plain : reader_trim reader ≡ trim.None
  pub ready : Ready reader
  pub flexible : is_flexible reader ≡ true
