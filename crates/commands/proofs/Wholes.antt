-- What becomes of an output of which some was held.
use Rattle.std.proofs.Common.{◌≡◌, is_ok, inl, inr, List, ℕ, Option, Some, None, Result, Ok, Err, true, false, refl}
use Rattle.ports.specs.Content.{SinkTold}
use Rattle.ports.specs.Gathered.{Finishes, HasWhole, HasFront, behind, with_held}
use Rattle.problem_commands.specs.declared.status.Status.{Status}
use Rattle.problem_commands.specs.declared.status.Status.TheVariants.{WriteFault}
use Rattle.commands.specs.Runs.{HasSome, PassesOn}

pub whole_same : (told : Option (List ℕ)) → HasWhole told told
whole_same None = tt
whole_same (Some written) = refl

-- a front of what is told behind bytes that are held
some_of : (below : Option (List ℕ)) (held : List ℕ) (now : Option (List ℕ)) → HasFront below (behind below held) now → HasSome (behind below held) now
some_of None held now front = tt
some_of (Some written) held now (k, longer, within, is) = (k, within, is)

-- the sink below has all that was told over it and what was held, or a write failed behind a front
pub passes_on : {E : Type 0} (below now : SinkTold) (held : List ℕ) (passed : Result (Unit {0}) E) (status result : Status)
    → Finishes below (with_held below held) now passed → (is_ok passed ≡ true → result ≡ status) → (is_ok passed ≡ false → result ≡ WriteFault)
    → PassesOn (with_held below held) status now result
passes_on below now held (Ok it) status result finishes same lost = record { ends = inl (same refl, finishes.whole); no_fall = finishes.no_fall }
passes_on below now held (Err why) status result finishes same lost =
    record { ends = inr (lost refl, some_of below.written held now.written finishes.front, finishes.cause); no_fall = finishes.no_fall }
