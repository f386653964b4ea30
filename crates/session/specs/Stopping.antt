-- How a session that stops ends its script.
use Rattle.queries.specs.declared.stop.Stop.{Stop}
use Rattle.queries.specs.declared.stop.Stop.TheVariants as stops
use Rattle.session.specs.declared.ended.Ended.{Ended}
use Rattle.session.specs.declared.ended.Ended.TheVariants.{WriteFault, Memory}

-- what a stop of the session is for the script
abbrev pub ended_of : Stop → Ended
ended_of stops.WriteFault = WriteFault
ended_of stops.Memory = Memory
