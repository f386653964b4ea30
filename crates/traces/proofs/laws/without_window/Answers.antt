use Rattle.traces.proofs.Alone.{without_window}
use Rattle.traces.proofs.laws.without_window.Goals as goal

pub returns : goal.returns
returns c = without_window
