use Rattle.replies.proofs.FoundReads.{founds_one, founds_bytes}
use Rattle.replies.proofs.laws.reads_are_one.Goals as goal

pub returns-clause-one : goal.returns-clause-one
returns-clause-one c = λ d files lines a b founds others s t after other sound sound' run run'. founds_one d files s t lines founds others a b after other sound sound' run run'

pub returns-clause-bytes : goal.returns-clause-bytes
returns-clause-bytes c = λ d files lines texts founds s after hold run. founds_bytes d files hold s lines founds texts after run
