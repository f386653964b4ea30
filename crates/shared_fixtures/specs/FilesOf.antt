-- Files with texts.
use Rattle.std.specs.Prelude.{ℕ, List}
use Rattle.ports.specs.Memory.{PutFile}

-- a file with a text at a path
abbrev pub text_put : List ℕ → List ℕ → PutFile
text_put path text = record { path = path; bytes = text }
