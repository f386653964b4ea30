use Rattle.std.proofs.Common.{◌≡◌, ◌++◌, ℕ, List, map, take}
use Rattle.ports.specs.Memory.{bytes_of}
use Rattle.shared_fixtures.specs.FilesOf.{text_put}
use Rattle.shared_fixtures.proofs.files.put_texts.Given as goal

-- the texts so far are put, and no file was read
abbrev pub invariant-loop-path : goal.invariant-loop-path
invariant-loop-path l = ((p : List ℕ) → bytes_of l.files.puts p ≡ bytes_of (l.initial.files.puts ++ map (λ pair. text_put pair.0.now pair.1.now) (take l.path-index l.texts)) p) × (l.files.calls ≡ l.initial.files.calls) × (l.files.absences ≡ l.initial.files.absences)
