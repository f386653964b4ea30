use Rattle.ports.proofs.Puts.{put_there, put_elsewhere}
use Rattle.ports.proofs.mem_files.MemFiles.put.Goals as goal
use Rattle.std.proofs.Common.{◌∙◌, ap}
use Rattle.ports.specs.Memory.{bytes_of, FilesState}

pub returns-clause-there : goal.returns-clause-there
returns-clause-there c =
    rw c.in_ok-push.ensures.items (put_there c.self.inside.files.items _ c.args.path.now c.args.bytes.now (c.in_ok-from_slice.ensures.items ∙ c.as_bytes.ensures.value) c.in_ok-from_slice-2.ensures.items)

pub returns-clause-others : goal.returns-clause-others
returns-clause-others c = λ p differs.
    rw (c.in_ok-push.ensures.items) (put_elsewhere c.self.inside.files.items _ c.args.path.now p (c.in_ok-from_slice.ensures.items ∙ c.as_bytes.ensures.value) differs
    ∙ ap (λ (s : FilesState). bytes_of s.puts p) c.self.view_is)
