-- A file in memory as it was put.
use Rattle.ports.specs.Memory.{PutFile}
use Rattle.ports.specs.declared.mem_files.MemFile.{MemFile}

-- the path and the bytes of a file
abbrev pub put_of : MemFile → PutFile
put_of f = record { path = f.path.items; bytes = f.bytes.items }
