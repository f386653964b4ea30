-- What a trial adds and asks: twenty batches of a hundred rounds.
use Rattle.std.specs.Prelude.{◌≡◌, ℕ, ◌+◌, ◌-◌, ◌*◌, ◌==◌, if◌then◌else◌, List, [], ◌∷◌, ◌++◌, length, map, codes}
use Rattle.std.specs.Fmt.{decimal}
use Rattle.std.specs.List.{flat_map, range_with_len}
use Rattle.ports.specs.Memory.{PutFile, bytes_of}
use Rattle.trial.specs.Rounds.{hosts, message}
use Rattle.trial.specs.Declaration.{host_name}
use Rattle.trial.specs.declared.rounds.Message.{Message}

-- the rounds of a batch, which counts from 1
abbrev pub rounds_of : ℕ → List ℕ
rounds_of batch = range_with_len (100 * (batch - 1) + 1) 100

-- the messages of a batch
abbrev pub batch_messages : ℕ → ℕ → List Message
batch_messages seed batch = map (message seed) (rounds_of batch)

-- a row of a log: a message is named by its number
abbrev pub row : ℕ → List ℕ → ℕ → List ℕ
row stamp kind number = decimal stamp ++ codes "," ++ kind ++ codes ",m" ++ decimal number ++ codes ",\n"

-- the rows that a message gives the log of a host
abbrev pub rows_of : ℕ → Message → List ℕ
rows_of host m = (if m.sender == host then row m.sent (codes "send") m.number else []) ++ (if m.receiver == host then row m.received (codes "receive") m.number else [])

-- the rows of a host in a batch
abbrev pub piece_of : ℕ → List Message → List ℕ
piece_of host messages = flat_map (rows_of host) messages

-- where these rows stand
abbrev pub path_of : ℕ → ℕ → List ℕ
path_of host batch = host_name host ++ codes "." ++ decimal batch

-- the file of a host in a batch, if it got rows there
abbrev pub file_of : ℕ → ℕ → List Message → List PutFile
file_of host batch messages = if length (piece_of host messages) == 0 then [] else record { path = path_of host batch; bytes = piece_of host messages } ∷ []

-- the files of a batch
abbrev pub batch_files : ℕ → List Message → List PutFile
batch_files batch messages = flat_map (λ host. file_of host batch messages) hosts

-- the line that adds such a file
abbrev pub add_line : ℕ → ℕ → List Message → List ℕ
add_line host batch messages = if length (piece_of host messages) == 0 then [] else codes "add " ++ host_name host ++ codes " " ++ path_of host batch ++ codes "\n"

-- the line that keeps the first event of a host
abbrev pub keep_line : ℕ → List ℕ
keep_line host = codes "keep " ++ host_name host ++ codes "#1\n"

-- the lines that ask when the first event of a host was, behind that of the first host and by itself
abbrev pub ask_lines : ℕ → List ℕ
ask_lines host = codes "interval h0#1 " ++ host_name host ++ codes "#1\ntime " ++ host_name host ++ codes "#1\n"

-- the lines that keep all first events, behind the first batch
abbrev pub keep_lines : ℕ → List ℕ
keep_lines batch = if batch == 1 then flat_map keep_line hosts else []

-- the lines of a batch
abbrev pub batch_lines : ℕ → List Message → List ℕ
batch_lines batch messages = flat_map (λ host. add_line host batch messages) hosts ++ keep_lines batch ++ flat_map ask_lines (range_with_len 1 7)

-- all batches
abbrev pub batches : List ℕ
batches = range_with_len 1 20

-- all files
unfoldable pub files_of : ℕ → List PutFile
files_of seed = flat_map (λ batch. batch_files batch (batch_messages seed batch)) batches

-- the whole script
unfoldable pub script_of : ℕ → List ℕ
script_of seed = flat_map (λ batch. batch_lines batch (batch_messages seed batch)) batches

-- of files that were put so, each path has the bytes that it has among these
abbrev pub HasFiles : List PutFile → List PutFile → Type 0
HasFiles puts files = (path : List ℕ) → bytes_of puts path ≡ bytes_of files path
