-- The declaration of a trial: eight hosts of which the first one's clock shows true time, a log of each, and links between any two.
use Rattle.std.specs.Prelude.{ℕ, ◌==◌, if◌then◌else◌, List, [], ◌++◌, codes}
use Rattle.std.specs.Fmt.{decimal}
use Rattle.std.specs.List.{flat_map}
use Rattle.trial.specs.Rounds.{hosts}

-- the name of a host, which its clock and its log have too
abbrev pub host_name : ℕ → List ℕ
host_name host = codes "h" ++ decimal host

-- how many parts per billion a clock may be short or long
abbrev pub drift : ℕ → ℕ
drift host = if host == 0 then 0 else 20000

-- what is said of a host
abbrev pub host_text : ℕ → List ℕ
host_text host = codes "[hosts." ++ host_name host ++ codes "]\nshort = " ++ decimal (drift host) ++ codes "\nlong = " ++ decimal (drift host) ++ codes "\nearly = 0\nlate = 50\n"

-- what is said of its log
abbrev pub label_text : ℕ → List ℕ
label_text host = codes "[labels." ++ host_name host ++ codes "]\nhost = \"" ++ host_name host ++ codes "\"\nkind = \"log\"\n"

-- what is said of the link from one host to another
abbrev pub link_text : ℕ → ℕ → List ℕ
link_text from to = if from == to then [] else codes "[[links]]\nfrom = \"" ++ host_name from ++ codes "\"\nto = \"" ++ host_name to ++ codes "\"\nleast = 1000\nmost = 100000\n"

-- what is said of the links from one host
abbrev pub links_text : ℕ → List ℕ
links_text from = flat_map (link_text from) hosts

-- the whole text
unfoldable pub declaration_text : List ℕ
declaration_text = codes "source = \"h0\"\n" ++ flat_map host_text hosts ++ flat_map label_text hosts ++ flat_map links_text hosts
