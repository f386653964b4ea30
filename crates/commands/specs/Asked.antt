-- What the words of a run ask for.
use Rattle.std.specs.Prelude.{ℕ, List, [], ◌∷◌, ◌++◌, Option, Some, None, drop, codes, if◌then◌else◌, ⊤}
use Rattle.std.specs.Str.{bytes_eq}
use Rattle.problem_commands.specs.WhatWords.{links_kind, clocks_kind}
use Rattle.commands.specs.declared.request.Request.{Request}
use Rattle.commands.specs.declared.request.Request.TheVariants as request

-- ---- what is asked for
-- a command with the words behind it: paths of files, names of events, the text of a number, words that name what is widened; the
-- help, the version; or nothing that there is
pub data Asked : Type 0 where
  Obey : List ℕ → List ℕ → Asked
  Solve : List ℕ → Asked
  Ends : List ℕ → List ℕ → List ℕ → Asked
  Verify : List ℕ → List ℕ → Asked
  Session : List ℕ → Asked
  Trial : List ℕ → Asked
  Widen : List ℕ → List (List ℕ) → Asked
  Judge : List ℕ → List ℕ → Asked
  Blame : List ℕ → Asked
  Thin : List ℕ → List (List ℕ) → Asked
  Mergecap : List ℕ → Asked
  MergeDated : List ℕ → Option (List ℕ) → Asked
  Help : Asked
  Version : Asked
  Nothing : Asked

-- what is widened of a problem: all numbers of a kind, or those of one clock or of one link, of the kinds that have such
abbrev pub widen_all : List ℕ → List ℕ → Asked
widen_all problem kind =
    if bytes_eq kind (codes "delays") then Widen problem (codes "delays" ∷ [])
    else if bytes_eq kind (codes "least") then Widen problem (codes "least" ∷ [])
    else if bytes_eq kind (codes "stamps") then Widen problem (codes "stamps" ∷ [])
    else if bytes_eq kind (codes "rates") then Widen problem (codes "rates" ∷ [])
    else if bytes_eq kind (codes "gaps") then Widen problem (codes "gaps" ∷ []) else Nothing

abbrev pub widen_clock : List ℕ → List ℕ → List ℕ → Asked
widen_clock problem kind clock =
    if bytes_eq kind (codes "stamps") then Widen problem (codes "stamps" ∷ clock ∷ [])
    else if bytes_eq kind (codes "rates") then Widen problem (codes "rates" ∷ clock ∷ []) else Nothing

abbrev pub widen_link : List ℕ → List ℕ → List ℕ → List ℕ → Asked
widen_link problem kind from to =
    if bytes_eq kind (codes "delays") then Widen problem (codes "delays" ∷ from ∷ to ∷ [])
    else if bytes_eq kind (codes "least") then Widen problem (codes "least" ∷ from ∷ to ∷ []) else Nothing

-- the merged capture in a format of its own, with real times since the event of a name, or where none is given since the first of all
abbrev pub merge_as : List ℕ → List ℕ → Option (List ℕ) → Asked
merge_as decl format event = if bytes_eq format (codes "pcapng") then MergeDated decl event else Nothing

-- what a first word asks for, by the words behind it; without more `widen` asks for all greatest delays
abbrev pub asked_by : List ℕ → List (List ℕ) → Asked
asked_by name [] = if bytes_eq name (codes "--help") then Help else if bytes_eq name (codes "--version") then Version else Nothing
asked_by name (a ∷ []) =
    if bytes_eq name (codes "solve") then Solve a
    else if bytes_eq name (codes "session") then Session a
    else if bytes_eq name (codes "trial") then Trial a
    else if bytes_eq name (codes "widen") then Widen a (codes "delays" ∷ [])
    else if bytes_eq name (codes "blame") then Blame a
    else if bytes_eq name (codes "mergecap") then Mergecap a else Nothing
asked_by name (a ∷ b ∷ []) =
    if bytes_eq name (codes "obey") then Obey a b
    else if bytes_eq name (codes "verify") then Verify a b
    else if bytes_eq name (codes "judge") then Judge a b
    else if bytes_eq name (codes "widen") then widen_all a b
    else if bytes_eq name (codes "mergecap") then merge_as a b None else Nothing
asked_by name (a ∷ b ∷ c ∷ []) =
    if bytes_eq name (codes "ends") then Ends a b c
    else if bytes_eq name (codes "widen") then widen_clock a b c
    else if bytes_eq name (codes "mergecap") then merge_as a b (Some c) else Nothing
asked_by name (a ∷ b ∷ c ∷ d ∷ []) = if bytes_eq name (codes "widen") then widen_link a b c d else Nothing
asked_by name (a ∷ b ∷ c ∷ d ∷ e ∷ more) = Nothing

-- what words ask for by the first of them, whichever it is
abbrev pub asked_few : List (List ℕ) → Asked
asked_few [] = Nothing
asked_few (name ∷ more) = asked_by name more

-- what a problem is thinned for: the events of the words behind it, of which there may be any number
abbrev pub thin_by : List (List ℕ) → Asked
thin_by [] = Nothing
thin_by (problem ∷ events) = Thin problem events

-- what words ask for
abbrev pub asked_of : List (List ℕ) → Asked
asked_of [] = Nothing
asked_of (name ∷ more) = if bytes_eq name (codes "thin") then thin_by more else asked_by name more

-- what the request of the code asks for
abbrev pub seen_request : Request → Asked
seen_request (request.Obey problem exec) = Obey problem.now exec.now
seen_request (request.Solve problem) = Solve problem.now
seen_request (request.Ends problem first second) = Ends problem.now first.now second.now
seen_request (request.Verify problem cert) = Verify problem.now cert.now
seen_request (request.Session decl) = Session decl.now
seen_request (request.Trial number) = Trial number.now
seen_request (request.WidenLinks problem kind) = Widen problem.now (links_kind kind ∷ [])
seen_request (request.WidenClocks problem kind) = Widen problem.now (clocks_kind kind ∷ [])
seen_request (request.WidenGaps problem) = Widen problem.now (codes "gaps" ∷ [])
seen_request (request.WidenLink problem kind from to) = Widen problem.now (links_kind kind ∷ from.now ∷ to.now ∷ [])
seen_request (request.WidenClock problem kind clock) = Widen problem.now (clocks_kind kind ∷ clock.now ∷ [])
seen_request (request.Judge problem widening) = Judge problem.now widening.now
seen_request (request.Blame problem) = Blame problem.now
seen_request (request.Thin problem words) = Thin problem.now (drop 2 words.now)
seen_request (request.Mergecap decl) = Mergecap decl.now
seen_request (request.MergeDated decl) = MergeDated decl.now None
seen_request (request.MergeSince decl event) = MergeDated decl.now (Some event.now)
seen_request request.Help = Help
seen_request request.Version = Version
seen_request request.Nothing = Nothing

-- it reads no file
abbrev pub ReadsNoFile : Asked → Type 0
ReadsNoFile (Trial number) = ⊤
ReadsNoFile Help = ⊤
ReadsNoFile Version = ⊤
ReadsNoFile Nothing = ⊤
ReadsNoFile _ = ⊥

-- it reads no script
abbrev pub ReadsNoScript : Asked → Type 0
ReadsNoScript (Session decl) = ⊥
ReadsNoScript (Mergecap decl) = ⊥
ReadsNoScript (MergeDated decl event) = ⊥
ReadsNoScript _ = ⊤

-- ---- what is printed without a file
-- where nothing that there is was asked for
abbrev pub usage_line : List ℕ
usage_line = codes "usage: tracesync obey PROBLEM EXEC | solve PROBLEM | ends PROBLEM P Q | verify PROBLEM CERT | session DECL | trial N | widen PROBLEM WHAT.. | judge PROBLEM WIDENING | blame PROBLEM | thin PROBLEM P.. | mergecap DECL [pcapng [EVENT]] | --help | --version\n"

-- the commands, each with what it is for
abbrev pub help_text : List ℕ
help_text =
    codes "usage: tracesync COMMAND WORD..\n\n"
    ++ codes "  session DECL < SCRIPT   adds logs and captures of many hosts, finds the messages in them, and answers each line of SCRIPT\n"
    ++ codes "  ends PROBLEM P Q        how much later event Q is than event P, at least and at most, and which certainly came first\n"
    ++ codes "  solve PROBLEM           the earliest execution that the declared bounds allow, or a contradiction of them\n"
    ++ codes "  obey PROBLEM EXEC       whether these real times obey every declared bound; if not, the first one that they break\n"
    ++ codes "  verify PROBLEM CERT     whether a certificate shows what it should; if not, the first reason why not\n"
    ++ codes "  trial N                 answers a session over logs that the program makes, always the same ones for the same N\n"
    ++ codes "  widen PROBLEM WHAT..    by how much WHAT must widen at least so that nothing contradicts any more: all greatest delays, or\n"
    ++ codes "                          one of delays, least, stamps, rates, gaps, stamps CLOCK, rates CLOCK, delays FROM TO, least FROM TO\n"
    ++ codes "  judge PROBLEM WIDENING  whether what widen says is so; if not, the first reason why not\n"
    ++ codes "  blame PROBLEM           by how much bounds of each kind, clock and link must widen so that these alone heal a contradiction\n"
    ++ codes "  thin PROBLEM P..        a problem of fewer messages and events, P.. among them: `ends` of each two is as in the whole one\n"
    ++ codes "  mergecap DECL < SCRIPT  the packets of all captures that SCRIPT adds, as one capture in the order of their events' times\n"
    ++ codes "                          with `pcapng` behind DECL, as a file of pcapng: dates as stamps, an interface for each label, and\n"
    ++ codes "                          how long each packet was after the first event of all, or after EVENT behind `pcapng`\n"
    ++ codes "\n"
    ++ codes "DECL, PROBLEM, EXEC, CERT and WIDENING are paths of files, relative to where you stand; N is a number below 2^32. What is\n"
    ++ codes "asked for is printed on the standard output. With status 7 a file is not there or cannot be read, or a read of the script\n"
    ++ codes "failed; with 8 the output could not be written to its end, as on a full disk, and with 9 memory ran out: what stands there\n"
    ++ codes "is then no whole answer. docs/FORMATS.md lists the statuses, docs/GUIDE.md has examples.\n"

-- the number of the version, by the changelog
abbrev pub version_text : List ℕ
version_text = codes "tracesync 30\n"
