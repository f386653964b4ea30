-- What the words of each command ask for.
use Rattle.std.proofs.Common.{◌≡◌, ℕ, List, [], ◌∷◌, Some, None, codes, refl}
use Rattle.commands.specs.Asked.{Asked, asked_of}
use Rattle.commands.specs.Asked.Asked.{Obey, Solve, Ends, Verify, Session, Trial, Widen, Judge, Blame, Thin, Mergecap, MergeDated, Help, Version, Nothing}

obey : (problem exec : List ℕ) → asked_of (codes "obey" ∷ problem ∷ exec ∷ []) ≡ Obey problem exec
obey problem exec = refl

solve : (problem : List ℕ) → asked_of (codes "solve" ∷ problem ∷ []) ≡ Solve problem
solve problem = refl

ends : (problem first second : List ℕ) → asked_of (codes "ends" ∷ problem ∷ first ∷ second ∷ []) ≡ Ends problem first second
ends problem first second = refl

verify : (problem cert : List ℕ) → asked_of (codes "verify" ∷ problem ∷ cert ∷ []) ≡ Verify problem cert
verify problem cert = refl

session : (decl : List ℕ) → asked_of (codes "session" ∷ decl ∷ []) ≡ Session decl
session decl = refl

trial : (number : List ℕ) → asked_of (codes "trial" ∷ number ∷ []) ≡ Trial number
trial number = refl

widen : (problem : List ℕ) → asked_of (codes "widen" ∷ problem ∷ []) ≡ Widen problem (codes "delays" ∷ [])
widen problem = refl

widen_all : (problem : List ℕ) → asked_of (codes "widen" ∷ problem ∷ codes "least" ∷ []) ≡ Widen problem (codes "least" ∷ [])
widen_all problem = refl

widen_clock : (problem clock : List ℕ) → asked_of (codes "widen" ∷ problem ∷ codes "rates" ∷ clock ∷ []) ≡ Widen problem (codes "rates" ∷ clock ∷ [])
widen_clock problem clock = refl

widen_link : (problem from to : List ℕ) → asked_of (codes "widen" ∷ problem ∷ codes "delays" ∷ from ∷ to ∷ []) ≡ Widen problem (codes "delays" ∷ from ∷ to ∷ [])
widen_link problem from to = refl

-- rates are of clocks
no_rates_of_links : (problem from to : List ℕ) → asked_of (codes "widen" ∷ problem ∷ codes "rates" ∷ from ∷ to ∷ []) ≡ Nothing
no_rates_of_links problem from to = refl

judge : (problem widening : List ℕ) → asked_of (codes "judge" ∷ problem ∷ widening ∷ []) ≡ Judge problem widening
judge problem widening = refl

blame : (problem : List ℕ) → asked_of (codes "blame" ∷ problem ∷ []) ≡ Blame problem
blame problem = refl

thin : (problem : List ℕ) → asked_of (codes "thin" ∷ problem ∷ []) ≡ Thin problem []
thin problem = refl

thin_events : (problem first second : List ℕ) → asked_of (codes "thin" ∷ problem ∷ first ∷ second ∷ []) ≡ Thin problem (first ∷ second ∷ [])
thin_events problem first second = refl

-- a problem has to be named
no_thin : asked_of (codes "thin" ∷ []) ≡ Nothing
no_thin = refl

mergecap : (decl : List ℕ) → asked_of (codes "mergecap" ∷ decl ∷ []) ≡ Mergecap decl
mergecap decl = refl

merge_dated : (decl : List ℕ) → asked_of (codes "mergecap" ∷ decl ∷ codes "pcapng" ∷ []) ≡ MergeDated decl None
merge_dated decl = refl

merge_since : (decl event : List ℕ) → asked_of (codes "mergecap" ∷ decl ∷ codes "pcapng" ∷ event ∷ []) ≡ MergeDated decl (Some event)
merge_since decl event = refl

-- a format that there is not
no_format : (decl : List ℕ) → asked_of (codes "mergecap" ∷ decl ∷ codes "pcap" ∷ []) ≡ Nothing
no_format decl = refl

help : asked_of (codes "--help" ∷ []) ≡ Help
help = refl

version : asked_of (codes "--version" ∷ []) ≡ Version
version = refl

-- no words, and a word too many
nothing : asked_of [] ≡ Nothing
nothing = refl

two_problems : (first second : List ℕ) → asked_of (codes "solve" ∷ first ∷ second ∷ []) ≡ Nothing
two_problems first second = refl
