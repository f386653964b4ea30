-- What the fields of a problem keep.
use Rattle.std.specs.Prelude.{◌≡◌, ◌≢◌, ◌<◌, ◌≤◌, ◌+◌, ◌⊎◌, ℕ, List, length, map, Option, Some, None, find, ◌==◌, if◌then◌else◌, slice_index_or, slice_set}
use Rattle.std.specs.List.{count_by}
use Rattle.problem_model.specs.declared.items.Follow.{Follow}
use Rattle.problem_model.specs.Problem.{ProblemLists, IsProblem}
use Rattle.problem_model.specs.ChainNumbers.{AreChainNumbers}
use Rattle.problem_model.specs.ShortList.{follow_to}
use Rattle.problem.specs.declared.chains.Link.{Link}

-- the follow whose earlier clock is c
abbrev pub follow_of_earlier : List Follow → ℕ → Option Follow
follow_of_earlier follows c = find (λ f. f.earlier == c) follows

-- what is held of clock k: the follows to it and from it, the number of its chain, and a size; nothing past the last
abbrev pub link_at : List Link → ℕ → Link
link_at links k = slice_index_or links k (record { before = None; after = None; number = 0; size = 0 })

-- how many clocks have this number
abbrev pub chain_size : List Link → ℕ → ℕ
chain_size links number = count_by (λ l. l.number == number) links

-- each number is the place of a clock, where the clocks that have it are counted
pub record AreChainCounts (links : List Link) : Type 0 where
  pub places : (k : ℕ) → k < length links → (link_at links k).number < length links
  pub sizes : (k : ℕ) → k < length links → (link_at links (link_at links k).number).size ≡ chain_size links (link_at links k).number

-- of each clock of the problem its follows are held and the number of its chain (`AreChainNumbers`), and the clocks of
-- each number are counted
pub record AreLinks (p : ProblemLists) (links : List Link) : Type 0 where
  pub each : length links ≡ length p.clocks
  pub befores : (k : ℕ) → (link_at links k).before ≡ follow_to p.follows k
  pub afters : (k : ℕ) → (link_at links k).after ≡ follow_of_earlier p.follows k
  pub numbers : AreChainNumbers p (λ k. (link_at links k).number)
  pub counted : AreChainCounts links

-- clock l is the next one behind clock k that has its number
pub record IsNextClock (links : List Link) (k l : ℕ) : Type 0 where
  pub behind : k < l
  pub inside : l < length links
  pub one_number : (link_at links l).number ≡ (link_at links k).number
  pub nearest : (m : ℕ) → k < m → m < l → (link_at links m).number ≢ (link_at links k).number

-- a follow leads from each clock to the next one of its number, and one to it from the one before; a clock without a
-- follow from it is the last of its number, and one without a follow to it the first
pub record LeadInOrder (links : List Link) : Type 0 where
  pub onward : (k : ℕ) (f : Follow) → (link_at links k).after ≡ Some f → IsNextClock links k f.later
  pub back : (k : ℕ) (f : Follow) → (link_at links k).before ≡ Some f → IsNextClock links f.earlier k
  pub last : (k l : ℕ) → (link_at links k).after ≡ None → k < l → l < length links → (link_at links l).number ≢ (link_at links k).number
  pub first : (k l : ℕ) → (link_at links l).before ≡ None → k < l → l < length links → (link_at links k).number ≢ (link_at links l).number

-- what is held of a clock, with the number `new` in the place of `old`
abbrev pub renumber : ℕ → ℕ → Link → Link
renumber old new l = if l.number == old then record l { number = new } else l

-- the clocks of the number `old` have `new`
abbrev pub renumbered : List Link → ℕ → ℕ → List Link
renumbered links old new = map (renumber old new) links

-- so they have, and as many clocks are counted there as had either number
abbrev pub merged : List Link → ℕ → ℕ → List Link
merged links old new =
    let all = renumbered links old new in
    slice_set all new (record (link_at all new) { size = chain_size links old + chain_size links new })

-- of two chains that become one, the one with no more clocks gets the number of the other
abbrev pub AreMerged : List Link → List Link → ℕ → ℕ → Type 0
AreMerged old new a b = ((chain_size old a ≤ chain_size old b) × (new ≡ merged old a b)) ⊎ ((chain_size old b ≤ chain_size old a) × (new ≡ merged old b a))

-- the problem is lawful, the look-ups are those of its lists, and so is what is held of each clock
pub record AreProblemItems (p : ProblemLists) (clock_names event_names : List (List ℕ)) (pairs : List (ℕ × ℕ)) (links : List Link) : Type 0 where
  pub lawful : IsProblem p
  pub clock_names_are : clock_names ≡ map (λ c. c.name) p.clocks
  pub event_names_are : event_names ≡ map (λ e. e.name) p.events
  pub pairs_are : pairs ≡ map (λ m. (m.send, m.receive)) p.messages
  pub links_are : AreLinks p links
