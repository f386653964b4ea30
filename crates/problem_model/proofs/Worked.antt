-- Two problems, their texts, nodes and short lists, worked out.
use Rattle.std.proofs.Common.{◌≡◌, ◌≢◌, ◌<◌, zero, suc, get_or, ℕ, List, [], ◌∷◌, None, refl, codes, pos, neg_ℤ, arith}
use Rattle.problem_model.specs.declared.items.Clock.{Clock}
use Rattle.problem_model.specs.declared.items.Event.{Event}
use Rattle.problem_model.specs.declared.items.Follow.{Follow as FollowLine}
use Rattle.std.proofs.lemmas.List.Elements.{All-from_recursion}
use Rattle.problem_model.specs.Problem.{ProblemLists, IsChained, LeadsOn}
use Rattle.problem_model.specs.ProblemText.{problem_text}
use Rattle.problem_model.specs.ExecutionText.{execution_text}
use Rattle.problem_model.specs.Nodes.{nodes_of, Reading}
use Rattle.problem_model.specs.ShortList.{short_list}
use Rattle.problem_model.specs.declared.items.Node.TheVariants as nodes
use Rattle.problem_model.specs.declared.items.Bound.TheVariants.{SpanMost, SpanLeast, Late, Early, Follow, DelayLeast}
use Rattle.problem_model.specs.Bounds.{Declares, ComesAfter}
use Rattle.problem_model.specs.BoundText.{bound_words}

abbrev worked : ProblemLists
worked = record {
  clocks = record { name = codes "c"; rate = record { short = 100; long = 100 }; early = 0; late = 7 } ∷ [];
  follows = [];
  events = record { name = codes "p"; clock = 0; stamp = 0; bounds = None } ∷ record { name = codes "q"; clock = 0; stamp = 12; bounds = None } ∷ [];
  messages = record { send = 0; receive = 1; least = 10; most = None } ∷ [];
}

abbrev worked_readings : List Reading
worked_readings = (0, 0) ∷ (0, 12) ∷ []

worked-text : problem_text worked ≡ codes "problem 1\nclock c 100 100 0 7\nevent p c 0\nevent q c 12\nmessage p q 10 none\nend\n"
worked-text = refl

worked-nodes : nodes_of worked worked_readings ≡ nodes.Event 0 ∷ nodes.Event 1 ∷ nodes.Reading 0 0 ∷ nodes.Reading 0 12 ∷ []
worked-nodes = refl

worked-short_list : short_list worked worked_readings ≡
    SpanMost 0 0 12 ∷ SpanLeast 0 0 12 ∷ Late 0 ∷ Early 0 ∷ Late 1 ∷ Early 1 ∷ DelayLeast 0 1 ∷ []
worked-short_list = refl

worked-execution : execution_text worked (nodes_of worked worked_readings) (pos 0 ∷ pos 12000000000 ∷ pos 0 ∷ pos 12000000000 ∷ []) ≡
    codes "execution 1\nevent p 0.000000000\nevent q 12.000000000\nreading c 0 0.000000000\nreading c 12 12.000000000\nend\n"
worked-execution = refl

-- ---- three clocks, each after the one before it
abbrev clock_of_zeros : List ℕ → Clock
clock_of_zeros name = record { name = name; rate = record { short = 0; long = 0 }; early = 0; late = 0 }

abbrev first : FollowLine
first = record { earlier = 0; later = 1; gap = 5 }

abbrev second : FollowLine
second = record { earlier = 1; later = 2; gap = 7 }

-- the last event is the only one on clock d
abbrev chain : List Event → ProblemLists
chain more = record {
  clocks = clock_of_zeros (codes "c") ∷ clock_of_zeros (codes "d") ∷ clock_of_zeros (codes "e") ∷ [];
  follows = second ∷ first ∷ [];
  events = record { name = codes "o"; clock = 0; stamp = 8; bounds = None } ∷ record { name = codes "p"; clock = 0; stamp = 10; bounds = None }
      ∷ record { name = codes "q"; clock = 2; stamp = 0; bounds = None } ∷ record { name = codes "s"; clock = 2; stamp = 3; bounds = None } ∷ more;
  messages = [];
}

abbrev on_d : Event
on_d = record { name = codes "r"; clock = 1; stamp = 4; bounds = None }

abbrev chain_readings : List Reading
chain_readings = (0, 8) ∷ (0, 10) ∷ (2, 0) ∷ (2, 3) ∷ []

abbrev whole_readings : List Reading
whole_readings = (0, 8) ∷ (0, 10) ∷ (1, 4) ∷ (2, 0) ∷ (2, 3) ∷ []

-- over the clock between, which is empty
chain-short_list : short_list (chain []) chain_readings ≡
    SpanMost 0 8 10 ∷ SpanLeast 0 8 10 ∷ SpanMost 2 0 3 ∷ SpanLeast 2 0 3
    ∷ Late 0 ∷ Early 0 ∷ Late 1 ∷ Early 1 ∷ Late 2 ∷ Early 2 ∷ Late 3 ∷ Early 3 ∷ Follow 0 10 2 0 ∷ []
chain-short_list = refl

-- by it, where it has a reading
whole-short_list : short_list (chain (on_d ∷ [])) whole_readings ≡
    SpanMost 0 8 10 ∷ SpanLeast 0 8 10 ∷ SpanMost 2 0 3 ∷ SpanLeast 2 0 3
    ∷ Late 0 ∷ Early 0 ∷ Late 1 ∷ Early 1 ∷ Late 2 ∷ Early 2 ∷ Late 3 ∷ Early 3 ∷ Late 4 ∷ Early 4 ∷ Follow 0 10 1 4 ∷ Follow 1 4 2 0 ∷ []
whole-short_list = refl

chain-bound_words : bound_words (chain []) (Follow 0 10 2 0) ≡ codes "follow" ∷ codes "c" ∷ codes "10" ∷ codes "e" ∷ codes "0" ∷ []
chain-bound_words = refl

chain-comes_after : (more : List Event) → ComesAfter (chain more) 0 2
chain-comes_after more = (first, second ∷ [], ((1, omega arith, refl), refl, ((0, omega arith, refl), refl, refl)))

-- the gap is that of the line whose LATER is the later clock, and it holds from every reading to every one
chain-declares : Declares (chain []) (Follow 0 8 2 3) (record { from = nodes.Reading 2 3; to = nodes.Reading 0 8; weight = neg_ℤ (pos 7000000000) })
chain-declares = (second, (0, omega arith, refl), refl, chain-comes_after [], (_, (0, omega arith, refl), refl, refl), (_, (3, omega arith, refl), refl, refl), refl)

whole-declares : Declares (chain (on_d ∷ [])) (Follow 0 8 2 3) (record { from = nodes.Reading 2 3; to = nodes.Reading 0 8; weight = neg_ℤ (pos 7000000000) })
whole-declares = (second, (0, omega arith, refl), refl, chain-comes_after (on_d ∷ []), (_, (0, omega arith, refl), refl, refl), (_, (3, omega arith, refl), refl, refl), refl)

-- the law of the short list speaks of it
laters_apart : (i j : ℕ) (d : FollowLine) → i < j → j < 2 → (get_or (second ∷ first ∷ []) i d).later ≢ (get_or (second ∷ first ∷ []) j d).later
laters_apart i zero d below inside = absurd (omega (arith, below))
laters_apart zero (suc zero) d below inside = λ same. absurd cc
laters_apart (suc i) (suc zero) d below inside = absurd (omega (arith, below))
laters_apart i (suc (suc j)) d below inside = absurd (omega (arith, inside))

chain-chained : IsChained (chain [])
chain-chained = record {
  follow_ends = All-from_recursion (LeadsOn (chain []).clocks) (second ∷ first ∷ []) ((omega arith, omega arith), ((omega arith, omega arith), tt));
  laters_differ = laters_apart;
}
