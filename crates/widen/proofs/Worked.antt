-- A widening by 3 ns and a contradiction that nothing heals, worked out.
use Rattle.std.proofs.Common.{◌≡◌, ℕ, List, [], ◌∷◌, Option, Some, None, refl, codes, pos, neg_ℤ, ℤ}
use Rattle.problem_model.specs.declared.items.Clock.{Clock}
use Rattle.problem_model.specs.declared.items.Bound.TheVariants.{SpanMost, SpanLeast, Late, Early, DelayMost, DelayLeast}
use Rattle.problem_model.specs.Problem.{ProblemLists}
use Rattle.problem_model.specs.Nodes.{Reading, nodes_of}
use Rattle.cert.specs.declared.chain.Step.{Step}
use Rattle.cert_check.specs.declared.what.Links.TheVariants as links
use Rattle.cert_check.specs.declared.what.Clocks.TheVariants as clocks
use Rattle.cert_check.specs.declared.what.What.TheVariants.{Delays, Stamps, Gaps}
use Rattle.cert_check.specs.Widened.{widened}
use Rattle.widen.specs.declared.widening.Widening.TheVariants.{Least, Never}
use Rattle.widen.specs.WideningText.{widening_text}

abbrev clock_of_zeros : List ℕ → Clock
clock_of_zeros name = record { name = name; rate = record { short = 0; long = 0 }; early = 0; late = 0 }

-- a message each way of at most `most` ns, where there is such a limit
abbrev contradicting : Option ℕ → ProblemLists
contradicting most = record {
  clocks = clock_of_zeros (codes "a") ∷ clock_of_zeros (codes "b") ∷ [];
  follows = [];
  events = record { name = codes "a#1"; clock = 0; stamp = 100; bounds = None } ∷ record { name = codes "a#2"; clock = 0; stamp = 195; bounds = None }
      ∷ record { name = codes "b#1"; clock = 1; stamp = 250; bounds = None } ∷ record { name = codes "b#2"; clock = 1; stamp = 300; bounds = None } ∷ [];
  messages = record { send = 0; receive = 2; least = 10; most = most } ∷ record { send = 3; receive = 1; least = 10; most = most } ∷ [];
}

-- each greatest delay is 3 ns greater, and no least one; where there is none nothing changes
worked-widened : widened (Delays links.All) (contradicting (Some 20)) 3 ≡ contradicting (Some 23)
worked-widened = refl

worked-none : widened (Delays links.All) (contradicting None) 3 ≡ contradicting None
worked-none = refl

-- two clocks that follow each other: the gap is less, and not below 0
abbrev followed : ℕ → ProblemLists
followed gap = record {
  clocks = clock_of_zeros (codes "a") ∷ clock_of_zeros (codes "b") ∷ [];
  follows = record { earlier = 0; later = 1; gap = gap } ∷ [];
  events = record { name = codes "a#1"; clock = 0; stamp = 0; bounds = None } ∷ record { name = codes "b#1"; clock = 1; stamp = 0; bounds = None } ∷ [];
  messages = record { send = 1; receive = 0; least = 1; most = None } ∷ [];
}

worked-gap : widened Gaps (followed 10) 7 ≡ followed 3
worked-gap = refl

worked-no-gap : widened Gaps (followed 10) 12 ≡ followed 0
worked-no-gap = refl

abbrev readings : List Reading
readings = (0, 100) ∷ (0, 195) ∷ (1, 250) ∷ (1, 300) ∷ []

-- by the weights of 2 ns more the messages take 1 ns too little
abbrev cycle : List Step
cycle = record { bound = DelayMost 0 2; weight = pos 22000000000 } ∷ record { bound = Early 2; weight = pos 0 } ∷ record { bound = SpanMost 1 250 300; weight = pos 50000000000 }
    ∷ record { bound = Late 3; weight = pos 0 } ∷ record { bound = DelayMost 3 1; weight = pos 22000000000 } ∷ record { bound = Early 1; weight = pos 0 }
    ∷ record { bound = SpanLeast 0 100 195; weight = neg_ℤ (pos 95000000000) } ∷ record { bound = Late 0; weight = pos 0 } ∷ []

abbrev times : List ℤ
times = pos 0 ∷ pos 95000000000 ∷ pos 22000000000 ∷ pos 72000000000 ∷ pos 0 ∷ pos 95000000000 ∷ pos 22000000000 ∷ pos 72000000000 ∷ []

worked-text : widening_text (contradicting (Some 20)) (nodes_of (contradicting (Some 20)) readings) (Delays links.All) (Least 3 times (Some cycle)) ≡ codes "widening 1\nleast 3\nevent a#1 0.000000000\nevent a#2 95.000000000\nevent b#1 22.000000000\nevent b#2 72.000000000\nreading a 100 0.000000000\nreading a 195 95.000000000\nreading b 250 22.000000000\nreading b 300 72.000000000\ncycle\nstep delay-most a#1 b#1 22.000000000\nstep early b#1 0.000000000\nstep span-most b 250 300 50.000000000\nstep late b#2 0.000000000\nstep delay-most b#2 a#2 22.000000000\nstep early a#2 0.000000000\nstep span-least a 100 195 -95.000000000\nstep late a#1 0.000000000\nend\n"
worked-text = refl

-- ---- a least delay that no widening heals
abbrev hopeless : ProblemLists
hopeless = record {
  clocks = clock_of_zeros (codes "c") ∷ [];
  follows = [];
  events = record { name = codes "p"; clock = 0; stamp = 0; bounds = None } ∷ record { name = codes "q"; clock = 0; stamp = 10; bounds = None } ∷ [];
  messages = record { send = 0; receive = 1; least = 20; most = None } ∷ [];
}

abbrev closed : List Step
closed = record { bound = DelayLeast 0 1; weight = neg_ℤ (pos 20000000000) } ∷ record { bound = Early 0; weight = pos 0 } ∷ record { bound = SpanMost 0 0 10; weight = pos 10000000000 } ∷ record { bound = Late 1; weight = pos 0 } ∷ []

worked-never : widening_text hopeless (nodes_of hopeless ((0, 0) ∷ (0, 10) ∷ [])) (Stamps clocks.All) (Never closed) ≡ codes "widening 1\nleast none stamps\ncycle\nstep delay-least p q -20.000000000\nstep early p 0.000000000\nstep span-most c 0 10 10.000000000\nstep late q 0.000000000\nend\n"
worked-never = refl
