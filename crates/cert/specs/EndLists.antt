-- One end of an interval as a certificate gives it, as lists.
use Rattle.std.specs.Prelude.{ℕ, List, ℤ}
use Rattle.cert.specs.declared.chain.Step.{Step}
use Rattle.cert.specs.declared.certificate.EndProof.{EndProof}
use Rattle.cert.specs.declared.certificate.EndProof.TheVariants.{At, Unbounded}

-- one end of an interval: its value, the steps of a path and the values of an execution; or that it is nowhere, with
-- the clocks inside a cut and the values of an execution
pub data EndLists : Type 0 where
  Limited : ℤ → List Step → List ℤ → EndLists
  Unlimited : List ℕ → List ℤ → EndLists

-- what an end says, but not how its list of clocks lies in memory
abbrev pub end_lists : EndProof → EndLists
end_lists (At value path execution) = Limited value path execution
end_lists (Unbounded inside execution) = Unlimited inside.items execution
