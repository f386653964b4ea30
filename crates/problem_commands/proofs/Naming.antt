-- The clocks and the events of a bound that is told of have names.
use Rattle.std.proofs.Common.{ℕ, ℤ, inl, inr, List}
use Rattle.problem_model.specs.declared.items.Bound.{Bound}
use Rattle.problem_model.specs.Problem.{ProblemLists, IsProblem}
use Rattle.problem_model.specs.Bounds.{Times}
use Rattle.problem_model.specs.ShortList.{IsFirstBroken}
use Rattle.problem.specs.Listing.{listing_of}
use Rattle.cert.specs.declared.certificate.Cert.{Cert}
use Rattle.cert.specs.declared.certificate.Cert.TheVariants as certs
use Rattle.cert.specs.declared.certificate.EndProof.{EndProof}
use Rattle.cert.specs.declared.certificate.EndProof.TheVariants.{At, Unbounded}
use Rattle.cert.specs.Listed.{HasNames}
use Rattle.cert.proofs.OwnListing.{is_named}
use Rattle.cert_check.specs.Reasons.{IsBrokenBy, EndIs, IsSo}
use Rattle.cert_check.specs.Verdict.{IsVerdict}
use Rattle.cert_check.specs.CheckedText.{IsCheckOf}
use Rattle.cert_check.specs.declared.answer.Answer.{Answer}
use Rattle.cert_check.specs.declared.answer.Answer.TheVariants as answers
use Rattle.cert_check.specs.declared.answer.Part.{Part}
use Rattle.cert_check.specs.declared.answer.Part.TheVariants.{Cycle, Run, Upper, Lower}
use Rattle.cert_check.specs.declared.answer.Reason.{Reason}
use Rattle.cert_check.specs.declared.answer.Reason.TheVariants.{Empty, Weight, Join, Sum, Broken, Difference, Home, Away, Leaves}
use Rattle.cert_check.specs.declared.verdict.Verdict.{Verdict}
use Rattle.cert_check.specs.declared.verdict.Verdict.TheVariants as verdicts
use Rattle.problem_commands.specs.Obey.{NamesVerdict}
use Rattle.problem_commands.specs.Verify.{NamesReason, NamesAnswer}

module _ (p : ProblemLists) (lawful : IsProblem p) where
  first_named : (x : Times) (b : Bound) (weight difference : ℤ) → IsFirstBroken p x b weight difference → HasNames (listing_of p) b
  first_named x b weight difference is = let first = is.2 in is_named p b first.constraint first.declares lawful

  pub verdict_named : (x : Times) (v : Verdict) → IsVerdict p x v → NamesVerdict p v
  verdict_named x verdicts.Obeys is = tt
  verdict_named x (verdicts.Broken b weight difference) is = first_named x b weight difference is

  -- ---- a bound that an execution breaks
  module _ (b : Bound) (weight difference : ℤ) where
    by_values : (values : List ℤ) → IsBrokenBy p values (Broken b weight difference) → HasNames (listing_of p) b
    by_values values is = first_named is.0 b weight difference is.2

    by_end : (part : Part) (first second : ℕ) (end : EndProof) → EndIs p part first second end (Broken b weight difference) → HasNames (listing_of p) b
    by_end part first second (At value path execution) (inl is) = absurd is
    by_end part first second (At value path execution) (inr (inl is)) = by_values execution is
    by_end part first second (At value path execution) (inr (inr is)) = absurd is
    by_end part first second (Unbounded inside execution) (inl is) = absurd is
    by_end part first second (Unbounded inside execution) (inr is) = by_values execution is

    broken_named : (c : Cert) (part : Part) → IsSo p c part (Broken b weight difference) → HasNames (listing_of p) b
    broken_named (certs.Cycle steps) Cycle is = absurd is
    broken_named (certs.Cycle steps) Run is = absurd is
    broken_named (certs.Cycle steps) Upper is = absurd is
    broken_named (certs.Cycle steps) Lower is = absurd is
    broken_named (certs.Run execution) Cycle is = absurd is
    broken_named (certs.Run execution) Run is = by_values execution is
    broken_named (certs.Run execution) Upper is = absurd is
    broken_named (certs.Run execution) Lower is = absurd is
    broken_named (certs.Ends first second upper lower) Cycle is = absurd is
    broken_named (certs.Ends first second upper lower) Run is = absurd is
    broken_named (certs.Ends first second upper lower) Upper is = by_end Upper first second upper is
    broken_named (certs.Ends first second upper lower) Lower is = by_end Lower first second lower is

  -- ---- a bound that leaves a cut
  module _ (b : Bound) where
    leaves_end : (part : Part) (first second : ℕ) (end : EndProof) → EndIs p part first second end (Leaves b) → HasNames (listing_of p) b
    leaves_end part first second (At value path execution) (inl is) = absurd is
    leaves_end part first second (At value path execution) (inr (inl is)) = absurd is
    leaves_end part first second (At value path execution) (inr (inr is)) = absurd is
    leaves_end part first second (Unbounded inside execution) (inl is) = let leaves = is.2.leaves in is_named p b leaves.0 leaves.1 lawful
    leaves_end part first second (Unbounded inside execution) (inr is) = absurd is

    leaves_named : (c : Cert) (part : Part) → IsSo p c part (Leaves b) → HasNames (listing_of p) b
    leaves_named (certs.Cycle steps) Cycle is = absurd is
    leaves_named (certs.Cycle steps) Run is = absurd is
    leaves_named (certs.Cycle steps) Upper is = absurd is
    leaves_named (certs.Cycle steps) Lower is = absurd is
    leaves_named (certs.Run execution) Cycle is = absurd is
    leaves_named (certs.Run execution) Run is = absurd is
    leaves_named (certs.Run execution) Upper is = absurd is
    leaves_named (certs.Run execution) Lower is = absurd is
    leaves_named (certs.Ends first second upper lower) Cycle is = absurd is
    leaves_named (certs.Ends first second upper lower) Run is = absurd is
    leaves_named (certs.Ends first second upper lower) Upper is = leaves_end Upper first second upper is
    leaves_named (certs.Ends first second upper lower) Lower is = leaves_end Lower first second lower is

  reason_named : (c : Cert) (part : Part) (reason : Reason) → IsSo p c part reason → NamesReason p reason
  reason_named c part Empty is = tt
  reason_named c part (Weight k) is = tt
  reason_named c part (Join k) is = tt
  reason_named c part (Sum sum) is = tt
  reason_named c part (Broken b weight difference) is = broken_named b weight difference c part is
  reason_named c part (Difference difference) is = tt
  reason_named c part Home is = tt
  reason_named c part Away is = tt
  reason_named c part (Leaves b) is = leaves_named b c part is

  pub answer_named : (c : Cert) (answer : Answer) → IsCheckOf p c answer → NamesAnswer p answer
  answer_named c answers.Yes is = tt
  answer_named c (answers.No part reason) is = let found = is.is_answer in reason_named c part reason found.is_so
