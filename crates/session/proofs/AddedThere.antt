-- What is so where something was added.
use Rattle.std.proofs.Common.{◌≡◌, ℕ, List, refl, Bool, true, Result, Ok, Err, IfOk, subst}
use Rattle.captures.specs.Capture as captures
use Rattle.ports.specs.Files.{FilesTold, Keeps, HasBytes, IsFront}
use Rattle.replies.specs.Reply.{most_piece}
use Rattle.replies.specs.declared.outcome.Outcome.{Outcome}
use Rattle.replies.specs.declared.outcome.Outcome.TheVariants.{Added, Kept, Refused}
use Rattle.replies.specs.declared.refusal.Refusal.{Refusal}
use Rattle.replies.specs.Outcomes.{IsOutcomeLine}
use Rattle.session.specs.Stands.{Held}
use Rattle.session.specs.Inside.{FrontAnswered}
use Rattle.session.specs.TakingInside.{WhereAdded, Completes, CompletesFront, KeepsFound, UnderAnswered}
use Rattle.session.proofs.Finding.{under_read}
use Rattle.session.proofs.Standing.{whole_piece}

pub where_weaker : {P Q : Type 0} (o : Outcome) → (P → Q) → WhereAdded P o → WhereAdded Q o
where_weaker (Added a) turn so = turn so
where_weaker (Kept slot) turn so = so
where_weaker (Refused r) turn so = tt

-- what is so where it was not refused
pub where_not_refused : {P : Type 0} (o : Outcome) → ((r : Refusal) → o ≡ Refused r → ⊥) → WhereAdded P o → P
where_not_refused (Added a) other so = so
where_not_refused (Kept slot) other so = absurd so
where_not_refused (Refused r) other so = absurd (other r refl)

-- a file that was read is answered as its piece was
pub file_answered : {E : Type 0} (r : Result Outcome E) (held held' : Held) (files files' : FilesTold) (path front : List ℕ) (more : Bool) (k : ℕ) (keeps : Bool) (packets : List captures.Seen) →
    Keeps files files' → HasBytes files.content path (IsFront most_piece front more) → IfOk r (λ outcome. FrontAnswered more front held held' k (IsOutcomeLine outcome)) →
    (keeps ≡ true → IfOk r (CompletesFront more front held k packets)) → IfOk r (λ outcome. UnderAnswered k path files files' held held' (KeepsFound keeps held k packets outcome) (IsOutcomeLine outcome))
file_answered (Err e) held held' files files' path front more k keeps packets kept has answered completes = tt
file_answered (Ok o) held held' files files' path front more k keeps packets kept has answered completes =
    under_read held held' files files' path front more k (KeepsFound keeps held k packets o) (IsOutcomeLine o) kept has
    (λ bytes piece is. where_weaker o (λ whole u at. subst (λ (b : List ℕ). Completes u.stream b packets) (whole_piece more front bytes whole.0 piece) (whole.1 u at)) (completes is))
    answered
