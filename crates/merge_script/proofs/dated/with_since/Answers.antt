use Rattle.std.proofs.Common.{List, Option, ℕ, sym, subst}
use Rattle.std.specs.Prelude.{All}
use Rattle.mergecap.specs.declared.stored.Stored.{Stored}
use Rattle.mergecap.specs.Packets.{all_timed}
use Rattle.merged_blocks.specs.MergedFile.{HaveEnds}
use Rattle.session.specs.Settled.{HasEventOf}
use Rattle.session.specs.Since.{AreCountedFrom}
use Rattle.session.specs.Stands.{seen_held}
use Rattle.merge_script.proofs.dated.with_since.Goals as goal

pub since_origin-requires-clause-origin : goal.since_origin-requires-clause-origin
since_origin-requires-clause-origin g c = c.requires.origin

pub since_origin-requires-clause-there : goal.since_origin-requires-clause-there
since_origin-requires-clause-there g c = subst (λ (kept : List Stored). All (HasEventOf (seen_held c.args.session.now.under)) (all_timed kept)) (sym c.deref.ensures.value) c.requires.there

pub returns-in-Ok-clause-counted : goal.returns-in-Ok-clause-counted
returns-in-Ok-clause-counted g c = λ name is.
    subst (λ (kept : List Stored). AreCountedFrom c.args.session.now.declaration (seen_held c.args.session.now.under) name (all_timed kept) c.in-Ok.since.event c.in-Ok.since.ends.items) c.deref.ensures.value (c.in-Ok.ensures.counted name is)

pub returns-in-Ok-clause-ends : goal.returns-in-Ok-clause-ends
returns-in-Ok-clause-ends g c = subst (λ (kept : List Stored). HaveEnds c.in-Ok.since.event (all_timed kept) c.in-Ok.since.ends.items) c.deref.ensures.value c.in-Ok.ensures.ends
