use Rattle.std.proofs.Common.{ℕ, List, inr, refl, sym, subst}
use Rattle.ports.proofs.Writing.{such_of}
use Rattle.thinning.specs.Named.{AreNamed, IsThinText, IsUnfound}
use Rattle.replies.specs.Commands.{names_seen}
use Rattle.replies.specs.Reply.{OfEach}
use Rattle.session.proofs.Telling.{never_memory}
use Rattle.session.proofs.thins.write_text.Goals as goal

pub write_kept-requires : goal.write_kept-requires
write_kept-requires g c = (names_seen c.args.events.now, subst (λ (places : List ℕ). AreNamed c.args.p.now (names_seen c.args.events.now) places) (sym c.deref.ensures.value) c.in-Ok.ensures.ok)

pub returns-in-Ok-clause-writes : goal.returns-in-Ok-clause-writes
returns-in-Ok-clause-writes g c =
    let names = names_seen c.args.events.now in
    c.write_kept.ensures.writes names (subst (λ (places : List ℕ). AreNamed c.args.p.now names places) (sym c.deref.ensures.value) c.in-Ok.ensures.ok)

pub returns-in-Err-Unknown-clause-writes : goal.returns-in-Err-Unknown-clause-writes
returns-in-Err-Unknown-clause-writes g c =
    let p = c.args.p.now in
    let names = names_seen c.args.events.now in
    such_of (OfEach p names (IsThinText p names)) (inr (subst (IsUnfound p names) c.in-Err-Unknown.field-0-is c.in-Err-Unknown.ensures.err, refl)) (c.written.ensures.writes _ _ _ c.write_refusal.ensures)

pub returns-in-Err-Unknown-clause-untouched : goal.returns-in-Err-Unknown-clause-untouched
returns-in-Err-Unknown-clause-untouched g c = λ fails. never_memory c.written.result c.written.ensures.only fails
