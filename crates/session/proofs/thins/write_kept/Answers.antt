use Rattle.std.proofs.Common.{inl, refl}
use Rattle.ports.proofs.Writing.{such_of}
use Rattle.thinning.specs.Kept.{event_marks, message_marks, thinned_lists}
use Rattle.thinning.specs.Named.{IsThinnedFor, IsThinText}
use Rattle.thinning.proofs.NamedEvents.{all_inside, all_known, all_kept}
use Rattle.replies.specs.Reply.{OfEach}
use Rattle.session.proofs.Telling.{never_memory}
use Rattle.session.proofs.thins.write_kept.Goals as goal

pub thin-requires : goal.thin-requires
thin-requires g c = record { inside = all_inside c.args.p.now c.requires.0 c.args.asked.now c.requires.1 }

pub returns-clause-writes : goal.returns-clause-writes
returns-clause-writes g c = λ names named.
    let p = c.args.p.now in
    let kept = c.in_ok-kept.kept in
    let thin = c.in_ok-kept.ensures in
    let is : IsThinnedFor p names (event_marks kept) (message_marks kept) = record { shrinks = thin.shrinks; ends = thin.fits.ends; lawful = thin.problem; thinned = thin.thinned; named = all_kept p (thinned_lists p kept) names c.args.asked.now named thin.asked } in
    such_of (OfEach p names (IsThinText p names)) (inl (all_known p names c.args.asked.now named, (event_marks kept, message_marks kept, is, refl)))
    (c.written.ensures.writes _ _ _ c.write_thinned.ensures)

pub returns-clause-untouched : goal.returns-clause-untouched
returns-clause-untouched g c = λ fails. never_memory c.written.result c.written.ensures.only fails
