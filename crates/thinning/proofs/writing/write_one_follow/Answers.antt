use Rattle.std.proofs.Common.{◌≡◌, List, length, get_or, slice_get, Some, refl, subst}
use Rattle.std.proofs.lemmas.Option.{slice_get_read}
use Rattle.ports.proofs.Writing.{writes_as}
use Rattle.problem_model.specs.declared.items.Clock.{Clock}
use Rattle.thinning.proofs.Printed.{follow_text}
use Rattle.thinning.proofs.writing.write_one_follow.Goals as goal

pub returns : goal.returns
returns g c =
    let clocks = c.args.p.now.clocks in
    let f = c.args.follow.now in
    let a : Clock = c.index-clocks-follow.result in
    let b : Clock = c.index-clocks-follow-2.result in
    let at : slice_get clocks f.earlier ≡ Some a =
    slice_get_read clocks (length clocks) f.earlier a refl c.requires.earlier (subst (λ (xs : List Clock). a ≡ get_or xs f.earlier a) c.clocks-clocks.ensures.value c.index-clocks-follow.is) in
    let there : slice_get clocks f.later ≡ Some b =
    slice_get_read clocks (length clocks) f.later b refl c.requires.later (subst (λ (xs : List Clock). b ≡ get_or xs f.later b) c.clocks-clocks.ensures.value c.index-clocks-follow-2.is) in
    writes_as (follow_text clocks f a b at there) c.write_follow.ensures
