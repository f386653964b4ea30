use Rattle.std.proofs.Common.{◌<◌, ℕ, List, length, drop, codes, refl, inr, sym, subst}
use Rattle.std.specs.Prelude.{All}
use Rattle.problem_commands.specs.declared.status.Status.TheVariants.{UnknownName}
use Rattle.thinning.specs.Thinned.{HasAsked}
use Rattle.thinning.specs.Kept.{thinned_lists}
use Rattle.thinning.proofs.NamedEvents.{all_inside, all_known, all_kept}
use Rattle.thinning.specs.Named.{IsUnfound}
use Rattle.problem_commands.specs.Thin.{TellsThin}
use Rattle.problem_commands.proofs.Printing.{closes_prints}
use Rattle.problem_commands.proofs.thin.answer.Goals as goal

pub returns-in-Err-Unknown : goal.returns-in-Err-Unknown
returns-in-Err-Unknown g c =
    let p = c.args.p.now in
    let names = drop 2 c.args.words.now in
    closes_prints (TellsThin p names) (codes "unknown event\n") UnknownName c.finish.result _ _
    (inr (subst (IsUnfound p names) c.in-Err-Unknown.field-0-is c.in-Err-Unknown.ensures.err, (refl, refl))) c.finish.ensures

pub thin-requires : goal.thin-requires
thin-requires g c =
    let p = c.args.p.now in
    record { inside = subst (λ (places : List ℕ). All (λ k. k < length p.events) places) (sym c.deref.ensures.value) (all_inside p (drop 2 c.args.words.now) c.in-Ok.asked.items c.in-Ok.ensures.ok) }

pub returns-in-Ok-thinned : goal.returns-in-Ok-thinned
returns-in-Ok-thinned g c =
    let p = c.args.p.now in
    let names = drop 2 c.args.words.now in
    let small = thinned_lists p c.in-Ok-thinned.kept in
    let asked = subst (λ (places : List ℕ). HasAsked p places small) c.deref.ensures.value c.in-Ok-thinned.ensures.asked in
    c.print_kept.ensures names (all_known p names c.in-Ok.asked.items c.in-Ok.ensures.ok)
    (record { shrinks = c.in-Ok-thinned.ensures.shrinks; ends = c.in-Ok-thinned.ensures.fits.ends; lawful = c.in-Ok-thinned.ensures.problem; thinned = c.in-Ok-thinned.ensures.thinned; named = all_kept p small names c.in-Ok.asked.items c.in-Ok.ensures.ok asked })
