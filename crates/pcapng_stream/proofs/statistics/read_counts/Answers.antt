use Rattle.std.proofs.Common.{◌≡◌, ◌∙◌, ℕ, List, true, false, ap, sym, subst, rules}
use Rattle.pcapng_stream.specs.declared.statistics.Told.{Told}
use Rattle.pcapng_stream.specs.Options.{first_option, has_ended, is_cut, more_options}
use Rattle.pcapng_stream.specs.Inside.{told_first, told_in, told_one}
use Rattle.pcapng_stream.proofs.Counts.{Tells, all_told, cut_untold, tells, told_behind}
use Rattle.pcapng_stream.proofs.statistics.read_counts.Goals as goal

pub walk-init : goal.walk-init
walk-init c = tells c.args.order c.args.options.now

pub walk-preserved : goal.walk-preserved
walk-preserved c =
    let o = c.args.order in
    let l = c.walk.left.now in
    let all = told_in o c.args.options.now in
    let goes : has_ended o l ≡ false = search rules in
    let whole : is_cut o l ≡ false = search rules in
    let one : c.told_one.result ≡ told_one o (first_option o l) = c.told_one.ensures in
    let more : c.told_first-told.result ≡ told_first c.walk.told (told_one o (first_option o l)) = c.told_first-told.ensures ∙ ap (λ (t : Told). told_first c.walk.told t) one in
    let behind : c.more_options-left.result.now ≡ more_options o l = c.more_options-left.ensures in
    subst (λ (t : Told). Tells o t c.more_options-left.result.now all) (sym more)
    (subst (λ (x : List ℕ). Tells o (told_first c.walk.told (told_one o (first_option o l))) x all) (sym behind) (told_behind o c.walk.told l all goes whole c.walk.invariant))

pub returns-then-is_cut : goal.returns-then-is_cut
returns-then-is_cut c =
    let o = c.args.order in
    let l = c.walk.left.now in
    let goes : has_ended o l ≡ false = search rules in
    let cut : is_cut o l ≡ true = search rules in
    cut_untold o c.walk.told l (told_in o c.args.options.now) goes cut c.walk.invariant

pub returns : goal.returns
returns c =
    let o = c.args.order in
    let l = c.walk.left.now in
    let over : has_ended o l ≡ true = search rules in
    all_told o c.walk.told l (told_in o c.args.options.now) over c.walk.invariant
