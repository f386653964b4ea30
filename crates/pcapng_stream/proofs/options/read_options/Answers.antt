use Rattle.std.proofs.Common.{◌≡◌, ℕ, List, true, false, Some, None, sym, subst, rules}
use Rattle.pcapng_stream.specs.Options.{first_option, has_ended, is_cut, more_options}
use Rattle.pcapng_stream.specs.Inside.{said_with, stamping_in}
use Rattle.pcapng_stream.proofs.Walking.{Says, all_said, begins, cut_none, left_behind, wrong_none}
use Rattle.pcapng_stream.proofs.options.read_options.Goals as goal

pub walk-init : goal.walk-init
walk-init c = begins c.args.order c.args.options.now

pub walk-preserved : goal.walk-preserved
walk-preserved c =
    let o = c.args.order in
    let l = c.walk.left.now in
    let all = stamping_in o c.args.options.now in
    let goes : has_ended o l ≡ false = search rules in
    let whole : is_cut o l ≡ false = search rules in
    let kept : said_with o c.walk.said (first_option o l) ≡ Some c.in-Some.more = search rules in
    let cut : c.more_options-left.result.now ≡ more_options o l = c.more_options-left.ensures in
    subst (λ (x : List ℕ). Says o c.in-Some.more x all) (sym cut) (left_behind o c.walk.said c.in-Some.more l all goes whole kept c.walk.invariant)

pub returns-then-is_cut : goal.returns-then-is_cut
returns-then-is_cut c =
    let o = c.args.order in
    let l = c.walk.left.now in
    let goes : has_ended o l ≡ false = search rules in
    let cut : is_cut o l ≡ true = search rules in
    cut_none o c.walk.said l (stamping_in o c.args.options.now) goes cut c.walk.invariant

pub returns-in_default : goal.returns-in_default
returns-in_default c =
    let o = c.args.order in
    let l = c.walk.left.now in
    let goes : has_ended o l ≡ false = search rules in
    let whole : is_cut o l ≡ false = search rules in
    let wrong : said_with o c.walk.said (first_option o l) ≡ None = search rules in
    wrong_none o c.walk.said l (stamping_in o c.args.options.now) goes whole wrong c.walk.invariant

pub returns : goal.returns
returns c =
    let o = c.args.order in
    let l = c.walk.left.now in
    let over : has_ended o l ≡ true = search rules in
    all_said o c.walk.said l (stamping_in o c.args.options.now) over c.walk.invariant
