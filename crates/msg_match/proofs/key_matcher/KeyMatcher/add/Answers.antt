use Rattle.std.proofs.Common.{◌≡◌, ◌++◌, List, sym, subst}
use Rattle.msg_match.specs.Changes.{AreCouplesAnew}
use Rattle.msg_match.specs.Groups.{SeenItem}
use Rattle.msg_match.specs.Held.{seen_items}
use Rattle.msg_match.specs.Parts.{AreCouplesOf}
use Rattle.msg_match.proofs.Changing.{added_anew, withdrawn_anew}
use Rattle.msg_match.proofs.key_matcher.KeyMatcher.add.Goals as goal

pub returns-in-Ok-clause-added : goal.returns-in-Ok-clause-added
returns-in-Ok-clause-added c =
    let old = c.args.self.now in
    let more = seen_items c.args.items.now in
    let is : c.append.new.self ≡ old ++ more = c.in-Ok.ensures.ok in
    let found : AreCouplesOf (old ++ more) more c.in-Ok.added.items = subst (λ (items : List SeenItem). AreCouplesOf items more c.in-Ok.added.items) is c.in-Ok.ensures.found in
    subst (λ (items : List SeenItem). AreCouplesAnew old items c.in-Ok.added.items) (sym is) (added_anew old more c.requires.differ c.in-Ok.added.items found)

pub returns-in-Ok-clause-withdrawn : goal.returns-in-Ok-clause-withdrawn
returns-in-Ok-clause-withdrawn c =
    let old = c.args.self.now in
    let more = seen_items c.args.items.now in
    let is : c.append.new.self ≡ old ++ more = c.in-Ok.ensures.ok in
    subst (λ (items : List SeenItem). AreCouplesAnew items old c.in_ok-withdrawn.withdrawn.items) (sym is) (withdrawn_anew old more c.requires.differ c.in_ok-withdrawn.withdrawn.items c.in_ok-withdrawn.ensures)
