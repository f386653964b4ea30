use Rattle.std.proofs.Common.{◌≡◌, ◌<◌, ℕ, List, length, sym, ap, subst, ◌∙◌}
use Rattle.std.proofs.lemmas.List.{length-map}
use Rattle.traces.specs.declared.event.Side.TheVariants.{Receive}
use Rattle.traces.specs.Seen.{key_of}
use Rattle.msg_match.specs.Groups.{SeenItem, SeenGroup, couple_of, events_with, group_of, only_couple}
use Rattle.msg_match.specs.Held.{seen_group, seen_groups}
use Rattle.msg_match.specs.Inside.{items_by}
use Rattle.msg_match.proofs.Keeping.{group_found, group_missing, same_length}
use Rattle.msg_match.proofs.TableLemmas.{seen_at}
use Rattle.msg_match.proofs.key_matcher.KeyMatcher.couple.Goals as goal

pub returns-in_err-place : goal.returns-in_err-place
returns-in_err-place c =
    let keys = c.self.inside.keys in
    let log = c.self.inside.log.items in
    let key = key_of c.args.key.now in
    c.from_residual.ensures
    ∙ sym (ap (λ (l : List ℕ). only_couple l (events_with (items_by keys log) key Receive)) (group_missing keys log (seen_groups c.self.inside.groups.items) key c.self.invariant c.in_err-place.ensures.none))
    ∙ ap (λ (items : List SeenItem). couple_of (group_of items key)) c.self.view_is

pub returns : goal.returns
returns c =
    let keys = c.self.inside.keys in
    let log = c.self.inside.log.items in
    let groups = c.self.inside.groups.items in
    let key = key_of c.args.key.now in
    let place = c.in_ok-place.place in
    let many : length groups ≡ length keys = sym (length-map groups seen_group) ∙ same_length keys log (seen_groups groups) c.self.invariant in
    let inside : place < length groups = subst (λ (n : ℕ). place < n) (sym many) c.in_ok-place.ensures.within in
    let g = seen_group c.index.result.now in
    c.couple.ensures
    ∙ ap (λ (h : SeenGroup). couple_of h) (seen_at groups place c.index.result.now g inside c.index.ensures ∙ group_found keys log (seen_groups groups) place key g c.self.invariant c.in_ok-place.ensures.within c.in_ok-place.ensures.some)
    ∙ ap (λ (items : List SeenItem). couple_of (group_of items key)) c.self.view_is
