-- The couples of all groups are the messages, and those that are new among them.
use Rattle.std.proofs.Common.{◌≡◌, ◌≢◌, List, map, Bool, true, false, not, Some, inl, inr, sym, ap, ◌∙◌, subst}
use Rattle.std.specs.Prelude.{AllPairs, Contains}
use Rattle.std.specs.List.{list_any}
use Rattle.std.proofs.lemmas.Bool.{cases_Bool, false≢true}
use Rattle.std.proofs.lemmas.List.Folds.{list_any_at}
use Rattle.std.proofs.lemmas.List.Kept.{AllPairs-filter}
use Rattle.std.proofs.lemmas.Map.Views.{Contains-from_any}
use Rattle.traces.specs.declared.event.Side.TheVariants.{Send, Receive}
use Rattle.traces.specs.Seen.{EventKey, is_same_key}
use Rattle.traces.proofs.Members.{has_passed, kept, was_in}
use Rattle.msg_match.specs.declared.change.Couple.{Couple}
use Rattle.msg_match.specs.Groups.{SeenGroup, SeenItem, couple_of, events_with, group_of, groups_of, keys_of}
use Rattle.msg_match.specs.Messages.{IsMessage}
use Rattle.msg_match.specs.Changes.{AreCouplesAnew}
use Rattle.msg_match.specs.Parts.{AreAllCouples, AreCouplesIn, is_same_couple, left_of}
use Rattle.msg_match.proofs.Changing.{holder, known_by, two_made, two_parts}
use Rattle.msg_match.proofs.Coupling.{own_couple, same_couple}
use Rattle.msg_match.proofs.Grouping.{exact_keys}
use Rattle.msg_match.proofs.Keeping.{any_of, key_in}
use Rattle.msg_match.proofs.Lists.{from_map, in_map}

-- the couples of all groups are all messages
pub all_couples : (items : List SeenItem) (found : List Couple) → AreCouplesIn (groups_of items) found → AreAllCouples items found
all_couples items found are = record {
  only = λ m held.
      let (g, among, is) = are.only m held in
      let (key, known, made) = from_map (group_of items) (keys_of items) g among in
      let parts = two_parts (events_with items key Send) (events_with items key Receive) m (ap (λ (h : SeenGroup). couple_of h) made ∙ is) in
      record { key = key; sent = parts.0; received = parts.1 };
  all = λ m message.
      let key = message.key in
      let (x, among, number, has) = holder items key Send m.send message.sent in
      let known : list_any (is_same_key key) (keys_of items) ≡ true = any_of items key ∙ subst (λ (k : EventKey). list_any (is_same_key k) (map key_in items) ≡ true) has (known_by items x among) in
      are.all m (group_of items key, in_map (group_of items) (keys_of items) key (Contains-from_any {eq = is_same_key} exact_keys.one key (keys_of items) known), two_made (events_with items key Send) (events_with items key Receive) m message.sent message.received);
  once = are.once;
}

module _ (first second : List SeenItem) (olds news : List Couple) (are : AreAllCouples first olds) (are' : AreAllCouples second news) where
  abbrev is_new : Couple → Bool
  is_new m = not (list_any (is_same_couple m) olds)

  was_there : (m : Couple) → Contains olds m → list_any (is_same_couple m) olds ≡ true
  was_there m (k, inside, is) = list_any_at (is_same_couple m) olds k m inside (subst (λ (c : Couple). is_same_couple m c ≡ true) (sym is) (own_couple m))

  -- those that are not among the old ones are new
  pub left_anew : AreCouplesAnew first second (left_of olds news)
  left_anew = record {
    only = λ m held. (are'.only m (was_in is_new news m held), λ old. false≢true (sym (ap not (was_there m (are.all m old))) ∙ has_passed is_new news m held));
    all = λ m new. kept is_new news m (are'.all m new.0)
        (elim (cases_Bool (list_any (is_same_couple m) olds)) [
          | inl there ↦ absurd (new.1 (are.only m (Contains-from_any {eq = is_same_couple} same_couple m olds there)))
          | inr none ↦ ap not none
        ]);
    once = AllPairs-filter (λ (a b : Couple). a ≢ b) is_new news are'.once;
  }
