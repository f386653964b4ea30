-- Events that are kept.
use Rattle.std.proofs.Common.{◌≡◌, ◌⊎◌, inl, inr, ℕ, ◌<◌, List, [], ◌∷◌, ◌++◌, length, slice_get, slice_set, Some, sym, ◌∙◌, ap, subst, arith}
use Rattle.traces.specs.Seen.{Seen}
use Rattle.traces.specs.declared.event_id.EventId.{EventId}
use Rattle.replies.specs.Reply.{AreKept, IsPlacedAt, IsAmong, most_kept}
use Rattle.replies.proofs.Elements.{snoc_parts, snoc_long}
use Rattle.replies.proofs.Placing.{within, more_within, placed}

pub none_kept : (seen : List (List Seen)) → AreKept seen []
none_kept seen = record { few = omega arith; there = λ k event here. absurd cc; differ = λ j k event here there. absurd cc }

pub kept_more : (seen : List (List Seen)) (kept : List EventId) (event : EventId) (place : ℕ) → AreKept seen kept → (IsAmong kept event → ⊥) → length kept < most_kept → IsPlacedAt seen place event →
    AreKept seen (kept ++ event ∷ [])
kept_more seen kept event place are other room at = record {
  few = let e = snoc_long kept event in omega (arith, e, room);
  there = λ k e here. stands k e (snoc_parts kept event k e here);
  differ = λ j k e here there. one j k e (snoc_parts kept event j e here) (snoc_parts kept event k e there);
}
  where
    stands : (k : ℕ) (e : EventId) → (slice_get kept k ≡ Some e) ⊎ ((k ≡ length kept) × (event ≡ e)) → (p : ℕ) × IsPlacedAt seen p e
    stands k e (inl here) = are.there k e here
    stands k e (inr last) = (place, subst (λ (x : EventId). IsPlacedAt seen place x) last.1 at)

    one : (j k : ℕ) (e : EventId) → (slice_get kept j ≡ Some e) ⊎ ((j ≡ length kept) × (event ≡ e)) → (slice_get kept k ≡ Some e) ⊎ ((k ≡ length kept) × (event ≡ e)) → j ≡ k
    one j k e (inl here) (inl there) = are.differ j k e here there
    one j k e (inl here) (inr last) = absurd (other (j, here ∙ ap (λ (x : EventId). Some x) (sym last.1)))
    one j k e (inr last) (inl there) = absurd (other (k, there ∙ ap (λ (x : EventId). Some x) (sym last.1)))
    one j k e (inr last) (inr last') = last.0 ∙ sym last'.0

-- the same events are kept where one label has more
pub kept_grown : (seen : List (List Seen)) (kept : List EventId) (k : ℕ) (old more : List Seen) → slice_get seen k ≡ Some old → AreKept seen kept → AreKept (slice_set seen k (old ++ more)) kept
kept_grown seen kept k old more at are = record {
  few = are.few;
  there = λ j event here. let p = are.there j event here in placed (slice_set seen k (old ++ more)) event (more_within seen k old more event at (within seen p.0 event p.1));
  differ = are.differ;
}
