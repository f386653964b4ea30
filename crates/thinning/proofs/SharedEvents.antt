-- Events of the messages so far are seen, and those of two of them are shared.
use Rattle.std.proofs.Common.{◌≡◌, ◌+◌, ℕ, List, slice_get, Bool, true, Some, arith, inl, inr, sym, subst}
use Rattle.std.proofs.lemmas.Bool.{cases_lt}
use Rattle.problem_model.specs.declared.items.Message.{Message}
use Rattle.thinning.specs.Thinning.{IsMessageEnd}
use Rattle.thinning.specs.Keeping.{AreMarked, Notes}

-- of none
pub none_marked : (messages : List Message) (seen shared : List Bool) → AreMarked messages 0 seen shared
none_marked messages seen shared = record {
  seen_ends = λ i m e below at is. absurd (omega (arith, below));
  shared_ends = λ i j m n e less below at at' is is'. absurd (omega (arith, below));
}

module _ (messages : List Message) (k : ℕ) (m : Message) (at : slice_get messages k ≡ Some m) (a b a' b' a'' b'' : List Bool)
    (first : Notes a b m.send a' b') (second : Notes a' b' m.receive a'' b'') where
  taken : (n : Message) → slice_get messages k ≡ Some n → n ≡ m
  taken n at' = cc

  seen_now : (e : ℕ) → IsMessageEnd e m → slice_get a'' e ≡ Some true
  seen_now e (inl is) = second.seen_on e (subst (λ (d : ℕ). slice_get a' d ≡ Some true) (sym is) first.now_seen)
  seen_now e (inr is) = subst (λ (d : ℕ). slice_get a'' d ≡ Some true) (sym is) second.now_seen

  shared_now : (e : ℕ) → IsMessageEnd e m → slice_get a e ≡ Some true → slice_get b'' e ≡ Some true
  shared_now e (inl is) was = second.shared_on e (subst (λ (d : ℕ). slice_get b' d ≡ Some true) (sym is) (first.now_shared (subst (λ (d : ℕ). slice_get a d ≡ Some true) is was)))
  shared_now e (inr is) was = subst (λ (d : ℕ). slice_get b'' d ≡ Some true) (sym is) (second.now_shared (subst (λ (d : ℕ). slice_get a' d ≡ Some true) is (first.seen_on e was)))

  last : (n : Message) (i : ℕ) (e : ℕ) → i ≡ k → slice_get messages i ≡ Some n → IsMessageEnd e n → IsMessageEnd e m
  last n i e is at' end = subst (λ (o : Message). IsMessageEnd e o) (taken n (subst (λ (j : ℕ). slice_get messages j ≡ Some n) is at')) end

  -- and of one more
  pub one_more : AreMarked messages k a b → AreMarked messages (k + 1) a'' b''
  one_more marked = record {
    seen_ends = λ i n e below at' end. elim (cases_lt i k) [
      | inl less ↦ second.seen_on e (first.seen_on e (marked.seen_ends i n e less at' end))
      | inr past ↦ seen_now e (last n i e (omega (arith, below, past)) at' end)
    ];
    shared_ends = λ i j n o e less below at' at'' end end'. elim (cases_lt j k) [
      | inl earlier ↦ second.shared_on e (first.shared_on e (marked.shared_ends i j n o e less earlier at' at'' end end'))
      | inr past ↦ shared_now e (last o j e (omega (arith, below, past)) at'' end') (marked.seen_ends i n e (omega (arith, less, below, past)) at' end)
    ];
  }
